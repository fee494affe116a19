use Rattle.proof_journals.proofs.Ghost.Tooling.{tool_puts, tool_puts_second, tool_refused}
use Rattle.proof_journals.proofs.Ghost.Placed.{row_is_removed, row_is_changed, unfit_row_is_missed, refused_row_is_removed}
use Rattle.law_journals.proofs.ghost_turns.rows_are_applied.Goals as goal

pub returns-clause-put : goal.returns-clause-put
returns-clause-put c = tool_puts

pub returns-clause-put_again : goal.returns-clause-put_again
returns-clause-put_again c = tool_puts_second

pub returns-clause-removed : goal.returns-clause-removed
returns-clause-removed c = row_is_removed

pub returns-clause-changed : goal.returns-clause-changed
returns-clause-changed c = row_is_changed

pub returns-clause-missed : goal.returns-clause-missed
returns-clause-missed c = unfit_row_is_missed

pub returns-clause-refused : goal.returns-clause-refused
returns-clause-refused c = tool_refused

pub returns-clause-removed_again : goal.returns-clause-removed_again
returns-clause-removed_again c = refused_row_is_removed
