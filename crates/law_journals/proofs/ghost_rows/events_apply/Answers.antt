use Rattle.proof_journals.proofs.Ghost.Rows.Steps.{replace_is_applied, delete_is_applied, update_is_applied, update_is_missed, half_is_applied, event_is_passed}
use Rattle.law_journals.proofs.ghost_rows.events_apply.Goals as goal

pub returns-clause-replace : goal.returns-clause-replace
returns-clause-replace c = replace_is_applied

pub returns-clause-delete : goal.returns-clause-delete
returns-clause-delete c = delete_is_applied

pub returns-clause-update : goal.returns-clause-update
returns-clause-update c = update_is_applied

pub returns-clause-missed : goal.returns-clause-missed
returns-clause-missed c = update_is_missed

pub returns-clause-half : goal.returns-clause-half
returns-clause-half c = half_is_applied

pub returns-clause-passed : goal.returns-clause-passed
returns-clause-passed c = event_is_passed
