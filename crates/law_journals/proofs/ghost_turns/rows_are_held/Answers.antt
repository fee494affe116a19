use Rattle.proof_journals.proofs.Ghost.Keys.{row_locked, locked_apart}
use Rattle.proof_journals.proofs.Ghost.Disjoint.{disjoint_rows}
use Rattle.law_journals.proofs.ghost_turns.rows_are_held.Goals as goal

pub returns-clause-held : goal.returns-clause-held
returns-clause-held c = row_locked

pub returns-clause-one : goal.returns-clause-one
returns-clause-one c = locked_apart

pub returns-clause-disjoint : goal.returns-clause-disjoint
returns-clause-disjoint c = disjoint_rows
