use Rattle.proof_journals.proofs.Machine.Staying.{tables_stay}
use Rattle.law_journals.proofs.machines.tables_stay_tables.Goals as goal

pub returns : goal.returns
returns c = tables_stay
