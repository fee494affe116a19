use Rattle.proof_journals.proofs.Machine.Tabling.{tables_exist}
use Rattle.law_journals.proofs.machines.tables_exist_uncopied.Goals as goal

pub returns : goal.returns
returns c = tables_exist
