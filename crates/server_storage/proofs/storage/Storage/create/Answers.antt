use Rattle.proof_journals.proofs.ValidTables.{valid_table}
use Rattle.server_storage.proofs.storage.Storage.create.Goals as goal

pub create_table-requires-clause-well_formed : goal.create_table-requires-clause-well_formed
create_table-requires-clause-well_formed c = valid_table c.args.schema.now c.requires.formed.valid
