use Rattle.server_model.proofs.LockedRows.Sound.{work_sound}
use Rattle.server_model.proofs.LockedRows.WellFormed.{tells_well_formed}
use Rattle.server_model.proofs.LockedRows.Stables.{statements_keep}
use Rattle.server_model.proofs.statements.statements_keep_tables.Goals as goal

pub returns-clause-sound : goal.returns-clause-sound
returns-clause-sound c = work_sound

pub returns-clause-tables : goal.returns-clause-tables
returns-clause-tables c = tells_well_formed

pub returns-clause-databases : goal.returns-clause-databases
returns-clause-databases c = statements_keep
