use Rattle.server_model.proofs.LockedRows.Stables.{others_agree}
use Rattle.server_model.proofs.statements.others_see_the_same.Goals as goal

pub returns : goal.returns
returns c = others_agree
