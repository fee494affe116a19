use Rattle.server_model.proofs.LockedRows.Finding.{says_alike}
use Rattle.server_model.proofs.statements.locked_rows_decide.Goals as goal

pub returns : goal.returns
returns c = says_alike
