use Rattle.server_model.proofs.LockedRows.Finding.{says_covered}
use Rattle.server_model.proofs.statements.writes_are_covered.Goals as goal

pub returns : goal.returns
returns c = says_covered
