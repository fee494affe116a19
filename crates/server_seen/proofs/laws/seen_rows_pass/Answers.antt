use Rattle.server_seen.proofs.SeenRows.{seen_pass}
use Rattle.server_seen.proofs.laws.seen_rows_pass.Goals as goal

pub returns : goal.returns
returns c = seen_pass
