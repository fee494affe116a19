use Rattle.server_seen.proofs.SeenChanges.{seen_change}
use Rattle.server_seen.proofs.laws.seen_rows_change.Goals as goal

pub returns : goal.returns
returns c = seen_change
