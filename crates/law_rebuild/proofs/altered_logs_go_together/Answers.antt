use Rattle.law_rebuild.proofs.Together.{logs_go_together}
use Rattle.law_rebuild.proofs.altered_logs_go_together.Goals as goal

pub returns : goal.returns
returns c = logs_go_together
