use Rattle.top_call.proofs.Words.{allowed_command}
use Rattle.top_call.proofs.top.outcome_without_waits.Goals as goal

pub outcome_of_command-requires-after_bounds : goal.outcome_of_command-requires-after_bounds
outcome_of_command-requires-after_bounds g c κs within = allowed_command c.args.line.now c.in-Ok.chosen c.in-Ok.ensures
