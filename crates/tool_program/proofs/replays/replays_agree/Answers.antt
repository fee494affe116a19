use Rattle.tool_program.proofs.Replay.Replays.{replays_agree, one_replay}
use Rattle.tool_program.proofs.replays.replays_agree.Goals as goal

pub returns-clause-prefix : goal.returns-clause-prefix
returns-clause-prefix c = replays_agree

pub returns-clause-one : goal.returns-clause-one
returns-clause-one c = one_replay
