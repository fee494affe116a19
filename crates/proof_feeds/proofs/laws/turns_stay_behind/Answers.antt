use Rattle.proof_feeds.proofs.Behind.{replay_turns_may_go, run_turns_may_go, turns_stay_behind}
use Rattle.proof_feeds.proofs.laws.turns_stay_behind.Goals as goal

pub returns : goal.returns
returns c = record { replays = replay_turns_may_go; runs = run_turns_may_go; behind = turns_stay_behind }
