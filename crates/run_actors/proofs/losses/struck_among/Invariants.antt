use Rattle.std.proofs.Common.{◌≡◌, drop}
use Rattle.tool_program.specs.JournalWords.KeptPlans.{struck_among}
use Rattle.run_actors.proofs.losses.struck_among.Given as goal

-- none of the losses so far strikes
abbrev pub invariant-loop-loss : goal.invariant-loop-loss
invariant-loop-loss l = struck_among l.actor l.number (drop l.loss-index l.losses) ≡ struck_among l.actor l.number l.losses
