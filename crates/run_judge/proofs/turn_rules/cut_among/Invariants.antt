use Rattle.std.proofs.Common.{◌≡◌, drop}
use Rattle.run_judge.specs.TurnsSeen.{cut_among}
use Rattle.run_judge.proofs.turn_rules.cut_among.Given as goal

-- none of the losses so far can be taken
abbrev pub invariant-loop-loss : goal.invariant-loop-loss
invariant-loop-loss l = cut_among l.actors l.turn (drop l.loss-index l.losses) ≡ cut_among l.actors l.turn l.losses
