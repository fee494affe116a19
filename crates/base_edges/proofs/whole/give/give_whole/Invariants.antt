use Rattle.std.proofs.Common.{length, ◌-◌}
use Rattle.base_edges.proofs.WholeTexts.{HasGiven}
use Rattle.base_edges.proofs.whole.give.give_whole.Given as goal

abbrev pub invariant-loop-given : goal.invariant-loop-given
invariant-loop-given g l =
    HasGiven (g.K.Sink.held l.fn.sink) (g.K.Sink.held l.sink) l.text l.given
    (g.K.Sink.faults l.fn.sink) (g.K.Sink.faults l.sink)

abbrev pub decreases-loop-given : goal.decreases-loop-given
decreases-loop-given g l = length l.text - l.given
