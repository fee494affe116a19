use Rattle.std.proofs.Common.{◌-◌, ◌+◌, vec_len}
use Rattle.base_edges.proofs.WholeTexts.{HasRead}
use Rattle.base_edges.proofs.whole.read.read_whole.Given as goal

abbrev pub invariant-loop-buffer : goal.invariant-loop-buffer
invariant-loop-buffer g l =
    HasRead l.limit (g.S.Source.left l.fn.source) (g.S.Source.left l.source) l.bytes.items (vec_len l.bytes)
    (g.S.Source.faults l.fn.source) (g.S.Source.faults l.source)

abbrev pub decreases-loop-buffer : goal.decreases-loop-buffer
decreases-loop-buffer g l = l.limit + 1 - vec_len l.bytes
