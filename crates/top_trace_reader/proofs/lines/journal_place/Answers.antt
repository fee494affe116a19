use Rattle.std.proofs.Common.{arith, length, ◌∙◌}
use Rattle.top_trace_reader.proofs.Places.{place_within, placed}
use Rattle.top_trace_reader.proofs.lines.journal_place.Goals as goal

pub loop-place-preserved : goal.loop-place-preserved
loop-place-preserved c = record {
  last = c.place_with-last.ensures ∙ placed c.args.lines.now c.loop-place.place _ c.loop-place.last (omega arith) c.loop-place.invariant.last;
  within = place_within c.loop-place.place (length c.args.lines.now) _ c.loop-place.last c.place_with-last.result c.place_with-last.ensures (omega arith) c.loop-place.invariant.within;
}
