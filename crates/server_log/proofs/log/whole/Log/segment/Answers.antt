use Rattle.std.proofs.Common.{◌<◌, length, get_or, [], ap, ◌∙◌, arith}
use Rattle.server_log.specs.Logs.{StoredLog, segments_of}
use Rattle.server_log.proofs.Segments.{as_many_segments, segment_bounds, segment_is}
use Rattle.server_log.proofs.log.whole.Log.segment.Goals as goal

pub range-start-requires : goal.range-start-requires
range-start-requires c = omega (arith, as_many_segments _ _ c.self.invariant.cut, ap (λ (s : StoredLog). length (segments_of s.events)) c.self.view_is, c.requires)

pub part-requires-clause-order : goal.part-requires-clause-order
part-requires-clause-order c =
    let within : c.args.n < length c.self.inside.segments.starts = omega (arith, as_many_segments _ _ c.self.invariant.cut, ap (λ (s : StoredLog). length (segments_of s.events)) c.self.view_is, c.requires) in
    (segment_bounds c.self.inside.events.events c.self.inside.segments.starts c.as_slice-bytes.result.now c.args.n c.range-start.result.0 c.range-start.result.1 c.self.invariant.cut c.as_slice-bytes.ensures within c.range-start.ensures.start c.range-start.ensures.next c.range-start.ensures.last).0

pub part-requires-clause-within : goal.part-requires-clause-within
part-requires-clause-within c =
    let within : c.args.n < length c.self.inside.segments.starts = omega (arith, as_many_segments _ _ c.self.invariant.cut, ap (λ (s : StoredLog). length (segments_of s.events)) c.self.view_is, c.requires) in
    (segment_bounds c.self.inside.events.events c.self.inside.segments.starts c.as_slice-bytes.result.now c.args.n c.range-start.result.0 c.range-start.result.1 c.self.invariant.cut c.as_slice-bytes.ensures within c.range-start.ensures.start c.range-start.ensures.next c.range-start.ensures.last).1

pub returns : goal.returns
returns c =
    let within : c.args.n < length c.self.inside.segments.starts = omega (arith, as_many_segments _ _ c.self.invariant.cut, ap (λ (s : StoredLog). length (segments_of s.events)) c.self.view_is, c.requires) in
    c.part.ensures
    ∙ segment_is c.self.inside.events.events c.self.inside.segments.starts c.as_slice-bytes.result.now c.args.n c.range-start.result.0 c.range-start.result.1 c.self.invariant.cut c.as_slice-bytes.ensures within c.range-start.ensures.start c.range-start.ensures.next c.range-start.ensures.last
    ∙ ap (λ (s : StoredLog). get_or (segments_of s.events) c.args.n []) c.self.view_is
