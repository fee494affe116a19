use Rattle.std.proofs.Common.{◌≡◌, ◌<◌, ℕ, List, length, drop, get_or, sym, ap, ◌∙◌, arith}
use Rattle.std.proofs.lemmas.List.{get_or_read}
use Rattle.server_log.specs.Logs.{StoredEvents}
use Rattle.server_log.proofs.KeptEvents.{as_many, begins_at, place_in}
use Rattle.server_log.proofs.log.event_bytes.EventBytes.from_place.Goals as goal

pub index-start-requires : goal.index-start-requires
index-start-requires c = omega (arith, as_many _ _ _ c.self.invariant, ap (λ (s : StoredEvents). length s.events) c.self.view_is, c.requires, c.self.inside.starts.ok.0)

pub rest_from-requires : goal.rest_from-requires
rest_from-requires c =
    let within : c.args.place < length (c.self.inside.starts.items) = omega (arith, as_many _ _ _ c.self.invariant, ap (λ (s : StoredEvents). length s.events) c.self.view_is, c.requires) in
    let start : c.index-start.result.now ≡ get_or c.self.inside.starts.items c.args.place 0 = get_or_read c.self.inside.starts.items c.args.place _ within c.index-start.ensures 0 in
    omega (arith, start, place_in _ _ _ c.args.place c.self.invariant (omega (arith, as_many _ _ _ c.self.invariant, within)), ap length c.as_slice.ensures.value)

pub returns : goal.returns
returns c = λ event is.
    let within : c.args.place < length (c.self.inside.starts.items) = omega (arith, as_many _ _ _ c.self.invariant, ap (λ (s : StoredEvents). length s.events) c.self.view_is, c.requires) in
    let start : c.index-start.result.now ≡ get_or c.self.inside.starts.items c.args.place 0 = get_or_read c.self.inside.starts.items c.args.place _ within c.index-start.ensures 0 in
    begins_at _ c.self.inside.bytes.items c.self.inside.starts.items c.rest_from.result.now c.args.place c.index-start.result.now event c.self.invariant (omega (arith, as_many _ _ _ c.self.invariant, within)) start
    (c.rest_from.ensures ∙ ap (λ (bytes : List ℕ). drop c.index-start.result.now bytes) c.as_slice.ensures.value) (is ∙ ap (λ (s : StoredEvents). get_or s.events c.args.place event) (sym c.self.view_is))
