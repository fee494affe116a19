use Rattle.std.proofs.Common.{◌≤◌, ◌∙◌, ℕ, ap, sym, subst, slice_get}
use Rattle.std.proofs.lemmas.Option.{slice_get_past}
use Rattle.table_store.proofs.PagedTables.Paged.{found_place}
use Rattle.table_store.proofs.paged_tables.lookup.named.Goals as goal

pub returns-then-place-len : goal.returns-then-place-len
returns-then-place-len c = sym c.at.ensures ∙ ap (slice_get c.args.tables.now.values) c.place_of-place.ensures ∙ sym (found_place c.args.name.now c.args.tables.now.values)

pub returns-else-place-len : goal.returns-else-place-len
returns-else-place-len c =
    sym (slice_get_past c.args.tables.now.values c.place_of-place.result (subst (λ (n : ℕ). n ≤ c.place_of-place.result) c.len.ensures.values c.if-place-len.false))
    ∙ ap (slice_get c.args.tables.now.values) c.place_of-place.ensures ∙ sym (found_place c.args.name.now c.args.tables.now.values)
