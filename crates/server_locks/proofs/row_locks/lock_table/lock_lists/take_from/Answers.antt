use Rattle.std.proofs.Common.{◌≡◌, ◌∙◌, inr, Some, Option, ℕ, sym, ap, arith, refl, List, length, ◌≤◌}
use Rattle.std.specs.List.{slice_get}
use Rattle.std.proofs.lemmas.Option.{slice_get_within}
use Rattle.base_page_list.specs.Pages.{flat}
use Rattle.server_locks.proofs.RowLocks.LockTable.ListEdits.{again}
use Rattle.server_locks.proofs.row_locks.lock_table.lock_lists.take_from.Goals as goal

other_there : (found entry : ℕ) (there : Option ℕ) → there ≡ Some found → there ≡ Some entry → (found ≡ entry → ⊥) → ⊥
other_there found entry there one other not = let same : found ≡ entry = cc in not same

none_there : (entry place n : ℕ) (entries : List ℕ) → slice_get entries n ≡ Some entry → place ≡ n → length entries ≤ place → ⊥
none_there entry place n entries at is over = let within = slice_get_within entries n entry at in absurd (omega (arith, within, is, over))

pub returns-else-found-entry : goal.returns-else-found-entry
returns-else-found-entry c =
    let entries = flat c.args.list.now.pages in
    inr
    (record {
      not_there = λ has. other_there c.in-Some.found c.args.entry _
          (ap (λ (n : ℕ). slice_get entries n) (sym c.place_of-place.ensures.place) ∙ c.in-Some.ensures.entry_is)
          (again c.args.by c.args.slab.now entries c.args.entry c.args.one.now c.requires.ascends has c.requires.is) c.if-found-entry.false;
      same = refl;
    })

pub returns-in_default : goal.returns-in_default
returns-in_default c =
    let entries = flat c.args.list.now.pages in
    inr
    (record {
      not_there = λ has. none_there c.args.entry _ _ entries (again c.args.by c.args.slab.now entries c.args.entry c.args.one.now c.requires.ascends has c.requires.is) c.place_of-place.ensures.place c.in_default.ensures;
      same = refl;
    })
