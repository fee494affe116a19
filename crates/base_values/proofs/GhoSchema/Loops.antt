-- A list from a place on, as a loop over it goes.
use Rattle.std.proofs.Common.{◌≡◌, ℕ, ◌+◌, ◌<◌, List, ◌∷◌, length, drop, get_or, sym, ap, ◌∙◌}
use Rattle.std.proofs.lemmas.List.{drop_more}

-- the item at this place is the first of those from there on
pub from_here : {X : Type 0} (items : List X) (i : ℕ) (item : X) → i < length items → item ≡ get_or items i item → drop i items ≡ item ∷ drop (i + 1) items
from_here {X} items i item lt is = drop_more items i item lt ∙ ap (λ (x : X). x ∷ drop (i + 1) items) (sym is)
