-- Of items that are taken one by one, the next and those behind it.
use Rattle.std.proofs.Common.{◌≡◌, ℕ, ◌<◌, suc, List, [], ◌∷◌, ◌++◌, length, drop, get_or, sym, ap, ◌∙◌, add-one, drop-cons}
use Rattle.std.proofs.Math.Seq.{drop-length}
use Rattle.std.proofs.lemmas.List.{length_push}

pub next_is : {A : Type 0} (items yielded : List A) (item : A) → (length yielded < length items) × (item ≡ get_or items (length yielded) item) → drop (length yielded) items ≡ item ∷ drop (length (yielded ++ item ∷ [])) items
next_is {A} items yielded item at =
    drop-cons items (length yielded) item at.0 ∙ ap (λ (i : A). i ∷ drop (suc (length yielded)) items) (sym at.1)
    ∙ ap (λ (n : ℕ). item ∷ drop n items) (sym (length_push yielded item ∙ add-one (length yielded)))

pub none_left : {A : Type 0} (items yielded : List A) → length yielded ≡ length items → drop (length yielded) items ≡ []
none_left items yielded all = ap (λ (n : ℕ). drop n items) all ∙ drop-length items
