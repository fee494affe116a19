-- Lemmas on bytes that were copied into a buffer.
use Rattle.std.proofs.Common.{◌≡◌, ℕ, ◌+◌, ◌-◌, List, ◌++◌, length, take, drop, sym, ◌∙◌, ap, take-append-drop}
use Rattle.std.proofs.lemmas.List.{take_rest}
use lib.Seq.{drop-drop}

-- what is left at a place is the front that was copied from there, and what is left behind that front
pub copied_then_rest : (left items front : List ℕ) (place n : ℕ) → left ≡ drop place items
    → front ≡ take n (take (length items - place) (drop place items)) → left ≡ front ++ drop (place + n) items
copied_then_rest left items front place n here copied =
    let whole : front ≡ take n (drop place items) = copied ∙ ap (take n) (take_rest items place) in
    here ∙ sym (take-append-drop n (drop place items)) ∙ ap (λ xs. xs ++ drop n (drop place items)) (sym whole)
    ∙ ap (λ xs. front ++ xs) (drop-drop n place items)
