-- Pieces that lie one after the other, and where each begins.
use Rattle.std.proofs.Common.{◌≡◌, ℕ, zero, suc, ◌+◌, ◌-◌, ◌<◌, ◌≤◌, List, [], ◌∷◌, ◌++◌, length, take, drop, get_or, slice_range, refl, sym, ap, ◌∙◌, arith, length-append, append_assoc}
use Rattle.std.specs.List.{concat}
use Rattle.std.proofs.lemmas.List.{append-nil, drop_more}
use Rattle.std.proofs.lemmas.List.Folds.{concat-append}
use Rattle.std.proofs.Math.Seq.{take-append_seam}
use Rattle.server_log.specs.Logs.{places_from}

pub length-places_from : (place : ℕ) (pieces : List (List ℕ)) → length (places_from place pieces) ≡ length pieces
unfolding places_from
length-places_from place [] = refl
length-places_from place (piece ∷ pieces) = ap suc (length-places_from (place + length piece) pieces)

-- one piece more
pub concat-push : (pieces : List (List ℕ)) (piece : List ℕ) → concat (pieces ++ piece ∷ []) ≡ concat pieces ++ piece
concat-push pieces piece = concat-append pieces (piece ∷ []) ∙ ap (λ (rest : List ℕ). concat pieces ++ rest) (append-nil piece)

pub places_from-push : (place : ℕ) (pieces : List (List ℕ)) (piece : List ℕ) → places_from place (pieces ++ piece ∷ []) ≡ places_from place pieces ++ (place + length (concat pieces)) ∷ []
unfolding places_from
places_from-push place [] piece = ap (λ (n : ℕ). n ∷ []) (omega arith)
places_from-push place (first ∷ pieces) piece =
    ap (λ (rest : List ℕ). place ∷ rest) (places_from-push (place + length first) pieces piece ∙ ap (λ (n : ℕ). places_from (place + length first) pieces ++ n ∷ []) (omega (arith, length-append first (concat pieces))))

-- the first of the pieces at all bytes, of which some come before them
drops : (before rest : List ℕ) (n : ℕ) → n ≡ length before → drop n (before ++ rest) ≡ rest
drops [] rest n is = ap (λ (m : ℕ). drop m rest) is
drops (byte ∷ before) rest zero is = absurd (omega (arith, is))
drops (byte ∷ before) rest (suc n) is = drops before rest n (omega (arith, is))

-- what is at a place and after it
pub drop-place : (before : List ℕ) (pieces : List (List ℕ)) (n : ℕ) → n < length pieces → drop (get_or (places_from (length before) pieces) n 0) (before ++ concat pieces) ≡ concat (drop n pieces)
unfolding places_from
drop-place before [] n within = absurd (omega arith)
drop-place before (piece ∷ pieces) zero within = drops before (piece ++ concat pieces) (length before) refl
drop-place before (piece ∷ pieces) (suc n) within =
    let joined : (before ++ piece) ++ concat pieces ≡ before ++ (piece ++ concat pieces) = simp append_assoc in
    ap (λ (all : List ℕ). drop (get_or (places_from (length before + length piece) pieces) n 0) all) (sym joined)
    ∙ ap (λ (place : ℕ). drop (get_or (places_from place pieces) n 0) ((before ++ piece) ++ concat pieces)) (sym (length-append before piece))
    ∙ drop-place (before ++ piece) pieces n (omega arith)

-- ... of pieces that begin at the first byte
pub drop-piece : (pieces : List (List ℕ)) (n : ℕ) → n < length pieces → drop (get_or (places_from 0 pieces) n 0) (concat pieces) ≡ get_or pieces n [] ++ concat (drop (n + 1) pieces)
drop-piece pieces n within = drop-place [] pieces n within ∙ ap concat (drop_more pieces n [] within)

-- where the next piece begins
pub next-place : (place : ℕ) (pieces : List (List ℕ)) (n : ℕ) → suc n < length pieces → get_or (places_from place pieces) (suc n) 0 ≡ get_or (places_from place pieces) n 0 + length (get_or pieces n [])
unfolding places_from
next-place place [] n within = absurd (omega arith)
next-place place (piece ∷ []) n within = absurd (omega arith)
next-place place (piece ∷ next ∷ pieces) zero within = refl
next-place place (piece ∷ next ∷ pieces) (suc n) within = next-place (place + length piece) (next ∷ pieces) n (omega arith)

-- where the last piece ends
pub last-place : (place : ℕ) (pieces : List (List ℕ)) (n : ℕ) → n + 1 ≡ length pieces → place + length (concat pieces) ≡ get_or (places_from place pieces) n 0 + length (get_or pieces n [])
unfolding places_from
last-place place [] n is = absurd (omega (arith, is))
last-place place (piece ∷ []) zero is = ap (λ (rest : List ℕ). place + length rest) (append-nil piece)
last-place place (piece ∷ []) (suc n) is = absurd (omega (arith, is))
last-place place (piece ∷ next ∷ pieces) zero is = absurd (omega (arith, is))
last-place place (piece ∷ next ∷ pieces) (suc n) is =
    omega (arith, length-append piece (concat (next ∷ pieces)), last-place (place + length piece) (next ∷ pieces) n (omega (arith, is)))

-- a piece begins within all bytes
pub place-within : (place : ℕ) (pieces : List (List ℕ)) (n : ℕ) → n < length pieces → get_or (places_from place pieces) n 0 + length (get_or pieces n []) ≤ place + length (concat pieces)
unfolding places_from
place-within place [] n within = absurd (omega arith)
place-within place (piece ∷ pieces) zero within = omega (arith, length-append piece (concat pieces))
place-within place (piece ∷ pieces) (suc n) within =
    omega (arith, length-append piece (concat pieces), place-within (place + length piece) pieces n (omega arith))

-- *The piece* is what is from its place up to the next one
pub piece_at : (pieces : List (List ℕ)) (n end : ℕ) → n < length pieces → end ≡ get_or (places_from 0 pieces) n 0 + length (get_or pieces n []) → slice_range (concat pieces) (get_or (places_from 0 pieces) n 0) end ≡ get_or pieces n []
piece_at pieces n end within is =
    ap (λ (size : ℕ). take size (drop (get_or (places_from 0 pieces) n 0) (concat pieces))) (omega (arith, is))
    ∙ ap (λ (rest : List ℕ). take (length (get_or pieces n [])) rest) (drop-piece pieces n within)
    ∙ take-append_seam (get_or pieces n []) (concat (drop (n + 1) pieces))
