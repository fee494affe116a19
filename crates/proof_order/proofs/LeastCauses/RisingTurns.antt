-- Turns that rise: the last of them is the greatest, and no shorter list has them all.
use Rattle.std.proofs.Common.{◌≡◌, ◌⊎◌, ◌≤◌, ◌<◌, ℕ, suc, ◌+◌, List, [], ◌∷◌, ◌++◌, length, refl, inl, inr, arith}
use Rattle.std.specs.Prelude.{AllPairs, fold, slice_index_or}
use Rattle.std.specs.List.{AllByRecursion}
use Rattle.proof_order.specs.LeastCauses.{last_of}
use Rattle.proof_migration.proofs.Attempt.Verdicts.Tries.{Rises}

-- it is one of them
abbrev pub IsIn : ℕ → List ℕ → Type 0
IsIn turn [] = ⊥
IsIn turn (other ∷ turns) = (other ≡ turn) ⊎ IsIn turn turns

pub in_front : (turn : ℕ) (turns more : List ℕ) → IsIn turn turns → IsIn turn (turns ++ more)
in_front turn [] more is = absurd is
in_front turn (other ∷ turns) more (inl same) = inl same
in_front turn (other ∷ turns) more (inr later) = inr (in_front turn turns more later)

pub in_last : (turn : ℕ) (turns : List ℕ) → IsIn turn (turns ++ turn ∷ [])
in_last turn [] = inl refl
in_last turn (other ∷ turns) = inr (in_last turn turns)

-- RISING TURNS

below_all : (turn : ℕ) (turns : List ℕ) → ((j : ℕ) → j < length turns → turn < slice_index_or turns j 0) → AllByRecursion (λ later. turn < later) turns
below_all turn [] each = tt
below_all turn (other ∷ turns) each = (each 0 (omega arith), below_all turn turns (λ j less. each (suc j) (omega (arith, less))))

pub rises_of : (turns : List ℕ) → AllPairs (λ a b. a < b) turns → Rises turns
rises_of [] pairs = tt
rises_of (turn ∷ turns) pairs =
    (below_all turn turns (λ j less. pairs 0 (suc j) 0 (omega arith) (omega (arith, less))), rises_of turns (λ i j d low high. pairs (suc i) (suc j) d (omega (arith, low)) (omega (arith, high))))

-- THE LAST ONE

-- each is at most the last
record LastIsGreatest (turn : ℕ) (turns : List ℕ) : Type 0 where
  first : turn ≤ fold (λ last one. one) turn turns
  others : AllByRecursion (λ one. one ≤ fold (λ last one. one) turn turns) turns

greatest : (turn : ℕ) (turns : List ℕ) → AllByRecursion (λ later. turn < later) turns → Rises turns → LastIsGreatest turn turns
greatest turn [] below rises = record { first = omega arith; others = tt }
greatest turn (later ∷ turns) below rises =
    let rest = greatest later turns rises.0 rises.1 in
    let less = below.0 in
    let most = rest.first in
    record { first = omega (arith, less, most); others = (most, rest.others) }

pub up_to_last : (turns : List ℕ) → Rises turns → AllByRecursion (λ one. one ≤ last_of turns) turns
up_to_last [] rises = tt
up_to_last (turn ∷ turns) rises = let is = greatest turn turns rises.0 rises.1 in (is.first, is.others)

pub of_last : (P : ℕ → Type 0) (turns : List ℕ) → 0 < length turns → AllByRecursion P turns → P (last_of turns)
of_last P [] some all = absurd (omega (arith, some))
of_last P (turn ∷ turns) some all = from turn turns all.0 all.1 where
  from : (turn : ℕ) (turns : List ℕ) → P turn → AllByRecursion P turns → P (fold (λ last one. one) turn turns)
  from turn [] is all = is
  from turn (later ∷ turns) is all = from later turns all.0 all.1

-- A LIST THAT HAS THEM ALL

without : (turn : ℕ) (turns : List ℕ) → IsIn turn turns → List ℕ
without turn [] is = absurd is
without turn (other ∷ turns) (inl same) = turns
without turn (other ∷ turns) (inr later) = other ∷ without turn turns later

one_fewer : (turn : ℕ) (turns : List ℕ) (is : IsIn turn turns) → length turns ≡ length (without turn turns is) + 1
unfolding without
one_fewer turn [] is = absurd is
one_fewer turn (other ∷ turns) (inl same) = omega arith
one_fewer turn (other ∷ turns) (inr later) = let rest = one_fewer turn turns later in omega (arith, rest)

still_in : (turn later : ℕ) (turns : List ℕ) (is : IsIn turn turns) → turn < later → IsIn later turns → IsIn later (without turn turns is)
unfolding without
still_in turn later [] is less among = absurd is
still_in turn later (other ∷ turns) (inl same) less (inl also) = absurd (omega (arith, same, also, less))
still_in turn later (other ∷ turns) (inl same) less (inr rest) = rest
still_in turn later (other ∷ turns) (inr is) less (inl also) = inl also
still_in turn later (other ∷ turns) (inr is) less (inr rest) = inr (still_in turn later turns is less rest)

all_still : (turn : ℕ) (all : List ℕ) (is : IsIn turn all) (turns : List ℕ) → AllByRecursion (λ later. turn < later) turns → AllByRecursion (λ one. IsIn one all) turns → AllByRecursion (λ one. IsIn one (without turn all is)) turns
all_still turn all is [] below among = tt
all_still turn all is (later ∷ turns) below among = (still_in turn later all is below.0 among.0, all_still turn all is turns below.1 among.1)

-- *No shorter list has them all*
pub as_many : (turns all : List ℕ) → Rises turns → AllByRecursion (λ one. IsIn one all) turns → length turns ≤ length all
as_many [] all rises among = omega arith
as_many (turn ∷ turns) all rises among =
    let rest = as_many turns (without turn all among.0) rises.1 (all_still turn all among.0 turns rises.0 among.1) in
    let fewer = one_fewer turn all among.0 in
    omega (arith, rest, fewer)
