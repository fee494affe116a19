-- What each step on the table tells the seat that makes it: of the step, the seat before, the number found, and the seat after.
use Rattle.std.specs.Prelude.{◌≡◌, ◌≢◌, ℕ, ◌%◌, ◌^◌, ◌⊎◌, List, [], ◌∷◌, All, Option, Some, None}
use Rattle.atomic_table.specs.Table.{Step, Me, rest}
use Rattle.run_desk.specs.declared.shared_state.Entry.{Entry}
use Rattle.run_desk.specs.declared.hand.Stage.TheVariants.{Rests, Waits, Holds}
use Rattle.run_desk.specs.declared.hand.Hand.{Hand}
use Rattle.run_desk.specs.Turns.{StartsWith}
use Rattle.run_desk.specs.Views.{ticket_of, staged, shown, recorded, compared}

-- What the first two hands have seen are beginnings of one list.
abbrev pub Agree : {O E : Type 0} → List (Hand O E) → Type 0
Agree [] = Unit {0}
Agree (reported ∷ []) = Unit {0}
Agree (reported ∷ mine ∷ hands) = StartsWith reported.seen mine.seen ⊎ StartsWith mine.seen reported.seen

-- The entries of the shared state that a seat took last.
abbrev pub shared_state_entries : {B E : Type 0} → (B → List (Entry E)) → Option B → List (Entry E)
shared_state_entries entries None = []
shared_state_entries entries (Some shared_state) = entries shared_state

abbrev pub held_entries : {B E : Type 0} → (B → List (Entry E)) → List (ℕ × Option B) → List (Entry E)
held_entries entries [] = []
held_entries entries (taken ∷ held) = shared_state_entries entries taken.1

module _ {S O E : Type 0} where
  -- A ticket was drawn.
  abbrev pub Drew : Step S → Me S (List (Hand O E)) → ℕ → Me S (List (Hand O E)) → Type 0
  Drew step before found after = (after.1 ≡ before.1) × ((ticket : ℕ) × (found ≡ ticket % 2 ^ 64) × (after.0 ≡ staged (Waits ticket) before.0))

  -- The turn was given on, with the slot.
  abbrev pub Served : Step S → Me S (List (Hand O E)) → ℕ → Me S (List (Hand O E)) → Type 0
  Served step before found after = (after.1 ≡ rest before.1) × (after.0 ≡ staged Rests before.0)

  -- What a witness and a worker have seen was compared.
  abbrev pub Compared : Step S → Me S (List (Hand O E)) → ℕ → Me S (List (Hand O E)) → Type 0
  Compared step before found after = (after.1 ≡ before.1) × (after.0 ≡ compared before.0) × Agree before.0

module _ {B O E : Type 0} (opening : B → O) (entries : B → List (Entry E)) where
  -- The turn has come: the seat has taken the shared state, and has seen its whole list, which begins with what it had seen.
  abbrev pub Comes : Me (Option B) (List (Hand O E)) → Me (Option B) (List (Hand O E)) → Type 0
  Comes before after =
      (shared_state : B) × (after.1 ≡ (0, Some shared_state) ∷ before.1) × (after.0 ≡ staged (Holds (ticket_of before.0)) (shown (entries shared_state) before.0))
      × All (λ hand. (opening shared_state ≡ hand.opening) × StartsWith (entries shared_state) hand.seen) before.0

  -- The number that is served was read.
  abbrev pub Looked : Step (Option B) → Me (Option B) (List (Hand O E)) → ℕ → Me (Option B) (List (Hand O E)) → Type 0
  Looked step before found after = (found ≡ ticket_of before.0 % 2 ^ 64 → Comes before after) × (found ≢ ticket_of before.0 % 2 ^ 64 → after ≡ before)

-- The entry was counted that the shared state has more than the seat had seen.
abbrev pub Counted : {B O E : Type 0} → (B → List (Entry E)) → Step (Option B) → Me (Option B) (List (Hand O E)) → ℕ → Me (Option B) (List (Hand O E)) → Type 0
Counted entries step before found after = (after.1 ≡ before.1) × (after.0 ≡ recorded (held_entries entries before.1) before.0)
