-- What a seat at the board has, between two steps of a turn.
use Rattle.std.specs.Prelude.{◌≡◌, ℕ, Bool, true, false, List, [], ◌∷◌, ◌++◌, Option, Some, Result, Ok, Err}
use Rattle.std.specs.declared.alloc.AllocError.{AllocError}
use Rattle.atomic_table.specs.Table.{Me}
use Rattle.atomic_table.specs.Seated.{TableId}
use Rattle.atomic_table.specs.declared.shared.Seat.{Seat}
use Rattle.run_desk.specs.declared.shared_state.Entry.{Entry}
use Rattle.run_desk.specs.declared.hand.Stage.{Stage}
use Rattle.run_desk.specs.declared.hand.Stage.TheVariants.{Rests, Holds}
use Rattle.run_desk.specs.declared.hand.Hand.{Hand}
use Rattle.run_desk.specs.Views.{worker_view}

module _ {S V : Type 0} where
  -- The seat is at this table, which has the words and the slot of a turn queue.
  abbrev pub IsAt : TableId → Seat S V → Type 0
  IsAt table seat = (seat.table_id ≡ table) × (table.words ≡ 3) × (table.slots ≡ 1)

  -- One seat before and after a step.
  abbrev pub IsSameSeat : Seat S V → Seat S V → Type 0
  IsSameSeat before after = (after.table_id ≡ before.table_id) × (after.id ≡ before.id)

-- The view of one worker at this stage.
abbrev pub IsWorkerAt : {O E : Type 0} → List (Hand O E) → Stage → Type 0
IsWorkerAt {O} {E} view stage = (opening : O) × (seen : List (Entry E)) × (number : ℕ) × (own : List (Entry E)) × (view ≡ worker_view opening seen number own stage)

module _ {B O E : Type 0} (opening_of : B → O) (entries_in : B → List (Entry E)) where
  -- The worker holds the turn, and the shared state with these entries.
  abbrev pub HoldsSharedState : O → List (Entry E) → ℕ → List (Entry E) → List (Entry E) → Me (Option B) (List (Hand O E)) → Type 0
  HoldsSharedState opening seen number own entries me =
      (ticket : ℕ) × (shared_state : B) × (me ≡ (worker_view opening seen number own (Holds ticket), (0, Some shared_state) ∷ [])) × (opening_of shared_state ≡ opening) × (entries_in shared_state ≡ entries)

  -- It holds the shared state, of which it has seen all but one entry of its own.
  abbrev pub HoldsMore : Me (Option B) (List (Hand O E)) → Type 0
  HoldsMore me =
      (opening : O) × (seen : List (Entry E)) × (number : ℕ) × (own : List (Entry E)) × (event : E)
      × HoldsSharedState opening seen number own (seen ++ record { worker = number; event = event } ∷ []) me

  -- It holds the shared state, of which it has seen all.
  abbrev pub HoldsAll : Me (Option B) (List (Hand O E)) → Type 0
  HoldsAll me = (opening : O) × (seen : List (Entry E)) × (number : ℕ) × (own : List (Entry E)) × HoldsSharedState opening seen number own seen me

module _ {S O E : Type 0} (is_over : O → List (Entry E) → Type 0) (opening : O) (entries : List (Entry E)) (number : ℕ) (own : List (Entry E)) where
  -- The worker rests after a turn at a shared state of these entries, and has seen them all, with its own new one where the
  -- turn was taken.
  abbrev pub Ends : Result Bool AllocError → Me S (List (Hand O E)) → Type 0
  Ends (Ok true) me =
      (event : E)
      × (me ≡ (worker_view opening (entries ++ record { worker = number; event = event } ∷ []) number (own ++ record { worker = number; event = event } ∷ []) Rests, []))
      × ¬ is_over opening entries
  Ends (Ok false) me = (me ≡ (worker_view opening entries number own Rests, [])) × is_over opening entries
  Ends (Err error) me = (me ≡ (worker_view opening entries number own Rests, [])) × ¬ is_over opening entries
