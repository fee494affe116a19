-- The rule of the turn queue's table, which every step keeps. It is this project's own.
--
-- The table has three words and one slot. Word 0 is the number of tickets drawn, word 1 the number of tickets served, and word
-- 2 the number of entries, each modulo 2 ^ 64. The slot has the shared state, or nothing while a worker holds the turn. The
-- entries in order of their counting are the turn queue's list.
--
-- A seat knows something of the list: it has a hand for each worker that it speaks for. The seat of a pass has one hand, its worker's. A new table has one seat with the hands of all workers,
-- from which the seats of the passes are split; a meeting splits a witness from one seat, which only says what was seen, and joins it to another; and the close joins all seats to one.
--
-- The kinds of step, each with the lemma of `proofs/Keeps.antt` that it keeps the rule:
--
--   draw          one more in word 0: the worker has the ticket that was next                                        `draws`
--   look          a read of word 1: where it is the worker's ticket, the worker holds the turn and the slot, and has
--                 seen the whole list; else nothing changes                                                          `looks`
--   slot out      the shared state is taken out of the slot that the worker holds, as plain memory: no view changes
--   slot back     the shared state is put back, with the turn that it took: no view changes
--   count         one more in word 2: the entry joins the list, the worker's own turns and what it has seen          `counts`
--   serve         one more in word 1: the worker rests, and the slot has its shared state                                    `serves`
--   split         a read of word 0: a seat gives one of its hands to a new seat, or a witness of what it has seen    `deals`, `tells`
--   join          a read of word 0: a seat takes in the hands of another                                             `gathers`
--   compare       a look that ends a meeting: the worker has seen the longer of what both had seen                   `compares`
use Rattle.std.specs.Prelude.{◌≡◌, ℕ, ◌+◌, ◌%◌, ◌^◌, ◌<◌, ◌≤◌, ◌==◌, Bool, true, false, List, [], ◌∷◌, length, map, sum_by, All, Option, Some}
use mathlib.Core.Option.{some}
use mathlib.Core.Option as maybe
use lib.ListN.{get_elem?}
use Rattle.atomic_table.specs.Table.{State}
use Rattle.run_desk.specs.declared.shared_state.Entry.{Entry}
use Rattle.run_desk.specs.declared.hand.Stage.{Stage}
use Rattle.run_desk.specs.declared.hand.Stage.TheVariants.{Rests, Waits, Holds}
use Rattle.run_desk.specs.declared.hand.Role.{Role}
use Rattle.run_desk.specs.declared.hand.Role.TheVariants.{Worker, Witness}
use Rattle.run_desk.specs.declared.hand.Hand.{Hand}
use Rattle.run_desk.specs.Turns.{StartsWith, entries_of, numbers_from}

abbrev pub one_if : Bool → ℕ
one_if true = 1
one_if false = 0

-- Each of these is 1 where it is so, and else 0, so that a sum counts.
-- The hand is a worker's.
abbrev pub is_worker : {E : Type 0} → Role E → ℕ
is_worker (Worker number own stage) = 1
is_worker Witness = 0

-- It is the worker of this number.
abbrev pub is_number : {E : Type 0} → ℕ → Role E → ℕ
is_number n (Worker number own stage) = one_if (number == n)
is_number n Witness = 0

abbrev pub stage_has_ticket : ℕ → Stage → ℕ
stage_has_ticket k Rests = 0
stage_has_ticket k (Waits ticket) = one_if (ticket == k)
stage_has_ticket k (Holds ticket) = one_if (ticket == k)

-- It has this ticket.
abbrev pub has_ticket : {E : Type 0} → ℕ → Role E → ℕ
has_ticket k (Worker number own stage) = stage_has_ticket k stage
has_ticket k Witness = 0

abbrev pub stage_queues : Stage → ℕ
stage_queues Rests = 0
stage_queues (Waits ticket) = 1
stage_queues (Holds ticket) = 1

-- It has a ticket.
abbrev pub queues : {E : Type 0} → Role E → ℕ
queues (Worker number own stage) = stage_queues stage
queues Witness = 0

abbrev pub stage_holds : Stage → ℕ
stage_holds Rests = 0
stage_holds (Waits ticket) = 0
stage_holds (Holds ticket) = 1

-- It holds the turn.
abbrev pub holds_turn : {E : Type 0} → Role E → ℕ
holds_turn (Worker number own stage) = stage_holds stage
holds_turn Witness = 0

-- How many of the hands are so.
abbrev pub count_in : {O E : Type 0} → (Role E → ℕ) → List (Hand O E) → ℕ
count_in test view = sum_by (λ hand. test hand.role) view

abbrev pub count : {O E : Type 0} → (Role E → ℕ) → List (List (Hand O E)) → ℕ
count test views = sum_by (λ view. count_in test view) views

-- A worker that has just begun.
abbrev pub newcomer : {O E : Type 0} → O → ℕ → Hand O E
newcomer opening number = record { opening = opening; seen = []; role = Worker number [] Rests }

abbrev pub newcomers : {O E : Type 0} → O → ℕ → List (Hand O E)
newcomers opening workers = map (newcomer opening) (numbers_from 0 workers)

module _ {E : Type 0} (workers drawn served : ℕ) (entries : List (Entry E)) where
  -- A ticket that waits was drawn and isn't served yet. Who holds the turn has the ticket that is served next, and has seen the whole list.
  abbrev pub FitsStage : List (Entry E) → Stage → Type 0
  FitsStage seen Rests = Unit {0}
  FitsStage seen (Waits ticket) = (served ≤ ticket) × (ticket < drawn)
  FitsStage seen (Holds ticket) = (ticket ≡ served) × (ticket < drawn) × (seen ≡ entries)

  -- A worker has a number below the number of workers, and its own turns are the entries of its number, in order. A witness has no number and no turns.
  abbrev pub FitsRole : List (Entry E) → Role E → Type 0
  FitsRole seen (Worker number own stage) = (number < workers) × (own ≡ entries_of number entries) × FitsStage seen stage
  FitsRole seen Witness = Unit {0}

-- Each hand knows the opening, and has seen the list up to some place.
abbrev pub Fits : {O E : Type 0} → O → ℕ → ℕ → ℕ → List (Entry E) → Hand O E → Type 0
Fits opening workers drawn served entries hand = (hand.opening ≡ opening) × StartsWith entries hand.seen × FitsRole workers drawn served entries hand.seen hand.role

module _ {B O E : Type 0} (opening_of : B → O) (entries_in : B → List (Entry E)) (opening : O) where
  -- The slot has a shared state of this opening and of these entries.
  abbrev pub IsHome : List (Entry E) → List (maybe.Option (Option B)) → Type 0
  IsHome entries homes = (shared_state : B) × (homes ≡ some (Some shared_state) ∷ []) × (opening_of shared_state ≡ opening) × (entries_in shared_state ≡ entries)

  -- The words, the slot and what the seats know agree with one list of entries, a number of tickets drawn and a number of tickets served.
  pub record AgreesWith (workers : ℕ) (s : State (Option B) (List (Hand O E))) : Type 0 where
    pub entries : List (Entry E)
    pub drawn : ℕ
    pub served : ℕ
    -- The words are these numbers and the list's length.
    pub words : s.words ≡ drawn % 2 ^ 64 ∷ served % 2 ^ 64 ∷ length entries % 2 ^ 64 ∷ []
    -- Where nobody holds the turn, the shared state is in its slot.
    pub home : count holds_turn s.views ≡ 0 → IsHome entries s.homes
    -- What each seat knows fits the list and the queue.
    pub hands : (seat : ℕ) (view : List (Hand O E)) → get_elem? s.views seat ≡ some view → All (Fits opening workers drawn served entries) view
    -- Each entry is of one of the workers.
    pub named : All (λ entry. entry.worker < workers) entries
    -- There are as many hands of workers as workers, and one for each number, so that the numbers of two differ.
    pub crew : count is_worker s.views ≡ workers
    pub numbers : (n : ℕ) → n < workers → count (is_number n) s.views ≡ 1
    -- The tickets of two differ, and the tickets that were drawn and aren't served are as many as the workers that have one.
    pub tickets : (k : ℕ) → count (has_ticket k) s.views ≤ 1
    pub queue : served + count queues s.views ≡ drawn
    -- So few tickets are held at a time that two of them differ modulo 2 ^ 64 too.
    pub few : workers ≤ 16
