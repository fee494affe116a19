-- The list of a turn queue, and what its passes know of it. The rules are this project's own.
use Rattle.std.specs.Prelude.{◌≡◌, ◌≢◌, ℕ, zero, suc, ◌+◌, ◌==◌, ltb, cond, List, [], ◌∷◌, ◌++◌, length, map, filter, All, AllPairs, Contains, Option, Some}
use Rattle.atomic_table.specs.Seated.{TableId}
use Rattle.run_desk.specs.declared.shared_state.Entry.{Entry}

-- The list begins with these entries.
abbrev pub StartsWith : {X : Type 0} → List X → List X → Type 0
StartsWith {X} list front = (rest : List X) × (list ≡ front ++ rest)

-- The entries of one worker, in their order.
abbrev pub entries_of : {E : Type 0} → ℕ → List (Entry E) → List (Entry E)
entries_of worker entries = filter (λ entry. entry.worker == worker) entries

-- The numbers of this many workers, from a first on.
abbrev pub numbers_from : ℕ → ℕ → List ℕ
numbers_from first zero = []
numbers_from first (suc count) = first ∷ numbers_from (first + 1) count

-- A turn queue: which one it is, what its shared state began with, and how many workers it has.
pub record TurnQueueView (O : Type 0) : Type 0 where
  pub table : TableId
  pub opening : O
  pub workers : ℕ

-- A pass: the turn queue that it is for, its worker's number, what the shared state began with (some, for every pass of a turn
-- queue), the turns that its worker took, and the entries seen so far.
pub record PassView (O E : Type 0) : Type 0 where
  pub table : TableId
  pub worker : ℕ
  pub opening : Option O
  pub own : List (Entry E)
  pub seen : List (Entry E)

-- The longer of two lists.
abbrev pub longer : {X : Type 0} → List X → List X → List X
longer xs ys = cond (ltb (length xs) (length ys)) ys xs

-- A turn queue's list is the list of turns in the order in which they were counted. Each pass's own turns are in it once and in
-- their order, it has no other turns, and what each pass has seen is a beginning of it.
pub record TurnQueueList {O E : Type 0} (entries : List (Entry E)) (passes : List (PassView O E)) : Type 0 where
  -- Each pass's own turns are the entries of its worker's number, in their order.
  pub own : All (λ pass. entries_of pass.worker entries ≡ pass.own) passes
  -- No two passes are of one worker, so that a turn is one pass's own.
  pub once : AllPairs (λ one other. one.worker ≢ other.worker) passes
  -- Each entry is of one of these workers.
  pub no_others : All (λ entry. Contains (map (λ pass. pass.worker) passes) entry.worker) entries
  -- What each pass has seen is a beginning of the list.
  pub seen : All (λ pass. StartsWith entries pass.seen) passes

module _ {O E : Type 0} where
  -- The pass is for the turn queue of this table, whose shared state began with this opening.
  abbrev pub IsOurs : TableId → O → PassView O E → Type 0
  IsOurs table opening pass = (pass.table ≡ table) × (pass.opening ≡ Some opening)

  -- The pass is one that the turn queue gave.
  abbrev pub IsPassOf : TurnQueueView O → PassView O E → Type 0
  IsPassOf turn_queue pass = IsOurs turn_queue.table turn_queue.opening pass

  -- The pass of the worker of this number, before any turn.
  abbrev pub first_pass : TurnQueueView O → ℕ → PassView O E
  first_pass turn_queue number = record { table = turn_queue.table; worker = number; opening = Some turn_queue.opening; own = []; seen = [] }

  -- The passes of a turn queue in order of the workers' numbers, before any turn.
  abbrev pub first_passes : TurnQueueView O → List (PassView O E)
  first_passes turn_queue = map (first_pass turn_queue) (numbers_from 0 turn_queue.workers)

  -- One pass before and after a call.
  abbrev pub IsSamePass : PassView O E → PassView O E → Type 0
  IsSamePass before after = (after.table ≡ before.table) × (after.worker ≡ before.worker) × (after.opening ≡ before.opening)

  -- After a turn that was taken: the own turns have one entry more, and what is seen begins with what was seen and ends with
  -- that entry. Before the entry the shared state wasn't over.
  abbrev pub Takes : (List (Entry E) → Type 0) → PassView O E → PassView O E → Type 0
  Takes is_over before after =
      (event : E) × (between : List (Entry E))
      × (after.own ≡ before.own ++ record { worker = before.worker; event = event } ∷ [])
      × (after.seen ≡ (before.seen ++ between) ++ record { worker = before.worker; event = event } ∷ [])
      × ¬ is_over (before.seen ++ between)

  -- After a turn that wasn't taken: the own turns are as before, and what is seen begins with what was seen.
  abbrev pub Sees : PassView O E → PassView O E → Type 0
  Sees before after = (after.own ≡ before.own) × StartsWith after.seen before.seen
