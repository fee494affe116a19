-- The rule holds of a new desk.
use Rattle.std.proofs.Common.{◌≡◌, ◌≢◌, ℕ, zero, suc, ◌+◌, ◌<◌, ◌≤◌, List, [], ◌∷◌, map, refl, sym, subst, arith}
use Rattle.std.specs.Prelude.{All, Some}
use Rattle.std.proofs.lemmas.List.Elements.{All-nil, All-cons}
use mathlib.Core.Option.{some, some-ne-none, some-injective}
use mathlib.Core.Logic.{dite}
use native.Mathlib.Decide.{ℕ_discrete}
use lib.ListN.{get_elem?}
use Rattle.atomic_table.specs.Table as table
use Rattle.run_desk.specs.declared.shared_state.Entry.{Entry}
use Rattle.run_desk.specs.declared.hand.Hand.{Hand}
use Rattle.run_desk.specs.Turns.{numbers_from}
use Rattle.run_desk.specs.Rule.{is_worker, is_number, has_ticket, queues, count_in, newcomer, newcomers, Fits, AgreesWith}
use Rattle.run_desk.proofs.Counting.{count_in_append, none_in}
use Rattle.run_desk.proofs.Fitting.{counts_one, counts_zero}

module _ (O E : Type 0) (opening : O) where
  -- the hands of the workers from a first number on
  abbrev crew_from : ℕ → ℕ → List (Hand O E)
  crew_from first n = map (newcomer opening) (numbers_from first n)

  all_workers : (first n : ℕ) → count_in is_worker (crew_from first n) ≡ n
  all_workers first zero = refl
  all_workers first (suc n) = let r = all_workers (first + 1) n in let c = count_in_append {O = O} {E = E} is_worker (newcomer opening first ∷ []) (crew_from (first + 1) n) in omega arith

  none_before : (m first n : ℕ) → m < first → count_in (is_number m) (crew_from first n) ≡ 0
  none_before m first zero below = refl
  none_before m first (suc n) below =
      let r = none_before m (first + 1) n (omega arith) in
      let c = count_in_append {O = O} {E = E} (is_number m) (newcomer opening first ∷ []) (crew_from (first + 1) n) in
      let z = counts_zero first m (λ same. omega arith) in omega arith

  one_each : (m first n : ℕ) → first ≤ m → m < first + n → count_in (is_number m) (crew_from first n) ≡ 1
  one_each m first zero low high = absurd (omega arith)
  one_each m first (suc n) low high = dite (ℕ_discrete first m)
      (λ (same : first ≡ m).
      let r = none_before m (first + 1) n (omega arith) in
      let c = count_in_append {O = O} {E = E} (is_number m) (newcomer opening first ∷ []) (crew_from (first + 1) n) in
      let z = counts_one first m same in omega arith)
      (λ (other : first ≢ m).
      let r = one_each m (first + 1) n (omega arith) (omega arith) in
      let c = count_in_append {O = O} {E = E} (is_number m) (newcomer opening first ∷ []) (crew_from (first + 1) n) in
      let z = counts_zero first m other in omega arith)

  each_newcomer : (P : Hand O E → Type 0) (first n : ℕ) → ((m : ℕ) → m < first + n → P (newcomer opening m)) → All P (crew_from first n)
  each_newcomer P first zero each = All-nil P
  each_newcomer P first (suc n) each = All-cons P (newcomer opening first) (crew_from (first + 1) n) (each first (omega arith)) (each_newcomer P (first + 1) n (λ m below. each m (omega arith)))

module _ {B O E : Type 0} (opening_of : B → O) (entries_in : B → List (Entry E)) (opening : O) (workers : ℕ) where
  -- a desk with a book whose list is empty, all of whose workers are one seat's
  pub starts : (shared_state : B) → opening_of shared_state ≡ opening → entries_in shared_state ≡ [] → workers ≤ 16
      → AgreesWith opening_of entries_in opening workers (table.opening (0 ∷ 0 ∷ 0 ∷ []) (Some shared_state ∷ []) (newcomers opening workers))
  starts shared_state opens empty few = record {
    entries = [];
    drawn = 0;
    served = 0;
    words = refl;
    home = λ idle. (shared_state, refl, opens, empty);
    hands = one;
    named = All-nil (λ (entry : Entry E). entry.worker < workers);
    crew = let c = all_workers O E opening 0 workers in omega (arith, c);
    numbers = λ n below. let c = one_each O E opening n 0 workers (omega arith) (omega arith) in omega (arith, c);
    tickets = λ k. let c = none_in {O = O} {E = E} (has_ticket k) (newcomers opening workers) (each_newcomer O E opening (λ hand. has_ticket k hand.role ≡ 0) 0 workers (λ m below. refl)) in omega (arith, c);
    queue = let c = none_in {O = O} {E = E} queues (newcomers opening workers) (each_newcomer O E opening (λ hand. queues hand.role ≡ 0) 0 workers (λ m below. refl)) in omega (arith, c);
    few = few;
  }
    where
      Fit : Hand O E → Type 0
      Fit = Fits opening workers 0 0 []

      fresh : All Fit (newcomers opening workers)
      fresh = each_newcomer O E opening Fit 0 workers (λ m below. (refl, ([], refl), (omega arith, refl, tt)))

      one : (seat : ℕ) (view : List (Hand O E)) → get_elem? (newcomers opening workers ∷ []) seat ≡ some view → All Fit view
      one zero view at = subst (All Fit) (some-injective (newcomers opening workers) view at) fresh
      one (suc seat) view at = absurd (some-ne-none view (sym at))
