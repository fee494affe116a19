-- What the rule says once one seat has the hands of all passes.
use Rattle.std.proofs.Common.{◌≡◌, ◌≢◌, ℕ, zero, suc, ◌+◌, ◌<◌, ◌≤◌, ◌==◌, List, [], ◌∷◌, length, get_or, map, set, refl, sym, ap, ◌∙◌, subst, arith}
use Rattle.std.specs.Prelude.{All, AllPairs, Contains, Option, Some}
use Rattle.std.proofs.lemmas.List.Elements.{All-nil, All-cons, All-head, All-tail, All-map, All-contains}
use mathlib.Core.Option.{some, some-injective}
use mathlib.Core.Option as maybe
use mathlib.Core.Logic.{dite}
use native.Mathlib.Decide.{ℕ_discrete}
use lib.ListN.{get_elem?}
use Rattle.atomic_table.specs.Table.{State, Final, Seen}
use Rattle.run_desk.specs.declared.shared_state.Entry.{Entry}
use Rattle.run_desk.specs.declared.hand.Stage.TheVariants.{Rests, Waits, Holds}
use Rattle.run_desk.specs.declared.hand.Role.{Role}
use Rattle.run_desk.specs.declared.hand.Role.TheVariants.{Worker, Witness}
use Rattle.run_desk.specs.declared.hand.Hand.{Hand}
use Rattle.run_desk.specs.Turns.{PassView, TurnQueueList}
use Rattle.run_desk.specs.Views.{hand_of}
use Rattle.run_desk.specs.Rule.{one_if, is_worker, is_number, holds_turn, count, count_in, Fits, IsHome, AgreesWith}
use Rattle.run_desk.proofs.Counting.{count_set, count_in_append, none_in, count_less}
use Rattle.run_desk.proofs.Fitting.{counts_one, counts_zero, one_if_small}

-- who holds the turn is a worker, and so is who has a number
holds_less : {E : Type 0} (role : Role E) → holds_turn role ≤ is_worker role
holds_less (Worker number own Rests) = omega arith
holds_less (Worker number own (Waits ticket)) = omega arith
holds_less (Worker number own (Holds ticket)) = omega arith
holds_less Witness = omega arith

number_less : {E : Type 0} (n : ℕ) (role : Role E) → is_number n role ≤ is_worker role
number_less n (Worker number own stage) = one_if_small (number == n)
number_less n Witness = omega arith

pub one_shared_state : {B : Type 0} (a b : B) → Some a ∷ [] ≡ Some b ∷ [] → a ≡ b
one_shared_state a b same = cc

one_slot : {A : Type 0} (xs : List A) (y : A) → length xs ≡ 1 → get_elem? xs 0 ≡ some y → xs ≡ y ∷ []
one_slot [] y one at = absurd (omega arith)
one_slot (x ∷ []) y one at = ap (λ z. z ∷ []) (some-injective x y at)
one_slot (x ∷ z ∷ xs) y one at = absurd (omega arith)

module _ {O E : Type 0} (opening : O) where
  abbrev pub hands : List (PassView O E) → List (Hand O E)
  hands passes = map (hand_of opening) passes

  each_pass : (P : Hand O E → Type 0) (passes : List (PassView O E)) → All P (hands passes) → All (λ pass. P (hand_of opening pass)) passes
  each_pass P [] all = All-nil (λ (pass : PassView O E). P (hand_of opening pass))
  each_pass P (p ∷ ps) all = All-cons (λ (pass : PassView O E). P (hand_of opening pass)) p ps (All-head P (hand_of opening p) (hands ps) all) (each_pass P ps (All-tail P (hand_of opening p) (hands ps) all))

  all_workers : (passes : List (PassView O E)) → count_in is_worker (hands passes) ≡ length passes
  all_workers [] = refl
  all_workers (p ∷ ps) = let r = all_workers ps in let c = count_in_append is_worker (hand_of opening p ∷ []) (hands ps) in omega arith

  none_holds : (passes : List (PassView O E)) → count_in holds_turn (hands passes) ≡ 0
  none_holds passes = none_in holds_turn (hands passes) (All-map (λ (hand : Hand O E). holds_turn hand.role ≡ 0) (λ (pass : PassView O E). hand_of opening pass) passes (λ k d inside. refl))

  -- how often a number stands among those of the passes
  more : (n : ℕ) (p : PassView O E) (ps : List (PassView O E)) → count_in (is_number n) (hands (p ∷ ps)) ≡ one_if (p.worker == n) + count_in (is_number n) (hands ps)
  more n p ps = let c = count_in_append (is_number n) (hand_of opening p ∷ []) (hands ps) in omega arith

  -- a number that stands among them is one of a pass
  stands : (n : ℕ) (passes : List (PassView O E)) → 0 < count_in (is_number n) (hands passes) → Contains (map (λ pass. pass.worker) passes) n
  stands n [] some_one = absurd (omega arith)
  stands n (p ∷ ps) some_one = dite (ℕ_discrete p.worker n)
      (λ (same : p.worker ≡ n). (0, omega arith, same))
      (λ (other : p.worker ≢ n).
      let z = counts_zero p.worker n other in
      let m = more n p ps in
      let r = stands n ps (omega arith) in
      (suc r.0, (let l = r.1 in omega arith), r.2))

  there : (n : ℕ) (passes : List (PassView O E)) (k : ℕ) (d : PassView O E) → k < length passes → (get_or passes k d).worker ≡ n → 0 < count_in (is_number n) (hands passes)
  there n [] k d inside same = absurd (omega arith)
  there n (p ∷ ps) zero d inside same = let z = counts_one p.worker n same in let m = more n p ps in omega arith
  there n (p ∷ ps) (suc k) d inside same = let r = there n ps k d (omega arith) same in let m = more n p ps in omega arith

  -- where no number stands twice, the passes differ in their numbers
  differ : (passes : List (PassView O E)) → ((n : ℕ) → Contains (map (λ pass. pass.worker) passes) n → count_in (is_number n) (hands passes) ≤ 1) → AllPairs (λ one other. one.worker ≢ other.worker) passes
  differ [] once i j d below inside = absurd (omega arith)
  differ (p ∷ ps) once zero zero d below inside = absurd (omega arith)
  differ (p ∷ ps) once zero (suc j) d below inside = λ (same : p.worker ≡ (get_or ps j d).worker).
      let o = once p.worker (0, omega arith, refl) in
      let z = counts_one p.worker p.worker refl in
      let m = more p.worker p ps in
      let t = there p.worker ps j d (omega arith) (sym same) in omega arith
  differ (p ∷ ps) once (suc i) zero d below inside = absurd (omega arith)
  differ (p ∷ ps) once (suc i) (suc j) d below inside = differ ps
      (λ n within. let o = once n (suc within.0, (let l = within.1 in omega arith), within.2) in let m = more n p ps in omega arith)
      i j d (omega arith) (omega arith)

module _ {B O E : Type 0} (opening_of : B → O) (entries_in : B → List (Entry E)) (opening : O) (workers : ℕ) where
  module _ (s : State (Option B) (List (Hand O E))) (h : AgreesWith opening_of entries_in opening workers s) (id : ℕ) (passes : List (PassView O E)) (at : get_elem? s.views id ≡ some (hands opening passes)) (all : length passes ≡ workers) where
    -- no other seat has a worker
    no_worker : count is_worker (set s.views id []) ≡ 0
    no_worker = let c = count_set is_worker s.views id (hands opening passes) [] at in let w = all_workers opening passes in let q = h.crew in omega (arith, w)

    -- nobody holds the turn, so that the book is in its slot
    pub closes : IsHome opening_of entries_in opening h.entries s.homes
    closes = h.home
        (let c = count_set holds_turn s.views id (hands opening passes) [] at in
        let l = count_less holds_turn is_worker holds_less (set s.views id []) in
        let n = none_holds opening passes in
        let z = no_worker in omega (arith, n, z))

    numbered : (n : ℕ) → count_in (is_number n) (hands opening passes) ≡ count (is_number n) s.views
    numbered n =
        let c = count_set (is_number n) s.views id (hands opening passes) [] at in
        let l = count_less (is_number n) is_worker (number_less n) (set s.views id []) in
        let z = no_worker in omega (arith, z)

    fits : All (λ pass. Fits opening workers h.drawn h.served h.entries (hand_of opening pass)) passes
    fits = each_pass opening (Fits opening workers h.drawn h.served h.entries) passes (h.hands id (hands opening passes) at)

    -- the list has the passes' own turns and no others
    pub lists : TurnQueueList h.entries passes
    lists = record {
      own = λ k d inside. sym (fits k d inside).2.1;
      once = differ opening passes (λ n within. let c = numbered n in let q = h.numbers n (below n within) in omega arith);
      no_others = λ k d inside. own_of_some (get_or h.entries k d).worker (h.named k d inside);
      seen = λ k d inside. (fits k d inside).1;
    }
      where
        own_of_some : (n : ℕ) → n < workers → Contains (map (λ pass. pass.worker) passes) n
        own_of_some n under = stands opening n passes (let c = numbered n in let q = h.numbers n under in omega arith)

        below : (n : ℕ) → Contains (map (λ pass. pass.worker) passes) n → n < workers
        below n within = All-contains (λ (m : ℕ). m < workers) (map (λ pass. pass.worker) passes) n (All-map (λ (m : ℕ). m < workers) (λ (pass : PassView O E). pass.worker) passes (λ k d inside. (fits k d inside).2.0)) within

  -- What a closed table has in its slot
  pub record Closed (passes : List (PassView O E)) (slots : List (Option B)) : Type 0 where
    pub shared_state : B
    pub slot : slots ≡ Some shared_state ∷ []
    pub opened : opening_of shared_state ≡ opening
    pub list : TurnQueueList (entries_in shared_state) passes

  pub closed : (id : ℕ) (view : List (Hand O E)) (passes : List (PassView O E)) (ws : List ℕ) (slots : List (Option B)) → view ≡ hands opening passes → length passes ≡ workers
      → Final (Seen (AgreesWith opening_of entries_in opening workers) id view) ws slots → Closed passes slots
  closed id view passes ws slots are all (s, (h, at), same, long, kept) =
      let here = at ∙ ap (λ (v : List (Hand O E)). some v) are in
      let home = closes s h id passes here all in record {
        shared_state = home.0;
        slot = one_slot slots (Some home.0) (let e = ap length home.1 in omega arith) (kept 0 (Some home.0) (ap (λ (hs : List (maybe.Option (Option B))). get_elem? hs 0) home.1));
        opened = home.2;
        list = subst (λ (l : List (Entry E)). TurnQueueList l passes) (sym home.3) (lists s h id passes here all);
      }
