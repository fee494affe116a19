-- Each kind of step keeps the rule of the desk.
use Rattle.std.proofs.Common.{◌≡◌, ◌≢◌, ◌⊎◌, ℕ, ◌+◌, ◌%◌, ◌^◌, ◌<◌, ◌≤◌, ◌==◌, ltb, cond, Bool, true, false, List, [], ◌∷◌, ◌++◌, length, drop, set, refl, sym, ap, ◌∙◌, subst, ⊎_elim, arith, length-append, append-nil, lit<}
use Rattle.std.specs.Prelude.{All, Option, Some, slice_index}
use Rattle.std.proofs.lemmas.List.Elements.{All-nil, All-cons, All-head, All-tail, All-append, All-take, All-drop, All-map, All-push}
use Rattle.std.proofs.lemmas.List.Prefix.{front_rest}
use Rattle.std.proofs.Math.Nat.{mod-add-mod}
use mathlib.Core.Option.{some, some-ne-none, some-injective}
use mathlib.Core.Option as maybe
use mathlib.Core.Logic.{dite}
use native.Mathlib.Decide.{ℕ_discrete}
use lib.ListN.{get_elem?}
use Rattle.atomic_table.specs.Table.{State, Step, step, Me, Act, keeps, takes, gives, Allows, Splits, Joins, Valid, stepped, carried_after}
use Rattle.atomic_table.proofs.Lists.{at_set, set_again, one_turn}
use Rattle.run_desk.specs.declared.shared_state.Entry.{Entry}
use Rattle.run_desk.specs.declared.hand.Stage.{Stage}
use Rattle.run_desk.specs.declared.hand.Stage.TheVariants.{Rests, Waits, Holds}
use Rattle.run_desk.specs.declared.hand.Role.{Role}
use Rattle.run_desk.specs.declared.hand.Role.TheVariants.{Worker, Witness}
use Rattle.run_desk.specs.declared.hand.Hand.{Hand}
use Rattle.run_desk.specs.Turns.{StartsWith, entries_of, longer}
use Rattle.run_desk.specs.Views.{worker_view, next, others, witnesses}
use Rattle.run_desk.specs.Boards.{IsWorkerAt, HoldsMore, HoldsAll}
use Rattle.run_desk.specs.Rule.{is_worker, is_number, has_ticket, queues, holds_turn, count, count_in, Fits, IsHome, AgreesWith}
use Rattle.run_desk.specs.Steps.{Drew, Looked, Counted, Served, Compared}
use Rattle.run_desk.proofs.Counting.{each_set, each_snoc, count_set, count_snoc, count_at, count_else, count_in_append, each_zero, none_in, none, count_less}
use Rattle.run_desk.proofs.Fitting.{apart, counts_one, counts_zero, entries_of-own, beginnings, later, passed, lengthened, undrawn, idle_hand, one_if_small, queues_less}

-- a list of one element, after it is set
set_one : {A : Type 0} (xs : List A) (y : A) → length xs ≡ 1 → set xs 0 y ≡ y ∷ []
set_one [] y one = absurd (omega arith)
set_one (x ∷ []) y one = refl
set_one (x ∷ z ∷ xs) y one = absurd (omega arith)

-- what is true of the one element of a list
only : {A : Type 0} (P : A → Type 0) (x : A) → P x → All P (x ∷ [])
only P x p = All-cons P x [] p (All-nil P)

-- one more in a word that counts modulo 2 ^ 64
one_more : (n : ℕ) → (n % 2 ^ 64 + 1) % 2 ^ 64 ≡ (n + 1) % 2 ^ 64
one_more n = mod-add-mod n (2 ^ 64) 1

-- the words after one of them is read
read_again : (ws : List ℕ) (a b c : ℕ) → ws ≡ a ∷ b ∷ c ∷ [] → set ws 1 (slice_index ws 1) ≡ ws
read_again ws a b c is = subst (λ (l : List ℕ). set l 1 (slice_index l 1) ≡ l) (sym is) refl

module _ {B O E : Type 0} (opening_of : B → O) (entries_in : B → List (Entry E)) (opening : O) (workers : ℕ) where
  abbrev View : Type 0
  View = List (Hand O E)

  abbrev Table : Type 0
  Table = State (Option B) (List (Hand O E))

  abbrev Keeps : Table → Type 0
  Keeps = AgreesWith opening_of entries_in opening workers

  -- what a step tells doesn't depend on its operands
  abbrev any : Step (Option B)
  any = step 0 0 0 0 maybe.none

  -- what each hand fits in this state
  abbrev fit : (s : Table) → Keeps s → Hand O E → Type 0
  fit s h = Fits opening workers h.drawn h.served h.entries

  -- other seats with the same workers between them
  regrouped : (s : Table) (h : Keeps s) (views : List View) → ((f : Role E → ℕ) → f Witness ≡ 0 → count f views ≡ count f s.views)
      → ((seat : ℕ) (view : View) → get_elem? views seat ≡ some view → All (fit s h) view)
      → Keeps record { words = s.words; homes = s.homes; views = views }
  regrouped s h views same each = record {
    entries = h.entries;
    drawn = h.drawn;
    served = h.served;
    words = h.words;
    home = λ idle. h.home (sym (same holds_turn refl) ∙ idle);
    hands = each;
    named = h.named;
    crew = same is_worker refl ∙ h.crew;
    numbers = λ n below. same (is_number n) refl ∙ h.numbers n below;
    tickets = λ k. let e = same (has_ticket k) refl in let t = h.tickets k in omega arith;
    queue = let e = same queues refl in let q = h.queue in omega arith;
    few = h.few;
  }

  -- a seat with several hands gives one of them to a new seat
  pub deals : (id : ℕ) (v : View) → Splits Keeps id v (others v) (next v)
  deals id v s h at = regrouped s h (set s.views id (others v) ++ next v ∷ []) same
      (each_snoc (All (fit s h)) (set s.views id (others v)) (next v)
      (each_set (All (fit s h)) s.views id (others v) (λ j y _ e. h.hands j y e) (All-drop (fit s h) 1 v (h.hands id v at)))
      (All-take (fit s h) 1 v (h.hands id v at)))
    where
      halves : (f : Role E → ℕ) (u : View) → count_in f (others u) + count_in f (next u) ≡ count_in f u
      halves f [] = refl
      halves f (x ∷ xs) = let e = count_in_append f (x ∷ []) xs in omega arith

      same : (f : Role E → ℕ) → f Witness ≡ 0 → count f (set s.views id (others v) ++ next v ∷ []) ≡ count f s.views
      same f z = let a = count_snoc f (set s.views id (others v)) (next v) in let b = count_set f s.views id v (others v) at in let c = halves f v in omega arith

  -- a seat tells a new seat what it has seen
  pub tells : (id : ℕ) (v : View) → Splits Keeps id v v (witnesses v)
  tells id v s h at = regrouped s h (set s.views id v ++ witnesses v ∷ []) same
      (each_snoc (All (fit s h)) (set s.views id v) (witnesses v)
      (each_set (All (fit s h)) s.views id v (λ j y _ e. h.hands j y e) (h.hands id v at))
      (All-map (fit s h) (λ (hand : Hand O E). record { opening = hand.opening; seen = hand.seen; role = Witness }) v
      (λ k d inside. let fits = h.hands id v at k d inside in (fits.0, fits.1, tt))))
    where
      same : (f : Role E → ℕ) → f Witness ≡ 0 → count f (set s.views id v ++ witnesses v ∷ []) ≡ count f s.views
      same f z =
          let a = count_snoc f (set s.views id v) (witnesses v) in
          let b = count_set f s.views id v v at in
          let c = none_in f (witnesses v) (All-map (λ (hand : Hand O E). f hand.role ≡ 0) (λ (hand : Hand O E). record { opening = hand.opening; seen = hand.seen; role = Witness }) v (λ k d inside. z)) in
          omega arith

  -- a seat takes in the hands of another
  pub gathers : (id : ℕ) (v : View) (other : ℕ) (w : View) → Joins Keeps id v other w (w ++ v) []
  gathers id v other w s h at apart there = regrouped s h (set (set s.views id (w ++ v)) other []) same
      (each_set (All (fit s h)) (set s.views id (w ++ v)) other []
      (λ j y _ e. each_set (All (fit s h)) s.views id (w ++ v) (λ i u _ q. h.hands i u q) (All-append (fit s h) w v theirs (h.hands id v at)) j y e)
      (All-nil (fit s h)))
    where
      theirs : All (fit s h) w
      theirs = ⊎_elim (λ (t : (other ≡ id) × ((w ++ v) ≡ w)). absurd (apart t.0)) (λ (t : (other ≢ id) × (get_elem? s.views other ≡ some w)). h.hands other w t.1) (at_set s.views id other (w ++ v) w there)

      same : (f : Role E → ℕ) → f Witness ≡ 0 → count f (set (set s.views id (w ++ v)) other []) ≡ count f s.views
      same f z = let a = count_set f (set s.views id (w ++ v)) other w [] there in let b = count_set f s.views id v (w ++ v) at in let c = count_in_append f w v in omega arith

  module _ (id slots : ℕ) (o : O) (seen : List (Entry E)) (number : ℕ) (own : List (Entry E)) where
    abbrev hand_at : Stage → Hand O E
    hand_at stage = record { opening = o; seen = seen; role = Worker number own stage }

    -- a worker draws a ticket
    pub draws : (carried : List (ℕ × Option B)) → Allows Keeps slots id (worker_view o seen number own Rests, carried) 0 (λ n. (n + 1) % 2 ^ 64) (Drew any (worker_view o seen number own Rests, carried))
    draws carried s h len at small = (w, keeps, tt, rule, (refl, (h.drawn, ap (λ (l : List ℕ). slice_index l 0) h.words, refl)))
      where
        v : View
        v = worker_view o seen number own Rests

        w : View
        w = worker_view o seen number own (Waits h.drawn)

        after : List View
        after = set s.views id w

        mine : fit s h (hand_at Rests)
        mine = All-head (fit s h) _ [] (h.hands id v at)

        fresh : count (has_ticket h.drawn) s.views ≡ 0
        fresh = none (has_ticket h.drawn) s.views (λ j u e k d inside. undrawn opening workers h.drawn h.served h.entries _ (h.hands j u e k d inside))

        at_most : (k : ℕ) → count (has_ticket k) after ≤ 1
        at_most k = dite (ℕ_discrete h.drawn k)
            (λ (same : h.drawn ≡ k). subst (λ (j : ℕ). count (has_ticket j) after ≤ 1) same
            (let c = count_set (has_ticket h.drawn) s.views id v w at in let b = one_if_small (h.drawn == h.drawn) in omega (arith, fresh)))
            (λ (other : h.drawn ≢ k). let c = count_set (has_ticket k) s.views id v w at in let z = counts_zero h.drawn k other in let t = h.tickets k in omega arith)

        rule : Keeps record { words = set s.words 0 ((slice_index s.words 0 + 1) % 2 ^ 64); homes = s.homes; views = after }
        rule = record {
          entries = h.entries;
          drawn = h.drawn + 1;
          served = h.served;
          words = subst (λ (l : List ℕ). set l 0 ((slice_index l 0 + 1) % 2 ^ 64) ≡ (h.drawn + 1) % 2 ^ 64 ∷ h.served % 2 ^ 64 ∷ length h.entries % 2 ^ 64 ∷ [])
              (sym h.words) (ap (λ (n : ℕ). n ∷ h.served % 2 ^ 64 ∷ length h.entries % 2 ^ 64 ∷ []) (one_more h.drawn));
          home = λ idle. h.home (let c = count_set holds_turn s.views id v w at in omega arith);
          hands = each_set (All (Fits opening workers (h.drawn + 1) h.served h.entries)) s.views id w
              (λ j y _ e k d inside. later opening workers h.drawn h.served h.entries _ (h.hands j y e k d inside))
              (only (Fits opening workers (h.drawn + 1) h.served h.entries) (hand_at (Waits h.drawn)) (mine.0, mine.1, (mine.2.0, mine.2.1, ((let q = h.queue in omega arith), (omega arith)))));
          named = h.named;
          crew = let c = count_set is_worker s.views id v w at in let q = h.crew in omega arith;
          numbers = λ n below. let c = count_set (is_number n) s.views id v w at in let q = h.numbers n below in omega arith;
          tickets = at_most;
          queue = let c = count_set queues s.views id v w at in let q = h.queue in omega arith;
          few = h.few;
        }

    -- a worker that waits reads the number that is served
    pub looks : (ticket : ℕ) (carried : List (ℕ × Option B)) → Allows Keeps slots id (worker_view o seen number own (Waits ticket), carried) 1 (λ n. n) (Looked opening_of entries_in any (worker_view o seen number own (Waits ticket), carried))
    looks ticket carried s h len at small = dite (ℕ_discrete (slice_index s.words 1) (ticket % 2 ^ 64)) hit miss
      where
        v : View
        v = worker_view o seen number own (Waits ticket)

        mine : fit s h (hand_at (Waits ticket))
        mine = All-head (fit s h) (hand_at (Waits ticket)) [] (h.hands id v at)

        Goal : Type 0
        Goal = (w : View) × (a : Act (Option B)) × Valid s.homes carried a × Keeps (stepped s 1 (slice_index s.words 1) id carried w a) × Looked opening_of entries_in any (v, carried) (slice_index s.words 1) (w, carried_after carried a)

        read : set s.words 1 (slice_index s.words 1) ≡ s.words
        read = read_again s.words _ _ _ h.words

        miss : slice_index s.words 1 ≢ ticket % 2 ^ 64 → Goal
        miss other = (v, keeps, tt, subst (λ (x : List ℕ × List View). Keeps record { words = x.0; homes = s.homes; views = x.1 }) (λ i. (sym read i, sym (set_again s.views id v at) i)) h, ((λ e. absurd (other e)), (λ _. refl)))

        hit : slice_index s.words 1 ≡ ticket % 2 ^ 64 → Goal
        hit same = (w, takes 0 (Some shared_state), ap (λ (hs : List (maybe.Option (Option B))). get_elem? hs 0) there, rule, ((λ _. (shared_state, refl, refl, shows)), (λ other. absurd (other same))))
          where
            served : h.served ≡ ticket
            served =
                let q = h.queue in let c = h.crew in let n = count_less queues is_worker queues_less s.views in let f = h.few in let t = mine.2.2 in
                let lt = t.1 in let big : 16 < 2 ^ 64 = lit< tt in
                one_turn h.served ticket (2 ^ 64) t.0 (omega arith) (sym (ap (λ (l : List ℕ). slice_index l 1) h.words) ∙ same)

            has_it : count_in (has_ticket h.served) v ≡ 1
            has_it = let c = counts_one ticket h.served (sym served) in omega (arith, c)

            idle : count holds_turn s.views ≡ 0
            idle = none holds_turn s.views (subst (λ (vs : List View). (j : ℕ) (u : View) → get_elem? vs j ≡ some u → All (λ (hand : Hand O E). holds_turn hand.role ≡ 0) u) (set_again s.views id v at)
                (each_set (All (λ (hand : Hand O E). holds_turn hand.role ≡ 0)) s.views id v
                (λ j u apart e k d inside. idle_hand opening workers h.drawn h.served h.entries _
                (each_zero (has_ticket h.served) u (count_else (has_ticket h.served) s.views id v at (let t = h.tickets h.served in omega (arith, has_it)) j u apart e) k d inside)
                (h.hands j u e k d inside))
                (only (λ (hand : Hand O E). holds_turn hand.role ≡ 0) (hand_at (Waits ticket)) refl)))

            home : IsHome opening_of entries_in opening h.entries s.homes
            home = h.home idle

            shared_state : B
            shared_state = home.0

            there : s.homes ≡ some (Some shared_state) ∷ []
            there = home.1

            opens : opening_of shared_state ≡ opening
            opens = home.2

            lists : entries_in shared_state ≡ h.entries
            lists = home.3

            w : View
            w = worker_view o (entries_in shared_state) number own (Holds ticket)

            shows : All (λ (hand : Hand O E). (opening_of shared_state ≡ hand.opening) × StartsWith (entries_in shared_state) hand.seen) v
            shows = only (λ (hand : Hand O E). (opening_of shared_state ≡ hand.opening) × StartsWith (entries_in shared_state) hand.seen) (hand_at (Waits ticket)) (opens ∙ sym mine.0, subst (λ (l : List (Entry E)). StartsWith l seen) (sym lists) mine.1)

            rule : Keeps record { words = set s.words 1 (slice_index s.words 1); homes = set s.homes 0 maybe.none; views = set s.views id w }
            rule = record {
              entries = h.entries;
              drawn = h.drawn;
              served = h.served;
              words = read ∙ h.words;
              home = λ idle_. let c = count_set holds_turn s.views id v w at in absurd (omega arith);
              hands = each_set (All (fit s h)) s.views id w (λ j y _ e. h.hands j y e)
                  (only (fit s h) (record { opening = o; seen = entries_in shared_state; role = Worker number own (Holds ticket) })
                  (mine.0, ([], sym lists ∙ sym (append-nil (entries_in shared_state))), (mine.2.0, mine.2.1, (sym served, mine.2.2.1, lists))));
              named = h.named;
              crew = let c = count_set is_worker s.views id v w at in let q = h.crew in omega arith;
              numbers = λ n below. let c = count_set (is_number n) s.views id v w at in let q = h.numbers n below in omega arith;
              tickets = λ k. let c = count_set (has_ticket k) s.views id v w at in let q = h.tickets k in omega arith;
              queue = let c = count_set queues s.views id v w at in let q = h.queue in omega arith;
              few = h.few;
            }

    -- who holds the turn counts the entry that the book has more than it has seen
    pub counts : (ticket : ℕ) (shared_state : B) (event : E) → entries_in shared_state ≡ seen ++ record { worker = number; event = event } ∷ []
        → Allows Keeps slots id (worker_view o seen number own (Holds ticket), (0, Some shared_state) ∷ []) 2 (λ n. (n + 1) % 2 ^ 64) (Counted entries_in any (worker_view o seen number own (Holds ticket), (0, Some shared_state) ∷ []))
    counts ticket shared_state event more s h len at small = (w, keeps, tt, rule, (refl, refl))
      where
        v : View
        v = worker_view o seen number own (Holds ticket)

        new : Entry E
        new = record { worker = number; event = event }

        longer_list : List (Entry E)
        longer_list = h.entries ++ new ∷ []

        w : View
        w = worker_view o (entries_in shared_state) number (own ++ drop (length seen) (entries_in shared_state)) (Holds ticket)

        mine : fit s h (hand_at (Holds ticket))
        mine = All-head (fit s h) (hand_at (Holds ticket)) [] (h.hands id v at)

        now : entries_in shared_state ≡ longer_list
        now = more ∙ ap (λ (l : List (Entry E)). l ++ new ∷ []) mine.2.2.2

        has_it : count_in (has_ticket h.served) v ≡ 1
        has_it = let c = counts_one ticket h.served mine.2.2.0 in omega (arith, c)

        is_it : count_in (is_number number) v ≡ 1
        is_it = let c = counts_one number number refl in omega (arith, c)

        rule : Keeps record { words = set s.words 2 ((slice_index s.words 2 + 1) % 2 ^ 64); homes = s.homes; views = set s.views id w }
        rule = record {
          entries = longer_list;
          drawn = h.drawn;
          served = h.served;
          words = subst (λ (l : List ℕ). set l 2 ((slice_index l 2 + 1) % 2 ^ 64) ≡ h.drawn % 2 ^ 64 ∷ h.served % 2 ^ 64 ∷ length longer_list % 2 ^ 64 ∷ []) (sym h.words)
              (ap (λ (n : ℕ). h.drawn % 2 ^ 64 ∷ h.served % 2 ^ 64 ∷ n ∷ []) (one_more (length h.entries) ∙ ap (λ (n : ℕ). n % 2 ^ 64) (sym (length-append h.entries (new ∷ [])))));
          home = λ idle. let c = count_set holds_turn s.views id v w at in let q = count_at holds_turn s.views id v at in absurd (omega arith);
          hands = each_set (All (Fits opening workers h.drawn h.served longer_list)) s.views id w
              (λ j y apart e k d inside. lengthened opening workers h.drawn h.served h.entries new _
              (each_zero (has_ticket h.served) y (count_else (has_ticket h.served) s.views id v at (let t = h.tickets h.served in omega (arith, has_it)) j y apart e) k d inside)
              (each_zero (is_number number) y (count_else (is_number number) s.views id v at (let t = h.numbers number mine.2.0 in omega (arith, is_it)) j y apart e) k d inside)
              (h.hands j y e k d inside))
              (only (Fits opening workers h.drawn h.served longer_list) (record { opening = o; seen = entries_in shared_state; role = Worker number (own ++ drop (length seen) (entries_in shared_state)) (Holds ticket) })
              (mine.0, ([], sym now ∙ sym (append-nil (entries_in shared_state))), (mine.2.0, owned, (mine.2.2.0, mine.2.2.1, now))));
          named = All-push (λ (entry : Entry E). entry.worker < workers) h.entries new h.named mine.2.0;
          crew = let c = count_set is_worker s.views id v w at in let q = h.crew in omega arith;
          numbers = λ n below. let c = count_set (is_number n) s.views id v w at in let q = h.numbers n below in omega arith;
          tickets = λ k. let c = count_set (has_ticket k) s.views id v w at in let q = h.tickets k in omega arith;
          queue = let c = count_set queues s.views id v w at in let q = h.queue in omega arith;
          few = h.few;
        }
          where
            owned : own ++ drop (length seen) (entries_in shared_state) ≡ entries_of number longer_list
            owned = ap (λ (l : List (Entry E)). own ++ l) (front_rest (entries_in shared_state) seen (new ∷ []) more) ∙ ap (λ (l : List (Entry E)). l ++ new ∷ []) mine.2.1 ∙ sym (entries_of-own number h.entries new refl)

    -- who holds the turn gives the book back, and the turn on
    pub serves : (ticket : ℕ) (shared_state : B) → slots ≡ 1 → opening_of shared_state ≡ o → entries_in shared_state ≡ seen
        → Allows Keeps slots id (worker_view o seen number own (Holds ticket), (0, Some shared_state) ∷ []) 1 (λ n. (n + 1) % 2 ^ 64) (Served any (worker_view o seen number own (Holds ticket), (0, Some shared_state) ∷ []))
    serves ticket shared_state one opens lists s h len at small = (w, gives, tt, rule, (refl, refl))
      where
        v : View
        v = worker_view o seen number own (Holds ticket)

        w : View
        w = worker_view o seen number own Rests

        mine : fit s h (hand_at (Holds ticket))
        mine = All-head (fit s h) (hand_at (Holds ticket)) [] (h.hands id v at)

        has_it : count_in (has_ticket h.served) v ≡ 1
        has_it = let c = counts_one ticket h.served mine.2.2.0 in omega (arith, c)

        rule : Keeps record { words = set s.words 1 ((slice_index s.words 1 + 1) % 2 ^ 64); homes = set s.homes 0 (some (Some shared_state)); views = set s.views id w }
        rule = record {
          entries = h.entries;
          drawn = h.drawn;
          served = h.served + 1;
          words = subst (λ (l : List ℕ). set l 1 ((slice_index l 1 + 1) % 2 ^ 64) ≡ h.drawn % 2 ^ 64 ∷ (h.served + 1) % 2 ^ 64 ∷ length h.entries % 2 ^ 64 ∷ []) (sym h.words)
              (ap (λ (n : ℕ). h.drawn % 2 ^ 64 ∷ n ∷ length h.entries % 2 ^ 64 ∷ []) (one_more h.served));
          home = λ idle. (shared_state, set_one s.homes (some (Some shared_state)) (len ∙ one), opens ∙ mine.0, lists ∙ mine.2.2.2);
          hands = each_set (All (Fits opening workers h.drawn (h.served + 1) h.entries)) s.views id w
              (λ j y apart e k d inside. passed opening workers h.drawn h.served h.entries _
              (each_zero (has_ticket h.served) y (count_else (has_ticket h.served) s.views id v at (let t = h.tickets h.served in omega (arith, has_it)) j y apart e) k d inside)
              (h.hands j y e k d inside))
              (only (Fits opening workers h.drawn (h.served + 1) h.entries) (hand_at Rests) (mine.0, mine.1, (mine.2.0, mine.2.1, tt)));
          named = h.named;
          crew = let c = count_set is_worker s.views id v w at in let q = h.crew in omega arith;
          numbers = λ n below. let c = count_set (is_number n) s.views id v w at in let q = h.numbers n below in omega arith;
          tickets = λ k. let c = count_set (has_ticket k) s.views id v w at in let q = h.tickets k in omega arith;
          queue = let c = count_set queues s.views id v w at in let q = h.queue in omega arith;
          few = h.few;
        }

    -- a worker compares what it has seen with what another has
    pub compares : (p : O) (reported : List (Entry E)) (carried : List (ℕ × Option B))
        → Allows Keeps slots id (record { opening = p; seen = reported; role = Witness } ∷ worker_view o seen number own Rests, carried) 1 (λ n. n) (Compared any (record { opening = p; seen = reported; role = Witness } ∷ worker_view o seen number own Rests, carried))
    compares p reported carried s h len at small = (w, keeps, tt, subst (λ (ws : List ℕ). Keeps record { words = ws; homes = s.homes; views = set s.views id w }) (sym read) rule, (refl, refl, agree))
      where
        witness : Hand O E
        witness = record { opening = p; seen = reported; role = Witness }

        v : View
        v = witness ∷ worker_view o seen number own Rests

        w : View
        w = worker_view o (longer reported seen) number own Rests

        read : set s.words 1 (slice_index s.words 1) ≡ s.words
        read = read_again s.words _ _ _ h.words

        all : All (fit s h) v
        all = h.hands id v at

        theirs : fit s h witness
        theirs = All-head (fit s h) witness (hand_at Rests ∷ []) all

        mine : fit s h (hand_at Rests)
        mine = All-head (fit s h) (hand_at Rests) [] (All-tail (fit s h) witness (hand_at Rests ∷ []) all)

        agree : StartsWith reported seen ⊎ StartsWith seen reported
        agree = beginnings h.entries reported seen theirs.1 mine.1

        either_way : (b : Bool) → StartsWith h.entries (cond b seen reported)
        either_way true = mine.1
        either_way false = theirs.1

        rule : Keeps record { words = s.words; homes = s.homes; views = set s.views id w }
        rule = regrouped s h (set s.views id w) (λ f z. let c = count_set f s.views id v w at in let e = count_in_append f (witness ∷ []) (hand_at Rests ∷ []) in omega arith)
            (each_set (All (fit s h)) s.views id w (λ j y _ e. h.hands j y e)
            (only (fit s h) (record { opening = o; seen = longer reported seen; role = Worker number own Rests }) (mine.0, either_way (ltb (length reported) (length seen)), mine.2)))

  -- the same steps, at seats of which it is known what they have
  module _ (id slots : ℕ) (me : Me (Option B) (List (Hand O E))) where
    pub draws_as : IsWorkerAt me.0 Rests → Allows Keeps slots id me 0 (λ n. (n + 1) % 2 ^ 64) (Drew any me)
    draws_as rests = subst (λ (v : View). Allows Keeps slots id (v, me.1) 0 (λ n. (n + 1) % 2 ^ 64) (Drew any (v, me.1))) (sym rests.4) (draws id slots rests.0 rests.1 rests.2 rests.3 me.1)

    pub looks_as : (ticket : ℕ) → IsWorkerAt me.0 (Waits ticket) → Allows Keeps slots id me 1 (λ n. n) (Looked opening_of entries_in any me)
    looks_as ticket waits = subst (λ (v : View). Allows Keeps slots id (v, me.1) 1 (λ n. n) (Looked opening_of entries_in any (v, me.1))) (sym waits.4) (looks id slots waits.0 waits.1 waits.2 waits.3 ticket me.1)

    pub counts_as : HoldsMore opening_of entries_in me → Allows Keeps slots id me 2 (λ n. (n + 1) % 2 ^ 64) (Counted entries_in any me)
    counts_as more = subst (λ (m : Me (Option B) (List (Hand O E))). Allows Keeps slots id m 2 (λ n. (n + 1) % 2 ^ 64) (Counted entries_in any m)) (sym more.5.2) (counts id slots more.0 more.1 more.2 more.3 more.5.0 more.5.1 more.4 more.5.4)

    pub serves_as : slots ≡ 1 → HoldsAll opening_of entries_in me → Allows Keeps slots id me 1 (λ n. (n + 1) % 2 ^ 64) (Served any me)
    serves_as one all = subst (λ (m : Me (Option B) (List (Hand O E))). Allows Keeps slots id m 1 (λ n. (n + 1) % 2 ^ 64) (Served any m)) (sym all.4.2) (serves id slots all.0 all.1 all.2 all.3 all.4.0 all.4.1 one all.4.3 all.4.4)

    pub compares_as : (p o : O) (reported seen : List (Entry E)) (number : ℕ) (own : List (Entry E)) → me.0 ≡ record { opening = p; seen = reported; role = Witness } ∷ worker_view o seen number own Rests → Allows Keeps slots id me 1 (λ n. n) (Compared any me)
    compares_as p o reported seen number own is = subst (λ (v : View). Allows Keeps slots id (v, me.1) 1 (λ n. n) (Compared any (v, me.1))) (sym is) (compares id slots o seen number own p reported me.1)
