-- What the replica holds behind a turn more.
use Rattle.std.proofs.Common.{◌≡◌, ◌≤◌, ℕ, ◌+◌, Bool, true, false, not, ◌&&◌, ◌||◌, List, [], ◌∷◌, ◌++◌, drop, length, Some, refl, sym, ap, ◌∙◌, append_assoc, append-nil}
use Rattle.std.specs.Prelude.{◌==◌, fold}
use Rattle.std.specs.List.{slice_get, list_any}
use Rattle.std.proofs.Math.Bool.{and-false, and-true, or-false, or-true}
use Rattle.std.proofs.Math.Path.{fun_ext}
use Rattle.std.proofs.lemmas.List.{drop_all}
use Rattle.std.proofs.lemmas.List.Sums.{fold-append}
use Rattle.base_script.specs.declared.actor.Actor.{Actor}
use Rattle.server_model.specs.declared.entry.Entry.{Entry}
use Rattle.plan_data.specs.PlanData.{PlanData}
use Rattle.run_state.proofs.Clients.{left_here}
use Rattle.tool_program.specs.Feeds.{is_held_back}
use Rattle.tool_program.specs.Orders.{actors, caught_up, held_after, held_behind, Held, is_caught, is_ready, may_go_at, replica_length, risen}
use Rattle.run_turns.proofs.Replicas.{none_held}

-- THE FOLD

walk_before : (plan : PlanData) (now : Held) (journal : List Entry) → (fold (held_after plan) now journal).before ≡ now.before ++ journal
walk_before plan now [] = sym (append-nil now.before)
walk_before plan now (entry ∷ journal) = walk_before plan (held_after plan now entry) journal ∙ append_assoc now.before (entry ∷ []) journal

before_is : (plan : PlanData) (journal : List Entry) → (held_behind plan journal).before ≡ journal
unfolding held_behind
before_is plan journal = walk_before plan (record { before = []; held = 0 }) journal

behind_more : (plan : PlanData) (journal : List Entry) (entry : Entry) → held_behind plan (journal ++ entry ∷ []) ≡ held_after plan (held_behind plan journal) entry
unfolding held_behind
behind_more plan journal entry = fold-append (held_after plan) (record { before = []; held = 0 }) journal (entry ∷ [])

at_more : (plan : PlanData) (journal : List Entry) (entry : Entry) (before : List Entry) (held : ℕ) → before ≡ journal → risen plan (before ++ entry ∷ []) (caught_up plan before held) ≡ risen plan (journal ++ entry ∷ []) (caught_up plan journal held)
at_more plan journal entry before held is = ap (λ (front : List Entry). risen plan (front ++ entry ∷ []) (caught_up plan front held)) is

held_more : (plan : PlanData) (journal : List Entry) (entry : Entry) → (held_behind plan (journal ++ entry ∷ [])).held ≡ risen plan (journal ++ entry ∷ []) (replica_length plan journal)
unfolding replica_length
held_more plan journal entry =
    ap (λ (h : Held). h.held) (behind_more plan journal entry) ∙ at_more plan journal entry (held_behind plan journal).before (held_behind plan journal).held (before_is plan journal)

length_is : (plan : PlanData) (journal : List Entry) → replica_length plan journal ≡ caught_up plan journal (held_behind plan journal).held
unfolding replica_length
length_is plan journal = refl

-- what it holds behind a turn more, and behind the catch-up
pub length_more : (plan : PlanData) (journal : List Entry) (entry : Entry) → replica_length plan (journal ++ entry ∷ []) ≡ caught_up plan (journal ++ entry ∷ []) (risen plan (journal ++ entry ∷ []) (replica_length plan journal))
length_more plan journal entry = length_is plan (journal ++ entry ∷ []) ∙ ap (caught_up plan (journal ++ entry ∷ [])) (held_more plan journal entry)

-- at the beginning it holds nothing
pub length_none : (plan : PlanData) → replica_length plan [] ≡ caught_up plan [] 0
unfolding replica_length held_behind
length_none plan = refl

-- WHO MAY GO, ACTOR BY ACTOR

-- without a replica nobody is held back, so no catch-up is due
goes_ready : (plan : PlanData) (journal : List Entry) (held : ℕ) → (plan.options.replica_step == 0) ≡ true → (actor : Actor) → may_go_at plan journal held actor ≡ is_ready plan journal actor
goes_ready plan journal held none actor = ap (λ (b : Bool). is_ready plan journal actor && not b) (sym (none_held plan journal held actor none)) ∙ and-true (is_ready plan journal actor)

never_both : (b : Bool) → (b && not b) ≡ false
never_both true = refl
never_both false = refl

pub none_caught : (plan : PlanData) (journal : List Entry) (held : ℕ) → (plan.options.replica_step == 0) ≡ true → false ≡ is_caught plan journal held
none_caught plan journal held none =
    sym
    (ap (λ (test : Actor → Bool). list_any (is_ready plan journal) (actors plan) && not (list_any test (actors plan))) (fun_ext (goes_ready plan journal held none))
    ∙ never_both (list_any (is_ready plan journal) (actors plan)))

-- whether an actor passes a test, from a place on
any_here : (test : Actor → Bool) (all : List Actor) (place : ℕ) (actor : Actor) → slice_get all place ≡ Some actor → list_any test (drop place all) ≡ (test actor || list_any test (drop (place + 1) all))
any_here test all place actor is = ap (list_any test) (left_here all place actor is)

any_spent : (test : Actor → Bool) (all : List Actor) (place : ℕ) → length all ≤ place → list_any test (drop place all) ≡ false
any_spent test all place past = ap (list_any test) (drop_all place all past)

or_moves : (a b c : Bool) → ((a || b) || c) ≡ (a || (b || c))
or_moves true b c = refl
or_moves false b c = refl

-- the actors from here on decide whether someone is ready and whether someone may go
pub record Seeks (plan : PlanData) (journal : List Entry) (held place : ℕ) (some : Bool) : Type 0 where
  pub ready : (some || list_any (is_ready plan journal) (drop place (actors plan))) ≡ list_any (is_ready plan journal) (actors plan)
  pub goes : list_any (may_go_at plan journal held) (drop place (actors plan)) ≡ list_any (may_go_at plan journal held) (actors plan)

module _ (plan : PlanData) (journal : List Entry) (held place : ℕ) (some : Bool) (seeks : Seeks plan journal held place some) (actor : Actor) (is : slice_get (actors plan) place ≡ Some actor) where
  stays : may_go_at plan journal held actor ≡ false → (more : Bool) → (some || is_ready plan journal actor) ≡ more → Seeks plan journal held (place + 1) more
  stays not_goes more more_is = record {
    ready =
        ap (λ (b : Bool). b || list_any (is_ready plan journal) (drop (place + 1) (actors plan))) (sym more_is)
        ∙ or_moves some (is_ready plan journal actor) (list_any (is_ready plan journal) (drop (place + 1) (actors plan)))
        ∙ ap (λ (b : Bool). some || b) (sym (any_here (is_ready plan journal) (actors plan) place actor is))
        ∙ seeks.ready;
    goes =
        sym (any_here (may_go_at plan journal held) (actors plan) place actor is ∙ ap (λ (b : Bool). b || list_any (may_go_at plan journal held) (drop (place + 1) (actors plan))) not_goes)
        ∙ seeks.goes;
  }

  -- one that is ready, and isn't held back
  pub one_goes : is_ready plan journal actor ≡ true → is_held_back plan journal held actor ≡ false → false ≡ is_caught plan journal held
  one_goes ready free =
      let goes : may_go_at plan journal held actor ≡ true = ap (λ (b : Bool). b && not (is_held_back plan journal held actor)) ready ∙ ap not free in
      sym (ap (λ (b : Bool). list_any (is_ready plan journal) (actors plan) && not b)
      (sym seeks.goes ∙ any_here (may_go_at plan journal held) (actors plan) place actor is ∙ ap (λ (b : Bool). b || list_any (may_go_at plan journal held) (drop (place + 1) (actors plan))) goes)
      ∙ and-false (list_any (is_ready plan journal) (actors plan)))

  -- one that is ready and held back
  pub one_is_held : is_ready plan journal actor ≡ true → is_held_back plan journal held actor ≡ true → Seeks plan journal held (place + 1) true
  one_is_held ready back =
      stays (ap (λ (b : Bool). b && not (is_held_back plan journal held actor)) ready ∙ ap not back) true (ap (λ (b : Bool). some || b) ready ∙ or-true some)

  -- one that isn't ready
  pub one_is_idle : is_ready plan journal actor ≡ false → Seeks plan journal held (place + 1) some
  one_is_idle idle = stays (ap (λ (b : Bool). b && not (is_held_back plan journal held actor)) idle) some (ap (λ (b : Bool). some || b) idle ∙ or-false some)

-- nobody is left
module _ (plan : PlanData) (journal : List Entry) (held place : ℕ) (some : Bool) (seeks : Seeks plan journal held place some) where
  pub nobody_goes : length (actors plan) ≤ place → some ≡ is_caught plan journal held
  nobody_goes past =
      let ready : some ≡ list_any (is_ready plan journal) (actors plan) = sym (or-false some) ∙ ap (λ (b : Bool). some || b) (sym (any_spent (is_ready plan journal) (actors plan) place past)) ∙ seeks.ready in
      let none : list_any (may_go_at plan journal held) (actors plan) ≡ false = sym seeks.goes ∙ any_spent (may_go_at plan journal held) (actors plan) place past in
      ready ∙ sym (ap (λ (b : Bool). list_any (is_ready plan journal) (actors plan) && not b) none ∙ and-true (list_any (is_ready plan journal) (actors plan)))
