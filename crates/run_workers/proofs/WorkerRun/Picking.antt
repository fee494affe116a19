-- Whose turn a worker takes, from whom it finds, and that it finds someone.
use Rattle.std.proofs.Common.{◌≡◌, ℕ, ◌+◌, Bool, true, false, ◌&&◌, ◌||◌, not, List, [], ◌∷◌, ◌++◌, drop, cond, Option, Some, None, refl, sym, ap, ◌∙◌}
use Rattle.std.specs.List.{find, list_any}
use Rattle.std.specs.Option.{option_or}
use Rattle.std.proofs.lemmas.Bool.{true≢false, false≢true}
use Rattle.std.proofs.lemmas.List.Folds.{find-append}
use Rattle.base_script.specs.declared.actor.Actor.{Actor}
use Rattle.server_model.specs.declared.entry.Entry.{Entry}
use Rattle.plan_data.specs.PlanData.{PlanData}
use Rattle.tool_program.specs.Programs.{given}
use Rattle.tool_program.specs.Orders.{actors, is_poll, may_go, owned_from, owned, is_among, after_last, or_else, picked}
use Rattle.run_workers.specs.declared.worker_run.choice.Wanted.TheVariants.{Own, Idle, Waiting}
use Rattle.run_workers.specs.WorkerRun.Workers.{is_wanted, GoesOnFrom}
use Rattle.run_workers.proofs.WorkerRun.Owning.{find_owned}
use Rattle.run_workers.proofs.WorkerRun.FirstWanted.{get_after}
use Rattle.run_workers.proofs.WorkerRun.Waiting.{owned_place}

-- THE FIRST THAT IS FOUND

module _ (plan : PlanData) (journal : List Entry) (count worker : ℕ) where
  abbrev own : List Actor
  own = owned plan count worker

  abbrev first_own : ℕ → Option Actor
  first_own from = find (is_wanted Own plan journal own) (drop from (actors plan))

  abbrev first_idle : Option Actor
  first_idle = find (is_wanted Idle plan journal own) (actors plan)

  abbrev first_waiting : Option Actor
  first_waiting = find (is_wanted Waiting plan journal own) (actors plan)

  own_found : (from : ℕ) → find (may_go plan journal) (owned_from count worker from (drop from (actors plan))) ≡ first_own from
  own_found from = find_owned (may_go plan journal) (λ actor. is_among actor own) count worker from (drop from (actors plan)) (λ i actor is. owned_place plan count worker (from + i) actor (sym (get_after (actors plan) from i) ∙ is))

  in_rotation : (from : ℕ) (last : Option Actor) → GoesOnFrom plan count worker from last → find (may_go plan journal) (after_last last own ++ own) ≡ option_or (first_own from) (first_own 0)
  in_rotation from last goes =
      find-append (may_go plan journal) (after_last last own) own
      ∙ ap (λ found. option_or found (find (may_go plan journal) own)) (ap (find (may_go plan journal)) goes ∙ own_found from)
      ∙ ap (option_or (first_own from)) (own_found 0)

  picks : (from : ℕ) (last : Option Actor) → GoesOnFrom plan count worker from last → picked plan journal own last ≡ or_else (option_or (first_own from) (first_own 0)) (or_else first_idle first_waiting)
  picks from last goes = ap (λ found. or_else found (or_else first_idle first_waiting)) (in_rotation from last goes)

  pub by_first : (from : ℕ) (last : Option Actor) (actor : Actor) → GoesOnFrom plan count worker from last → Some actor ≡ first_own from → Some actor ≡ picked plan journal own last
  by_first from last actor goes is = sym (picks from last goes ∙ ap (λ found. or_else (option_or found (first_own 0)) (or_else first_idle first_waiting)) (sym is))

  pub by_second : (from : ℕ) (last : Option Actor) (actor : Actor) → GoesOnFrom plan count worker from last → None ≡ first_own from → Some actor ≡ first_own 0 → Some actor ≡ picked plan journal own last
  by_second from last actor goes none is =
      sym
      (picks from last goes ∙ ap (λ found. or_else (option_or found (first_own 0)) (or_else first_idle first_waiting)) (sym none)
      ∙ ap (λ found. or_else found (or_else first_idle first_waiting)) (sym is))

  none_own : (from : ℕ) (last : Option Actor) → GoesOnFrom plan count worker from last → None ≡ first_own from → None ≡ first_own 0 → picked plan journal own last ≡ or_else first_idle first_waiting
  none_own from last goes none others =
      picks from last goes ∙ ap (λ found. or_else (option_or found (first_own 0)) (or_else first_idle first_waiting)) (sym none) ∙ ap (λ found. or_else found (or_else first_idle first_waiting)) (sym others)

  pub by_third : (from : ℕ) (last : Option Actor) (actor : Actor) → GoesOnFrom plan count worker from last → None ≡ first_own from → None ≡ first_own 0 → Some actor ≡ first_idle → Some actor ≡ picked plan journal own last
  by_third from last actor goes none others is = sym (none_own from last goes none others ∙ ap (λ found. or_else found first_waiting) (sym is))

  pub by_last : (from : ℕ) (last found : Option Actor) → GoesOnFrom plan count worker from last → None ≡ first_own from → None ≡ first_own 0 → None ≡ first_idle → found ≡ first_waiting → found ≡ picked plan journal own last
  by_last from last found goes none others busy is = sym (none_own from last goes none others ∙ ap (λ one. or_else one first_waiting) (sym busy) ∙ sym is)

  -- SOMEONE IS FOUND

  none_found : (test : Actor → Bool) (first : Actor) (all : List Actor) → find test (first ∷ all) ≡ None → (test first ≡ false) × (find test all ≡ None)
  none_found test first all none = by (test first) none
    where
      by : (b : Bool) → cond b (Some first) (find test all) ≡ None → (b ≡ false) × (find test all ≡ None)
      by true none = absurd cc
      by false none = (refl, none)

  none_goes : (actor : Actor) → is_wanted Own plan journal own actor ≡ false → is_wanted Idle plan journal own actor ≡ false → is_wanted Waiting plan journal own actor ≡ false → may_go plan journal actor ≡ false
  none_goes actor no_own no_idle no_waiting = by (is_among actor own) (is_poll (given plan journal actor)) (may_go plan journal actor) no_own no_idle no_waiting
    where
      by : (among poll ready : Bool) → (among && ready) ≡ false → (not among && (ready && not poll)) ≡ false → (not among && poll) ≡ false → ready ≡ false
      by among poll false no_own no_idle no_waiting = refl
      by true poll true no_own no_idle no_waiting = absurd (true≢false no_own)
      by false true true no_own no_idle no_waiting = absurd (true≢false no_waiting)
      by false false true no_own no_idle no_waiting = absurd (true≢false no_idle)

  nobody : (all : List Actor) → find (is_wanted Own plan journal own) all ≡ None → find (is_wanted Idle plan journal own) all ≡ None → find (is_wanted Waiting plan journal own) all ≡ None → list_any (may_go plan journal) all ≡ false
  nobody [] no_own no_idle no_waiting = refl
  nobody (first ∷ all) no_own no_idle no_waiting =
      let a = none_found (is_wanted Own plan journal own) first all no_own in
      let b = none_found (is_wanted Idle plan journal own) first all no_idle in
      let c = none_found (is_wanted Waiting plan journal own) first all no_waiting in
      ap (λ ready. ready || list_any (may_go plan journal) all) (none_goes first a.0 b.0 c.0) ∙ nobody all a.1 b.1 c.1

  none_of : (one two three four : Option Actor) → or_else (option_or one two) (or_else three four) ≡ None → (two ≡ None) × (three ≡ None) × (four ≡ None)
  none_of None None None four none = (refl, refl, none)
  none_of None None (Some actor) four none = absurd cc
  none_of None (Some actor) three four none = absurd cc
  none_of (Some actor) two three four none = absurd cc

  -- where somebody may go the worker finds someone
  pub someone_picked : (from : ℕ) (last : Option Actor) → GoesOnFrom plan count worker from last → list_any (may_go plan journal) (actors plan) ≡ true → None ≡ picked plan journal own last → ⊥
  someone_picked from last goes ready none =
      let parts = none_of (first_own from) (first_own 0) first_idle first_waiting (sym (none ∙ picks from last goes)) in
      false≢true (sym (nobody (actors plan) parts.0 parts.1 parts.2) ∙ ready)
