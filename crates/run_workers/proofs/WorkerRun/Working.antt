-- A run by workers stays one with a turn more.
use Rattle.std.proofs.Common.{◌≡◌, ◌⊎◌, ◌≤◌, ◌<◌, ℕ, zero, suc, ◌+◌, ◌-◌, ◌==◌, ◌%◌, Bool, true, false, List, [], ◌∷◌, ◌++◌, length, replicate, Option, Some, None, refl, sym, ap, ◌∙◌, subst, inl, inr, arith}
use Rattle.std.specs.Prelude.{◌↔◌, slice_index, nat_le, Result, Ok, Err}
use Rattle.std.specs.declared.alloc.AllocError.{AllocError}
use Rattle.std.specs.Option.{option_map}
use Rattle.std.specs.List.{slice_get}
use Rattle.std.proofs.lemmas.Bool.{true≢false, leb-false, or_parts}
use Rattle.std.proofs.lemmas.Nat.{mod_below}
use Rattle.std.proofs.lemmas.List.{length-append, length-replicate}
use Rattle.base_script.specs.declared.actor.Actor.{Actor}
use Rattle.server_model.specs.Along.{Along-more}
use Rattle.server_model.specs.declared.entry.Entry.{Entry}
use Rattle.server_model.specs.Entries.{is_cut}
use Rattle.server_model.specs.States.{State}
use Rattle.plan_data.specs.PlanData.{PlanData}
use Rattle.tool_program.specs.JournalWords.Journals.{opening, state_at, after_entry, state_after}
use Rattle.tool_program.specs.JournalWords.Sessions.{NumbersSessions}
use Rattle.server_model.proofs.LockedRows.Tests.{are_one}
use Rattle.proof_journals.proofs.Journals.{state_more}
use Rattle.tool_program.specs.Orders.{actors, may_go, owned, WorkerTurn, last_taken, picked, worker_actor, IsNext}
use Rattle.tool_program.specs.Verdicts.{has_ended}
use Rattle.proof_journals.specs.Run.Counts.{IsAfter}
use Rattle.proof_journals.specs.Run.Kept.{IsKept}
use Rattle.proof_journals.proofs.Run.Keeping.{kept_none}
use Rattle.run_turns.specs.DueTurns.MigrationRun.ServerTurns.{entry_on}
use Rattle.run_turns.specs.DueTurns.Due.{due, next_entry}
use Rattle.run_turns.proofs.DueTurns.Coming.{Comes, Cuts, Gives, comes}
use Rattle.run_turns.proofs.DueTurns.Keeping.{turns_kept, turns_numbered}
use Rattle.run_desk.specs.declared.shared_state.Entry.{Entry as Taken}
use Rattle.run_turns.specs.declared.run.Stepped.{Stepped}
use Rattle.run_turns.specs.declared.run.Stepped.TheVariants.{Idle}
use Rattle.run_turns.specs.declared.run.Stepped.TheVariants as stepping
use Rattle.run_turns.specs.Runs.{RunView, is_over, TakesTurn}
use Rattle.proof_feeds.proofs.Holding.{someone_may_go}
use Rattle.run_turns.specs.FeedRuns.{FeedSteps}
use Rattle.run_workers.specs.declared.worker_run.members.Member.{Member}
use Rattle.run_workers.specs.declared.worker_run.members.Candidate.{Candidate}
use Rattle.run_workers.specs.WorkerRun.Workers.{IsGoing, GoesOnFrom, places_after}
use Rattle.run_workers.specs.WorkerRun.WorkedRuns.{turn_of, turns_of, journal_of, paired_of, listed, IsByRule, IsWorkersRun, WasOver, WorkedView, TakesOne, Works, IsWorked}
use Rattle.run_workers.proofs.WorkerRun.Listing.{journal_more, turns_more, paired_more, paired_entries, listed_length, listed_more, was_over, over_now}
use Rattle.run_workers.proofs.WorkerRun.Picking.{someone_picked}
use Rattle.run_workers.proofs.WorkerRun.Rotating.{last_more, begins_at, length-places_after, rotated}

self_after : (state : State) → IsAfter state state
self_after state = record { made = omega arith; same = refl }

-- the last of a list
pub last_is : {A : Type 0} (xs : List A) (x y : A) → slice_get (xs ++ x ∷ []) (length (xs ++ x ∷ []) - 1) ≡ Some y → y ≡ x
last_is {A = A} xs x y is = by xs (length (xs ++ x ∷ []) - 1) (let more : length (xs ++ x ∷ []) ≡ length xs + 1 = length-append xs (x ∷ []) in omega (arith, more)) is
  where
    by : (xs : List A) (i : ℕ) → i ≡ length xs → slice_get (xs ++ x ∷ []) i ≡ Some y → y ≡ x
    by [] zero at is = cc
    by [] (suc i) at is = absurd (cc)
    by (first ∷ xs) zero at is = absurd (cc)
    by (first ∷ xs) (suc i) at is = by xs i (cc) is

-- ONE TURN MORE

module _ (before : RunView) (workers worker : ℕ) (noted : List WorkerTurn) (used spare : ℕ) (places : List ℕ) (is : IsWorked before workers noted used spare places false) where
  abbrev list : List (Taken Entry)
  list = listed noted before.journal

  exact : before.server ≡ state_at before.plan before.journal
  exact = is.server refl

  -- the worker's actor
  worker_picks : worker_actor before.plan workers (paired_of list) worker ≡ picked before.plan before.journal (owned before.plan workers worker) (last_taken worker (owned before.plan workers worker) (paired_of list))
  unfolding worker_actor
  worker_picks = ap (λ (journal : List Entry). picked before.plan journal (owned before.plan workers worker) (last_taken worker (owned before.plan workers worker) (paired_of list))) (paired_entries list ∙ is.journal)

  module _ (after : RunView) (place : ℕ) (actor : Actor) (candidate : slice_get (actors before.plan) place ≡ Some actor) (takes : TakesTurn before actor after) (going : is_over before.plan before.journal ≡ false)
      (picks : Some actor ≡ picked before.plan before.journal (owned before.plan workers worker) (last_taken worker (owned before.plan workers worker) (paired_of list))) where
    abbrev view : PlanData → List (Taken Entry) → WorkedView
    view plan all = record { plan = plan; workers = workers; list = all; is_short = false }

    abbrev entry : Entry
    entry = next_entry before.journal before.server takes.turn

    abbrev next : Taken Entry
    next = record { worker = worker; event = entry }

    abbrev more : List (Taken Entry)
    more = list ++ next ∷ []

    abbrev note : WorkerTurn
    note = record { worker = worker; actor = entry.actor }

    abbrev grown : List Entry
    grown = before.journal ++ entry ∷ []

    came : Comes before.plan before.journal actor takes.turn
    came = comes before.plan before.journal actor takes.turn takes.is_due

    asked_is : entry.asked ≡ takes.turn.asked
    unfolding entry_on
    asked_is = refl

    actor_is : entry.actor ≡ takes.turn.actor
    unfolding entry_on
    actor_is = refl

    uncut_actor : is_cut entry.asked ≡ false → entry.actor ≡ actor
    uncut_actor uncut = by came
      where
        by : Comes before.plan before.journal actor takes.turn → entry.actor ≡ actor
        by (Cuts at none cut) = absurd (true≢false (sym (ap is_cut (asked_is ∙ cut)) ∙ uncut))
        by (Gives none own gives side) = actor_is ∙ own

    -- the lists

    list_more : listed (noted ++ note ∷ []) grown ≡ more
    list_more = listed_more noted before.journal note entry (listed_length noted before.journal is.journal is.turns)

    more_journal : journal_of more ≡ grown
    more_journal = journal_more list next ∙ ap (λ (journal : List Entry). journal ++ entry ∷ []) is.journal

    more_turns : turns_of more ≡ noted ++ note ∷ []
    more_turns = turns_more list next ∙ ap (λ (turns : List WorkerTurn). turns ++ note ∷ []) is.turns

    -- what is kept

    kept_now : IsKept before.plan before.journal
    kept_now = subst (IsKept before.plan) is.journal is.worked.kept

    kept_more : IsKept before.plan grown
    kept_more =
        (turns_kept before.plan before.journal before.server actor takes.turn kept_now (subst (λ (s : State). IsAfter (state_at before.plan before.journal) s) (sym exact) (self_after (state_at before.plan before.journal))) takes.is_due).kept

    numbered_more : NumbersSessions grown
    numbered_more =
        subst (λ (s : State). NumbersSessions (before.journal ++ next_entry before.journal s takes.turn ∷ [])) (sym exact)
        (turns_numbered before.plan before.journal takes.turn kept_now (subst NumbersSessions is.journal is.worked.numbered))

    next_is : (cut : Bool) → is_cut entry.asked ≡ cut → IsNext cut (worker_actor before.plan workers (paired_of list) worker) entry.actor
    next_is true cuts = tt
    next_is false uncut = worker_picks ∙ sym picks ∙ ap Some (sym (uncut_actor uncut))

    by_rule : IsByRule before.plan workers list next
    by_rule = record { going = subst (λ (journal : List Entry). is_over before.plan journal ≡ false) (sym is.journal) going; next = next_is (is_cut entry.asked) refl }

    worked_now : IsWorkersRun before.plan workers more
    worked_now = record {
      kept = subst (IsKept before.plan) (sym more_journal) kept_more;
      rule = Along-more (IsByRule before.plan workers) [] list next is.worked.rule by_rule;
      numbered = subst NumbersSessions (sym more_journal) numbered_more;
    }

    -- the places

    abbrev member : Member
    member = record { workers = workers; worker = worker }

    abbrev moved : List ℕ
    moved = places_after places member place (is_cut entry.asked)

    there : (place % workers == worker) ≡ true → worker < length places
    there same = let one : place % workers ≡ worker = are_one (place % workers) worker same in let less : place % workers < workers = mod_below place workers is.some in let count : length places ≡ workers = is.count in omega (arith, one, less, count)

    moved_count : length moved ≡ workers
    moved_count = length-places_after places member place (is_cut entry.asked) ∙ is.count

    rotates : (other : ℕ) → GoesOnFrom before.plan workers other (slice_index moved other) (last_taken other (owned before.plan workers other) (paired_of more))
    rotates other =
        subst (GoesOnFrom before.plan workers other (slice_index moved other)) (sym (ap (last_taken other (owned before.plan workers other)) (paired_more list next) ∙ last_more other (owned before.plan workers other) (paired_of list) (turn_of next, entry)))
        (rotated before.plan workers worker place actor places candidate there other (last_taken other (owned before.plan workers other) (paired_of list)) (turn_of next, entry) (is_cut entry.asked) refl refl uncut_actor (is.rotation other))

    -- all of it

    abbrev run_more : RunView
    run_more = record { plan = before.plan; journal = grown; server = after_entry before.server entry }

    server_more : after_entry before.server entry ≡ state_at before.plan grown
    server_more = ap (λ (s : State). after_entry s entry) exact ∙ sym (state_more (opening before.plan) before.journal entry)

    grown_worked : IsWorked run_more workers (noted ++ note ∷ []) (used + 1) spare moved false
    grown_worked = record {
      going = is.going;
      journal = ap journal_of list_more ∙ more_journal;
      turns = ap turns_of list_more ∙ more_turns;
      worked = subst (IsWorkersRun before.plan workers) (sym list_more) worked_now;
      server = λ fed. server_more;
      short = λ short. absurd (true≢false (sym short));
      some = is.some;
      count = moved_count;
      rotation = λ other. subst (λ (all : List (Taken Entry)). GoesOnFrom before.plan workers other (slice_index moved other) (last_taken other (owned before.plan workers other) (paired_of all))) (sym list_more) (rotates other);
      many =
          let one : length grown ≡ length before.journal + 1 = length-append before.journal (entry ∷ []) in
          let old : used ≡ length before.journal = is.many in
          let sum : used + 1 ≡ length grown = omega (arith, one, old) in sum;
      room = is.room;
    }

    -- what stands behind the turn is that of a worked run
    pub worked_more : (last : Entry) → slice_get after.journal (length after.journal - 1) ≡ Some last → (turns : List WorkerTurn) (count room : ℕ) (moves : List ℕ) → turns ≡ noted ++ record { worker = worker; actor = last.actor } ∷ [] → count ≡ used + 1 → room ≡ spare → moves ≡ places_after places member place (is_cut last.asked)
        → IsWorked after workers turns count room moves false
    worked_more last at turns count room moves turns_are count_is room_is moves_are =
        subst (λ (all : List WorkerTurn). IsWorked after workers all count room moves false) (sym (turns_are ∙ ap (λ (one : Entry). noted ++ record { worker = worker; actor = one.actor } ∷ []) same))
        (subst (λ (n : ℕ). IsWorked after workers (noted ++ note ∷ []) n room moves false) (sym count_is)
        (subst (λ (n : ℕ). IsWorked after workers (noted ++ note ∷ []) (used + 1) n moves false) (sym room_is)
        (subst (λ (all : List ℕ). IsWorked after workers (noted ++ note ∷ []) (used + 1) spare all false) (sym (moves_are ∙ ap (λ (one : Entry). places_after places member place (is_cut one.asked)) same))
        (subst (λ (run : RunView). IsWorked run workers (noted ++ note ∷ []) (used + 1) spare moved false) (sym takes.taken) grown_worked))))
      where
        same : last ≡ entry
        same = last_is before.journal entry last (ap (λ (run : RunView). slice_get run.journal (length run.journal - 1)) (sym takes.taken) ∙ at)

    -- and one was taken
    pub takes_one : (last : Entry) → slice_get after.journal (length after.journal - 1) ≡ Some last → (turns : List WorkerTurn) → turns ≡ noted ++ record { worker = worker; actor = last.actor } ∷ [] → (old : WorkedView) → view before.plan list ≡ old
        → TakesOne old worker (view after.plan (listed turns after.journal))
    takes_one last at turns turns_are old old_is = subst (λ (v : WorkedView). TakesOne v worker (view after.plan (listed turns after.journal))) old_is (record {
      actor = actor;
      turn = takes.turn;
      fed = refl;
      chosen = worker_picks ∙ sym picks;
      is_due = subst (λ (journal : List Entry). due before.plan journal actor ≡ Some takes.turn) (sym is.journal) takes.is_due;
      taken =
          ap (λ (run : RunView). view run.plan (listed turns run.journal)) takes.taken
          ∙ ap (λ (all : List WorkerTurn). view before.plan (listed all grown)) (turns_are ∙ ap (λ (one : Entry). noted ++ record { worker = worker; actor = one.actor } ∷ []) same)
          ∙ ap (view before.plan) (list_more ∙ ap (λ (one : Entry). list ++ record { worker = worker; event = one } ∷ []) entry_is);
    })
      where
        same : last ≡ entry
        same = last_is before.journal entry last (ap (λ (run : RunView). slice_get run.journal (length run.journal - 1)) (sym takes.taken) ∙ at)

        entry_is : entry ≡ next_entry (journal_of list) (state_at before.plan (journal_of list)) takes.turn
        entry_is =
            ap (λ (s : State). next_entry before.journal s takes.turn) exact ∙ ap (λ (journal : List Entry). next_entry journal (state_at before.plan journal) takes.turn) (sym is.journal)

-- OPENING

pub worked_begins : (run : RunView) (workers used spare : ℕ) (places : List ℕ) → IsGoing run.plan → run.journal ≡ [] → run.server ≡ opening run.plan → 0 < workers → used ≡ 0 → run.plan.options.turn_limit ≤ spare → places ≡ replicate workers (length (actors run.plan))
    → IsWorked run workers [] used spare places false
unfolding state_after NumbersSessions
worked_begins run workers used spare places going none server some many room are = record {
  going = going;
  journal = sym none;
  turns = refl;
  worked = record { kept = kept_none run.plan; rule = tt; numbered = tt };
  server = λ fed. server ∙ ap (state_at run.plan) (sym none);
  short = λ short. absurd (true≢false (sym short));
  some = some;
  count = ap length are ∙ length-replicate workers (length (actors run.plan));
  rotation = λ worker. begins_at run.plan workers worker places some are;
  many = many ∙ sym (ap length none);
  room = room;
}

-- WHAT A TURN FINDS

abbrev was_taken : Result Bool AllocError → Bool
was_taken (Ok taken) = taken
was_taken (Err error) = true

abbrev took_one : Result Bool AllocError → Bool
took_one (Ok taken) = taken
took_one (Err error) = false

-- it was taken, or there was no memory for it
pub not_over : (taken : Result Bool AllocError) → was_taken taken ≡ true → taken ≡ Ok false → ⊥
not_over taken was over = true≢false (sym was ∙ ap was_taken over)

none_by : (run : RunView) → is_over run.plan run.journal ≡ false → (has_ended run.plan run.journal ≡ false) × (nat_le run.plan.options.turn_limit (length run.journal) ≡ false)
unfolding is_over
none_by run going = or_parts (has_ended run.plan run.journal) (nat_le run.plan.options.turn_limit (length run.journal)) going

module _ (run : RunView) (workers : ℕ) (noted : List WorkerTurn) (used spare : ℕ) (places : List ℕ) (short : Bool) (is : IsWorked run workers noted used spare places short) where
  abbrev seen : WorkedView
  seen = record { plan = run.plan; workers = workers; list = listed noted run.journal; is_short = short }

  pub kept_so : IsKept run.plan run.journal
  kept_so = subst (IsKept run.plan) is.journal is.worked.kept

  -- it isn't over on the list where the run isn't
  pub not_over_on : (before : WorkedView) (taken : Result Bool AllocError) → seen ≡ before → (taken ≡ Ok false → ⊥) → is_over run.plan run.journal ≡ false → (taken ≡ Ok false) ↔ WasOver before.plan (journal_of before.list)
  not_over_on before taken same none going = (
    λ over. absurd (none over),
    λ was. absurd (true≢false (sym (was_over run.plan workers (listed noted run.journal) is.worked.rule (subst (λ (v : WorkedView). WasOver v.plan (journal_of v.list)) (sym same) was)) ∙ ap (is_over run.plan) is.journal ∙ going)),
  )

  -- there is room for a turn
  pub has_room : is_over run.plan run.journal ≡ false → used < spare
  has_room going =
      let more : length run.journal < run.plan.options.turn_limit = leb-false run.plan.options.turn_limit (length run.journal) (none_by run going).1 in
      let many : used ≡ length run.journal = is.many in
      let room : run.plan.options.turn_limit ≤ spare = is.room in
      omega (arith, more, many, room)

  module _ (worker from : ℕ) (at : from ≡ slice_index places worker) where
    abbrev last : Option Actor
    last = last_taken worker (owned run.plan workers worker) (paired_of (listed noted run.journal))

    pub goes_from : GoesOnFrom run.plan workers worker from last
    goes_from = subst (λ (n : ℕ). GoesOnFrom run.plan workers worker n last) (sym at) (is.rotation worker)

    -- someone is found
    pub finds_someone : is_over run.plan run.journal ≡ false → (found : Option Candidate) → found ≡ None → ((last : Option Actor) → GoesOnFrom run.plan workers worker from last → option_map (λ candidate. candidate.actor) found ≡ picked run.plan run.journal (owned run.plan workers worker) last) → ⊥
    finds_someone going found none picks =
        someone_picked run.plan run.journal workers worker from last goes_from (someone_may_go run.plan run.journal (is.going.goes run.journal kept_so (none_by run going).0))
        (sym (ap (option_map (λ (candidate : Candidate). candidate.actor)) none) ∙ picks last goes_from)

-- a step of an actor that may go takes a turn, unless there is no memory for it
pub takes_or_short : (before : RunView) (actor : Actor) (stepped : Stepped) (after : RunView) → FeedSteps before actor stepped after → is_over before.plan before.journal ≡ false → may_go before.plan before.journal actor ≡ true → (stepped ≡ Idle) ⊎ (stepped ≡ stepping.Over) → ⊥
takes_or_short before actor Idle after steps going goes is = true≢false (sym goes ∙ steps.2)
takes_or_short before actor stepping.Over after steps going goes is = true≢false (sym steps.0 ∙ going)
takes_or_short before actor stepping.Took after steps going goes (inl is) = cc
takes_or_short before actor stepping.Took after steps going goes (inr is) = cc
takes_or_short before actor stepping.NoMemory after steps going goes (inl is) = cc
takes_or_short before actor stepping.NoMemory after steps going goes (inr is) = cc

-- what a worker's turn leaves
pub works_opening : (before : WorkedView) (worker : ℕ) (taken : Result Bool AllocError) (after : WorkedView) → Works before worker taken after → (after.plan ≡ before.plan) × (after.workers ≡ before.workers)
works_opening before worker (Ok true) after works = (ap (λ (v : WorkedView). v.plan) works.taken, ap (λ (v : WorkedView). v.workers) works.taken)
works_opening before worker (Ok false) after works = (ap (λ (v : WorkedView). v.plan) works, ap (λ (v : WorkedView). v.workers) works)
works_opening before worker (Err error) after works = (ap (λ (v : WorkedView). v.plan) works, ap (λ (v : WorkedView). v.workers) works)

pub works_took : (before : WorkedView) (worker : ℕ) (taken : Result Bool AllocError) (after : WorkedView) → Works before worker taken after → taken ≡ Ok true → (event : Entry) × (after.list ≡ before.list ++ record { worker = worker; event = event } ∷ [])
works_took before worker (Ok true) after works is = (next_entry (journal_of before.list) (state_at before.plan (journal_of before.list)) works.turn, ap (λ (v : WorkedView). v.list) works.taken)
works_took before worker (Ok false) after works is = absurd (true≢false (sym (ap took_one is)))
works_took before worker (Err error) after works is = absurd (true≢false (sym (ap took_one is)))

pub works_else : (before : WorkedView) (worker : ℕ) (taken : Result Bool AllocError) (after : WorkedView) → Works before worker taken after → (taken ≡ Ok true → ⊥) → after.list ≡ before.list
works_else before worker (Ok true) after works other = absurd (other refl)
works_else before worker (Ok false) after works other = ap (λ (v : WorkedView). v.list) works
works_else before worker (Err error) after works other = ap (λ (v : WorkedView). v.list) works

-- where there was no memory for a turn
pub worked_short : (before after : RunView) (workers : ℕ) (noted : List WorkerTurn) (used spare : ℕ) (places : List ℕ) → IsWorked before workers noted used spare places false → is_over before.plan before.journal ≡ false → after.plan ≡ before.plan → after.journal ≡ before.journal → IsWorked after workers noted used spare places true
worked_short before after workers noted used spare places is going plan journal =
    subst (λ (run : RunView). IsWorked run workers noted used spare places true) (sym same) (record {
      going = is.going;
      journal = is.journal;
      turns = is.turns;
      worked = is.worked;
      server = λ fed. absurd (true≢false fed);
      short = λ short. going;
      some = is.some;
      count = is.count;
      rotation = is.rotation;
      many = is.many;
      room = is.room;
    })
  where
    same : after ≡ record { plan = before.plan; journal = before.journal; server = after.server }
    same = λ i. record { plan = plan i; journal = journal i; server = after.server }

-- where the run is over, the server stands at its end
pub stands : (run : RunView) (workers : ℕ) (noted : List WorkerTurn) (used spare : ℕ) (places : List ℕ) (short : Bool) → IsWorked run workers noted used spare places short → is_over run.plan run.journal ≡ true → run.server ≡ state_at run.plan run.journal
stands run workers noted used spare places false is over = is.server refl
stands run workers noted used spare places true is over = absurd (true≢false (sym over ∙ is.short refl))
