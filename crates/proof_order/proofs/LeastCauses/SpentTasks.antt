-- No task is spent before the turn in which the cause of a verdict stands.
use Rattle.std.proofs.Common.{◌≡◌, ◌⊎◌, ◌≤◌, ◌<◌, ℕ, zero, suc, ◌+◌, ◌-◌, ◌==◌, Bool, true, false, List, [], ◌∷◌, ◌++◌, length, take, Option, Some, None, refl, sym, ap, ◌∙◌, subst, inl, inr, arith}
use Rattle.std.specs.Prelude.{filter, reverse}
use Rattle.std.specs.List.{slice_get, AllByRecursion}
use Rattle.std.proofs.lemmas.Bool.Decides.{nat_tests}
use Rattle.std.proofs.lemmas.List.{take-append-le, length-append}
use Rattle.std.proofs.lemmas.Option.{slice_get_within}
use Rattle.server_model.specs.declared.entry.Entry.{Entry}
use Rattle.server_model.specs.declared.outcome.Task.{Task}
use Rattle.server_model.specs.declared.outcome.Task.TheVariants as tasks
use Rattle.server_model.proofs.LockedRows.Tests.{are_one}
use Rattle.plan_data.specs.PlanData.{PlanData}
use Rattle.tool_program.specs.Failures.{is_actor_of, IsTurn, waited_for, IsUndrained, has_passed, IsBad, IsFailedTry, IsSpent}
use Rattle.tool_program.specs.Tools.{Reason, Moment, is_renamed, is_reverting, moment}
use Rattle.proof_journals.specs.Machine.Runnable.{IsRunnable}
use Rattle.proof_journals.specs.Plans.{IsSerialPlan}
use Rattle.proof_journals.specs.Run.Kept.{IsKept}
use Rattle.proof_migration.proofs.KeptJournals.{each_kept}
use Rattle.proof_migration.proofs.Attempt.Verdicts.Tries.{Rises}
use Rattle.proof_order.specs.LeastCauses.{last_of}
use Rattle.proof_order.proofs.Grounds.{Follows, reason_more}
use Rattle.proof_order.proofs.LeastCauses.CountedTries.{tries_of, HasTry, IsCounted, not_over}
use Rattle.proof_order.proofs.LeastCauses.LastTurns.{still_counted, last_counted}
use Rattle.proof_order.proofs.LeastCauses.Positions.{ReadsRise}
use Rattle.proof_order.proofs.LeastCauses.RisingTurns.{IsIn, rises_of, up_to_last, of_last, as_many}

-- *Tries are left*: while nothing is reverted, and until the RENAME is known to be done, a task has failed less often than the plan
-- lets it (which `proof_bounds` shows)
abbrev pub TriesLeft : PlanData → Type 0
TriesLeft plan =
    (journal : List Entry) (task : Task) → IsKept plan journal → is_reverting (moment plan journal).tool.reason ≡ false → is_renamed (moment plan journal).tool.tool_phase ≡ false
    → length (tries_of task (moment plan journal).tool.tool_phase) < plan.options.default_retries

-- A TRY IS ONE OF EACH FRONT THAT HAS ITS TURN

got_front : (xs ys : List Entry) (i : ℕ) (x : Entry) → i < length xs → slice_get (xs ++ ys) i ≡ Some x → slice_get xs i ≡ Some x
got_front [] ys i x within is = absurd (omega (arith, within))
got_front (a ∷ xs) ys zero x within is = is
got_front (a ∷ xs) ys (suc i) x within is = got_front xs ys i x (omega (arith, within)) is

module _ (plan : PlanData) (front rest : List Entry) (turn : ℕ) (within : turn ≤ length front) where
  earlier : take (turn - 1) (front ++ rest) ≡ take (turn - 1) front
  earlier = take-append-le (turn - 1) front rest (omega (arith, within))

  front_turn : (entry : Entry) (before : Moment) → IsTurn plan (front ++ rest) turn entry before → IsTurn plan front turn entry before
  front_turn entry before is = record {
    from_one = is.from_one;
    stands = got_front front rest (turn - 1) entry (let one = is.from_one in omega (arith, within, one)) is.stands;
    moment = is.moment ∙ ap (moment plan) earlier;
  }

  front_bad : (entry : Entry) (before : Moment) → IsBad plan (front ++ rest) turn entry before → IsBad plan front turn entry before
  front_bad entry before (inl lost) = inl lost
  front_bad entry before (inr waited) =
      inr (record { over = waited.over; polls = ap (λ (turns : List Entry). waited_for (plan.options.tool_wait - 1) (reverse (filter (λ other. other.session == entry.session) turns))) (sym earlier) ∙ waited.polls })

  front_undrained : (entry : Entry) (before : Moment) → IsUndrained plan (front ++ rest) turn entry before → IsUndrained plan front turn entry before
  front_undrained entry before is = record {
    actor = is.actor;
    called = is.called;
    turns = is.turns;
    drained = is.drained;
    last = is.last;
    following = ap (λ (turns : List Entry). has_passed (moment plan turns).tool.tool_phase) (sym (take-append-le turn front rest within)) ∙ is.following;
  }

  pub front_try : (task : Task) → IsFailedTry plan (front ++ rest) task turn → IsFailedTry plan front task turn
  front_try task is = record { entry = is.entry; before = is.before; is = front_turn is.entry is.before is.is; at = is.at; why = why is.why } where
    why : ((is_actor_of task is.entry.actor ≡ true) × IsBad plan (front ++ rest) turn is.entry is.before) ⊎ ((task ≡ tasks.CutOver) × IsUndrained plan (front ++ rest) turn is.entry is.before)
        → ((is_actor_of task is.entry.actor ≡ true) × IsBad plan front turn is.entry is.before) ⊎ ((task ≡ tasks.CutOver) × IsUndrained plan front turn is.entry is.before)
    why (inl (actor, bad)) = inl (actor, front_bad is.entry is.before bad)
    why (inr (same, undrained)) = inr (same, front_undrained is.entry is.before undrained)

-- AFTER EVERY JOURNAL

-- where nothing is reverted nothing was
pub calm_before : (plan : PlanData) (journal : List Entry) (entry : Entry) → (moment plan (journal ++ entry ∷ [])).tool.reason ≡ None → (moment plan journal).tool.reason ≡ None
calm_before plan journal entry calm = by (reason_more plan journal entry) where
  by : Follows ((moment plan journal).tool.turns + 1) (moment plan journal).tool.reason (moment plan (journal ++ entry ∷ [])).tool.reason → (moment plan journal).tool.reason ≡ None
  by (inl same) = sym same ∙ calm
  by (inr none) = none.0

module _ (plan : PlanData) (runs : IsRunnable plan) (serial : IsSerialPlan plan) (reads : ReadsRise plan) where
  -- each failed try of a task is counted, or the task is over
  abbrev pub AllCounted : List Entry → Type 0
  AllCounted journal = (moment plan journal).tool.reason ≡ None → (task : Task) (turn : ℕ) → IsFailedTry plan journal task turn → IsCounted task turn (moment plan journal).tool.tool_phase

  counted_more : (journal : List Entry) (entry : Entry) → IsKept plan (journal ++ entry ∷ []) → AllCounted journal → AllCounted (journal ++ entry ∷ [])
  counted_more journal entry kept was calm task turn is = by (turn == length journal + 1) refl where
    before : (moment plan journal).tool.reason ≡ None
    before = calm_before plan journal entry calm

    up_to : turn ≤ length journal + 1
    up_to =
        let within = slice_get_within (journal ++ entry ∷ []) (turn - 1) is.entry is.is.stands in
        let long = length-append journal (entry ∷ []) in
        omega (arith, within, long)

    earlier : (b : Bool) → (turn == length journal + 1) ≡ b → b ≡ false → turn ≤ length journal
    earlier b same off = let most = up_to in let differ = same ∙ off in grind (arith, nat_tests, most, differ)

    by : (b : Bool) → (turn == length journal + 1) ≡ b → IsCounted task turn (moment plan (journal ++ entry ∷ [])).tool.tool_phase
    by true same = inl (last_counted plan runs serial reads journal entry kept before calm task turn (are_one turn (length journal + 1) same) is)
    by false differ = still_counted plan runs serial reads journal entry kept before calm task turn (was before task turn (front_try plan journal (entry ∷ []) turn (earlier false differ refl) task is))

  counted_begins : AllCounted []
  counted_begins calm task turn is = absurd (let none : None ≡ Some is.entry = is.is.stands in cc)

  -- *All is counted*
  pub all_counted : (journal : List Entry) → IsKept plan journal → AllCounted journal
  all_counted journal kept = each_kept plan AllCounted counted_more journal kept counted_begins

  -- WHAT IS SPENT IS REVERTED

  module _ (some : 1 ≤ plan.options.default_retries) (left : TriesLeft plan) where
    -- in the turn in which the last try of a task that is spent fails
    pub spent_reverts : (task : Task) (turns : List ℕ) (before : List Entry) (entry : Entry) (rest : List Entry) → IsKept plan (before ++ entry ∷ []) → length before + 1 ≡ last_of turns → IsSpent plan ((before ++ entry ∷ []) ++ rest) task turns
        → is_renamed (moment plan (before ++ entry ∷ [])).tool.tool_phase ≡ false → is_reverting (moment plan (before ++ entry ∷ [])).tool.reason ≡ true
    spent_reverts task turns before entry rest kept last spent unrenamed_so = by (moment plan front).tool.reason refl where
      front : List Entry
      front = before ++ entry ∷ []

      long : length front ≡ last_of turns
      long = length-append before (entry ∷ []) ∙ last

      rises : Rises turns
      rises = rises_of turns spent.rises

      tries_in : (turns : List ℕ) → AllByRecursion (IsFailedTry plan (front ++ rest) task) turns → AllByRecursion (λ turn. turn ≤ length front) turns → AllByRecursion (IsFailedTry plan front task) turns
      tries_in [] each within = tt
      tries_in (turn ∷ turns) each within = (front_try plan front rest turn within.0 task each.0, tries_in turns each.1 within.1)

      each : AllByRecursion (IsFailedTry plan front task) turns
      each = tries_in turns spent.each (subst (λ (n : ℕ). AllByRecursion (λ turn. turn ≤ n) turns) (sym long) (up_to_last turns rises))

      positive : 0 < length turns
      positive = let all = spent.all in omega (arith, all, some)

      none : (moment plan front).tool.reason ≡ None → ⊥
      none calm = omega (arith, fewer, most, same) where
        has_last : HasTry task (last_of turns) (moment plan front).tool.tool_phase
        has_last = last_counted plan runs serial reads before entry kept (calm_before plan before entry calm) calm task (last_of turns) (sym last) (of_last (IsFailedTry plan front task) turns positive each)

        has_it : (turn : ℕ) → IsCounted task turn (moment plan front).tool.tool_phase → IsIn turn (tries_of task (moment plan front).tool.tool_phase)
        has_it turn (inl has) = has.1
        has_it turn (inr over) = absurd (not_over task (moment plan front).tool.tool_phase has_last.0 over)

        among : (turns : List ℕ) → AllByRecursion (IsFailedTry plan front task) turns → AllByRecursion (λ turn. IsIn turn (tries_of task (moment plan front).tool.tool_phase)) turns
        among [] tries = tt
        among (turn ∷ turns) tries = (has_it turn (all_counted front kept calm task turn tries.0), among turns tries.1)

        most : length turns ≤ length (tries_of task (moment plan front).tool.tool_phase)
        most = as_many turns (tries_of task (moment plan front).tool.tool_phase) rises (among turns each)

        fewer : length (tries_of task (moment plan front).tool.tool_phase) < plan.options.default_retries
        fewer = left front task kept (ap is_reverting calm) unrenamed_so

        same : length turns ≡ plan.options.default_retries
        same = spent.all

      by : (reason : Option Reason) → (moment plan front).tool.reason ≡ reason → is_reverting (moment plan front).tool.reason ≡ true
      by None calm = absurd (none calm)
      by (Some reason) is = ap is_reverting is
