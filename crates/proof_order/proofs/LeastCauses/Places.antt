-- The verdict's cause has the first place among those that stand by its turn.
use Rattle.std.proofs.Common.{◌≡◌, ◌⊎◌, ◌≤◌, ◌<◌, ℕ, ◌+◌, ◌-◌, ◌==◌, Bool, true, false, List, [], ◌∷◌, ◌++◌, length, take, Option, Some, None, refl, sym, ap, ◌∙◌, subst, inl, inr, arith, append_assoc, length-append}
use Rattle.std.specs.List.{slice_get, AllByRecursion}
use Rattle.std.proofs.lemmas.Bool.{false≢true}
use Rattle.std.proofs.lemmas.Bool.Decides.{nat_tests}
use Rattle.base_values.specs.declared.value.Value.{Value}
use Rattle.base_script.specs.declared.actor.Actor.{Actor}
use Rattle.base_script.specs.declared.actor.Actor.TheVariants.{Insp, Copy, Apply}
use Rattle.base_script.specs.declared.operator.OperatorWord.TheVariants.{Panic}
use Rattle.server_model.specs.declared.answer.Answer.TheVariants as answers
use Rattle.server_model.specs.declared.entry.Asked.{Asked}
use Rattle.server_model.specs.declared.entry.Asked.TheVariants.{Call, Poll, Command, Cut}
use Rattle.server_model.specs.declared.entry.Entry.{Entry}
use Rattle.server_model.specs.declared.outcome.Cause.{Cause}
use Rattle.server_model.specs.declared.outcome.Cause.TheVariants as causes
use Rattle.server_model.specs.declared.outcome.Task.{Task}
use Rattle.server_model.specs.declared.outcome.Task.TheVariants as tasks
use Rattle.server_model.specs.declared.outcome.Verdict.TheVariants.{Reverted}
use Rattle.server_model.proofs.LockedRows.Tests.{are_one}
use Rattle.plan_data.specs.PlanData.{PlanData}
use Rattle.tool_program.specs.CutoverCore.CutOvers.{is_bad}
use Rattle.tool_program.specs.EventApplier.Appliers as appliers
use Rattle.tool_program.specs.Failures.{is_at, IsFailedTry, IsPanic, IsUnfit, IsSpent, Stands}
use Rattle.tool_program.specs.Tools.{Work, ToolPhase, SettingUp, Migrating, Reason, CopyUnfit, ApplyUnfit, Panicked, Spent, Tool, Moment, is_renamed, is_reverting, actor_took, turn_counts, asked_took, command_took, moment}
use Rattle.tool_program.specs.Verdicts.{verdict_of}
use Rattle.proof_journals.specs.Machine.Runnable.{IsRunnable}
use Rattle.proof_journals.specs.Plans.{IsSerialPlan}
use Rattle.proof_journals.specs.Run.Kept.{IsKept}
use Rattle.proof_journals.proofs.Machine.Journals.{IsRun, IsTogether, all_together}
use Rattle.proof_migration.proofs.Attempt.Verdicts.Standing.{IsGround, ground}
use Rattle.proof_migration.proofs.Attempt.Verdicts.Tries.{Rises}
use Rattle.proof_migration.proofs.Program.Turns.Follows.{kept_front, kept_run}
use Rattle.proof_order.specs.LeastCauses.{last_of, last_turn, rank, IsNoLater}
use Rattle.proof_order.proofs.Least.{IsSplit, split, stays, stood_by, unrenamed, panic_reverts}
use Rattle.proof_order.proofs.LeastUnfit.{no_cut, applier_reverted, unfit_reverts, concerned_by}
use Rattle.proof_order.proofs.LeastCauses.BadTurns.{IsBadTurn, Why, IsLastTry, last_try, call_uncut, poll_uncut, final, bad_turn, not_command, lost_taken, heard_taken, took_by}
use Rattle.proof_order.proofs.LeastCauses.Ranks.{AtMost, rank_of, cause_rank, setup_answer, copy_answer, apply_answer, panic_most, drain_stays}
use Rattle.proof_order.proofs.LeastCauses.CountedTries.{HasTry, IsCounted, Grows, tries_of, not_over, actor_grows}
use Rattle.proof_order.proofs.LeastCauses.FailedTries.{not_done, bad_apply, failed_batch, failed_fewer}
use Rattle.proof_order.proofs.LeastCauses.LastTurns.{setup_actor, chunk_actor, batch_actor}
use Rattle.proof_order.proofs.LeastCauses.Positions.{ReadsRise}
use Rattle.proof_order.proofs.LeastCauses.RisingTurns.{IsIn, rises_of, up_to_last, of_last, as_many}
use Rattle.proof_order.proofs.LeastCauses.SpentTasks.{TriesLeft, front_try, all_counted, spent_reverts}

-- WHAT A TURN SAYS OF THE VERDICT

-- where nothing was reverted before the turn all is after it, for a ground of this place at most
pub record IsTurning (plan : PlanData) (before : List Entry) (entry : Entry) (most : ℕ) : Type 0 where
  pub reverts : is_reverting (moment plan (before ++ entry ∷ [])).tool.reason ≡ true
  pub place : AtMost most (moment plan (before ++ entry ∷ [])).tool.reason

module _ (plan : PlanData) (before : List Entry) (entry : Entry) (most : ℕ) (turns : (moment plan before).tool.reason ≡ None → IsTurning plan before entry most) where
  abbrev front : List Entry
  front = before ++ entry ∷ []

  -- then all is reverted after it
  reverted_by : is_reverting (moment plan front).tool.reason ≡ true
  reverted_by = by (moment plan before).tool.reason refl where
    by : (reason : Option Reason) → (moment plan before).tool.reason ≡ reason → is_reverting (moment plan front).tool.reason ≡ true
    by None calm = (turns calm).reverts
    by (Some reason) is = ap is_reverting (stays plan before (entry ∷ []) reason is)

  module _ (rest : List Entry) (cause : Cause) (verdict : verdict_of plan (front ++ rest) ≡ Reverted cause) where
    some_same : (one other : Reason) → Some one ≡ Some other → one ≡ other
    some_same one other same = cc

    -- no later than the turn
    late_by : last_turn cause ≤ length before + 1
    late_by = let less = stood_by plan front rest cause reverted_by verdict in let long = length-append before (entry ∷ []) in omega (arith, less, long)

    -- nothing was reverted before it, where the cause is of this turn
    calm_by : last_turn cause ≡ length before + 1 → (moment plan before).tool.reason ≡ None
    calm_by same = by (moment plan before).tool.reason refl where
      by : (reason : Option Reason) → (moment plan before).tool.reason ≡ reason → (moment plan before).tool.reason ≡ None
      by None calm = calm
      by (Some reason) is =
          let earlier = stood_by plan before (entry ∷ rest) cause (ap is_reverting is) (ap (verdict_of plan) (sym (append_assoc before (entry ∷ []) rest)) ∙ verdict) in
          absurd (omega (arith, earlier, same))

    -- then it is of this place at most
    placed_by : last_turn cause ≡ length before + 1 → rank cause ≤ most
    placed_by same = by (moment plan front).tool.reason refl one.reverts one.place where
      one : IsTurning plan before entry most
      one = turns (calm_by same)

      by : (reason : Option Reason) → (moment plan front).tool.reason ≡ reason → is_reverting (moment plan front).tool.reason ≡ true → AtMost most (moment plan front).tool.reason → rank cause ≤ most
      by None calm on place = absurd (false≢true (sym (ap is_reverting calm) ∙ on))
      by (Some reason) is on place =
          let ground_is : IsGround plan (front ++ rest) cause = ground plan (front ++ rest) cause verdict in
          let same_ground : reason ≡ ground_is.reason = some_same reason ground_is.reason (sym (stays plan front rest reason is) ∙ ground_is.is) in
          let places : rank cause ≡ rank_of reason = sym (ap rank ground_is.same) ∙ cause_rank plan (front ++ rest) (moment plan (front ++ rest)).tool ground_is.reason ∙ ap rank_of (sym same_ground) in
          let less : rank_of reason ≤ most = subst (AtMost most) is place in
          omega (arith, places, less)

-- *No later*: where such a turn is in the journal, the verdict's cause is no later than one that stands by it
no_later : (plan : PlanData) (journal : List Entry) (turn : ℕ) (entry : Entry) (cause other : Cause) → IsKept plan journal → 0 < turn → slice_get journal (turn - 1) ≡ Some entry → verdict_of plan journal ≡ Reverted cause → last_turn other ≡ turn
    → ((before rest : List Entry) → journal ≡ (before ++ entry ∷ []) ++ rest → length before + 1 ≡ turn → IsKept plan (before ++ entry ∷ []) → (moment plan before).tool.reason ≡ None → IsTurning plan before entry (rank other)) → IsNoLater cause other
no_later plan journal turn entry cause other kept some stands verdict last turns = record {
  turn = let less = late_by plan before entry (rank other) turning at.rest cause verdict_so in omega (arith, less, long, last);
  place = λ same. placed_by plan before entry (rank other) turning at.rest cause verdict_so (same ∙ last ∙ sym long);
} where
  at : IsSplit journal (turn - 1) entry
  at = split journal (turn - 1) entry stands

  before : List Entry
  before = take (turn - 1) journal

  whole : journal ≡ (before ++ entry ∷ []) ++ at.rest
  whole = at.whole ∙ sym (append_assoc before (entry ∷ []) at.rest)

  long : length before + 1 ≡ turn
  long = let is = at.long in omega (arith, is, some)

  verdict_so : verdict_of plan ((before ++ entry ∷ []) ++ at.rest) ≡ Reverted cause
  verdict_so = ap (verdict_of plan) (sym whole) ∙ verdict

  turning : (moment plan before).tool.reason ≡ None → IsTurning plan before entry (rank other)
  turning = turns before at.rest whole long (kept_front plan (before ++ entry ∷ []) at.rest (subst (IsKept plan) whole kept))

any_place : (reason : Option Reason) → AtMost 2 reason
any_place None = tt
any_place (Some (CopyUnfit turn place number)) = omega arith
any_place (Some (ApplyUnfit turn place number)) = omega arith
any_place (Some (Panicked turn)) = omega arith
any_place (Some (Spent tasks.CutOver turns)) = omega arith
any_place (Some (Spent tasks.Setup turns)) = omega arith
any_place (Some (Spent (tasks.Chunk number) turns)) = omega arith
any_place (Some (Spent (tasks.Batch position) turns)) = omega arith

calm_place : (most : ℕ) (reason : Option Reason) → reason ≡ None → AtMost most reason
calm_place most reason calm = subst (AtMost most) (sym calm) tt

-- A TURN OF EACH KIND

module _ (plan : PlanData) (runs : IsRunnable plan) (serial : IsSerialPlan plan) (reads : ReadsRise plan) (some : 1 ≤ plan.options.default_retries) (left : TriesLeft plan) where
  module _ (before : List Entry) (entry : Entry) (kept : IsKept plan (before ++ entry ∷ [])) (calm : (moment plan before).tool.reason ≡ None) where
    abbrev now : Moment
    now = moment plan before

    abbrev tool : Tool
    tool = record now.tool { turns = now.tool.turns + 1 }

    abbrev last : Tool
    last = (moment plan (before ++ entry ∷ [])).tool

    front_kept : IsKept plan before
    front_kept = kept_front plan before (entry ∷ []) kept

    run : IsRun plan before entry
    run = kept_run plan before entry kept

    together : IsTogether plan before
    together = all_together plan before front_kept.faithful front_kept.follows

    was : (most : ℕ) → AtMost most tool.reason
    was most = calm_place most now.tool.reason calm

    place_of : (most : ℕ) (after : Tool) → last ≡ after → AtMost most after.reason → AtMost most last.reason
    place_of most after same is = subst (λ (t : Tool). AtMost most t.reason) (sym same) is

    -- PANIC

    panic_turns : entry.asked ≡ Command Panic → is_renamed now.tool.tool_phase ≡ false → IsTurning plan before entry 0
    panic_turns asks off = record {
      reverts = panic_reverts plan before entry asks off;
      place = place_of 0 (command_took Panic tool) (final plan before entry together run ∙ ap (λ (a : Asked). asked_took plan now.server entry a tool) asks) (panic_most 0 tool (was 0));
    }

    -- A ROW THAT DOESN'T FIT

    unfit_place : (place number : ℕ) (refused : entry.answer ≡ answers.Refused number (Some place)) (off : is_renamed now.tool.tool_phase ≡ false) → (entry.actor ≡ Copy) ⊎ (entry.actor ≡ Apply) → AtMost 0 last.reason
    unfit_place place number refused off who = by who where
      good : is_bad entry.answer ≡ true → 1 ≤ 0
      good bad = absurd (false≢true (sym (ap is_bad refused) ∙ bad))

      uncut : entry.asked ≡ Cut → ⊥
      uncut = no_cut plan before entry kept place number refused (ap is_reverting calm) off

      by : (entry.actor ≡ Copy) ⊎ (entry.actor ≡ Apply) → AtMost 0 last.reason
      by (inl copies) =
          place_of 0 (actor_took plan Copy entry.answer now.tool.tool_phase tool)
          (heard_taken plan before entry together run uncut (not_command plan before entry together run Copy copies (λ same. cc)) ∙ ap (λ (a : Actor). turn_counts plan a (actor_took plan a entry.answer now.tool.tool_phase tool)) copies)
          (copy_answer 0 plan entry.answer now.tool.tool_phase tool (was 0) good)
      by (inr applies) =
          place_of 0 (turn_counts plan Apply (actor_took plan Apply entry.answer now.tool.tool_phase tool))
          (heard_taken plan before entry together run uncut (not_command plan before entry together run Apply applies (λ same. cc)) ∙ ap (λ (a : Actor). turn_counts plan a (actor_took plan a entry.answer now.tool.tool_phase tool)) applies)
          (subst (AtMost 0) (sym (drain_stays plan (actor_took plan Apply entry.answer now.tool.tool_phase tool) (applier_reverted plan before entry kept place number refused (ap is_reverting calm) off applies)))
          (apply_answer 0 plan entry.answer now.tool.tool_phase tool (was 0) good))

    unfit_turns : (place number : ℕ) → entry.answer ≡ answers.Refused number (Some place) → is_renamed now.tool.tool_phase ≡ false → (entry.actor ≡ Copy) ⊎ (entry.actor ≡ Apply) → IsTurning plan before entry 0
    unfit_turns place number refused off who = record { reverts = unfit_reverts plan before entry kept place number refused (ap is_reverting calm) off who; place = unfit_place place number refused off who }

    -- A TASK THAT IS SPENT

    -- with the batch's last try all is reverted, before the turn counts for the drain
    batch_reverts : (position : ℕ) (turns : List ℕ) (rest : List Entry) → entry.actor ≡ Apply → IsBadTurn plan before entry → (work : Work) → now.tool.tool_phase ≡ Migrating work → is_at (tasks.Batch position) entry.actor (Migrating work) ≡ true → is_renamed now.tool.tool_phase ≡ false
        → length before + 1 ≡ last_of turns → IsSpent plan ((before ++ entry ∷ []) ++ rest) (tasks.Batch position) turns → is_reverting (actor_took plan Apply entry.answer (Migrating work) tool).reason ≡ true
    batch_reverts position turns rest who bad work at hand off long spent = by taken.reason refl where
      taken : Tool
      taken = actor_took plan Apply entry.answer (Migrating work) tool

      task : Task
      task = tasks.Batch position

      none : taken.reason ≡ None → ⊥
      none still = omega (arith, most, fewer, same) where
        has_last : HasTry task tool.turns taken.tool_phase
        has_last = failed_batch plan position entry.answer work tool calm (are_one work.applier.position position hand) bad.bad still

        grows : Grows (Migrating work) taken.tool_phase
        grows =
            actor_grows plan Apply entry.answer (Migrating work) tool at
            (λ one apply same done. absurd (not_done (appliers.progress one.applier entry.answer) (bad_apply one.applier entry.answer bad.bad) done)) still

        counted : (turn : ℕ) → IsCounted task turn taken.tool_phase → IsIn turn (tries_of task taken.tool_phase)
        counted turn (inl has) = has.1
        counted turn (inr over) = absurd (not_over task taken.tool_phase has_last.0 over)

        now_turn : tool.turns ≡ last_of turns
        now_turn = ap (λ (n : ℕ). n + 1) together.turns ∙ long

        earlier : (turn : ℕ) → turn ≤ length before → IsFailedTry plan ((before ++ entry ∷ []) ++ rest) task turn → IsIn turn (tries_of task taken.tool_phase)
        earlier turn within is =
            counted turn (grows task turn
            (subst (IsCounted task turn) at (all_counted plan runs serial reads before front_kept calm task turn
            (front_try plan before (entry ∷ rest) turn within task (subst (λ (j : List Entry). IsFailedTry plan j task turn) (append_assoc before (entry ∷ []) rest) is)))))

        at_turn : (turn : ℕ) → turn ≤ last_of turns → IsFailedTry plan ((before ++ entry ∷ []) ++ rest) task turn → IsIn turn (tries_of task taken.tool_phase)
        at_turn turn within is = at_last (turn == last_of turns) refl where
          at_last : (b : Bool) → (turn == last_of turns) ≡ b → IsIn turn (tries_of task taken.tool_phase)
          at_last true same = subst (λ (n : ℕ). IsIn n (tries_of task taken.tool_phase)) (now_turn ∙ sym (are_one turn (last_of turns) same)) has_last.1
          at_last false differ = earlier turn (let most = within in let length_is = long in grind (arith, nat_tests, most, length_is, differ)) is

        among : (turns_left : List ℕ) → AllByRecursion (IsFailedTry plan ((before ++ entry ∷ []) ++ rest) task) turns_left → AllByRecursion (λ turn. turn ≤ last_of turns) turns_left → AllByRecursion (λ turn. IsIn turn (tries_of task taken.tool_phase)) turns_left
        among [] each within = tt
        among (turn ∷ turns_left) each within = (at_turn turn within.0 each.0, among turns_left each.1 within.1)

        rises : Rises turns
        rises = rises_of turns spent.rises

        most : length turns ≤ length (tries_of task taken.tool_phase)
        most = as_many turns (tries_of task taken.tool_phase) rises (among turns spent.each (up_to_last turns rises))

        fewer : length (tries_of task taken.tool_phase) < plan.options.default_retries
        fewer =
            failed_fewer plan position entry.answer work tool calm bad.bad (ap is_renamed (sym at) ∙ off)
            (subst (λ (p : ToolPhase). length (tries_of task p) < plan.options.default_retries) at (left before task front_kept (ap is_reverting calm) off)) still

        same : length turns ≡ plan.options.default_retries
        same = spent.all

      by : (reason : Option Reason) → taken.reason ≡ reason → is_reverting taken.reason ≡ true
      by None still = absurd (none still)
      by (Some reason) is = ap is_reverting is

    module _ (turns : List ℕ) (rest : List Entry) (off : is_renamed now.tool.tool_phase ≡ false) (long : length before + 1 ≡ last_of turns) where
      abbrev whole : List Entry
      whole = (before ++ entry ∷ []) ++ rest

      -- the task's place
      spent_place : (task : Task) → IsSpent plan whole task turns → IsLastTry plan before entry together run task → AtMost (rank (causes.Spent task turns)) last.reason
      spent_place tasks.CutOver spent tried = any_place last.reason
      spent_place tasks.Setup spent tried = by tried.why now.tool.tool_phase refl tried.hand where
        by : Why plan before entry together run tool.turns tasks.Setup entry now → (tool_phase : ToolPhase) → now.tool.tool_phase ≡ tool_phase → is_at tasks.Setup entry.actor tool_phase ≡ true → AtMost 1 last.reason
        by (inl why) (SettingUp setup tries) at hand =
            place_of 1 (actor_took plan Insp entry.answer (SettingUp setup tries) tool) (took_by plan before entry together run Insp (setup_actor entry.actor why.0) (λ same. cc) (λ t. refl) (SettingUp setup tries) at (bad_turn plan before entry together run tool.turns why.1))
            (setup_answer 1 plan setup tries entry.answer tool (was 1) (omega arith))
        by (inl why) (Migrating work) at hand = absurd (false≢true hand)
        by (inr why) tool_phase at hand = absurd (let no : tasks.Setup ≡ tasks.CutOver = why.0 in cc)
      spent_place (tasks.Chunk number) spent tried = by tried.why where
        by : Why plan before entry together run tool.turns (tasks.Chunk number) entry now → AtMost 1 last.reason
        by (inl why) =
            place_of 1 (actor_took plan Copy entry.answer now.tool.tool_phase tool) (took_by plan before entry together run Copy (chunk_actor number entry.actor why.0) (λ same. cc) (λ t. refl) now.tool.tool_phase refl (bad_turn plan before entry together run tool.turns why.1))
            (copy_answer 1 plan entry.answer now.tool.tool_phase tool (was 1) (λ bad. omega arith))
        by (inr why) = absurd (let no : tasks.Chunk number ≡ tasks.CutOver = why.0 in cc)
      spent_place (tasks.Batch position) spent tried = by tried.why now.tool.tool_phase refl tried.hand where
        applier_place : AtMost 1 (actor_took plan Apply entry.answer now.tool.tool_phase tool).reason
        applier_place = apply_answer 1 plan entry.answer now.tool.tool_phase tool (was 1) (λ bad. omega arith)

        by : Why plan before entry together run tool.turns (tasks.Batch position) entry now → (tool_phase : ToolPhase) → now.tool.tool_phase ≡ tool_phase → is_at (tasks.Batch position) entry.actor tool_phase ≡ true → AtMost 1 last.reason
        by (inl why) (Migrating work) at hand = asked_place entry.asked refl where
          who : entry.actor ≡ Apply
          who = batch_actor position entry.actor why.0

          bad : IsBadTurn plan before entry
          bad = bad_turn plan before entry together run tool.turns why.1

          on : is_reverting (actor_took plan Apply entry.answer now.tool.tool_phase tool).reason ≡ true
          on = subst (λ (p : ToolPhase). is_reverting (actor_took plan Apply entry.answer p tool).reason ≡ true) (sym at) (batch_reverts position turns rest who bad work at hand off long spent)

          drained : (entry.asked ≡ Cut → ⊥) → AtMost 1 last.reason
          drained uncut =
              place_of 1 (turn_counts plan Apply (actor_took plan Apply entry.answer now.tool.tool_phase tool))
              (heard_taken plan before entry together run uncut (not_command plan before entry together run Apply who (λ same. cc)) ∙ ap (λ (a : Actor). turn_counts plan a (actor_took plan a entry.answer now.tool.tool_phase tool)) who)
              (subst (AtMost 1) (sym (drain_stays plan (actor_took plan Apply entry.answer now.tool.tool_phase tool) on)) applier_place)

          asked_place : (asked : Asked) → entry.asked ≡ asked → AtMost 1 last.reason
          asked_place Cut asks =
              place_of 1 (actor_took plan Apply entry.answer now.tool.tool_phase tool) (lost_taken plan before entry together run bad asks ∙ ap (λ (a : Actor). actor_took plan a entry.answer now.tool.tool_phase tool) who) applier_place
          asked_place (Command word) asks = absurd (not_command plan before entry together run Apply who (λ same. cc) word asks)
          asked_place (Call request) asks = drained (λ cut. call_uncut request (sym asks ∙ cut))
          asked_place Poll asks = drained (λ cut. poll_uncut (sym asks ∙ cut))
        by (inl why) (SettingUp setup tries) at hand = absurd (false≢true hand)
        by (inr why) tool_phase at hand = absurd (let no : tasks.Batch position ≡ tasks.CutOver = why.0 in cc)

      spent_turns : (task : Task) → IsSpent plan whole task turns → IsFailedTry plan (before ++ entry ∷ []) task (last_of turns) → is_renamed last.tool_phase ≡ false → IsTurning plan before entry (rank (causes.Spent task turns))
      spent_turns task spent try still_off = record {
        reverts = spent_reverts plan runs serial reads some left task turns before entry rest kept long spent still_off;
        place = spent_place task spent (last_try plan before entry together run task (last_of turns) (sym long) try);
      }

  -- EVERY CAUSE

  -- until all is reverted the RENAME isn't known to be done
  off_at : (front rest : List Entry) (cause : Cause) → IsKept plan front → verdict_of plan (front ++ rest) ≡ Reverted cause → is_renamed (moment plan front).tool.tool_phase ≡ false
  off_at front rest cause kept verdict = unrenamed plan front rest cause runs.fitting runs.stands kept.faithful kept.follows verdict

  module _ (journal : List Entry) (cause : Cause) (kept : IsKept plan journal) (verdict : verdict_of plan journal ≡ Reverted cause) where
    off_before : (before : List Entry) (entry : Entry) (rest : List Entry) → journal ≡ (before ++ entry ∷ []) ++ rest → IsKept plan (before ++ entry ∷ []) → is_renamed (moment plan before).tool.tool_phase ≡ false
    off_before before entry rest whole front_kept =
        off_at before (entry ∷ rest) cause (kept_front plan before (entry ∷ []) front_kept) (ap (verdict_of plan) (sym (append_assoc before (entry ∷ []) rest)) ∙ ap (verdict_of plan) (sym whole) ∙ verdict)

    off_after : (before : List Entry) (entry : Entry) (rest : List Entry) → journal ≡ (before ++ entry ∷ []) ++ rest → IsKept plan (before ++ entry ∷ []) → is_renamed (moment plan (before ++ entry ∷ [])).tool.tool_phase ≡ false
    off_after before entry rest whole front_kept = off_at (before ++ entry ∷ []) rest cause front_kept (ap (verdict_of plan) (sym whole) ∙ verdict)

    panic_least : (turn : ℕ) → IsPanic plan journal turn → IsNoLater cause (causes.Panic turn)
    panic_least turn panic =
        no_later plan journal turn panic.entry cause (causes.Panic turn) kept panic.is.from_one panic.is.stands verdict refl
        (λ before rest whole long front_kept calm. panic_turns before panic.entry front_kept calm panic.asked (off_before before panic.entry rest whole front_kept))

    unfit_least : (turn : ℕ) (key : List Value) (column : List ℕ) (number : ℕ) → IsUnfit plan journal turn key column number → IsNoLater cause (causes.Unfit turn key column number)
    unfit_least turn key column number unfit =
        no_later plan journal turn unfit.entry cause (causes.Unfit turn key column number) kept unfit.is.from_one unfit.is.stands verdict refl
        (λ before rest whole long front_kept calm. unfit_turns before unfit.entry front_kept calm unfit.place number unfit.refused (off_before before unfit.entry rest whole front_kept)
        (concerned_by plan (take (turn - 1) journal) unfit.before unfit.entry.actor key unfit.row unfit.concerned))

    spent_least : (task : Task) (turns : List ℕ) → IsSpent plan journal task turns → IsNoLater cause (causes.Spent task turns)
    spent_least task turns spent =
        no_later plan journal (last_of turns) try.entry cause (causes.Spent task turns) kept try.is.from_one try.is.stands verdict refl
        (λ before rest whole long front_kept calm.
        let so : IsSpent plan ((before ++ try.entry ∷ []) ++ rest) task turns = subst (λ (j : List Entry). IsSpent plan j task turns) whole spent in
        spent_turns before try.entry front_kept calm turns rest (off_before before try.entry rest whole front_kept) long task so
        (front_try plan (before ++ try.entry ∷ []) rest (last_of turns) (let more = length-append before (try.entry ∷ []) in omega (arith, more, long)) task (subst (λ (j : List Entry). IsFailedTry plan j task (last_of turns)) whole try))
        (off_after before try.entry rest whole front_kept)) where
          try : IsFailedTry plan journal task (last_of turns)
          try = of_last (IsFailedTry plan journal task) turns (let all = spent.all in omega (arith, all, some)) spent.each

    -- *The verdict's cause is the least*
    pub cause_least : (other : Cause) → Stands plan journal other → IsNoLater cause other
    unfolding Stands
    cause_least (causes.Panic turn) stands = panic_least turn stands
    cause_least (causes.Unfit turn key column number) stands = unfit_least turn key column number stands
    cause_least (causes.Spent task turns) stands = spent_least task turns stands
