-- The last turn of a kept journal: where nothing is reverted after it, what was counted is, and so is what failed in it.
use Rattle.std.proofs.Common.{◌≡◌, ◌⊎◌, ℕ, ◌+◌, true, false, List, [], ◌∷◌, ◌++◌, length, take, None, refl, sym, ap, ◌∙◌, subst, inl, inr}
use Rattle.std.proofs.Math.Seq.{take-length}
use Rattle.std.proofs.lemmas.Bool.{false≢true}
use Rattle.std.proofs.lemmas.List.{length-append}
use Rattle.base_script.specs.declared.actor.Actor.{Actor}
use Rattle.base_script.specs.declared.actor.Actor.TheVariants.{Op, Insp, Copy, Apply, Lock, Ren, Client}
use Rattle.server_model.specs.declared.entry.Asked.{Asked}
use Rattle.server_model.specs.declared.entry.Asked.TheVariants.{Call, Poll, Command, Cut}
use Rattle.server_model.specs.declared.entry.Entry.{Entry}
use Rattle.server_model.specs.declared.outcome.Task.{Task}
use Rattle.server_model.specs.declared.outcome.Task.TheVariants as tasks
use Rattle.server_model.proofs.LockedRows.Tests.{are_one}
use Rattle.server_model.specs.Entries.{is_command, is_cut}
use Rattle.plan_data.specs.PlanData.{PlanData}
use Rattle.tool_program.specs.declared.cutover_core.cutover.Phase.{Phase}
use Rattle.tool_program.specs.declared.cutover_core.cutover.Phase.TheVariants.{Resting, Attempting, Ending, Finishing, Finished}
use Rattle.tool_program.specs.declared.cutover_core.cutover.Role.{Role}
use Rattle.tool_program.specs.declared.cutover_core.cutover.Role.TheVariants.{Inspector, Locker, Renamer}
use Rattle.tool_program.specs.CutoverCore.CutOvers.{may_succeed}
use Rattle.tool_program.specs.Failures.{is_actor_of, is_at, is_tried, drained_for, has_passed, IsUndrained, IsFailedTry}
use Rattle.tool_program.specs.Tools.{Work, ToolPhase, SettingUp, Migrating, Tool, Moment, is_reverting, actor_took, cutover_took, drains, moment}
use Rattle.proof_journals.specs.Machine.Runnable.{IsRunnable}
use Rattle.proof_journals.specs.Plans.{IsSerialPlan}
use Rattle.proof_journals.specs.Run.Kept.{IsKept}
use Rattle.proof_journals.proofs.Machine.Journals.{IsRun, IsTogether}
use Rattle.proof_migration.proofs.Attempt.Standing.{IsStanding, all_standing}
use Rattle.proof_migration.proofs.Attempt.Verdicts.Reasons.{ToolPhaseHolds}
use Rattle.proof_migration.proofs.Attempt.Verdicts.Standing.{all_held}
use Rattle.proof_migration.proofs.Program.Turns.Follows.{kept_front, kept_run}
use Rattle.proof_order.proofs.LeastCauses.BadTurns.{IsBadTurn, Why, IsLastTry, last_try, call_uncut, poll_uncut, final, bad_turn, not_command, lost_taken, took_by, drained_so}
use Rattle.proof_order.proofs.LeastCauses.CountedTries.{HasTry, Grows, ActorRises, asked_grows, drains_calm}
use Rattle.proof_order.proofs.LeastCauses.FailedTries.{MayFail, failed_setup, failed_chunk, failed_batch, drained_batch, failed_role, failed_drain}
use Rattle.proof_order.proofs.LeastCauses.Positions.{ReadsRise, AnswerRises, Rising, all_rise, turn_reads, done_rises}

-- WHO FAILS

pub setup_actor : (actor : Actor) → is_actor_of tasks.Setup actor ≡ true → actor ≡ Insp
setup_actor Insp is = refl
setup_actor Op is = absurd (false≢true is)
setup_actor Copy is = absurd (false≢true is)
setup_actor Apply is = absurd (false≢true is)
setup_actor Lock is = absurd (false≢true is)
setup_actor Ren is = absurd (false≢true is)
setup_actor (Client c) is = absurd (false≢true is)

pub chunk_actor : (number : ℕ) (actor : Actor) → is_actor_of (tasks.Chunk number) actor ≡ true → actor ≡ Copy
chunk_actor number Copy is = refl
chunk_actor number Op is = absurd (false≢true is)
chunk_actor number Insp is = absurd (false≢true is)
chunk_actor number Apply is = absurd (false≢true is)
chunk_actor number Lock is = absurd (false≢true is)
chunk_actor number Ren is = absurd (false≢true is)
chunk_actor number (Client c) is = absurd (false≢true is)

pub batch_actor : (position : ℕ) (actor : Actor) → is_actor_of (tasks.Batch position) actor ≡ true → actor ≡ Apply
batch_actor position Apply is = refl
batch_actor position Op is = absurd (false≢true is)
batch_actor position Insp is = absurd (false≢true is)
batch_actor position Copy is = absurd (false≢true is)
batch_actor position Lock is = absurd (false≢true is)
batch_actor position Ren is = absurd (false≢true is)
batch_actor position (Client c) is = absurd (false≢true is)

-- an attempt that may succeed each of the three may fail, and the locker one that it begins
may_fail : (role : Role) (phase : Phase) → may_succeed phase ≡ true → MayFail role phase
may_fail Locker (Attempting stage) going = tt
may_fail Inspector (Attempting stage) going = tt
may_fail Renamer (Attempting stage) going = tt
may_fail role Resting going = absurd (false≢true going)
may_fail role (Ending clearing) going = absurd (false≢true going)
may_fail role (Finishing clearing) going = absurd (false≢true going)
may_fail role Finished going = absurd (false≢true going)

lock_may : (phase : Phase) → is_tried Lock phase ≡ true → MayFail Locker phase
lock_may Resting tried = tt
lock_may (Attempting stage) tried = tt
lock_may (Ending clearing) tried = absurd (false≢true tried)
lock_may (Finishing clearing) tried = absurd (false≢true tried)
lock_may Finished tried = absurd (false≢true tried)

-- THE LAST TURN

module _ (plan : PlanData) (runs : IsRunnable plan) (serial : IsSerialPlan plan) (reads : ReadsRise plan) (journal : List Entry) (entry : Entry) (kept_more : IsKept plan (journal ++ entry ∷ [])) (before : (moment plan journal).tool.reason ≡ None) (calm : (moment plan (journal ++ entry ∷ [])).tool.reason ≡ None) where
  abbrev more : List Entry
  more = journal ++ entry ∷ []

  abbrev now : Moment
  now = moment plan journal

  abbrev tool : Tool
  tool = record now.tool { turns = now.tool.turns + 1 }

  kept : IsKept plan journal
  kept = kept_front plan journal (entry ∷ []) kept_more

  run : IsRun plan journal entry
  run = kept_run plan journal entry kept_more

  standing : IsStanding plan journal
  standing = all_standing plan journal runs.fitting runs.stands kept.faithful kept.follows

  together : IsTogether plan journal
  together = standing.tabled.all.tool

  going : is_reverting now.tool.reason ≡ false
  going = ap is_reverting before

  -- WHAT WAS COUNTED

  reads_now : (called : is_command entry.asked ≡ false) (uncut : is_cut entry.asked ≡ false) (work : Work) → now.tool.tool_phase ≡ Migrating work → entry.actor ≡ Apply → AnswerRises work.applier entry.answer
  reads_now called uncut work at who = turn_reads plan reads journal entry kept_more called uncut work at who going

  rises : is_command entry.asked ≡ false → is_cut entry.asked ≡ false → ActorRises plan entry.actor entry.answer tool now.tool.tool_phase
  rises called uncut work who at = done_rises tool.turns work.applier (subst (Rising (is_reverting now.tool.reason)) at (all_rise plan reads journal kept)) entry.answer (reads_now called uncut work at who)

  -- *What was counted is*
  pub still_counted : Grows now.tool.tool_phase (moment plan more).tool.tool_phase
  still_counted =
      subst (λ (t : Tool). Grows now.tool.tool_phase t.tool_phase) (sym (final plan journal entry together run))
      (asked_grows plan now.server entry entry.asked tool (λ called uncut. rises called uncut) (sym (ap (λ (t : Tool). t.reason) (final plan journal entry together run)) ∙ calm))

  -- WHAT FAILED

  -- so it is counted
  counted_by : (task : Task) (after : Tool) → (moment plan more).tool ≡ after → (after.reason ≡ None → HasTry task tool.turns after.tool_phase) → HasTry task tool.turns (moment plan more).tool.tool_phase
  counted_by task after same has_it = subst (λ (t : Tool). HasTry task tool.turns t.tool_phase) (sym same) (has_it (sym (ap (λ (t : Tool). t.reason) same) ∙ calm))

  setup_counted : entry.actor ≡ Insp → IsBadTurn plan journal entry → (tool_phase : ToolPhase) → now.tool.tool_phase ≡ tool_phase → is_at tasks.Setup entry.actor tool_phase ≡ true → HasTry tasks.Setup tool.turns (moment plan more).tool.tool_phase
  setup_counted who turn (SettingUp setup tries) at hand =
      counted_by tasks.Setup (actor_took plan Insp entry.answer (SettingUp setup tries) tool) (took_by plan journal entry together run Insp who (λ same. cc) (λ t. refl) (SettingUp setup tries) at turn)
      (λ still. failed_setup plan entry.answer setup tries tool before turn.bad still)
  setup_counted who turn (Migrating work) at hand = absurd (false≢true hand)

  chunk_counted : (number : ℕ) → entry.actor ≡ Copy → IsBadTurn plan journal entry → (tool_phase : ToolPhase) → now.tool.tool_phase ≡ tool_phase → is_at (tasks.Chunk number) entry.actor tool_phase ≡ true → HasTry (tasks.Chunk number) tool.turns (moment plan more).tool.tool_phase
  chunk_counted number who turn (Migrating work) at hand =
      counted_by (tasks.Chunk number) (actor_took plan Copy entry.answer (Migrating work) tool) (took_by plan journal entry together run Copy who (λ same. cc) (λ t. refl) (Migrating work) at turn)
      (λ still. failed_chunk plan number entry.answer work tool before (are_one work.copier.number number hand) turn.bad still)
  chunk_counted number who turn (SettingUp setup tries) at hand = absurd (false≢true hand)

  batch_counted : (position : ℕ) → entry.actor ≡ Apply → IsBadTurn plan journal entry → (tool_phase : ToolPhase) → now.tool.tool_phase ≡ tool_phase → is_at (tasks.Batch position) entry.actor tool_phase ≡ true → HasTry (tasks.Batch position) tool.turns (moment plan more).tool.tool_phase
  batch_counted position who turn (Migrating work) at hand = by entry.asked refl where
    after : Tool
    after = actor_took plan Apply entry.answer (Migrating work) tool

    failed : after.reason ≡ None → HasTry (tasks.Batch position) tool.turns after.tool_phase
    failed still = failed_batch plan position entry.answer work tool before (are_one work.applier.position position hand) turn.bad still

    drained : (entry.asked ≡ Cut → ⊥) → HasTry (tasks.Batch position) tool.turns (moment plan more).tool.tool_phase
    drained uncut =
        counted_by (tasks.Batch position) (drains plan after.tool_phase after) (drained_so plan journal entry together run work who at uncut)
        (λ still. drained_batch plan position tool.turns after.tool_phase after refl still (failed (drains_calm plan after.tool_phase after still)))

    by : (asked : Asked) → entry.asked ≡ asked → HasTry (tasks.Batch position) tool.turns (moment plan more).tool.tool_phase
    by Cut asks =
        counted_by (tasks.Batch position) after
        (lost_taken plan journal entry together run turn asks ∙ ap (λ (a : Actor). actor_took plan a entry.answer now.tool.tool_phase tool) who ∙ ap (λ (p : ToolPhase). actor_took plan Apply entry.answer p tool) at) failed
    by (Command word) asks = absurd (not_command plan journal entry together run Apply who (λ same. cc) word asks)
    by (Call request) asks = drained (λ cut. call_uncut request (sym asks ∙ cut))
    by Poll asks = drained (λ cut. poll_uncut (sym asks ∙ cut))
  batch_counted position who turn (SettingUp setup tries) at hand = absurd (false≢true hand)

  -- THE CUT-OVER

  module _ (work : Work) (at : now.tool.tool_phase ≡ Migrating work) where
    role_counted : (role : Role) → MayFail role work.cutover.phase → (moment plan more).tool ≡ cutover_took plan role entry.answer work tool → IsBadTurn plan journal entry → HasTry tasks.CutOver tool.turns (moment plan more).tool.tool_phase
    role_counted role may same turn = counted_by tasks.CutOver (cutover_took plan role entry.answer work tool) same (λ still. failed_role plan role entry.answer work tool may turn.bad still)

    three_counted : (actor : Actor) → entry.actor ≡ actor → is_actor_of tasks.CutOver actor ≡ true → is_tried actor work.cutover.phase ≡ true → IsBadTurn plan journal entry → HasTry tasks.CutOver tool.turns (moment plan more).tool.tool_phase
    three_counted Insp who kind hand turn = role_counted Inspector (may_fail Inspector work.cutover.phase hand) (took_by plan journal entry together run Insp who (λ same. cc) (λ t. refl) (Migrating work) at turn) turn
    three_counted Lock who kind hand turn = role_counted Locker (lock_may work.cutover.phase hand) (took_by plan journal entry together run Lock who (λ same. cc) (λ t. refl) (Migrating work) at turn) turn
    three_counted Ren who kind hand turn = role_counted Renamer (may_fail Renamer work.cutover.phase hand) (took_by plan journal entry together run Ren who (λ same. cc) (λ t. refl) (Migrating work) at turn) turn
    three_counted Op who kind hand turn = absurd (false≢true kind)
    three_counted Copy who kind hand turn = absurd (false≢true kind)
    three_counted Apply who kind hand turn = absurd (false≢true kind)
    three_counted (Client c) who kind hand turn = absurd (false≢true kind)

    whole : (turn : ℕ) → turn ≡ length journal + 1 → take turn more ≡ more
    whole turn same = ap (λ (n : ℕ). take n more) (same ∙ sym (length-append journal (entry ∷ []))) ∙ take-length more

    limit : work.cutover.drain_limit ≡ plan.options.drain_limit
    limit = (subst (ToolPhaseHolds plan journal) at (all_held plan journal kept.faithful kept.follows).holds.tool_phase).limit

    undrained_counted : IsUndrained plan more tool.turns entry now → HasTry tasks.CutOver tool.turns (moment plan more).tool.tool_phase
    undrained_counted un =
        counted_by tasks.CutOver (drains plan after.tool_phase after) same
        (λ still. failed_drain plan entry.answer work un.turns tool before at (drains_calm plan after.tool_phase after still) (sym (ap drained_for at) ∙ un.drained) (un.last ∙ sym limit)
        (ap (λ (t : Tool). has_passed t.tool_phase) (sym same) ∙ ap (λ (turns : List Entry). has_passed (moment plan turns).tool.tool_phase) (sym (whole tool.turns (ap (λ (n : ℕ). n + 1) together.turns))) ∙ un.following) still) where
          after : Tool
          after = actor_took plan Apply entry.answer (Migrating work) tool

          same : (moment plan more).tool ≡ drains plan after.tool_phase after
          same = drained_so plan journal entry together run work un.actor at un.called

  cut_over_counted : (tool_phase : ToolPhase) → now.tool.tool_phase ≡ tool_phase → is_at tasks.CutOver entry.actor tool_phase ≡ true → ((is_actor_of tasks.CutOver entry.actor ≡ true) × IsBadTurn plan journal entry) ⊎ IsUndrained plan more tool.turns entry now
      → HasTry tasks.CutOver tool.turns (moment plan more).tool.tool_phase
  cut_over_counted (Migrating work) at hand (inl bad) = three_counted work at entry.actor refl bad.0 hand bad.1
  cut_over_counted (Migrating work) at hand (inr undrained) = undrained_counted work at undrained
  cut_over_counted (SettingUp setup tries) at hand why = absurd (false≢true hand)

  -- EVERY TASK

  counted_so : (task : Task) → is_at task entry.actor now.tool.tool_phase ≡ true → Why plan journal entry together run tool.turns task entry now → HasTry task tool.turns (moment plan more).tool.tool_phase
  counted_so tasks.Setup hand (inl why) = setup_counted (setup_actor entry.actor why.0) (bad_turn plan journal entry together run tool.turns why.1) now.tool.tool_phase refl hand
  counted_so tasks.Setup hand (inr why) = absurd (let no : tasks.Setup ≡ tasks.CutOver = why.0 in cc)
  counted_so (tasks.Chunk number) hand (inl why) = chunk_counted number (chunk_actor number entry.actor why.0) (bad_turn plan journal entry together run tool.turns why.1) now.tool.tool_phase refl hand
  counted_so (tasks.Chunk number) hand (inr why) = absurd (let no : tasks.Chunk number ≡ tasks.CutOver = why.0 in cc)
  counted_so (tasks.Batch position) hand (inl why) = batch_counted position (batch_actor position entry.actor why.0) (bad_turn plan journal entry together run tool.turns why.1) now.tool.tool_phase refl hand
  counted_so (tasks.Batch position) hand (inr why) = absurd (let no : tasks.Batch position ≡ tasks.CutOver = why.0 in cc)
  counted_so tasks.CutOver hand (inl why) = cut_over_counted now.tool.tool_phase refl hand (inl (why.0, bad_turn plan journal entry together run tool.turns why.1))
  counted_so tasks.CutOver hand (inr why) = cut_over_counted now.tool.tool_phase refl hand (inr why.1)

  -- *What failed in the last turn is counted*
  pub last_counted : (task : Task) (turn : ℕ) → turn ≡ length journal + 1 → IsFailedTry plan more task turn → HasTry task turn (moment plan more).tool.tool_phase
  last_counted task turn same is =
      let last : IsLastTry plan journal entry together run task = last_try plan journal entry together run task turn same is in
      subst (λ (n : ℕ). HasTry task n (moment plan more).tool.tool_phase) (ap (λ (n : ℕ). n + 1) together.turns ∙ sym same) (counted_so task last.hand last.why)
