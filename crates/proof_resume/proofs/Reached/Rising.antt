-- The applier's position never falls.
use Rattle.std.proofs.Common.{◌≡◌, ℕ, ◌+◌, ◌≤◌, Bool, true, false, cond, List, [], ◌∷◌, ◌++◌, refl, sym, ap, ◌∙◌, subst, arith}
use Rattle.std.specs.Prelude.{◌==◌}
use Rattle.base_values.specs.declared.event.RowEvent.{RowEvent}
use Rattle.base_script.specs.declared.actor.Actor.{Actor}
use Rattle.base_script.specs.declared.actor.Actor.TheVariants.{Op, Insp, Copy, Apply, Lock, Ren, Client}
use Rattle.server_model.specs.declared.answer.Answer.{Answer}
use Rattle.server_model.specs.declared.answer.Answer.TheVariants as answers
use Rattle.server_model.specs.declared.entry.Asked.TheVariants.{Cut}
use Rattle.server_model.specs.declared.entry.Entry.{Entry}
use Rattle.plan_data.specs.PlanData.{PlanData}
use Rattle.tool_program.specs.JournalWords.Journals.{state_at}
use Rattle.tool_program.specs.declared.event_applier.applier.Applier.{Applier}
use Rattle.tool_program.specs.declared.event_applier.applier.ApplyStep.{ApplyStep}
use Rattle.tool_program.specs.declared.event_applier.applier.ApplyStep.TheVariants.{Reading, Beginning, Applying, Committing}
use Rattle.tool_program.specs.declared.event_applier.applier.Batch.{Batch}
use Rattle.tool_program.specs.EventApplier.Appliers as appliers
use Rattle.tool_program.specs.EventApplier.Appliers.{batch_of, moved}
use Rattle.tool_program.specs.EventApplier.Appliers.Doing.{Putting}
use Rattle.tool_program.specs.Tools.{ToolPhase, SettingUp, Migrating, Tool, Work, is_reverting, moment, stopped}
use Rattle.proof_journals.specs.Plans.{limits_of, scene_of}
use Rattle.proof_journals.specs.Run.Kept.{IsKept}
use Rattle.proof_journals.specs.Ghost.HeldKeys.{Clustered}
use Rattle.proof_journals.specs.Ghost.Rows.Moments.{Row}
use Rattle.proof_journals.specs.Ghost.Rows.Timelines.{Migration}
use Rattle.proof_journals.specs.Ghost.ToolTurns.{ToolMoment, ToolStands}
use Rattle.proof_journals.specs.Ghost.ToolTurns.ApplyPlan.{Resting, Planned, Returning}
use Rattle.proof_journals.specs.Ghost.ToolTurns.ToolStands.{at_rest, at_work, halfway, returns}
use Rattle.proof_journals.proofs.Sentry.Draining.{IsRead}
use Rattle.proof_journals.proofs.Sentry.Knowing.{Reads}
use Rattle.proof_migration.specs.ToolPhase.Unaltered.{IsUnaltered}
use Rattle.proof_migration.specs.Migration.Applier.ApplierPlace as applying
use Rattle.proof_migration.specs.Migration.Machines.{MigrationStands, moment_at}
use Rattle.proof_migration.specs.Program.Turns.Goes.{machines_in}
use Rattle.proof_migration.specs.Program.Turns.Laws.{GoesSomehow, IsMigrationOf}
use Rattle.proof_migration.proofs.ToolPhase.ToolPhaseTurns.{AnswerKeeps, ApplyKeeps, CopyKeeps, DrainKeeps, Kept, ResizeKeeps, TurnKeeps, UnfitKeeps, turn_kept}
use Rattle.proof_migration.proofs.ToolPhase.Unaltered.Away.{IsKnownAsked, all_asked, unaltered_front}
use Rattle.proof_migration.proofs.Program.Hints.Courses.{applier_reads}
use Rattle.proof_migration.proofs.Program.Hints.Known.{hints_go}
use Rattle.proof_migration.proofs.Program.Turns.ActorStates.{SomeActorStates, some_actor_states}
use Rattle.proof_migration.proofs.Program.Turns.Follows.{kept_front}
use Rattle.proof_resume.specs.Reached.Laws.{PositionsRise}

-- the sessions in which the two machines go on
actor_states : (plan : PlanData) (m : Migration) (rows : List Row) → IsMigrationOf plan m rows → (journal : List Entry) → IsKept plan journal → SomeActorStates journal
actor_states plan m rows of journal kept = let known : IsKnownAsked plan journal = all_asked plan journal of.runs kept.faithful kept.follows in some_actor_states journal known.marking.tabled.all.tool.known.sessions

-- where a batch is to be committed, its next position is not below the position
forward_of : (m : Migration) (at : Clustered m.schema) (rows : List Row) (copier applier : ℕ) (now : ToolMoment) (next : ℕ) → now.plan ≡ Planned next [] → ToolStands m at rows copier applier now → now.position ≤ next
forward_of m at rows copier applier now next plan (at_rest is kept) = absurd (let no : Resting ≡ Planned next [] = sym is ∙ plan in cc)
forward_of m at rows copier applier now next plan (at_work other todo is kept) =
    let both : Planned other todo ≡ Planned next [] = sym is ∙ plan in
    let same : other ≡ next = cc in
    let sum = kept.tool.applying.sum in
    let from = kept.tool.kept.joined.under_way.are.from in
    let here = kept.here in
    omega (arith, same, sum, from, here)
forward_of m at rows copier applier now next plan (halfway other old row rest is kept) = absurd (let no : Planned other (Putting row ∷ rest) ≡ Planned next [] = sym is ∙ plan in cc)
forward_of m at rows copier applier now next plan (returns other old row rest is kept) = absurd (let no : Returning other old row rest ≡ Planned next [] = sym is ∙ plan in cc)

-- what an answer makes of the position
after_rises : (turn : ℕ) (applier : Applier) (step : ApplyStep) (answer : Answer) → ((events : List RowEvent) (next : ℕ) → step ≡ Reading → answer ≡ answers.Events events next → applier.position ≤ next) → ((batch : Batch) → step ≡ Committing batch → applier.position ≤ batch.next)
    → applier.position ≤ (appliers.after_answer turn applier step answer).position
after_rises turn applier Reading (answers.Events events next) reads commits = by ((batch_of turn applier events next).statements == 0) where
  by : (b : Bool) → applier.position ≤ (cond b (moved applier (batch_of turn applier events next)) (record applier { step = Beginning (batch_of turn applier events next) })).position
  by true = reads events next refl refl
  by false = omega arith
after_rises turn applier Reading answer reads commits = omega arith
after_rises turn applier (Beginning batch) (answers.Ok count) reads commits = omega arith
after_rises turn applier (Beginning batch) answer reads commits = omega arith
after_rises turn applier (Applying batch done part) (answers.Ok count) reads commits = omega arith
after_rises turn applier (Applying batch done part) (answers.Refused number column) reads commits = omega arith
after_rises turn applier (Applying batch done part) answer reads commits = omega arith
after_rises turn applier (Committing batch) (answers.Ok count) reads commits = commits batch refl
after_rises turn applier (Committing batch) answer reads commits = omega arith

took_rises : (turn : ℕ) (applier : Applier) (answer : Answer) → ((events : List RowEvent) (next : ℕ) → applier.step ≡ Reading → answer ≡ answers.Events events next → applier.position ≤ next) → ((batch : Batch) → applier.step ≡ Committing batch → applier.position ≤ batch.next)
    → applier.position ≤ (appliers.took turn applier answer).position
unfolding appliers.took
took_rises turn applier answers.Lost reads commits = omega arith
took_rises turn applier (answers.TimedOut waited) reads commits = omega arith
took_rises turn applier answer reads commits = after_rises turn applier applier.step answer reads commits

module _ (plan : PlanData) (m : Migration) (at : Clustered m.schema) (rows : List Row) (of : IsMigrationOf plan m rows) (journal : List Entry) (entry : Entry) (work : Work) (kept : IsKept plan (journal ++ entry ∷ [])) (off : IsUnaltered plan (journal ++ entry ∷ [])) (tool_phase : (moment plan journal).tool.tool_phase ≡ Migrating work)
    (goes : is_reverting (moment plan journal).tool.reason ≡ false → GoesSomehow plan m at rows journal) where
  -- from a work on, the position hasn't fallen
  abbrev Rose : Kept
  Rose b (SettingUp setup tries) = Unit {0}
  Rose b (Migrating later) = work.applier.position ≤ later.applier.position

  before : IsKept plan journal
  before = kept_front plan journal (entry ∷ []) kept

  was_off : IsUnaltered plan journal
  was_off = unaltered_front plan journal (entry ∷ []) off

  still : work.applier.position ≤ work.applier.position
  still = omega arith

  here : (b : Bool) → Rose b (moment plan journal).tool.tool_phase
  here b = subst (Rose b) (sym tool_phase) still

  rose_back : (b : Bool) (later : ToolPhase) → Rose b later → Rose true (stopped later)
  rose_back b (SettingUp setup tries) rose = tt
  rose_back b (Migrating later) rose = rose

  unfit_so : UnfitKeeps Rose work
  unfit_so = record { renamed = λ is. still; reverts = still }

  committing : is_reverting (moment plan journal).tool.reason ≡ false → (batch : Batch) → work.applier.step ≡ Committing batch → work.applier.position ≤ batch.next
  committing going batch step =
      let it : GoesSomehow plan m at rows journal = goes going in
      let both : Migrating work ≡ Migrating it.work = sym tool_phase ∙ it.tool_phase in
      let same : it.work ≡ work = cc in
      let sessions : SomeActorStates journal = actor_states plan m rows of journal before in
      let stands : MigrationStands m at rows (limits_of plan) (scene_of plan []) journal (machines_in work sessions.copier sessions.applier) =
      subst (λ (w : Work). MigrationStands m at rows (limits_of plan) (scene_of plan []) journal (machines_in w sessions.copier sessions.applier)) same (it.goes.stands sessions.copier sessions.applier sessions.actor_states) in
      forward_of m at rows sessions.copier sessions.applier (moment_at m (state_at plan journal) journal (machines_in work sessions.copier sessions.applier)) batch.next (ap (applying.plan_at m journal) step) stands.tool.stands

  reading : entry.actor ≡ Apply → (entry.asked ≡ Cut → ⊥) → is_reverting (moment plan journal).tool.reason ≡ false → (events : List RowEvent) (next : ℕ) → work.applier.step ≡ Reading → entry.answer ≡ answers.Events events next → work.applier.position ≤ next
  reading same uncut going events next step is =
      let read : Reads plan.table (state_at plan (journal ++ entry ∷ [])).log work.applier entry.answer = applier_reads plan of.runs of.serial journal entry kept off (hints_go plan journal of.runs of.serial before was_off) work tool_phase same uncut going in
      let reported : IsRead plan.table (state_at plan (journal ++ entry ∷ [])).log work.applier.position events next = subst (Reads plan.table (state_at plan (journal ++ entry ∷ [])).log work.applier) is read in
      reported.forward

  module _ (tool : Tool) (reason : tool.reason ≡ (moment plan journal).tool.reason) where
    copy_so : (answer : Answer) → CopyKeeps Rose answer tool work
    copy_so answer = record { reverting = λ is. still; unfit = λ going place number is. unfit_so; took = λ going fits tries. still }

    apply_so : (answer : Answer) → (is_reverting tool.reason ≡ false → (events : List RowEvent) (next : ℕ) → work.applier.step ≡ Reading → answer ≡ answers.Events events next → work.applier.position ≤ next) → ApplyKeeps Rose answer tool work
    apply_so answer reads = record {
      reverting = λ is. still;
      unfit = λ going place number is. unfit_so;
      took = λ going fits tries. took_rises tool.turns work.applier answer (reads going) (committing (ap is_reverting (sym reason) ∙ going));
    }

    by_actor : (answer : Answer) (actor : Actor) → (actor ≡ Apply → is_reverting tool.reason ≡ false → (events : List RowEvent) (next : ℕ) → work.applier.step ≡ Reading → answer ≡ answers.Events events next → work.applier.position ≤ next) → AnswerKeeps plan Rose answer tool actor (Migrating work)
    by_actor answer Insp reads = λ tries. still
    by_actor answer Copy reads = copy_so answer
    by_actor answer Apply reads = apply_so answer (reads refl)
    by_actor answer Lock reads = λ tries. still
    by_actor answer Ren reads = λ tries. still
    by_actor answer Op reads = still
    by_actor answer (Client client) reads = still

  no_events : (events : List RowEvent) (next : ℕ) → answers.Lost ≡ answers.Events events next → ⊥
  no_events events next same = cc

  turned : TurnKeeps plan Rose (moment plan journal).server entry (record (moment plan journal).tool { turns = (moment plan journal).tool.turns + 1 })
  turned =
      record {
        commanded = λ word asks unsized. here (is_reverting (moment plan journal).tool.reason);
        resized = λ size asks. subst (ResizeKeeps Rose (record (moment plan journal).tool { turns = (moment plan journal).tool.turns + 1 }) size) (sym tool_phase) still;
        idle = λ asks rests. here (is_reverting (moment plan journal).tool.reason);
        lost = λ asks worked. subst (AnswerKeeps plan Rose answers.Lost (record (moment plan journal).tool { turns = (moment plan journal).tool.turns + 1 }) entry.actor) (sym tool_phase)
            (by_actor (record (moment plan journal).tool { turns = (moment plan journal).tool.turns + 1 }) refl answers.Lost entry.actor (λ same going events next step is. absurd (no_events events next is)));
        heard = λ uncut uncommanded. subst (AnswerKeeps plan Rose entry.answer (record (moment plan journal).tool { turns = (moment plan journal).tool.turns + 1 }) entry.actor) (sym tool_phase)
            (by_actor (record (moment plan journal).tool { turns = (moment plan journal).tool.turns + 1 }) refl entry.answer entry.actor (λ same going. reading same uncut going));
      }

  drained : DrainKeeps Rose
  drained b later tries rose = rose

  pub rises_by : (then_work : Work) → (moment plan (journal ++ entry ∷ [])).tool.tool_phase ≡ Migrating then_work → work.applier.position ≤ then_work.applier.position
  rises_by then_work then_tool_phase = subst (Rose (is_reverting (moment plan (journal ++ entry ∷ [])).tool.reason)) then_tool_phase (turn_kept plan Rose rose_back journal entry drained turned)

-- *Positions rise.*
pub positions_rise : PositionsRise
positions_rise plan m at rows of journal entry work then_work kept off tool_phase then_tool_phase goes = rises_by plan m at rows of journal entry work kept off tool_phase goes then_work then_tool_phase
