-- In a quiet run no wait but the renamer's is over, where the migrated table has no counter: so one that is within limits is done.
use Rattle.std.proofs.Common.{◌≡◌, ◌≢◌, ℕ, ◌+◌, Bool, true, false, List, [], ◌∷◌, ◌++◌, None, refl, sym, ap, ◌∙◌, subst, inl, inr, append_assoc, append-nil}
use Rattle.std.proofs.lemmas.Bool.{true≢false}
use Rattle.base_values.specs.Laws.{StoresAgain}
use Rattle.base_script.specs.declared.actor.Actor.{Actor}
use Rattle.base_script.specs.declared.actor.Actor.TheVariants.{Op, Insp, Copy, Apply, Lock, Ren, Client}
use Rattle.server_model.specs.Along.{Along}
use Rattle.server_model.specs.declared.answer.Answer.{Answer}
use Rattle.server_model.specs.declared.answer.Answer.TheVariants as answers
use Rattle.server_model.specs.declared.entry.Asked.TheVariants.{Call, Cut}
use Rattle.server_model.specs.declared.entry.Entry.{Entry}
use Rattle.server_model.specs.declared.request.Request.{Request}
use Rattle.server_model.specs.Entries.{same_actor}
use Rattle.server_model.specs.States.{names_in}
use Rattle.plan_data.specs.PlanData.{PlanData, has_counter}
use Rattle.tool_program.specs.JournalWords.Journals.{state_after}
use Rattle.tool_program.specs.JournalWords.Sessions.{live_session}
use Rattle.tool_program.specs.ChunkCopier.Copiers as copiers
use Rattle.tool_program.specs.declared.chunk_copier.copier.Copier.{Copier}
use Rattle.tool_program.specs.declared.chunk_copier.copier.CopyStep.{CopyStep}
use Rattle.tool_program.specs.declared.chunk_copier.copier.CopyStep.TheVariants.{Choosing, Spanning, Copying, Committing}
use Rattle.tool_program.specs.CutoverCore.CutOvers.{is_wait}
use Rattle.tool_program.specs.Setups.{Setup, Listing, Clearing, MakingLog, MakingGhost, Marking, Reaching, Ready, setup_after}
use Rattle.tool_program.specs.Tools.{Work, ToolPhase, SettingUp, Migrating, Moment, Tool, tool_phase_of, is_renamed, is_reverting, moment}
use Rattle.proof_journals.specs.Plans.{limits_of, scene_of, IsSerialPlan}
use Rattle.proof_journals.proofs.Actors.{same_actor_is}
use Rattle.proof_journals.proofs.Journals.{journal_holds}
use Rattle.proof_journals.specs.Run.Kept.{IsKept}
use Rattle.proof_journals.proofs.Run.Living.{all_living}
use Rattle.proof_journals.proofs.Run.Waits.{all_waits}
use Rattle.proof_migration.proofs.ToolPhase.ToolPhaseTurns.{AnswerKeeps, Kept, ResizeKeeps, UnfitKeeps, turn_kept}
use Rattle.proof_migration.proofs.ToolPhase.Owners.{together_owned}
use Rattle.proof_journals.specs.Machine.Laws.{VerdictsTellTheAlter}
use Rattle.proof_journals.specs.Machine.Runnable.{IsRunnable}
use Rattle.proof_journals.proofs.Machine.Inspecting.{IsNote}
use Rattle.proof_journals.proofs.Machine.Journals.{Asking, IsRun}
use Rattle.proof_migration.proofs.HeldNames.Changelog.{log_at_once}
use Rattle.proof_migration.proofs.HeldNames.Holders.{all_held_well}
use Rattle.proof_migration.proofs.Program.Turns.Follows.{kept_front, kept_run}
use Rattle.proof_migration.proofs.ToolPhase.Chunks.Onlines.{done_waits}
use Rattle.proof_plans.specs.Complete.Quiet.{IsQuiet, IsWithin, QuietRunsAreDone, RowsHaveConvertedRows, is_timed_out}
use Rattle.proof_plans.proofs.Complete.Alone.{asks_so, never_cut, unlost}
use Rattle.proof_plans.proofs.Complete.Quiet.{IsBounded, IsQuietSo, quiet_begins, quiet_more}
use Rattle.proof_plans.proofs.Complete.Smooth.{renamed_more, unreverted}
use Rattle.proof_plans.proofs.Complete.Untouched.{IsUntouched, unaltered, untouched}
use Rattle.proof_plans.proofs.Complete.Unwaited.{Chosen, Unwaited, copy_left, untimed, unwaited_more}

-- THE COPIER BEHIND ITS RANGE

chosen_took : (turn : ℕ) (copier : Copier) (answer : Answer) → copier.is_copied ≡ false → (copiers.took turn copier answer).is_copied ≡ true → copiers.starts (copiers.took turn copier answer) ≡ true
unfolding copiers.took
chosen_took turn copier answers.Lost left copied = refl
chosen_took turn copier (answers.TimedOut waited) left copied = refl
chosen_took turn copier answer left copied = by copier.step answer copied where
  never : {A : Type 0} → copier.is_copied ≡ true → A
  never is = absurd (true≢false (sym is ∙ left))

  by : (step : CopyStep) (answer : Answer) → (copiers.after_answer turn copier step answer).is_copied ≡ true → copiers.starts (copiers.after_answer turn copier step answer) ≡ true
  by Choosing (answers.End end) is = never is
  by Choosing answer is = never is
  by (Spanning reported size) (answers.Keys keys end) is = never is
  by (Spanning reported size) answer is = never is
  by (Copying chunk done) (answers.Ok count) is = never is
  by (Copying chunk done) answer is = never is
  by (Committing chunk) (answers.Ok count) is = refl
  by (Committing chunk) answer is = never is

module _ (plan : PlanData) (journal : List Entry) (entry : Entry) (uncut : entry.asked ≢ Cut) (left : (work : Work) → (moment plan journal).tool.tool_phase ≡ Migrating work → entry.actor ≡ Copy → work.copier.is_copied ≡ false) (was : Chosen (moment plan journal).tool.tool_phase) where
  abbrev now : Moment
  now = moment plan journal

  abbrev tool : Tool
  tool = record now.tool { turns = now.tool.turns + 1 }

  abbrev Next : Kept
  Next reverting tool_phase = reverting ≡ false → Chosen tool_phase

  work_chosen : (work : Work) → now.tool.tool_phase ≡ Migrating work → work.copier.is_copied ≡ true → copiers.starts work.copier ≡ true
  work_chosen work at = subst Chosen at was

  unfit_keeps : (work : Work) → now.tool.tool_phase ≡ Migrating work → UnfitKeeps Next work
  unfit_keeps work at = record { renamed = λ renamed onward. work_chosen work at; reverts = λ onward. absurd (true≢false onward) }

  set_up : (setup : Setup) (tries : List ℕ) → Chosen (tool_phase_of plan tool.operator.size setup tries)
  set_up Listing tries = tt
  set_up (Clearing some) tries = tt
  set_up MakingLog tries = tt
  set_up MakingGhost tries = tt
  set_up Marking tries = tt
  set_up (Reaching position) tries = tt
  set_up (Ready position range) tries = λ copied. refl

  keeps : (actor : Actor) → entry.actor ≡ actor → (tool_phase : ToolPhase) → now.tool.tool_phase ≡ tool_phase → AnswerKeeps plan Next entry.answer tool actor tool_phase
  keeps Copy who (Migrating work) at =
      record { reverting = λ reverting onward. work_chosen work at; unfit = λ goes place number unfit. unfit_keeps work at; took = λ goes fits tries onward. chosen_took tool.turns work.copier entry.answer (left work at who) }
  keeps Copy who (SettingUp setup tries) at = λ onward. tt
  keeps Apply who (SettingUp setup tries) at = λ onward. tt
  keeps Apply who (Migrating work) at = record { reverting = λ reverting onward. work_chosen work at; unfit = λ goes place number unfit. unfit_keeps work at; took = λ goes fits tries onward. work_chosen work at }
  keeps Lock who (SettingUp setup tries) at = λ onward. tt
  keeps Lock who (Migrating work) at = λ tries onward. work_chosen work at
  keeps Ren who (SettingUp setup tries) at = λ onward. tt
  keeps Ren who (Migrating work) at = λ tries onward. work_chosen work at
  keeps Insp who (Migrating work) at = λ tries onward. work_chosen work at
  keeps Insp who (SettingUp setup tries) at = record { reverting = λ reverting onward. tt; again = λ goes bad more onward. tt; goes = λ goes good onward. set_up (setup_after plan.table setup entry.answer) tries }
  keeps Op who (SettingUp setup tries) at = λ onward. tt
  keeps Op who (Migrating work) at = λ onward. work_chosen work at
  keeps (Client c) who (SettingUp setup tries) at = λ onward. tt
  keeps (Client c) who (Migrating work) at = λ onward. work_chosen work at

  sizes : (size : ℕ) (tool_phase : ToolPhase) → now.tool.tool_phase ≡ tool_phase → ResizeKeeps Next tool size tool_phase
  sizes size (Migrating work) at = λ onward. work_chosen work at
  sizes size (SettingUp setup tries) at = λ onward. tt

  chosen_more : is_reverting (moment plan (journal ++ entry ∷ [])).tool.reason ≡ false → Chosen (moment plan (journal ++ entry ∷ [])).tool.tool_phase
  chosen_more later =
      turn_kept plan Next (λ b tool_phase new onward. absurd (true≢false onward)) journal entry (λ b work tries new. new)
      (record { heard = λ called commanded. keeps entry.actor refl now.tool.tool_phase refl; lost = λ cut worked. absurd (uncut cut); idle = λ cut none onward. was; resized = λ size asked. sizes size now.tool.tool_phase refl; commanded = λ word asked unsized onward. was }) later

-- ONE TURN

record IsIdleSo (plan : PlanData) (journal : List Entry) : Type 0 where
  quiet : IsQuietSo plan journal
  waits : has_counter plan ≡ false → is_renamed (moment plan journal).tool.tool_phase ≡ false → Unwaited plan journal
  chosen : has_counter plan ≡ false → is_renamed (moment plan journal).tool.tool_phase ≡ false → Chosen (moment plan journal).tool.tool_phase

module _ (again : StoresAgain) (plan : PlanData) (quiet : IsQuiet plan) (converted_rows : RowsHaveConvertedRows plan) (runs : IsRunnable plan) (serial : IsSerialPlan plan) (journal : List Entry) (entry : Entry) (kept : IsKept plan (journal ++ entry ∷ [])) (is : IsIdleSo plan journal) where
  earlier : IsKept plan journal
  earlier = kept_front plan journal (entry ∷ []) kept

  here : IsRun plan journal entry
  here = kept_run plan journal entry kept

  asked : Asking plan journal entry.actor entry.asked
  asked = asks_so plan quiet journal entry is.quiet.nobody kept is.quiet.calm.stands.tabled.all.tool

  uncut : entry.asked ≢ Cut
  uncut = never_cut plan quiet journal entry is.quiet.nobody kept is.quiet.calm.stands.tabled.all.tool

  heard : entry.side ≡ None
  heard = unlost plan quiet journal entry is.quiet.nobody kept is.quiet.calm.stands.tabled.all.tool

  -- a note doesn't wait
  notes_done : (request : Request) → IsNote plan.table request → entry.actor ≡ Insp → entry.asked ≡ Call request → is_wait entry.answer ≡ false
  notes_done request note who asks = done_waits entry.answer (log_at_once plan runs journal entry earlier here (all_held_well plan journal runs serial earlier) who request (ap names_in note.is) asks heard)

  module _ (going : is_renamed (moment plan journal).tool.tool_phase ≡ false) where
    scene : IsUntouched plan journal
    scene = untouched plan journal runs serial earlier (unaltered plan journal runs serial earlier going is.quiet.calm.on.on) is.quiet.nobody (is.quiet.nothing going journal is.quiet.nobody)

    in_time : has_counter plan ≡ false → same_actor entry.actor Ren ≡ false → is_timed_out entry.answer ≡ false
    in_time uncounted = untimed plan journal entry uncounted is.quiet.calm.stands is.quiet.calm.on.none is.quiet.calm.on.on going here asked uncut heard is.quiet.nobody (all_living plan journal earlier.faithful earlier.sessions) (together_owned plan journal earlier.faithful earlier.follows).owned (all_waits plan journal earlier.faithful earlier.sessions)
        (journal_holds (limits_of plan) (scene_of plan journal) journal scene.scene) (is.quiet.reads going) (is.chosen uncounted going) (is.waits uncounted going) notes_done

    waits_now : has_counter plan ≡ false → Unwaited plan (journal ++ entry ∷ [])
    waits_now uncounted = unwaited_more plan journal entry uncounted is.quiet.calm.stands is.quiet.calm.on.none is.quiet.calm.on.on going here asked uncut heard is.quiet.nobody (all_living plan journal earlier.faithful earlier.sessions) (together_owned plan journal earlier.faithful earlier.follows).owned (all_waits plan journal earlier.faithful earlier.sessions)
        (journal_holds (limits_of plan) (scene_of plan journal) journal scene.scene) (is.quiet.reads going) (is.chosen uncounted going) (is.waits uncounted going) notes_done

    copies_left : has_counter plan ≡ false → (work : Work) → (moment plan journal).tool.tool_phase ≡ Migrating work → entry.actor ≡ Copy → work.copier.is_copied ≡ false
    copies_left uncounted = copy_left plan journal entry uncounted is.quiet.calm.stands is.quiet.calm.on.none is.quiet.calm.on.on going here asked uncut heard is.quiet.nobody (all_living plan journal earlier.faithful earlier.sessions) (together_owned plan journal earlier.faithful earlier.follows).owned (all_waits plan journal earlier.faithful earlier.sessions)
        (journal_holds (limits_of plan) (scene_of plan journal) journal scene.scene) (is.quiet.reads going) (is.chosen uncounted going) (is.waits uncounted going) notes_done

    bounded : IsWithin plan journal entry → IsBounded plan journal entry
    bounded within = record { timed = by (has_counter plan) refl (same_actor entry.actor Ren) refl; drained = within.drained } where
      by : (a : Bool) → has_counter plan ≡ a → (b : Bool) → same_actor entry.actor Ren ≡ b → is_timed_out entry.answer ≡ false
      by true counted b other = within.timed (inr counted)
      by false uncounted true same = within.timed (inl (same_actor_is entry.actor Ren same))
      by false uncounted false other = in_time uncounted other

    going_more : IsWithin plan journal entry → IsIdleSo plan (journal ++ entry ∷ [])
    going_more within = record { quiet = next; waits = λ uncounted later. waits_now uncounted; chosen = λ uncounted later. chosen_more plan journal entry uncut (copies_left uncounted) (is.chosen uncounted going) (ap is_reverting next.calm.on.none) } where
      next : IsQuietSo plan (journal ++ entry ∷ [])
      next = quiet_more again plan quiet converted_rows runs serial journal entry kept is.quiet (λ same. bounded within)

  idle_more : (is_renamed (moment plan journal).tool.tool_phase ≡ false → IsWithin plan journal entry) → IsIdleSo plan (journal ++ entry ∷ [])
  idle_more within = by (is_renamed (moment plan journal).tool.tool_phase) refl where
    by : (b : Bool) → is_renamed (moment plan journal).tool.tool_phase ≡ b → IsIdleSo plan (journal ++ entry ∷ [])
    by false going = going_more going (within going)
    by true done = record {
      quiet = quiet_more again plan quiet converted_rows runs serial journal entry kept is.quiet (λ going. absurd (true≢false (sym done ∙ going)));
      waits = λ uncounted later. absurd (true≢false (sym (renamed_more plan journal entry done is.quiet.calm.on.none).done ∙ later));
      chosen = λ uncounted later. absurd (true≢false (sym (renamed_more plan journal entry done is.quiet.calm.on.none).done ∙ later));
    }

-- WHOLE JOURNALS

abbrev Within : PlanData → List Entry → Entry → Type 0
Within plan before entry = is_renamed (moment plan before).tool.tool_phase ≡ false → IsWithin plan before entry

all_idle : StoresAgain → (plan : PlanData) → IsQuiet plan → RowsHaveConvertedRows plan → IsRunnable plan → IsSerialPlan plan → (journal rest : List Entry) → IsKept plan (journal ++ rest) → Along (Within plan) journal rest → IsIdleSo plan journal → IsIdleSo plan (journal ++ rest)
all_idle again plan quiet converted_rows runs serial journal [] kept within is = subst (IsIdleSo plan) (sym (append-nil journal)) is
all_idle again plan quiet converted_rows runs serial journal (entry ∷ rest) kept within is =
    let same : (journal ++ entry ∷ []) ++ rest ≡ journal ++ entry ∷ rest = append_assoc journal (entry ∷ []) rest in
    let kept_all : IsKept plan ((journal ++ entry ∷ []) ++ rest) = subst (IsKept plan) (sym same) kept in
    subst (IsIdleSo plan) same
    (all_idle again plan quiet converted_rows runs serial (journal ++ entry ∷ []) rest kept_all within.1 (idle_more again plan quiet converted_rows runs serial journal entry (kept_front plan (journal ++ entry ∷ []) rest kept_all) is within.0))

none_begins : (plan : PlanData) → Unwaited plan []
unfolding live_session state_after
none_begins plan a other = refl

idle_begins : (plan : PlanData) → IsRunnable plan → IsIdleSo plan []
unfolding moment
idle_begins plan runs = record { quiet = quiet_begins plan runs; waits = λ uncounted going. none_begins plan; chosen = λ uncounted going. tt }

-- *Quiet runs are done*
pub quiet_are_done : StoresAgain → VerdictsTellTheAlter → QuietRunsAreDone
quiet_are_done again tells plan journal quiet converted_rows runs serial kept within ended =
    unreverted tells plan journal runs.fitting runs.stands kept.faithful kept.follows (all_idle again plan quiet converted_rows runs serial [] journal kept within (idle_begins plan runs)).quiet.calm.on.none ended
