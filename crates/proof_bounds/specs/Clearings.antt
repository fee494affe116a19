-- How many turns go to losses, to what is cleared up and to rows of notes, as far as what is done after the RENAME goes on.
use Rattle.std.specs.Prelude.{◌≡◌, ◌≤◌, ◌<◌, ℕ, true, false, List, [], None}
use Rattle.base_script.specs.declared.actor.Actor.TheVariants.{Insp, Ren}
use Rattle.server_model.specs.Along.{Along}
use Rattle.server_model.specs.Entries.{is_command, is_cut}
use Rattle.server_model.specs.declared.entry.Entry.{Entry}
use Rattle.plan_data.specs.PlanData.{PlanData}
use Rattle.tool_program.specs.JournalWords.Journals.{IsFaithful}
use Rattle.tool_program.specs.JournalWords.KeptPlans.{KeepsPlan}
use Rattle.tool_program.specs.Programs.{Follows}
use Rattle.tool_program.specs.declared.cutover_core.cutover.Clearing.{Clearing}
use Rattle.tool_program.specs.declared.cutover_core.cutover.Clearing.TheVariants.{Looking, Drops}
use Rattle.tool_program.specs.declared.cutover_core.cutover.Phase.{Phase}
use Rattle.tool_program.specs.declared.cutover_core.cutover.Phase.TheVariants.{Resting, Attempting, Ending, Finishing, Finished}
use Rattle.tool_program.specs.declared.cutover_core.cutover.Role.TheVariants.{Inspector}
use Rattle.tool_program.specs.CutoverCore.CutOvers.{is_done, took}
use Rattle.tool_program.specs.Tools.{ToolPhase, SettingUp, Migrating, Work, moment}
use Rattle.proof_journals.specs.Machine.Scripts.{ScriptsFit}
use Rattle.proof_bounds.specs.Laws.{MayWait}
use Rattle.proof_bounds.specs.Notes.{NoteGoes, is_note}
use Rattle.proof_bounds.specs.Parts.{OfClearing, turns_of_part}
use Rattle.proof_bounds.specs.Setups.{names_left}
use Rattle.tool_program.specs.JournalWords.Bounds.{measures}
use Rattle.proof_bounds.specs.Terms.{term_of}

-- how many turns are left of what is done after the RENAME
abbrev pub clearing_left : Clearing → ℕ
clearing_left Looking = 3
clearing_left (Drops left) = names_left left

abbrev pub phase_left : Phase → ℕ
phase_left Resting = 3
phase_left (Attempting stage) = 3
phase_left (Ending clearing) = 3
phase_left (Finishing clearing) = clearing_left clearing
phase_left Finished = 0

abbrev pub finish_left : ToolPhase → ℕ
finish_left (SettingUp setup tries) = 3
finish_left (Migrating work) = phase_left work.cutover.phase

-- after the RENAME a turn of the inspector's that isn't lost is answered at once, and not refused: so fewer are left; the renamer
-- has none; and while no attempt stands the inspector writes rows of notes alone
pub record ClearingGoes (plan : PlanData) (before : List Entry) (entry : Entry) : Type 0 where
  pub on : (work : Work) → (moment plan before).tool.tool_phase ≡ Migrating work → is_done work.cutover.phase ≡ true → entry.actor ≡ Insp → is_command entry.asked ≡ false → is_cut entry.asked ≡ false → entry.side ≡ None
      → phase_left (took Inspector work.cutover entry.answer).phase < phase_left work.cutover.phase
  pub renamed : (work : Work) → (moment plan before).tool.tool_phase ≡ Migrating work → is_done work.cutover.phase ≡ true → entry.actor ≡ Ren → is_command entry.asked ≡ false → is_cut entry.asked ≡ false → ⊥
  pub rests : (work : Work) → (moment plan before).tool.tool_phase ≡ Migrating work → work.cutover.phase ≡ Resting → entry.actor ≡ Insp → is_command entry.asked ≡ false → is_cut entry.asked ≡ false → is_note entry ≡ true

-- *Losses and what is cleared up take few turns*, and rows of notes with them, where each goes on so
abbrev pub ClearingTurnsAreFew : Type 0
ClearingTurnsAreFew = (plan : PlanData) (journal : List Entry) → MayWait plan → ScriptsFit plan → IsFaithful plan journal → KeepsPlan plan journal → Follows plan journal → Along (ClearingGoes plan) [] journal → Along (NoteGoes plan) [] journal → turns_of_part OfClearing plan journal ≤ term_of OfClearing (measures plan)
