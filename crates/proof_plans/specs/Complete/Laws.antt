-- What holds of a run in which nothing hinders the tool.
use Rattle.std.specs.Prelude.{◌≡◌, ◌≢◌, Bool, true, false, List, [], ◌∷◌, ◌++◌, Some}
use Rattle.base_script.specs.declared.actor.Actor.{Actor}
use Rattle.base_script.specs.declared.actor.Actor.TheVariants.{Copy, Apply}
use Rattle.base_script.specs.declared.operator.OperatorWord.TheVariants.{Panic}
use Rattle.server_model.specs.Along.{Along}
use Rattle.server_model.specs.declared.answer.Answer.{Answer}
use Rattle.server_model.specs.declared.answer.Answer.TheVariants as answers
use Rattle.server_model.specs.declared.entry.Asked.TheVariants.{Command, Cut}
use Rattle.server_model.specs.declared.entry.Entry.{Entry}
use Rattle.server_model.specs.declared.outcome.Verdict.TheVariants.{Done}
use Rattle.server_model.specs.Entries.{is_client}
use Rattle.plan_data.specs.PlanData.{PlanData}
use Rattle.tool_program.specs.declared.chunk_copier.copier.CopyStep.{CopyStep}
use Rattle.tool_program.specs.declared.chunk_copier.copier.CopyStep.TheVariants.{Copying}
use Rattle.tool_program.specs.declared.event_applier.applier.ApplyStep.{ApplyStep}
use Rattle.tool_program.specs.declared.event_applier.applier.ApplyStep.TheVariants.{Applying}
use Rattle.tool_program.specs.CutoverCore.CutOvers.{is_bad, is_ending}
use Rattle.tool_program.specs.JournalWords.Journals.{IsFaithful}
use Rattle.tool_program.specs.Online.{attempt_goes_on}
use Rattle.tool_program.specs.Programs.{Follows}
use Rattle.tool_program.specs.Tools.{ToolPhase, SettingUp, Migrating, is_renamed, moment}
use Rattle.tool_program.specs.Verdicts.{has_ended, verdict_of}
use Rattle.proof_journals.specs.Machine.FormedPlans.{IsFitting}
use Rattle.proof_journals.specs.Machine.MigrationTables.{TableExists}

-- an attempt ends that didn't succeed
abbrev pub gives_up : ToolPhase → Bool
gives_up (SettingUp setup tries) = false
gives_up (Migrating work) = is_ending work.cutover.phase

-- a row is copied, or a statement of a batch is said
abbrev pub is_copying : CopyStep → Bool
is_copying (Copying chunk copied) = true
is_copying step = false

abbrev pub is_applying : ApplyStep → Bool
is_applying (Applying batch done part) = true
is_applying step = false

abbrev pub has_row : Actor → ToolPhase → Bool
has_row Copy (Migrating work) = is_copying work.copier.step
has_row Apply (Migrating work) = is_applying work.applier.step
has_row actor tool_phase = false

-- a value was refused for its column
abbrev pub is_unfit : Answer → Bool
is_unfit (answers.Refused number (Some place)) = true
is_unfit answer = false

-- *Smooth turn*: no call of the tool's is lost or times out in it, none of its sessions is lost between calls, no value is
-- refused of a row that is copied or applied, no attempt has spent its turns for the drain, and nobody commands panic. (This
-- project's rule of what a run has to meet so as to be done.)
pub record IsSmooth (plan : PlanData) (before : List Entry) (entry : Entry) : Type 0 where
  pub heard : is_client entry.actor ≡ false → is_bad entry.answer ≡ false
  pub uncut : is_client entry.actor ≡ false → entry.asked ≢ Cut
  pub fits : has_row entry.actor (moment plan before).tool.tool_phase ≡ true → is_unfit entry.answer ≡ false
  pub drained : entry.actor ≡ Apply → attempt_goes_on (moment plan before).tool.tool_phase ≡ true → gives_up (moment plan (before ++ entry ∷ [])).tool.tool_phase ≡ false
  pub calm : entry.asked ≢ Command Panic

-- *Smooth run*: each turn is smooth, until the tool knows that the RENAME was done.
abbrev pub IsSmoothRun : PlanData → List Entry → Type 0
IsSmoothRun plan journal = Along (λ before entry. is_renamed (moment plan before).tool.tool_phase ≡ false → IsSmooth plan before entry) [] journal

-- *Smooth runs are done*: the verdict of a smooth run that has ended is *done*.
abbrev pub SmoothRunsAreDone : Type 0
SmoothRunsAreDone = (plan : PlanData) (journal : List Entry) → IsFitting plan → TableExists plan → IsFaithful plan journal → Follows plan journal → IsSmoothRun plan journal → has_ended plan journal ≡ true → verdict_of plan journal ≡ Done
