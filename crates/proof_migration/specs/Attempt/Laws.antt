-- Attempts that wait.
use Rattle.std.specs.Prelude.{◌≡◌, true, List}
use Rattle.server_model.specs.declared.entry.Entry.{Entry}
use Rattle.plan_data.specs.PlanData.{PlanData}
use Rattle.tool_program.specs.JournalWords.Journals.{IsFaithful}
use Rattle.tool_program.specs.declared.cutover_core.cutover.CutOver.{CutOver}
use Rattle.tool_program.specs.declared.cutover_core.cutover.Hold.TheVariants.{WaitsToGuard}
use Rattle.tool_program.specs.declared.cutover_core.cutover.Phase.TheVariants.{Attempting}
use Rattle.tool_program.specs.declared.cutover_core.cutover.Stage.TheVariants.{Guarding, Exchanging}
use Rattle.tool_program.specs.Programs.{Follows}
use Rattle.tool_program.specs.Tools.{Work, Migrating, moment}
use Rattle.proof_journals.specs.Machine.FormedPlans.{IsFitting}
use Rattle.proof_journals.specs.Machine.MigrationTables.{TableExists}

-- the sentry's CREATE waits while the sentry isn't made, and the RENAME after the unlock
pub record IsWaiting (cutover : CutOver) : Type 0 where
  pub guards : cutover.phase ≡ Attempting Guarding → cutover.hold ≡ WaitsToGuard
  pub exchanges : cutover.phase ≡ Attempting Exchanging → cutover.renamer_waits ≡ true

-- *Attempts wait*: so does each, after every journal of a fitting plan whose migrated table exists.
abbrev pub AttemptsWait : Type 0
AttemptsWait = (plan : PlanData) (journal : List Entry) (work : Work) → IsFitting plan → TableExists plan → IsFaithful plan journal → Follows plan journal → (moment plan journal).tool.tool_phase ≡ Migrating work → IsWaiting work.cutover
