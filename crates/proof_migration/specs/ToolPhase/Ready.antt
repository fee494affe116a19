-- When an actor is ready.
use Rattle.std.specs.Prelude.{◌≡◌, ◌⊎◌, Bool, true, false, List, [], ◌∷◌}
use Rattle.std.specs.List.{AllByRecursion, list_any}
use Rattle.base_script.specs.declared.script.ScriptLine.{ScriptLine}
use Rattle.server_model.specs.declared.entry.Entry.{Entry}
use Rattle.plan_data.specs.PlanData.{PlanData}
use Rattle.tool_program.specs.JournalWords.Journals.{IsFaithful}
use Rattle.tool_program.specs.EventApplier.Appliers as appliers
use Rattle.tool_program.specs.declared.cutover_core.cutover.Hold.TheVariants.{Nothing}
use Rattle.tool_program.specs.declared.cutover_core.cutover.Phase.{Phase}
use Rattle.tool_program.specs.declared.cutover_core.cutover.Phase.TheVariants.{Attempting}
use Rattle.tool_program.specs.declared.cutover_core.cutover.Stage.TheVariants.{Guarding, Draining, Exchanging}
use Rattle.tool_program.specs.Orders.{actors, is_ready}
use Rattle.tool_program.specs.Programs.{may_read, Follows}
use Rattle.tool_program.specs.Tools.{Work, ToolPhase, SettingUp, Migrating, Moment, moment}
use Rattle.tool_program.specs.Verdicts.{has_ended}
use Rattle.proof_journals.specs.Machine.FormedPlans.{IsFitting}
use Rattle.proof_journals.specs.Machine.Scripts.{inside_after}
use Rattle.proof_journals.specs.Machine.MigrationTables.{TableExists}

-- the last line leaves no transaction open
abbrev pub LinesEnd : Bool → List ScriptLine → Type 0
LinesEnd inside [] = inside ≡ false
LinesEnd inside (line ∷ lines) = LinesEnd (inside_after inside line.word) lines

-- *Scripts end*: so does the last line of each. (What a plan's reader asks of a script: the code 45.)
abbrev pub ScriptsEnd : PlanData → Type 0
ScriptsEnd plan = AllByRecursion (LinesEnd false) plan.clients

-- *Stuck*: an attempt that may succeed and that nobody takes on. The sentry's CREATE waited and was refused; or the RENAME was,
-- after the unlock; or the applier is past all that is logged, and its position hasn't passed the hint row.
abbrev pub IsStuckAt : PlanData → Moment → Work → Phase → Type 0
IsStuckAt plan now work (Attempting Guarding) = work.cutover.hold ≡ Nothing
IsStuckAt plan now work (Attempting (Draining turns)) = (appliers.starts work.applier ≡ true) × (may_read plan now.server now.tool work ≡ false)
IsStuckAt plan now work (Attempting Exchanging) = work.cutover.renamer_waits ≡ false
IsStuckAt plan now work phase = ⊥

abbrev pub IsStuck : PlanData → Moment → ToolPhase → Type 0
IsStuck plan now (SettingUp setup tries) = ⊥
IsStuck plan now (Migrating work) = IsStuckAt plan now work work.cutover.phase

-- *Someone is ready*: while a run of a fitting plan with such scripts, whose migrated table exists, hasn't ended some actor is,
-- or the attempt is stuck.
abbrev pub SomeoneIsReady : Type 0
SomeoneIsReady =
    (plan : PlanData) (journal : List Entry) → IsFitting plan → TableExists plan → ScriptsEnd plan → IsFaithful plan journal → Follows plan journal → has_ended plan journal ≡ false
    → (list_any (is_ready plan journal) (actors plan) ≡ true) ⊎ IsStuck plan (moment plan journal) (moment plan journal).tool.tool_phase
