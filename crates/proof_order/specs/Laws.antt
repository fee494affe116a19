-- What holds of the order of the tool's calls in every kept journal.
use Rattle.std.specs.Prelude.{◌≡◌, ◌≤◌, ℕ, List}
use Rattle.base_values.specs.declared.value.Value.{Value}
use Rattle.server_model.specs.declared.outcome.Cause.{Cause}
use Rattle.server_model.specs.declared.outcome.Verdict.TheVariants.{Reverted}
use Rattle.tool_program.specs.Failures.{IsPanic, IsUnfit, Stands}
use Rattle.tool_program.specs.Verdicts.{verdict_of}
use Rattle.proof_journals.specs.Machine.FormedPlans.{IsFitting}
use Rattle.proof_journals.specs.Machine.MigrationTables.{TableExists}
use Rattle.proof_migration.specs.ToolPhase.Runnable.{IsAlterable}
use Rattle.proof_order.specs.LeastCauses.{last_turn, IsNoLater}
use Rattle.server_model.specs.declared.entry.Entry.{Entry}
use Rattle.plan_data.specs.PlanData.{PlanData}
use Rattle.proof_journals.specs.Plans.{IsSerialPlan}
use Rattle.proof_journals.specs.Machine.Runnable.{IsRunnable}
use Rattle.proof_journals.specs.Run.Kept.{IsKept}
use Rattle.tool_program.specs.JournalWords.Journals.{IsFaithful}
use Rattle.tool_program.specs.Programs.{Follows}
use Rattle.proof_order.specs.AppliedRows.{AppliesInserts}
use Rattle.proof_order.specs.ChunkLocks.{CopiesUnderLocks}
use Rattle.proof_order.specs.CutOverOrder.{KeepsOrder}

-- *Kept journals keep the order of the cut-over.*
abbrev pub KeptJournalsKeepOrder : Type 0
KeptJournalsKeepOrder = (plan : PlanData) (journal : List Entry) → IsRunnable plan → IsSerialPlan plan → IsKept plan journal → KeepsOrder plan journal

-- *Journals copy under locks*: so does each faithful journal that follows the program.
abbrev pub JournalsCopyUnderLocks : Type 0
JournalsCopyUnderLocks = (plan : PlanData) (journal : List Entry) → IsFaithful plan journal → Follows plan journal → CopiesUnderLocks plan journal

-- *Journals apply inserts as REPLACE*: so does each faithful journal that follows the program.
abbrev pub JournalsApplyInserts : Type 0
JournalsApplyInserts = (plan : PlanData) (journal : List Entry) → IsFaithful plan journal → Follows plan journal → AppliesInserts plan journal

-- *Panics are late*: where all was reverted, no panic was commanded before the turn in which the verdict's cause stands.
abbrev pub PanicsAreLate : Type 0
PanicsAreLate = (plan : PlanData) (journal : List Entry) (turn : ℕ) (cause : Cause) → IsFitting plan → TableExists plan → IsKept plan journal → IsPanic plan journal turn → verdict_of plan journal ≡ Reverted cause → last_turn cause ≤ turn

-- *Rows that don't fit are late*: nor was a value refused, of a row that can't be converted, before that turn.
abbrev pub UnfitRowsAreLate : Type 0
UnfitRowsAreLate =
    (plan : PlanData) (journal : List Entry) (turn : ℕ) (key : List Value) (column : List ℕ) (number : ℕ) (cause : Cause) → IsFitting plan → TableExists plan → IsKept plan journal → IsUnfit plan journal turn key column number → verdict_of plan journal ≡ Reverted cause → last_turn cause ≤ turn

-- *Causes are least*: where all was reverted, the verdict's cause is no later than any that stands, of a plan that allows a try.
abbrev pub CausesAreLeast : Type 0
CausesAreLeast =
    (plan : PlanData) (journal : List Entry) (cause other : Cause) → IsAlterable plan → IsRunnable plan → IsSerialPlan plan → 1 ≤ plan.options.default_retries → IsKept plan journal → Stands plan journal other → verdict_of plan journal ≡ Reverted cause → IsNoLater cause other
