-- Which causes of a verdict are in the journal of a fitting plan.
use Rattle.std.specs.Prelude.{◌≡◌, ◌<◌, ℕ, List}
use Rattle.server_model.specs.declared.entry.Entry.{Entry}
use Rattle.server_model.specs.declared.outcome.Cause.TheVariants as causes
use Rattle.server_model.specs.declared.outcome.Task.TheVariants as tasks
use Rattle.server_model.specs.declared.outcome.Verdict.TheVariants.{Reverted}
use Rattle.plan_data.specs.PlanData.{PlanData}
use Rattle.tool_program.specs.JournalWords.Journals.{IsFaithful}
use Rattle.tool_program.specs.Failures.{Stands}
use Rattle.tool_program.specs.Programs.{Follows}
use Rattle.tool_program.specs.Verdicts.{verdict_of}
use Rattle.proof_journals.specs.Machine.FormedPlans.{IsFitting}
use Rattle.proof_journals.specs.Machine.MigrationTables.{TableExists}

-- *Spent cut-overs stand*: each failed try of a cut-over that is spent does, since no sentry is refused.
abbrev pub SpentCutOversStand : Type 0
SpentCutOversStand =
    (plan : PlanData) (journal : List Entry) (turns : List ℕ) → IsFitting plan → TableExists plan → IsFaithful plan journal → Follows plan journal → 0 < plan.options.drain_limit → verdict_of plan journal ≡ Reverted (causes.Spent tasks.CutOver turns)
    → Stands plan journal (causes.Spent tasks.CutOver turns)
