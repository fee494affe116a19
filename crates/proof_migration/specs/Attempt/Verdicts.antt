-- Which causes of a verdict are in the journal.
use Rattle.std.specs.Prelude.{◌≡◌, ◌≢◌, ◌⊎◌, ◌<◌, ℕ, Bool, true, false, List, length, Option, AllPairs}
use Rattle.std.specs.List.{AllByRecursion}
use Rattle.base_script.specs.declared.actor.Actor.TheVariants.{Lock}
use Rattle.server_model.specs.declared.answer.Answer.TheVariants as answers
use Rattle.server_model.specs.declared.entry.Entry.{Entry}
use Rattle.server_model.specs.declared.outcome.Cause.TheVariants as causes
use Rattle.server_model.specs.declared.outcome.Task.{Task}
use Rattle.server_model.specs.declared.outcome.Task.TheVariants as tasks
use Rattle.server_model.specs.declared.outcome.Verdict.TheVariants.{Reverted}
use Rattle.plan_data.specs.PlanData.{PlanData}
use Rattle.tool_program.specs.CutoverCore.CutOvers.{is_resting}
use Rattle.tool_program.specs.JournalWords.Journals.{IsFaithful}
use Rattle.tool_program.specs.Failures.{IsTurn, IsFailedTry, Stands}
use Rattle.tool_program.specs.Programs.{Follows}
use Rattle.tool_program.specs.Tools.{ToolPhase, SettingUp, Migrating, Moment}
use Rattle.tool_program.specs.Verdicts.{verdict_of}

-- *Panic stands*: it was commanded in the turn that the verdict names.
abbrev pub PanicsStand : Type 0
PanicsStand = (plan : PlanData) (journal : List Entry) (turn : ℕ) → IsFaithful plan journal → Follows plan journal → verdict_of plan journal ≡ Reverted (causes.Panic turn) → Stands plan journal (causes.Panic turn)

-- *Spent tasks stand*: so does each failed try of the setup, of a chunk and of a batch, as many as the plan allows.
abbrev pub SpentTasksStand : Type 0
SpentTasksStand =
    (plan : PlanData) (journal : List Entry) (task : Task) (turns : List ℕ) → IsFaithful plan journal → Follows plan journal → task ≢ tasks.CutOver
    → verdict_of plan journal ≡ Reverted (causes.Spent task turns) → Stands plan journal (causes.Spent task turns)

-- THE CUT-OVER'S

abbrev pub rests : ToolPhase → Bool
rests (SettingUp setup tries) = false
rests (Migrating work) = is_resting work.cutover.phase

-- *Refused sentry*: in this turn the call that makes the sentry, and begins an attempt, was refused.
pub record IsRefusedSentry (plan : PlanData) (journal : List Entry) (turn : ℕ) : Type 0 where
  pub entry : Entry
  pub before : Moment
  pub is : IsTurn plan journal turn entry before
  pub actor : entry.actor ≡ Lock
  pub resting : rests before.tool.tool_phase ≡ true
  pub number : ℕ
  pub column : Option ℕ
  pub refused : entry.answer ≡ answers.Refused number column

-- the definition of a failed try knows no refused sentry
abbrev pub IsFailedAttempt : PlanData → List Entry → ℕ → Type 0
IsFailedAttempt plan journal turn = IsFailedTry plan journal tasks.CutOver turn ⊎ IsRefusedSentry plan journal turn

pub record IsSpentOn (plan : PlanData) (journal : List Entry) (turns : List ℕ) : Type 0 where
  pub each : AllByRecursion (IsFailedAttempt plan journal) turns
  pub rises : AllPairs (λ a b. a < b) turns
  pub all : length turns ≡ plan.options.default_retries

-- *Spent attempts stand*: where an attempt may be drained in some turn, each try of the cut-over is a failed one, or its
-- sentry was refused.
abbrev pub SpentAttemptsStand : Type 0
SpentAttemptsStand =
    (plan : PlanData) (journal : List Entry) (turns : List ℕ) → IsFaithful plan journal → Follows plan journal → 0 < plan.options.drain_limit → verdict_of plan journal ≡ Reverted (causes.Spent tasks.CutOver turns)
    → IsSpentOn plan journal turns
