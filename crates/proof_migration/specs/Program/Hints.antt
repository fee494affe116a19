-- The hint rows of the attempts, and what the applier knows of them.
use Rattle.std.specs.Prelude.{◌≡◌, ◌≢◌, ◌≤◌, ◌<◌, ℕ, Bool, true, false, List, length, take}
use Rattle.base_values.specs.declared.event.RowEvent.{RowEvent}
use Rattle.server_model.specs.declared.entry.Entry.{Entry}
use Rattle.plan_data.specs.PlanData.{PlanData}
use Rattle.tool_changelog.specs.Hints.{last_hint}
use Rattle.tool_program.specs.declared.cutover_core.cutover.Phase.{Phase}
use Rattle.tool_program.specs.declared.cutover_core.cutover.Phase.TheVariants.{Attempting}
use Rattle.tool_program.specs.declared.cutover_core.cutover.Stage.TheVariants.{Guarding, Locking, Hinting}
use Rattle.tool_program.specs.JournalWords.Journals.{state_at}
use Rattle.tool_program.specs.Tools.{Migrating, Work, moment}
use Rattle.proof_journals.specs.Plans.{IsSerialPlan}
use Rattle.proof_journals.specs.Run.Kept.{IsKept}
use Rattle.proof_journals.specs.Machine.Runnable.{IsRunnable}
use Rattle.proof_journals.specs.Sentry.Sentries.{IsDraining, KnowsHint}
use Rattle.proof_migration.specs.ToolPhase.Unaltered.{IsUnaltered}

-- the attempt that is under way hasn't written its hint row yet
abbrev pub is_unhinted : Phase → Bool
is_unhinted (Attempting Guarding) = true
is_unhinted (Attempting Locking) = true
is_unhinted (Attempting Hinting) = true
is_unhinted phase = false

-- a hint row is of an attempt that was begun; and of an earlier one than the last, where that hasn't written its own yet
abbrev pub IsBegun : Bool → ℕ → ℕ → Type 0
IsBegun true attempts hint = hint < attempts
IsBegun false attempts hint = hint ≤ attempts

-- what is known of the hint rows in the log
pub record KnowsHints (plan : PlanData) (log : List RowEvent) (work : Work) : Type 0 where
  -- the applier's position lies in the log, and it knows of the last hint row up to it
  pub within : work.applier.position ≤ length log
  pub hint : KnowsHint plan.table log work.applier
  -- each hint row is of an attempt that was begun
  pub begun : (count : ℕ) → IsBegun (is_unhinted work.cutover.phase) work.cutover.attempts (last_hint plan.table 0 (take count log))
  -- and their numbers rise
  pub rising : (one other : ℕ) → one ≤ other → last_hint plan.table 0 (take one log) ≤ last_hint plan.table 0 (take other log)
  -- while an attempt is drained the applier hasn't passed its hint row
  pub ahead : IsDraining work.cutover.phase → work.applier.hint ≢ work.cutover.attempts

-- *Hints are known* after every journal that is kept, until the RENAME is done.
abbrev pub HintsAreKnown : Type 0
HintsAreKnown = (plan : PlanData) (journal : List Entry) (work : Work) → IsRunnable plan → IsSerialPlan plan → IsKept plan journal → IsUnaltered plan journal → (moment plan journal).tool.tool_phase ≡ Migrating work → KnowsHints plan (state_at plan journal).log work
