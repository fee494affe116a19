-- What the renamer's answers make of what stands in each phase.
use Rattle.std.proofs.Common.{◌≡◌, ◌⊎◌, ℕ, Bool, true, false, Option, refl, sym, ◌∙◌, inl, inr}
use Rattle.std.proofs.lemmas.Bool.{true≢false}
use Rattle.table_store.specs.Databases.{Database}
use Rattle.server_model.specs.declared.answer.Answer.{Answer}
use Rattle.server_model.specs.declared.answer.Answer.TheVariants as answers
use Rattle.server_model.specs.declared.request.Request.{Request}
use Rattle.plan_data.specs.PlanData.{PlanData, old_schema}
use Rattle.base_values.specs.ToolNames.{ghost_name, old_name}
use Rattle.tool_program.specs.declared.cutover_core.cutover.Clearing.TheVariants.{Looking, Drops}
use Rattle.tool_program.specs.declared.cutover_core.cutover.Hold.{Hold}
use Rattle.tool_program.specs.declared.cutover_core.cutover.Phase.{Phase}
use Rattle.tool_program.specs.declared.cutover_core.cutover.Phase.TheVariants.{Resting, Attempting, Ending, Finishing, Finished}
use Rattle.tool_program.specs.declared.cutover_core.cutover.Stage.{Stage}
use Rattle.tool_program.specs.declared.cutover_core.cutover.Stage.TheVariants.{Guarding, Locking, Hinting, ReadingCounter, SettingCounter, Draining, Drained, Showing, Dropping, Unlocking, Exchanging}
use Rattle.tool_program.specs.CutoverCore.Attempts.{exchange}
use Rattle.tool_program.specs.CutoverCore.CutOvers.{is_wait, renamer_phase, waits_phase, failed}
use Rattle.proof_journals.specs.Machine.Standings.{answers_to}
use Rattle.proof_journals.specs.Machine.MigrationTables.{ghost_schema}
use Rattle.proof_migration.proofs.Attempt.Blocking.{IsUnrefused}
use Rattle.proof_migration.proofs.Attempt.Leaving.{AllStay, ExchangeLeaves, MayExchange, Left, heard, lost, missed, stands_has, none_has}
use Rattle.proof_migration.proofs.Attempt.LockerAnswers.{heard_leaves}
use Rattle.proof_migration.proofs.Attempt.Stages.{FreeTables, WasRenamed, TablesAt, StandsAt, guarded_stay, tables_stay, guarded_in}

-- the RENAME is called, which is where the attempt is drained; or it waits and is polled
abbrev pub AsksAt : Phase → Bool → Type 0
AsksAt phase renames = (phase ≡ Attempting Drained) ⊎ (renames ≡ true)

-- the table is locked by the locker
abbrev pub IsLockedAt : Phase → Type 0
IsLockedAt (Attempting Showing) = Unit {0}
IsLockedAt (Attempting Dropping) = Unit {0}
IsLockedAt phase = ⊥

may_exchange : (plan : PlanData) (tables : Database) → FreeTables plan tables → MayExchange plan.table tables
may_exchange plan tables at = record { old = stands_has plan.table tables (old_schema plan) at.stand.old; ghost = stands_has (ghost_name plan.table) tables (ghost_schema plan) at.stand.ghost; free = none_has (old_name plan.table) tables at.free }

module _ (plan : PlanData) (before after : Database) (inspects : Option Request) (hold : Hold) (renames asked : Bool) where
  abbrev pub Exchanges : Answer → Type 0
  Exchanges answer = Left (ExchangeLeaves plan.table before) before answer after

  abbrev Was : Phase → Type 0
  Was phase = StandsAt plan before inspects phase hold renames asked

  abbrev Becomes : Phase → Answer → Type 0
  Becomes phase answer = StandsAt plan after inspects (renamer_phase phase answer) hold (is_wait answer) true

  -- all stays, or the RENAME was done
  left_same : (answer : Answer) → ((count : ℕ) → answer ≡ answers.Ok count → ⊥) → ExchangeLeaves plan.table before answer after → AllStay before after
  left_same (answers.Ok count) undone leaves = absurd (undone count refl)
  left_same (answers.Waits by) undone leaves = leaves
  left_same (answers.TimedOut waited) undone leaves = leaves
  left_same (answers.Refused number column) undone leaves = leaves.0
  left_same answer undone leaves = absurd leaves

  inner_leaves : (answer : Answer) → ExchangeLeaves plan.table before answer after → AllStay before after ⊎ WasRenamed plan after
  inner_leaves (answers.Ok count) renamed = inr renamed
  inner_leaves (answers.Waits by) same = inl same
  inner_leaves (answers.TimedOut waited) same = inl same
  inner_leaves (answers.Refused number column) same = inl same.0
  inner_leaves answer none = absurd none

  pub either : (answer : Answer) → Exchanges answer → AllStay before after ⊎ WasRenamed plan after
  either answer (heard leaves) = inner_leaves answer leaves
  either answer (lost is same) = inl same
  either answer (missed inner is leaves) = inner_leaves inner leaves

  same_heard : (answer : Answer) → (answer ≡ answers.Lost → ⊥) → ((count : ℕ) → answer ≡ answers.Ok count → ⊥) → Exchanges answer → AllStay before after
  same_heard answer heard_so undone left = left_same answer undone (heard_leaves (ExchangeLeaves plan.table before) before after answer heard_so left)

  -- THE ATTEMPT FAILS, AS THE TOOL KNOWS

  ends : (stage : Stage) (answer : Answer) → Exchanges answer → Was (Attempting stage) → StandsAt plan after inspects (Ending Looking) hold false true
  ends stage answer left at = record { tables = by (either answer left); renamer = tt; asked = tt; hold = tt; left = tt; inspector = at.inspector } where
    by : AllStay before after ⊎ WasRenamed plan after → TablesAt plan after (Ending Looking)
    by (inl same) = inl (guarded_stay plan before after same (guarded_in plan before stage at.tables))
    by (inr renamed) = inr renamed

  -- in a phase that the answer leaves, whatever it was
  looks : (answer : Answer) → Exchanges answer → Was (Ending Looking) → (b : Bool) → StandsAt plan after inspects (Ending Looking) hold b true
  looks answer left at b = record { tables = by at.tables (either answer left); renamer = tt; asked = tt; hold = tt; left = tt; inspector = at.inspector } where
    by : TablesAt plan before (Ending Looking) → AllStay before after ⊎ WasRenamed plan after → TablesAt plan after (Ending Looking)
    by tables (inl same) = tables_stay plan before after same (Ending Looking) tables
    by tables (inr renamed) = inr renamed

  not_waiting : renames ≡ false → (phase : Phase) → (phase ≡ Attempting Drained → ⊥) → AsksAt phase renames → ⊥
  not_waiting off phase undrained (inl drained) = undrained drained
  not_waiting off phase undrained (inr on) = true≢false (sym on ∙ off)

  -- *Lost*, in a call or a poll or between calls, or timed out
  pub fails_at : (phase : Phase) (answer : Answer) → Exchanges answer → AsksAt phase renames → Was phase → StandsAt plan after inspects (failed phase) hold false true
  fails_at (Attempting stage) answer left asks at = ends stage answer left at
  fails_at (Ending Looking) answer left asks at = looks answer left at false
  fails_at (Finishing clearing) answer left asks at = record { tables = tt; renamer = tt; asked = tt; hold = tt; left = tt; inspector = at.inspector }
  fails_at Finished answer left asks at = record { tables = tt; renamer = tt; asked = tt; hold = tt; left = tt; inspector = at.inspector }
  fails_at Resting answer left asks at = absurd (not_waiting at.renamer Resting (λ same. cc) asks)
  fails_at (Ending (Drops some)) answer left asks at = absurd (not_waiting at.renamer (Ending (Drops some)) (λ same. cc) asks)

  waits_at : (phase : Phase) → AsksAt phase renames → AllStay before after → Was phase → StandsAt plan after inspects (waits_phase phase) hold true true
  waits_at phase asks same at = by phase asks at (tables_stay plan before after same phase at.tables) where
    by : (phase : Phase) → AsksAt phase renames → Was phase → TablesAt plan after phase → StandsAt plan after inspects (waits_phase phase) hold true true
    by (Attempting Drained) asks at tables = record { tables = tables; renamer = refl; asked = tt; hold = tt; left = tt; inspector = at.inspector }
    by (Attempting Showing) asks at tables = record { tables = tables; renamer = refl; asked = tt; hold = tt; left = tt; inspector = at.inspector }
    by (Attempting Dropping) asks at tables = record { tables = tables; renamer = refl; asked = tt; hold = tt; left = tt; inspector = at.inspector }
    by (Attempting Unlocking) asks at tables = record { tables = tables; renamer = refl; asked = tt; hold = tt; left = tt; inspector = at.inspector }
    by (Attempting Exchanging) asks at tables = record { tables = tables; renamer = refl; asked = tt; hold = tt; left = tt; inspector = at.inspector }
    by (Ending Looking) asks at tables = record { tables = tables; renamer = tt; asked = tt; hold = tt; left = tt; inspector = at.inspector }
    by (Finishing clearing) asks at tables = record { tables = tt; renamer = tt; asked = tt; hold = tt; left = tt; inspector = at.inspector }
    by Finished asks at tables = record { tables = tt; renamer = tt; asked = tt; hold = tt; left = tt; inspector = at.inspector }
    by Resting asks at tables = absurd (not_waiting at.renamer Resting (λ same. cc) asks)
    by (Attempting Guarding) asks at tables = absurd (not_waiting at.renamer (Attempting Guarding) (λ same. cc) asks)
    by (Attempting Locking) asks at tables = absurd (not_waiting at.renamer (Attempting Locking) (λ same. cc) asks)
    by (Attempting Hinting) asks at tables = absurd (not_waiting at.renamer (Attempting Hinting) (λ same. cc) asks)
    by (Attempting (Draining turns)) asks at tables = absurd (not_waiting at.renamer (Attempting (Draining turns)) (λ same. cc) asks)
    by (Attempting (ReadingCounter drain)) asks at tables = absurd (not_waiting at.renamer (Attempting (ReadingCounter drain)) (λ same. cc) asks)
    by (Attempting (SettingCounter number drain)) asks at tables = absurd (not_waiting at.renamer (Attempting (SettingCounter number drain)) (λ same. cc) asks)
    by (Ending (Drops some)) asks at tables = absurd (not_waiting at.renamer (Ending (Drops some)) (λ same. cc) asks)

  -- a refusal comes only where the tables can't be exchanged, and the table isn't locked
  refused_at : (number : ℕ) (column : Option ℕ) (phase : Phase) → AsksAt phase renames → Exchanges (answers.Refused number column) → (IsLockedAt phase → ⊥) → Was phase → StandsAt plan after inspects phase hold false true
  refused_at number column phase asks left unlocked at = by phase asks unlocked at (tables_stay plan before after same phase at.tables) where
    leaves : ExchangeLeaves plan.table before (answers.Refused number column) after
    leaves = heard_leaves (ExchangeLeaves plan.table before) before after (answers.Refused number column) (λ same. cc) left

    same : AllStay before after
    same = leaves.0

    by : (phase : Phase) → AsksAt phase renames → (IsLockedAt phase → ⊥) → Was phase → TablesAt plan after phase → StandsAt plan after inspects phase hold false true
    by (Attempting Drained) asks unlocked at tables = record { tables = tables; renamer = refl; asked = tt; hold = tt; left = tt; inspector = at.inspector }
    by (Attempting Showing) asks unlocked at tables = absurd (unlocked tt)
    by (Attempting Dropping) asks unlocked at tables = absurd (unlocked tt)
    by (Attempting Unlocking) asks unlocked at tables = absurd (leaves.1 (may_exchange plan before at.tables))
    by (Attempting Exchanging) asks unlocked at tables = absurd (leaves.1 (may_exchange plan before at.tables))
    by (Ending Looking) asks unlocked at tables = record { tables = tables; renamer = tt; asked = tt; hold = tt; left = tt; inspector = at.inspector }
    by (Finishing clearing) asks unlocked at tables = record { tables = tt; renamer = tt; asked = tt; hold = tt; left = tt; inspector = at.inspector }
    by Finished asks unlocked at tables = record { tables = tt; renamer = tt; asked = tt; hold = tt; left = tt; inspector = at.inspector }
    by Resting asks unlocked at tables = absurd (not_waiting at.renamer Resting (λ same. cc) asks)
    by (Attempting Guarding) asks unlocked at tables = absurd (not_waiting at.renamer (Attempting Guarding) (λ same. cc) asks)
    by (Attempting Locking) asks unlocked at tables = absurd (not_waiting at.renamer (Attempting Locking) (λ same. cc) asks)
    by (Attempting Hinting) asks unlocked at tables = absurd (not_waiting at.renamer (Attempting Hinting) (λ same. cc) asks)
    by (Attempting (Draining turns)) asks unlocked at tables = absurd (not_waiting at.renamer (Attempting (Draining turns)) (λ same. cc) asks)
    by (Attempting (ReadingCounter drain)) asks unlocked at tables = absurd (not_waiting at.renamer (Attempting (ReadingCounter drain)) (λ same. cc) asks)
    by (Attempting (SettingCounter number drain)) asks unlocked at tables = absurd (not_waiting at.renamer (Attempting (SettingCounter number drain)) (λ same. cc) asks)
    by (Ending (Drops some)) asks unlocked at tables = absurd (not_waiting at.renamer (Ending (Drops some)) (λ same. cc) asks)

  -- *The renamer's answer*
  pub renamer_at : (phase : Phase) (answer : Answer) → AsksAt phase renames → answers_to (exchange plan.table) answer ≡ true → Exchanges answer → (IsLockedAt phase → IsUnrefused answer) → Was phase → Becomes phase answer
  renamer_at phase (answers.Ok count) asks fits left unlocked at = record { tables = tt; renamer = tt; asked = tt; hold = tt; left = tt; inspector = λ request some. tt }
  renamer_at phase (answers.Waits by) asks fits left unlocked at = waits_at phase asks (same_heard (answers.Waits by) (λ same. cc) (λ count same. cc) left) at
  renamer_at phase (answers.TimedOut waited) asks fits left unlocked at = fails_at phase (answers.TimedOut waited) left asks at
  renamer_at phase answers.Lost asks fits left unlocked at = fails_at phase answers.Lost left asks at
  renamer_at phase (answers.Refused number column) asks fits left unlocked at = refused_at number column phase asks left (λ locked. unlocked locked) at
  renamer_at phase answer asks fits left unlocked at = absurd cc
