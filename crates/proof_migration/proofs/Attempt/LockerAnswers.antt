-- What the locker's answers make of what stands in each phase.
use Rattle.std.proofs.Common.{◌≡◌, ℕ, Bool, true, false, cond, not, List, Option, refl, ap, ◌∙◌, subst, inl, inr}
use Rattle.std.specs.Str.{bytes_eq}
use Rattle.table_store.specs.Databases.{Database}
use Rattle.server_model.specs.declared.answer.Answer.{Answer}
use Rattle.server_model.specs.declared.answer.Answer.TheVariants as answers
use Rattle.server_model.specs.declared.request.Request.{Request}
use Rattle.server_model.specs.declared.request.Request.TheVariants as requests
use Rattle.plan_data.specs.PlanData.{PlanData}
use Rattle.base_values.specs.ToolNames.{ghost_name, old_name}
use Rattle.tool_changelog.specs.ToolTables.{sentry_schema}
use Rattle.tool_program.specs.declared.cutover_core.cutover.Clearing.{Clearing as Cleared}
use Rattle.tool_program.specs.declared.cutover_core.cutover.Clearing.TheVariants.{Looking, Drops}
use Rattle.tool_program.specs.declared.cutover_core.cutover.Hold.{Hold}
use Rattle.tool_program.specs.declared.cutover_core.cutover.Hold.TheVariants.{Nothing, WaitsToGuard, WaitsToLock, Locks}
use Rattle.tool_program.specs.declared.cutover_core.cutover.Phase.{Phase}
use Rattle.tool_program.specs.declared.cutover_core.cutover.Phase.TheVariants.{Resting, Attempting, Ending, Finishing, Finished}
use Rattle.tool_program.specs.declared.cutover_core.cutover.Stage.TheVariants.{Guarding, Locking, Hinting, ReadingCounter, SettingCounter, Draining, Drained, Showing, Dropping, Unlocking, Exchanging}
use Rattle.tool_program.specs.CutoverCore.CutOvers.{is_bad, is_resting, locker_phase, locker_stage, hold_after}
use Rattle.proof_journals.specs.Machine.Machines.{PhaseHolds, both_names}
use Rattle.proof_journals.specs.Machine.Standings.{answers_to}
use Rattle.proof_journals.specs.Machine.MigrationTables.{schema_of, TablesExist}
use Rattle.proof_journals.proofs.Machine.CuttingOver.{LockerAsks}
use Rattle.proof_journals.proofs.Machine.Marks.{ghost_not_old}
use Rattle.proof_journals.proofs.Machine.Schemas.{keeps_table}
use Rattle.tool_program.proofs.OnlineCalls.Naming.{not_old}
use Rattle.server_model.proofs.LockedRows.Tests.{turned_bytes}
use Rattle.proof_migration.proofs.Attempt.Leaving.{AllStay, CreateLeaves, DropLeaves, Left, heard, lost, missed}
use Rattle.proof_migration.proofs.Attempt.Stages.{IsFree, SentryAtMost, FreeTables, GuardedTables, TablesAt, StandsAt, most_stay, free_stay, guarded_stay, tables_stay, free_guards, guarded_in}

-- what the answer says, where it isn't a loss
pub heard_leaves : (P : Answer → Database → Type 0) (before after : Database) (answer : Answer) → (answer ≡ answers.Lost → ⊥) → Left P before answer after → P answer after
heard_leaves P before after answer heard_so (heard leaves) = leaves
heard_leaves P before after answer heard_so (lost is same) = absurd (heard_so is)
heard_leaves P before after answer heard_so (missed inner is leaves) = absurd (heard_so is)

module _ (plan : PlanData) (before after : Database) where
  -- THE SENTRY'S CREATE AND ITS DROP

  abbrev pub Creates : Answer → Type 0
  Creates answer = Left (CreateLeaves (sentry_schema plan.table) before) before answer after

  abbrev pub DropsOld : Answer → Type 0
  DropsOld answer = Left (DropLeaves (old_name plan.table) before) before answer after

  create_leaves : (answer : Answer) → CreateLeaves (sentry_schema plan.table) before answer after → SentryAtMost plan before → SentryAtMost plan after
  unfolding sentry_schema
  create_leaves (answers.Ok count) made most = inr made
  create_leaves (answers.Waits by) same most = most_stay plan before after (same (old_name plan.table)) most
  create_leaves (answers.TimedOut waited) same most = most_stay plan before after (same (old_name plan.table)) most
  create_leaves (answers.Refused number column) same most = most_stay plan before after (same.0 (old_name plan.table)) most
  create_leaves answer none most = absurd none

  create_most : (answer : Answer) → Creates answer → SentryAtMost plan before → SentryAtMost plan after
  create_most answer (heard leaves) most = create_leaves answer leaves most
  create_most answer (lost is same) most = most_stay plan before after (same (old_name plan.table)) most
  create_most answer (missed inner is leaves) most = create_leaves inner leaves most

  drop_leaves : (answer : Answer) → DropLeaves (old_name plan.table) before answer after → SentryAtMost plan before → SentryAtMost plan after
  drop_leaves (answers.Ok count) gone most = inl gone
  drop_leaves (answers.Waits by) same most = most_stay plan before after (same (old_name plan.table)) most
  drop_leaves (answers.TimedOut waited) same most = most_stay plan before after (same (old_name plan.table)) most
  drop_leaves (answers.Refused number column) same most = most_stay plan before after (same (old_name plan.table)) most
  drop_leaves answer none most = absurd none

  pub drop_most : (answer : Answer) → DropsOld answer → SentryAtMost plan before → SentryAtMost plan after
  drop_most answer (heard leaves) most = drop_leaves answer leaves most
  drop_most answer (lost is same) most = most_stay plan before after (same (old_name plan.table)) most
  drop_most answer (missed inner is leaves) most = drop_leaves inner leaves most

  pub create_keeps : (name : List ℕ) → bytes_eq name (old_name plan.table) ≡ false → keeps_table name (requests.Create (sentry_schema plan.table)) ≡ true
  unfolding sentry_schema
  create_keeps name off = ap not (turned_bytes name (old_name plan.table) off)

  -- the two tables stay
  abbrev pub OthersStay : Type 0
  OthersStay = (name : List ℕ) → bytes_eq name (old_name plan.table) ≡ false → schema_of name after ≡ schema_of name before

  pub both_stay : OthersStay → TablesExist plan before → TablesExist plan after
  both_stay stay at = record { old = stay plan.table (not_old plan.table) ∙ at.old; ghost = stay (ghost_name plan.table) (ghost_not_old plan.table) ∙ at.ghost }

  -- *What the locker's turn leaves*, by what it asks
  abbrev pub LockerLeaves : Request → Answer → Type 0
  LockerLeaves (requests.Create schema) answer = OthersStay × Creates answer
  LockerLeaves (requests.Drop name) answer = OthersStay × DropsOld answer
  LockerLeaves request answer = AllStay before after

  module _ (inspects : Option Request) (renames asked : Bool) where
    abbrev Was : Phase → Hold → Type 0
    Was phase hold = StandsAt plan before inspects phase hold renames asked

    abbrev Becomes : Phase → Hold → Answer → Type 0
    Becomes phase hold answer = StandsAt plan after inspects (locker_phase phase answer) (hold_after hold phase answer) renames (cond (is_resting phase) false asked)

    -- THE SENTRY IS MADE

    made : (answer : Answer) → OthersStay × Creates answer → FreeTables plan before → GuardedTables plan after
    made answer leaves at = record { stand = both_stay leaves.0 at.stand; sentry = create_most answer leaves.1 (inl at.free) }

    waits_same : (by : ℕ) → Creates (answers.Waits by) → AllStay before after
    waits_same by creates = heard_leaves (CreateLeaves (sentry_schema plan.table) before) before after (answers.Waits by) (λ same. cc) creates

    unrefused : (number : ℕ) (column : Option ℕ) → Creates (answers.Refused number column) → IsFree plan before → ⊥
    unfolding sentry_schema
    unrefused number column creates free = (heard_leaves (CreateLeaves (sentry_schema plan.table) before) before after (answers.Refused number column) (λ same. cc) creates).1 free

    begins : (answer : Answer) → OthersStay × Creates answer → Was Resting Nothing → Becomes Resting Nothing answer
    begins (answers.Ok count) leaves at = record { tables = made (answers.Ok count) leaves at.tables; renamer = at.renamer; asked = refl; hold = tt; left = tt; inspector = at.inspector }
    begins (answers.Waits by) leaves at = record { tables = free_stay plan before after (waits_same by leaves.1) at.tables; renamer = at.renamer; asked = refl; hold = refl; left = tt; inspector = at.inspector }
    begins answer leaves at = record { tables = inl (made answer leaves at.tables); renamer = tt; asked = tt; hold = tt; left = tt; inspector = at.inspector }

    guards : (answer : Answer) → answers_to (requests.Create (sentry_schema plan.table)) answer ≡ true → OthersStay × Creates answer → Was (Attempting Guarding) WaitsToGuard → Becomes (Attempting Guarding) WaitsToGuard answer
    guards (answers.Ok count) fits leaves at = record { tables = made (answers.Ok count) leaves at.tables; renamer = at.renamer; asked = at.asked; hold = tt; left = tt; inspector = at.inspector }
    guards (answers.Waits by) fits leaves at = record { tables = free_stay plan before after (waits_same by leaves.1) at.tables; renamer = at.renamer; asked = at.asked; hold = refl; left = tt; inspector = at.inspector }
    guards (answers.TimedOut waited) fits leaves at = record { tables = inl (made (answers.TimedOut waited) leaves at.tables); renamer = tt; asked = tt; hold = tt; left = tt; inspector = at.inspector }
    guards answers.Lost fits leaves at = record { tables = inl (made answers.Lost leaves at.tables); renamer = tt; asked = tt; hold = tt; left = tt; inspector = at.inspector }
    guards (answers.Refused number column) fits leaves at = absurd (unrefused number column leaves.1 at.tables.free)
    guards answer fits leaves at = absurd cc

    guards_end : (answer : Answer) → OthersStay × Creates answer → Was (Ending Looking) WaitsToGuard → Becomes (Ending Looking) WaitsToGuard answer
    guards_end answer leaves at = record { tables = by at.tables; renamer = tt; asked = tt; hold = tt; left = tt; inspector = at.inspector } where
      by : TablesAt plan before (Ending Looking) → TablesAt plan after (Ending Looking)
      by (inl guarded) = inl (record { stand = both_stay leaves.0 guarded.stand; sentry = create_most answer leaves.1 guarded.sentry })
      by (inr renamed) = inr (leaves.0 (ghost_name plan.table) (ghost_not_old plan.table) ∙ renamed)

    -- THE TABLES ARE LOCKED

    locks : (hold : Hold) (answer : Answer) → AllStay before after → Was (Attempting Locking) hold → Becomes (Attempting Locking) hold answer
    locks hold answer stay at = by (is_bad answer) where
      stayed : GuardedTables plan after
      stayed = guarded_stay plan before after stay at.tables

      going : (answer : Answer) (hold : Hold) → StandsAt plan after inspects (Attempting (locker_stage Locking answer)) hold renames asked
      going (answers.Ok count) hold = record { tables = stayed; renamer = at.renamer; asked = at.asked; hold = tt; left = tt; inspector = at.inspector }
      going answer hold = record { tables = stayed; renamer = at.renamer; asked = at.asked; hold = tt; left = tt; inspector = at.inspector }

      by : (b : Bool) → StandsAt plan after inspects (cond b (Ending Looking) (Attempting (locker_stage Locking answer))) (hold_after hold (Attempting Locking) answer) renames asked
      by true = record { tables = inl stayed; renamer = tt; asked = tt; hold = tt; left = tt; inspector = at.inspector }
      by false = going answer (hold_after hold (Attempting Locking) answer)

    looks : (hold : Hold) (answer : Answer) → AllStay before after → Was (Ending Looking) hold → Becomes (Ending Looking) hold answer
    looks hold answer stay at = record { tables = tables_stay plan before after stay (Ending Looking) at.tables; renamer = tt; asked = tt; hold = tt; left = tt; inspector = at.inspector }

    -- THE SENTRY IS DROPPED, AND THE TABLES UNLOCKED

    drops : (answer : Answer) → answers_to (requests.Drop (old_name plan.table)) answer ≡ true → OthersStay × DropsOld answer → Was (Attempting Dropping) Locks → Becomes (Attempting Dropping) Locks answer
    drops answer fits leaves at = by answer fits leaves.1 (drop_most answer leaves.1 at.tables.sentry) where
      stand : TablesExist plan after
      stand = both_stay leaves.0 at.tables.stand

      by : (answer : Answer) → answers_to (requests.Drop (old_name plan.table)) answer ≡ true → DropsOld answer → SentryAtMost plan after → Becomes (Attempting Dropping) Locks answer
      by (answers.Ok count) fits left most = record {
        tables = record { stand = stand; free = heard_leaves (DropLeaves (old_name plan.table) before) before after (answers.Ok count) (λ same. cc) left };
        renamer = at.renamer;
        asked = tt;
        hold = tt;
        left = tt;
        inspector = at.inspector;
      }
      by (answers.TimedOut waited) fits left most = record { tables = inl (record { stand = stand; sentry = most }); renamer = tt; asked = tt; hold = tt; left = tt; inspector = at.inspector }
      by answers.Lost fits left most = record { tables = inl (record { stand = stand; sentry = most }); renamer = tt; asked = tt; hold = tt; left = tt; inspector = at.inspector }
      by (answers.Waits other) fits left most = record { tables = record { stand = stand; sentry = most }; renamer = at.renamer; asked = tt; hold = tt; left = tt; inspector = at.inspector }
      by (answers.Refused number column) fits left most = record { tables = record { stand = stand; sentry = most }; renamer = at.renamer; asked = tt; hold = tt; left = tt; inspector = at.inspector }
      by answer fits left most = absurd cc

    unlocks : (answer : Answer) → answers_to requests.Unlock answer ≡ true → AllStay before after → Was (Attempting Unlocking) Locks → Becomes (Attempting Unlocking) Locks answer
    unlocks (answers.Ok count) fits stay at = record { tables = free_stay plan before after stay at.tables; renamer = at.renamer; asked = tt; hold = tt; left = tt; inspector = at.inspector }
    unlocks answers.Lost fits stay at = record { tables = inl (free_guards plan after (free_stay plan before after stay at.tables)); renamer = tt; asked = tt; hold = tt; left = tt; inspector = at.inspector }
    unlocks answer fits stay at = absurd cc

    -- *The locker's answer*
    pub locker_at : (hold : Hold) (phase : Phase) (request : Request) (answer : Answer) → PhaseHolds phase hold → LockerAsks plan.table hold phase request → answers_to request answer ≡ true → LockerLeaves request answer → Was phase hold → Becomes phase hold answer
    locker_at hold phase request answer holds asks fits leaves at = by hold phase holds asks at where
      Goal : Hold → Phase → Type 0
      Goal hold phase = Becomes phase hold answer

      creates : request ≡ requests.Create (sentry_schema plan.table) → OthersStay × Creates answer
      creates is = subst (λ (r : Request). LockerLeaves r answer) is leaves

      stays : (one : Request) → request ≡ one → (LockerLeaves one answer → AllStay before after) → AllStay before after
      stays one is then = then (subst (λ (r : Request). LockerLeaves r answer) is leaves)

      waits_to_lock : (phase : Phase) → PhaseHolds phase WaitsToLock → AllStay before after → Was phase WaitsToLock → Goal WaitsToLock phase
      waits_to_lock (Attempting Locking) holds stay at = locks WaitsToLock answer stay at
      waits_to_lock (Ending Looking) holds stay at = looks WaitsToLock answer stay at
      waits_to_lock (Finishing clearing) holds stay at = record { tables = tt; renamer = tt; asked = tt; hold = tt; left = tt; inspector = at.inspector }
      waits_to_lock Finished holds stay at = record { tables = tt; renamer = tt; asked = tt; hold = tt; left = tt; inspector = at.inspector }
      waits_to_lock Resting holds stay at = absurd (let no : WaitsToLock ≡ Nothing = holds in cc)
      waits_to_lock (Attempting Guarding) (inl holds) stay at = absurd cc
      waits_to_lock (Attempting Guarding) (inr holds) stay at = absurd cc
      waits_to_lock (Attempting Hinting) holds stay at = absurd (let no : WaitsToLock ≡ Locks = holds in cc)
      waits_to_lock (Attempting (Draining turns)) holds stay at = absurd (let no : WaitsToLock ≡ Locks = holds in cc)
      waits_to_lock (Attempting (ReadingCounter drain)) holds stay at = absurd (let no : WaitsToLock ≡ Locks = holds in cc)
      waits_to_lock (Attempting (SettingCounter number drain)) holds stay at = absurd (let no : WaitsToLock ≡ Locks = holds in cc)
      waits_to_lock (Attempting Drained) holds stay at = absurd (let no : WaitsToLock ≡ Locks = holds in cc)
      waits_to_lock (Attempting Showing) holds stay at = absurd (let no : WaitsToLock ≡ Locks = holds in cc)
      waits_to_lock (Attempting Dropping) holds stay at = absurd (let no : WaitsToLock ≡ Locks = holds in cc)
      waits_to_lock (Attempting Unlocking) holds stay at = absurd (let no : WaitsToLock ≡ Locks = holds in cc)
      waits_to_lock (Attempting Exchanging) holds stay at = absurd (let no : WaitsToLock ≡ Nothing = holds in cc)
      waits_to_lock (Ending (Drops left)) holds stay at = absurd (let no : WaitsToLock ≡ Nothing = holds in cc)

      waits_to_guard : (phase : Phase) → PhaseHolds phase WaitsToGuard → OthersStay × Creates answer → answers_to (requests.Create (sentry_schema plan.table)) answer ≡ true → Was phase WaitsToGuard → Goal WaitsToGuard phase
      waits_to_guard (Attempting Guarding) holds left fits at = guards answer fits left at
      waits_to_guard (Ending Looking) holds left fits at = guards_end answer left at
      waits_to_guard (Finishing clearing) holds left fits at = record { tables = tt; renamer = tt; asked = tt; hold = tt; left = tt; inspector = at.inspector }
      waits_to_guard Finished holds left fits at = record { tables = tt; renamer = tt; asked = tt; hold = tt; left = tt; inspector = at.inspector }
      waits_to_guard Resting holds left fits at = absurd (let no : WaitsToGuard ≡ Nothing = holds in cc)
      waits_to_guard (Attempting Locking) (inl holds) left fits at = absurd cc
      waits_to_guard (Attempting Locking) (inr holds) left fits at = absurd cc
      waits_to_guard (Attempting Hinting) holds left fits at = absurd (let no : WaitsToGuard ≡ Locks = holds in cc)
      waits_to_guard (Attempting (Draining turns)) holds left fits at = absurd (let no : WaitsToGuard ≡ Locks = holds in cc)
      waits_to_guard (Attempting (ReadingCounter drain)) holds left fits at = absurd (let no : WaitsToGuard ≡ Locks = holds in cc)
      waits_to_guard (Attempting (SettingCounter number drain)) holds left fits at = absurd (let no : WaitsToGuard ≡ Locks = holds in cc)
      waits_to_guard (Attempting Drained) holds left fits at = absurd (let no : WaitsToGuard ≡ Locks = holds in cc)
      waits_to_guard (Attempting Showing) holds left fits at = absurd (let no : WaitsToGuard ≡ Locks = holds in cc)
      waits_to_guard (Attempting Dropping) holds left fits at = absurd (let no : WaitsToGuard ≡ Locks = holds in cc)
      waits_to_guard (Attempting Unlocking) holds left fits at = absurd (let no : WaitsToGuard ≡ Locks = holds in cc)
      waits_to_guard (Attempting Exchanging) holds left fits at = absurd (let no : WaitsToGuard ≡ Nothing = holds in cc)
      waits_to_guard (Ending (Drops left_over)) holds left fits at = absurd (let no : WaitsToGuard ≡ Nothing = holds in cc)

      frees : (clearing : Cleared) → PhaseHolds (Ending clearing) Locks → AllStay before after → Was (Ending clearing) Locks → Goal Locks (Ending clearing)
      frees Looking holds stay at = looks Locks answer stay at
      frees (Drops left) holds stay at = absurd (let no : Locks ≡ Nothing = holds in cc)

      by : (hold : Hold) (phase : Phase) → PhaseHolds phase hold → LockerAsks plan.table hold phase request → Was phase hold → Goal hold phase
      by Nothing Resting holds asks at = begins answer (creates asks) at
      by Nothing (Attempting Locking) holds asks at = locks Nothing answer (stays (requests.LockTables (both_names plan.table)) asks (λ l. l)) at
      by Nothing phase holds asks at = absurd asks
      by WaitsToGuard phase holds asks at = waits_to_guard phase holds (creates asks) (subst (λ (r : Request). answers_to r answer ≡ true) asks fits) at
      by WaitsToLock phase holds asks at = waits_to_lock phase holds (stays (requests.LockTables (both_names plan.table)) asks (λ l. l)) at
      by Locks (Attempting Dropping) holds asks at = drops answer (subst (λ (r : Request). answers_to r answer ≡ true) asks fits) (subst (λ (r : Request). LockerLeaves r answer) asks leaves) at
      by Locks (Attempting Unlocking) holds asks at = unlocks answer (subst (λ (r : Request). answers_to r answer ≡ true) asks fits) (stays requests.Unlock asks (λ l. l)) at
      by Locks (Ending clearing) holds asks at = frees clearing holds (stays requests.Unlock asks (λ l. l)) at
      by Locks phase holds asks at = absurd asks

    -- *The locker's session is lost* between calls
    pub locker_lost_at : (hold : Hold) (phase : Phase) → AllStay before after → Was phase hold → Becomes phase hold answers.Lost
    locker_lost_at hold Resting stay at = record { tables = inl (free_guards plan after (free_stay plan before after stay at.tables)); renamer = tt; asked = tt; hold = tt; left = tt; inspector = at.inspector }
    locker_lost_at hold (Attempting stage) stay at = record { tables = inl (guarded_in plan after stage (tables_stay plan before after stay (Attempting stage) at.tables)); renamer = tt; asked = tt; hold = tt; left = tt; inspector = at.inspector }
    locker_lost_at hold (Ending Looking) stay at = looks hold answers.Lost stay at
    locker_lost_at hold (Ending (Drops left)) stay at = record { tables = guarded_stay plan before after stay at.tables; renamer = at.renamer; asked = tt; hold = tt; left = at.left; inspector = at.inspector }
    locker_lost_at hold (Finishing clearing) stay at = record { tables = tt; renamer = tt; asked = tt; hold = tt; left = tt; inspector = at.inspector }
    locker_lost_at hold Finished stay at = record { tables = tt; renamer = tt; asked = tt; hold = tt; left = tt; inspector = at.inspector }
