-- The locker's and the renamer's turns, for the sentry relation.
use Rattle.std.specs.Prelude.{◌≡◌, List, [], ◌∷◌, ◌++◌}
use Rattle.base_script.specs.declared.actor.Actor.TheVariants.{Lock, Ren}
use Rattle.server_model.specs.declared.entry.Entry.{Entry}
use Rattle.plan_data.specs.PlanData.{PlanData}
use Rattle.proof_journals.specs.Plans.{IsSerialPlan}
use Rattle.proof_journals.specs.Run.Kept.{IsKept}
use Rattle.proof_journals.specs.Machine.Runnable.{IsRunnable}
use Rattle.proof_journals.specs.Sentry.TurnResults.{IsGuarded, IsTurned}
use Rattle.proof_migration.specs.ToolPhase.Unaltered.{IsUnaltered}

-- *Lockers are turned*: a turn of the locker's leaves the cut-over what the sentry relation asks.
abbrev pub LockersAreTurned : Type 0
LockersAreTurned = (plan : PlanData) (journal : List Entry) (entry : Entry) → entry.actor ≡ Lock → IsRunnable plan → IsSerialPlan plan → IsKept plan (journal ++ entry ∷ []) → IsUnaltered plan (journal ++ entry ∷ []) → IsTurned plan journal entry

-- *Renamers are turned*: so does one of the renamer's, where the relation holds before.
abbrev pub RenamersAreTurned : Type 0
RenamersAreTurned =
    (plan : PlanData) (journal : List Entry) (entry : Entry) → entry.actor ≡ Ren → IsRunnable plan → IsSerialPlan plan → IsKept plan (journal ++ entry ∷ []) → IsUnaltered plan (journal ++ entry ∷ []) → IsGuarded plan journal → IsTurned plan journal entry
