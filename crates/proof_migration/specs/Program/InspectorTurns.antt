-- The inspector's turns, for the sentry relation.
use Rattle.std.specs.Prelude.{◌≡◌, List, [], ◌∷◌, ◌++◌}
use Rattle.base_script.specs.declared.actor.Actor.TheVariants.{Insp}
use Rattle.server_model.specs.declared.entry.Entry.{Entry}
use Rattle.plan_data.specs.PlanData.{PlanData}
use Rattle.proof_journals.specs.Plans.{IsSerialPlan}
use Rattle.proof_journals.specs.Run.Kept.{IsKept}
use Rattle.proof_journals.specs.Machine.Runnable.{IsRunnable}
use Rattle.proof_journals.specs.Sentry.TurnResults.{IsTurned}
use Rattle.proof_migration.specs.ToolPhase.Unaltered.{IsUnaltered}

-- *Inspectors are turned*: a turn of the inspector's leaves the cut-over what the sentry relation asks.
abbrev pub InspectorsAreTurned : Type 0
InspectorsAreTurned =
    (plan : PlanData) (journal : List Entry) (entry : Entry) → entry.actor ≡ Insp → IsRunnable plan → IsSerialPlan plan → IsKept plan (journal ++ entry ∷ []) → IsUnaltered plan (journal ++ entry ∷ []) → IsTurned plan journal entry
