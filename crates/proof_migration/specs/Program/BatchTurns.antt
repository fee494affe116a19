-- The copier's and the applier's turns, for the sentry relation.
use Rattle.std.specs.Prelude.{◌≡◌, List, [], ◌∷◌, ◌++◌}
use Rattle.base_script.specs.declared.actor.Actor.TheVariants.{Apply, Copy}
use Rattle.server_model.specs.declared.entry.Entry.{Entry}
use Rattle.plan_data.specs.PlanData.{PlanData}
use Rattle.proof_journals.specs.Plans.{IsSerialPlan}
use Rattle.proof_journals.specs.Run.Kept.{IsKept}
use Rattle.proof_journals.specs.Machine.Runnable.{IsRunnable}
use Rattle.proof_journals.specs.Sentry.TurnResults.{IsTurned}
use Rattle.proof_migration.specs.ToolPhase.Unaltered.{IsUnaltered}

-- *Copiers are turned*: a turn of the copier's leaves the cut-over what the sentry relation asks; what was copied stays so.
abbrev pub CopiersAreTurned : Type 0
CopiersAreTurned = (plan : PlanData) (journal : List Entry) (entry : Entry) → entry.actor ≡ Copy → IsRunnable plan → IsSerialPlan plan → IsKept plan (journal ++ entry ∷ []) → IsUnaltered plan (journal ++ entry ∷ []) → IsTurned plan journal entry

-- *Appliers are turned*: so does one of the applier's; what is drained stays so.
abbrev pub AppliersAreTurned : Type 0
AppliersAreTurned = (plan : PlanData) (journal : List Entry) (entry : Entry) → entry.actor ≡ Apply → IsRunnable plan → IsSerialPlan plan → IsKept plan (journal ++ entry ∷ []) → IsUnaltered plan (journal ++ entry ∷ []) → IsTurned plan journal entry
