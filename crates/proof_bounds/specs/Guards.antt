-- The sentry's CREATE.
use Rattle.std.specs.Prelude.{◌≡◌, List}
use Rattle.server_model.specs.declared.entry.Entry.{Entry}
use Rattle.plan_data.specs.PlanData.{PlanData}
use Rattle.tool_program.specs.declared.cutover_core.cutover.Hold.{Hold}
use Rattle.tool_program.specs.declared.cutover_core.cutover.Hold.TheVariants.{Nothing, WaitsToGuard, WaitsToLock, Locks}
use Rattle.tool_program.specs.declared.cutover_core.cutover.Phase.{Phase}
use Rattle.tool_program.specs.declared.cutover_core.cutover.Phase.TheVariants.{Resting, Attempting, Ending, Finishing, Finished}
use Rattle.tool_program.specs.declared.cutover_core.cutover.Stage.{Stage}
use Rattle.tool_program.specs.declared.cutover_core.cutover.Stage.TheVariants.{Guarding, Locking, Hinting, ReadingCounter, SettingCounter, Draining, Drained, Showing, Dropping, Unlocking, Exchanging}
use Rattle.tool_program.specs.Tools.{Work, Migrating, moment}
use Rattle.proof_journals.specs.Machine.Runnable.{IsRunnable}
use Rattle.proof_journals.specs.Plans.{IsSerialPlan}
use Rattle.proof_journals.specs.Run.Kept.{IsKept}

-- the sentry is made already
abbrev pub IsMade : Stage → Type 0
IsMade Guarding = ⊥
IsMade Locking = Unit {0}
IsMade Hinting = Unit {0}
IsMade (ReadingCounter drain) = Unit {0}
IsMade (SettingCounter number drain) = Unit {0}
IsMade (Draining turns) = Unit {0}
IsMade Drained = Unit {0}
IsMade Showing = Unit {0}
IsMade Dropping = Unit {0}
IsMade Unlocking = Unit {0}
IsMade Exchanging = Unit {0}

-- no attempt waits for its sentry
abbrev pub IsGuarded : Phase → Type 0
IsGuarded Resting = Unit {0}
IsGuarded (Attempting stage) = IsMade stage
IsGuarded (Ending clearing) = Unit {0}
IsGuarded (Finishing clearing) = Unit {0}
IsGuarded Finished = Unit {0}

abbrev pub WaitsForNoSentry : Hold → Type 0
WaitsForNoSentry Nothing = Unit {0}
WaitsForNoSentry WaitsToGuard = ⊥
WaitsForNoSentry WaitsToLock = Unit {0}
WaitsForNoSentry Locks = Unit {0}

pub record HasSentryAtOnce (work : Work) : Type 0 where
  pub phase : IsGuarded work.cutover.phase
  pub hold : WaitsForNoSentry work.cutover.hold

-- *Sentries are made at once*: in every journal that is kept no CREATE of a sentry waits, since while no attempt is under way nobody
-- but its locker has the sentry's name.
abbrev pub SentriesAreMadeAtOnce : Type 0
SentriesAreMadeAtOnce = (plan : PlanData) (journal : List Entry) (work : Work) → IsRunnable plan → IsSerialPlan plan → IsKept plan journal → (moment plan journal).tool.tool_phase ≡ Migrating work → HasSentryAtOnce work
