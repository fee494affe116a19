-- *Finished runs are runs of their plan*: so that all laws of such runs hold of the run's turns and the new tool's together.
use Rattle.std.specs.Prelude.{◌≡◌, List, [], ◌++◌, length, drop, Some}
use Rattle.server_model.specs.Along.{Along}
use Rattle.server_model.specs.declared.entry.Entry.{Entry}
use Rattle.plan_data.specs.PlanData.{PlanData}
use Rattle.tool_program.specs.CutoverCore.Attempts.{exchange}
use Rattle.tool_program.specs.JournalWords.Journals.{state_at, IsFaithful}
use Rattle.tool_program.specs.JournalWords.Serials.{IsSerial}
use Rattle.tool_finish.specs.declared.stage.Stage.TheVariants.{Exchanging}
use Rattle.tool_finish.specs.Finishes.{stage_behind, IsFinish}
use Rattle.proof_journals.specs.Machine.Runnable.{IsRunnable}
use Rattle.proof_journals.specs.Plans.{scene_of, IsPlanRun}
use Rattle.proof_journals.specs.Run.Kept.{IsKept}
use Rattle.proof_journals.specs.Turns.{RenamesSo}

-- where the tables are to be exchanged, the new one is the altered one
abbrev pub ExchangesAltered : PlanData → List Entry → List Entry → Type 0
ExchangesAltered plan run turns = Along (λ before entry. stage_behind plan run (drop (length run) before) ≡ Exchanging → RenamesSo (scene_of plan []) (state_at plan before).tables (Some (exchange plan.table))) run turns

-- *Finished runs are runs of their plan*, where the new table is the altered one when the tables are exchanged: the new tool keeps away
-- from the clients' tables by itself.
abbrev pub FinishesAreRuns : Type 0
FinishesAreRuns = (plan : PlanData) (run turns : List Entry) → IsRunnable plan → IsPlanRun plan run → IsKept plan run → IsFinish plan run turns → IsFaithful plan (run ++ turns) → ExchangesAltered plan run turns → IsPlanRun plan (run ++ turns)

-- ... and serial
abbrev pub FinishesAreSerial : Type 0
FinishesAreSerial = (plan : PlanData) (run turns : List Entry) → IsRunnable plan → IsPlanRun plan run → IsKept plan run → IsFinish plan run turns → IsFaithful plan (run ++ turns) → ExchangesAltered plan run turns → IsSerial plan (run ++ turns)
