-- In which order the tool works in every run of every accepted plan.
use Rattle.std.specs.Prelude.{List}
use Rattle.server_model.specs.declared.entry.Entry.{Entry}
use Rattle.plan_data.specs.PlanData.{PlanData}
use Rattle.proof_journals.specs.Run.Kept.{IsKept}
use Rattle.proof_order.specs.AppliedRows.{AppliesInserts}
use Rattle.proof_order.specs.ChunkLocks.{CopiesUnderLocks}
use Rattle.proof_order.specs.CutOverOrder.{KeepsOrder}
use Rattle.proof_plans.specs.ReadPlans.Laws.{WasRead}

-- *Accepted runs keep the order of the cut-over*: each call of the tool's comes in its order.
abbrev pub AcceptedRunsKeepOrder : Type 0
AcceptedRunsKeepOrder = (plan : PlanData) (journal : List Entry) → WasRead plan → IsKept plan journal → KeepsOrder plan journal

-- *Accepted runs copy under locks*: each row is copied under the share lock on its whole chunk.
abbrev pub AcceptedRunsCopyUnderLocks : Type 0
AcceptedRunsCopyUnderLocks = (plan : PlanData) (journal : List Entry) → WasRead plan → IsKept plan journal → CopiesUnderLocks plan journal

-- *Accepted runs apply inserts as REPLACE*: each row that was logged as inserted is put so before what was read is committed.
abbrev pub AcceptedRunsApplyInserts : Type 0
AcceptedRunsApplyInserts = (plan : PlanData) (journal : List Entry) → WasRead plan → IsKept plan journal → AppliesInserts plan journal
