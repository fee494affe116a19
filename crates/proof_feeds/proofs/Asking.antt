-- What the applier's read of the log asks for.
use Rattle.std.proofs.Common.{◌≡◌, ℕ, Bool, true, false, not, ◌&&◌, cond, List, [], ◌∷◌, Option, Some, None, refl, sym, ap, ◌∙◌}
use Rattle.base_values.specs.ToolNames.{log_name}
use Rattle.base_script.specs.declared.actor.Actor.TheVariants.{Apply}
use Rattle.server_model.specs.declared.request.Request.{Request}
use Rattle.server_model.specs.declared.request.Request.TheVariants as requests
use Rattle.server_model.specs.declared.entry.Asked.TheVariants.{Call, Poll}
use Rattle.server_model.specs.declared.entry.Entry.{Entry}
use Rattle.server_model.specs.States.{State}
use Rattle.plan_data.specs.PlanData.{PlanData}
use Rattle.tool_program.specs.declared.event_applier.applier.Applier.{Applier}
use Rattle.tool_program.specs.declared.event_applier.applier.ApplyStep.{ApplyStep}
use Rattle.tool_program.specs.declared.event_applier.applier.ApplyStep.TheVariants.{Reading, Beginning, Applying, Committing}
use Rattle.tool_program.specs.CutoverCore.CutOvers.{is_done}
use Rattle.tool_program.specs.EventApplier.Appliers as appliers
use Rattle.tool_program.specs.EventApplier.Appliers.{Doing}
use Rattle.tool_program.specs.Feeds.{read_tables}
use Rattle.tool_program.specs.JournalWords.Sessions.{live_session}
use Rattle.tool_program.specs.Programs.{apply_call, calls, given, in_transaction, may_read, rolls_back, tool_call, waits}
use Rattle.tool_program.specs.Tools.{Tool, ToolPhase, SettingUp, Migrating, Work, is_reverting, moment}
use Rattle.tool_program.proofs.OnlineCalls.Machines.{ToolPhaseIsNamed, named}

-- the tables of a request that reads the log
abbrev ReadsThese : List (List ℕ) → Option Request → Type 0
ReadsThese names request = (position limit : ℕ) (tables : List (List ℕ)) → request ≡ Some (requests.ReadLog position limit tables) → tables ≡ names

next_these : (journal : List Entry) (applier : Applier) → ReadsThese (applier.table ∷ log_name applier.table ∷ []) (Some (appliers.next journal applier))
unfolding appliers.next
next_these journal applier = by applier.step where
  at : (doing : Option Doing) → ReadsThese (applier.table ∷ log_name applier.table ∷ []) (Some (appliers.statement_result applier doing))
  at None position limit tables is = absurd cc
  at (Some doing) position limit tables is = absurd cc

  by : (step : ApplyStep) → ReadsThese (applier.table ∷ log_name applier.table ∷ []) (Some (appliers.call_at journal applier step))
  by Reading position limit tables is = cc
  by (Beginning batch) position limit tables is = absurd cc
  by (Applying batch done part) position limit tables is = at (appliers.doing_at journal applier (Applying batch done part)) position limit tables is
  by (Committing batch) position limit tables is = absurd cc

none_these : (names : List (List ℕ)) → ReadsThese names None
none_these names position limit tables is = absurd cc

module _ (plan : PlanData) (state : State) (journal : List Entry) (tool : Tool) where
  rolled_these : (names : List (List ℕ)) → ReadsThese names (rolls_back state (live_session journal Apply))
  rolled_these names = by (in_transaction state (live_session journal Apply)) where
    by : (b : Bool) → ReadsThese names (cond b (Some requests.Rollback) None)
    by true position limit tables is = absurd cc
    by false position limit tables is = none_these names position limit tables is

  apply_these : (work : Work) → ReadsThese (work.applier.table ∷ log_name work.applier.table ∷ []) (apply_call plan state journal tool work)
  apply_these work = by (is_done work.cutover.phase) (appliers.starts work.applier && not (may_read plan state tool work)) where
    by : (done held : Bool) → ReadsThese (work.applier.table ∷ log_name work.applier.table ∷ []) (cond done None (cond held None (Some (appliers.next journal work.applier))))
    by true held = none_these (work.applier.table ∷ log_name work.applier.table ∷ [])
    by false true = none_these (work.applier.table ∷ log_name work.applier.table ∷ [])
    by false false = next_these journal work.applier

  tool_these : (phase : ToolPhase) → ToolPhaseIsNamed plan phase → ReadsThese (read_tables plan) (tool_call plan state journal tool phase Apply)
  tool_these (SettingUp setup tries) at = none_these (read_tables plan)
  tool_these (Migrating work) at = by (is_reverting tool.reason) where
    by : (b : Bool) → ReadsThese (read_tables plan) (cond b (rolls_back state (live_session journal Apply)) (apply_call plan state journal tool work))
    by true position limit tables is = rolled_these (read_tables plan) position limit tables is
    by false position limit tables is = apply_these work position limit tables is ∙ ap (λ (name : List ℕ). name ∷ log_name name ∷ []) at.applier

-- the tables are the plan's
pub reads_its_tables : (plan : PlanData) (journal : List Entry) (position limit : ℕ) (tables : List (List ℕ)) → given plan journal Apply ≡ Some (Call (requests.ReadLog position limit tables)) → tables ≡ read_tables plan
unfolding given
reads_its_tables plan journal position limit tables is = by (waits (moment plan journal).server (live_session journal Apply)) is where
  asks : Option Request
  asks = tool_call plan (moment plan journal).server journal (moment plan journal).tool (moment plan journal).tool.tool_phase Apply

  called : (request : Option Request) → calls request ≡ Some (Call (requests.ReadLog position limit tables)) → request ≡ Some (requests.ReadLog position limit tables)
  called None same = absurd cc
  called (Some request) same = cc

  by : (b : Bool) → cond b (Some Poll) (calls asks) ≡ Some (Call (requests.ReadLog position limit tables)) → tables ≡ read_tables plan
  by true same = absurd cc
  by false same = tool_these plan (moment plan journal).server journal (moment plan journal).tool (moment plan journal).tool.tool_phase (named plan journal) position limit tables (called asks same)
