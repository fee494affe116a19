-- *How logged rows are applied*, read from the journal alone: what an INSERT logged of the migrated table is put into the new one
-- by REPLACE, before the applier commits what it read. (gh-ost, "Triggerless design": binary log events are applied as REPLACE,
-- so that a row which the copy brings too is no clash.)
use Rattle.std.specs.Prelude.{◌≡◌, ◌⊎◌, List, [], ◌∷◌, fold, Option, Some, None}
use Rattle.base_values.specs.declared.event.Change.TheVariants.{Write}
use Rattle.base_values.specs.declared.event.RowEvent.{RowEvent}
use Rattle.base_values.specs.declared.value.Value.{Value}
use Rattle.base_values.specs.ToolNames.{ghost_name}
use Rattle.base_script.specs.declared.actor.Actor.{Actor}
use Rattle.base_script.specs.declared.actor.Actor.TheVariants.{Apply}
use Rattle.base_script.specs.declared.statement.Statement.{Statement}
use Rattle.base_script.specs.declared.statement.Statement.TheVariants as statements
use Rattle.server_model.specs.Along.{Along}
use Rattle.server_model.specs.Entries.{request_in}
use Rattle.server_model.specs.declared.answer.Answer.{Answer}
use Rattle.server_model.specs.declared.answer.Answer.TheVariants as answers
use Rattle.server_model.specs.declared.entry.Asked.{Asked}
use Rattle.server_model.specs.declared.entry.Asked.TheVariants.{Call}
use Rattle.server_model.specs.declared.entry.Entry.{Entry}
use Rattle.server_model.specs.declared.request.Request.{Request}
use Rattle.server_model.specs.declared.request.Request.TheVariants as requests
use Rattle.plan_data.specs.PlanData.{PlanData, new_map}
use Rattle.tool_program.specs.EventApplier.Appliers.{given_values}

-- it is one of the list
abbrev pub IsAmong : {A : Type 0} → A → List A → Type 0
IsAmong one [] = ⊥
IsAmong one (other ∷ others) = (other ≡ one) ⊎ IsAmong one others

-- THE BATCH AT HAND

pub record AppliedBatch : Type 0 where
  -- the events that were read last
  pub events : List RowEvent
  -- the statements that were called since the transaction began
  pub called : List Statement

abbrev pub batch_after : Actor → Asked → Answer → AppliedBatch → AppliedBatch
batch_after Apply (Call (requests.ReadLog position limit tables)) (answers.Events events next) batch = record { events = events; called = [] }
batch_after Apply (Call requests.Begin) answer batch = record batch { called = [] }
batch_after Apply (Call (requests.Do statement)) answer batch = record batch { called = statement ∷ batch.called }
batch_after actor asked answer batch = batch

-- *The batch at hand*, by the applier's turns so far.
unfoldable pub batch_at : List Entry → AppliedBatch
batch_at journal = fold (λ batch entry. batch_after entry.actor entry.asked entry.answer batch) (record { events = []; called = [] }) journal

-- WHAT IS ASKED OF A CALL

-- REPLACE, into the new table, of what a row of the migrated one is converted to
abbrev pub replaces : PlanData → List Value → Statement
replaces plan row = statements.Replace (ghost_name plan.table) None (given_values (new_map plan) row) None

-- each row that an INSERT logged of the migrated table was put so in this transaction
abbrev pub InsertsArePut : PlanData → AppliedBatch → Type 0
InsertsArePut plan batch = (row : List Value) → IsAmong (record { table = plan.table; change = Write row }) batch.events → IsAmong (replaces plan row) batch.called

-- the applier calls no INSERT, and commits only once all that were logged are put
abbrev pub IsAppliedCall : PlanData → List Entry → Actor → Request → Type 0
IsAppliedCall plan before Apply (requests.Do (statements.Insert table columns row drawn)) = ⊥
IsAppliedCall plan before Apply requests.Commit = InsertsArePut plan (batch_at before)
IsAppliedCall plan before actor request = Unit {0}

abbrev pub IsAppliedTurn : PlanData → List Entry → Actor → Option Request → Type 0
IsAppliedTurn plan before actor None = Unit {0}
IsAppliedTurn plan before actor (Some request) = IsAppliedCall plan before actor request

-- *Applies inserts as REPLACE*: so each call of the applier's comes.
unfoldable pub AppliesInserts : PlanData → List Entry → Type 0
AppliesInserts plan journal = Along (λ before entry. IsAppliedTurn plan before entry.actor (request_in entry.asked)) [] journal
