-- What the plain server keeps, whoever calls it; and what its tables are promised by that.
use Rattle.std.specs.Prelude.{ℕ, Bool, Option}
use Rattle.base_script.specs.declared.actor.Side.{Side}
use Rattle.server_model.specs.declared.entry.Asked.{Asked}
use Rattle.server_model.specs.declared.request.Request.{Request}
use Rattle.server_model.specs.declared.session.Limits.{Limits}
use Rattle.server_model.specs.Conditions.{MayCall, MayPoll, MayLose}
use Rattle.server_model.specs.PlainServer.{calls, polls, leaves}
use Rattle.server_model.specs.States.{State, opened, connected}
use Rattle.table_store.specs.Databases.{Database}
use Rattle.server_model.specs.LockedRows.Databases.{IsWellFormedDatabase}
use Rattle.proof_journals.specs.ServerFacts.Invariants.{IsServing}

-- *A server that opens serves*, and one to which a session connects
abbrev pub OpenedServes : Type 0
OpenedServes = (limits : Limits) (tables : Database) → IsWellFormedDatabase tables → IsServing (opened limits tables)

abbrev pub ConnectedServes : Type 0
ConnectedServes = (number : ℕ) (is_tool : Bool) (state : State) → IsServing state → IsServing (connected number is_tool state)

-- *Calls, polls and losses leave a server that serves.*
abbrev pub CallsServe : Type 0
CallsServe = (state : State) (number : ℕ) (request : Request) → IsServing state → MayCall state number request → IsServing (calls state number request).after

abbrev pub PollsServe : Type 0
PollsServe = (state : State) (number : ℕ) → IsServing state → MayPoll state number → IsServing (polls state number).after

abbrev pub LossesServe : Type 0
LossesServe = (state : State) (number : ℕ) (side : Option Side) (asked : Asked) → IsServing state → MayLose state number side asked → IsServing (leaves side state number asked)
