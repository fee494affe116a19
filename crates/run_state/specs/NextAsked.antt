-- What is asked by what comes next for an actor. (This project's rule.)
use Rattle.std.specs.Prelude.{List}
use Rattle.server_model.specs.declared.entry.Entry.{Entry}
use Rattle.server_model.specs.declared.entry.Asked.{Asked}
use Rattle.server_model.specs.declared.entry.Asked.TheVariants as asked
use Rattle.plan_data.specs.PlanData.{PlanData}
use Rattle.tool_program.specs.Tools.{Work}
use Rattle.tool_state.specs.NextCalls as calls
use Rattle.tool_state.specs.ToolState.Meanings.{work_of}
use Rattle.run_actors.specs.ClientTurns.ClientCalls as clients
use Rattle.run_state.specs.declared.next_asked.NextAsked.{NextAsked}
use Rattle.run_state.specs.declared.next_asked.NextAsked.TheVariants.{Tool, Command, Client}
use Rattle.run_state.specs.declared.run_state.RunState.{RunState}

abbrev pub asked_in : PlanData → List Entry → Work → NextAsked → Asked
asked_in plan journal work (Tool call) = calls.asked_in plan journal work call
asked_in plan journal work (Command word) = asked.Command word
asked_in plan journal work (Client call) = clients.asked_in call

-- in the run that is kept
abbrev pub asked_of : RunState → NextAsked → Asked
asked_of run_state next = asked_in run_state.plan.now run_state.journal.items (work_of run_state.tool.work) next
