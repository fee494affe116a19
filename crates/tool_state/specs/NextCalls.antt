-- What is asked by what comes next for an actor of the tool. (This project's rule.)
use Rattle.std.specs.Prelude.{List}
use Rattle.server_model.specs.declared.entry.Entry.{Entry}
use Rattle.server_model.specs.declared.entry.Asked.{Asked}
use Rattle.server_model.specs.declared.entry.Asked.TheVariants as asked
use Rattle.server_model.specs.declared.request.Request.TheVariants as requests
use Rattle.plan_data.specs.PlanData.{PlanData}
use Rattle.tool_program.specs.ChunkCopier.CopyCalls as copiers
use Rattle.tool_program.specs.CutoverCore.CutOverCalls as cutovers
use Rattle.tool_program.specs.EventApplier.Appliers as appliers
use Rattle.tool_program.specs.NoteWriter.NoteRows as notes
use Rattle.tool_program.specs.Programs.{checkpoint_in}
use Rattle.tool_program.specs.Tools.{Work}
use Rattle.tool_program.specs.ToolSetup.Meanings as setups
use Rattle.tool_state.specs.declared.next_call.NextCall.{NextCall}
use Rattle.tool_state.specs.declared.next_call.NextCall.TheVariants.{Poll, Rollback, Setup, Note, Copy, Apply, CutOver}

abbrev pub asked_in : PlanData → List Entry → Work → NextCall → Asked
asked_in plan journal work Poll = asked.Poll
asked_in plan journal work Rollback = asked.Call requests.Rollback
asked_in plan journal work (Setup setup) = asked.Call (setups.asked_in plan setup)
asked_in plan journal work (Note row) = asked.Call (notes.asked_in plan (checkpoint_in journal work) row)
asked_in plan journal work (Copy call) = asked.Call (copiers.asked_in journal work.copier call)
asked_in plan journal work Apply = asked.Call (appliers.next journal work.applier)
asked_in plan journal work (CutOver call) = asked.Call (cutovers.asked_in work.cutover call)
