-- What the code's record of the tool means in the words of the program. (This project's rule.)
use Rattle.std.specs.Prelude.{ℕ, List, Option, Some, None}
use Rattle.server_model.specs.declared.outcome.Task.{Task}
use Rattle.server_model.specs.declared.outcome.Task.TheVariants as tasks
use Rattle.tool_program.specs.Tools as program
use Rattle.tool_program.specs.declared.tool_setup.setup.Setup.{Setup}
use Rattle.tool_program.specs.ToolSetup.Meanings.{operator_of, setup_of}
use Rattle.tool_state.specs.declared.tool_state.reason.Reason.{Reason}
use Rattle.tool_state.specs.declared.tool_state.reason.Reason.TheVariants.{CopyUnfit, ApplyUnfit, Spent, Panicked}
use Rattle.tool_state.specs.declared.tool_state.tool.Work.{Work}
use Rattle.tool_state.specs.declared.tool_state.tool.Tool.{Tool}

abbrev pub work_of : Work → program.Work
work_of work =
    record {
      copier = work.copier;
      chunk_tries = work.chunk_tries.turns;
      applier = work.applier;
      batch_tries = work.batch_tries.turns;
      cutover = work.cutover;
      attempt_tries = work.attempt_tries.turns;
    }

-- a reason, with the turns in which the task failed that is spent
abbrev pub reason_of : Reason → List ℕ → program.Reason
reason_of (CopyUnfit turn column number) turns = program.CopyUnfit turn column number
reason_of (ApplyUnfit turn column number) turns = program.ApplyUnfit turn column number
reason_of (Spent task) turns = program.Spent task turns
reason_of (Panicked turn) turns = program.Panicked turn

abbrev pub reason_in : Option Reason → List ℕ → Option program.Reason
reason_in None turns = None
reason_in (Some reason) turns = Some (reason_of reason turns)

abbrev pub tool_phase_in : Option Setup → List ℕ → program.Work → program.ToolPhase
tool_phase_in None tries work = program.Migrating work
tool_phase_in (Some setup) tries work = program.SettingUp (setup_of setup) tries

abbrev pub tool_phase_of : Tool → program.ToolPhase
tool_phase_of tool = tool_phase_in tool.setup tool.setup_tries.turns (work_of tool.work)

abbrev pub tool_of : Tool → program.Tool
tool_of tool =
    record { turns = tool.turns; operator = operator_of tool.operator; tool_phase = tool_phase_of tool; reason = reason_in tool.reason tool.spent.turns }

-- the turns in which the task at hand failed
abbrev pub tries_of : Task → Tool → List ℕ
tries_of tasks.Setup tool = tool.setup_tries.turns
tries_of (tasks.Chunk number) tool = tool.work.chunk_tries.turns
tries_of (tasks.Batch position) tool = tool.work.batch_tries.turns
tries_of tasks.CutOver tool = tool.work.attempt_tries.turns
