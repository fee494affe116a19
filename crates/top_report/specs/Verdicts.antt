-- How a migration ended, as it is printed. This project's rule.
use Rattle.std.specs.Prelude.{codes, ℕ, List, ◌++◌}
use Rattle.std.specs.Fmt.{decimal}
use Rattle.std.specs.List.{flat_map}
use Rattle.base_values.specs.declared.value.Value.TheVariants.{Text}
use Rattle.base_values.specs.Literals.{printed, printed_row}
use Rattle.server_model.specs.declared.outcome.Cause.{Cause}
use Rattle.server_model.specs.declared.outcome.Cause.TheVariants as causes
use Rattle.server_model.specs.declared.outcome.Task.{Task}
use Rattle.server_model.specs.declared.outcome.Task.TheVariants as tasks
use Rattle.server_model.specs.declared.outcome.Verdict.{Verdict}
use Rattle.server_model.specs.declared.outcome.Verdict.TheVariants as verdicts

-- a task: a chunk by its number, a batch by its position in the log
unfoldable pub task_text : Task → List ℕ
task_text tasks.Setup = codes "setup"
task_text (tasks.Chunk number) = codes "chunk " ++ decimal number
task_text (tasks.Batch position) = codes "batch " ++ decimal position
task_text tasks.CutOver = codes "cutover"

-- turns, each with a blank before it
unfoldable pub spaced_turns : List ℕ → List ℕ
spaced_turns turns = flat_map (λ turn. codes " " ++ decimal turn) turns

-- Why a migration was reverted: `unfit turn 8 key (1) column 'c' 1406`, with the row's old key and the new column's name;
-- `spent cutover turns 11 40`, with the turns in which the task failed; `panic turn 5`.
unfoldable pub cause_text : Cause → List ℕ
cause_text (causes.Unfit turn key column number) = codes "unfit turn " ++ decimal turn ++ codes " key " ++ printed_row key ++ codes " column " ++ printed (Text column) ++ codes " " ++ decimal number
cause_text (causes.Spent task turns) = codes "spent " ++ task_text task ++ codes " turns" ++ spaced_turns turns
cause_text (causes.Panic turn) = codes "panic turn " ++ decimal turn

-- how a migration ended
unfoldable pub verdict_line : Verdict → List ℕ
verdict_line verdicts.Done = codes "done\n"
verdict_line (verdicts.Reverted cause) = codes "reverted " ++ cause_text cause ++ codes "\n"
verdict_line verdicts.Unfinished = codes "unfinished\n"
