-- An UPDATE that is under way.
use Rattle.std.specs.Prelude.{List, ◌++◌, Option, Result, Ok, Err}
use Rattle.base_values.specs.declared.value.Value.{Value}
use Rattle.base_values.specs.declared.gho_schema.schema.Schema.{Schema}
use Rattle.base_values.specs.declared.event.Change.{Change}
use Rattle.server_model.specs.declared.answer.Answer.{Answer}
use Rattle.server_model.specs.StatementResults.{updates}
use Rattle.test_model.specs.declared.updates.Going.{Going}

-- the changes so far, and after them others, unless there was a refusal
abbrev pub changes_after : List Change → Result (List Change) Answer → Result (List Change) Answer
changes_after front (Ok others) = Ok (front ++ others)
changes_after front (Err refusal) = Err refusal

-- the changes so far and those of the rows that are left, unless the UPDATE was refused
abbrev pub goes_on : Schema → List (Option Value) → List (List Value) → Going → Result (Unit {0}) Answer → Result (List Change) Answer
goes_on schema sets met going (Ok done) = changes_after going.changes (updates schema sets met going.rows)
goes_on schema sets met going (Err refusal) = Err refusal
