-- What a statement says, in code and in meaning.
use Rattle.server_execute.specs.declared.change_lists.ReadyResult.{ReadyResult}
use Rattle.server_model.specs.StatementResults.{TableResult}

-- the answer and the changes, as what a statement says
abbrev pub as_result : ReadyResult → TableResult
as_result executed = record { answer = executed.answer; changes = executed.changes }
