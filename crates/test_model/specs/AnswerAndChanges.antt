-- What a statement says, in code and in meaning.
use Rattle.test_model.specs.declared.results.AnswerAndChanges.{AnswerAndChanges}
use Rattle.server_model.specs.StatementResults.{TableResult}

-- the answer and the changes, as what a statement says
abbrev pub as_result : AnswerAndChanges → TableResult
as_result executed = record { answer = executed.answer; changes = executed.changes }
