use Rattle.std.proofs.lemmas.Result.{IfOk-weaker}
use Rattle.server_storage.proofs.preparation.prepare_request.Goals as goal

pub returns-in-Do-clause-locks : goal.returns-in-Do-clause-locks
returns-in-Do-clause-locks c = rw c.in-Do.is (IfOk-weaker c.prepare_statement.result _ _ (λ prepared is. is.locks) c.prepare_statement.ensures)

pub returns-in-Do-clause-work : goal.returns-in-Do-clause-work
returns-in-Do-clause-work c = rw c.in-Do.is (IfOk-weaker c.prepare_statement.result _ _ (λ prepared is. is.work) c.prepare_statement.ensures)

pub returns-in-CopyRow-clause-locks : goal.returns-in-CopyRow-clause-locks
returns-in-CopyRow-clause-locks c = rw c.in-CopyRow.is (IfOk-weaker c.prepare_row.result _ _ (λ prepared is. is.locks) c.prepare_row.ensures)

pub returns-in-CopyRow-clause-work : goal.returns-in-CopyRow-clause-work
returns-in-CopyRow-clause-work c = rw c.in-CopyRow.is (IfOk-weaker c.prepare_row.result _ _ (λ prepared is. is.work) c.prepare_row.ensures)
