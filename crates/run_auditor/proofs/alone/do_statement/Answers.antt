use Rattle.std.proofs.Common.{List, ◌++◌, sym, ap, ◌∙◌}
use Rattle.base_values.specs.declared.event.RowEvent.{RowEvent}
use Rattle.table_store.specs.Databases.{Database}
use Rattle.server_model.specs.declared.work.StatementResult.{StatementResult}
use Rattle.server_model.specs.Operations.{after_events}
use Rattle.server_storage.specs.Storage.{committed, written}
use Rattle.server_transaction.specs.Premises.{events_ready}
use Rattle.run_auditor.proofs.AloneSessions.{said_of, says_still}
use Rattle.run_auditor.proofs.alone.do_statement.Goals as goal

pub keep-requires-clause-said : goal.keep-requires-clause-said
keep-requires-clause-said c =
    let tables : Database = after_events (committed c.args.storage.now) (written c.args.storage.now 1) in
    c.in_ok-executed.ensures.events
    ∙ ap (λ (r : StatementResult). r.events) (said_of tables c.args.statement.now c.table_of.result.now c.in_ok-work.work c.in_ok-work.ensures c.table_of.ensures
    ∙ sym (says_still (committed c.args.storage.now) (committed c.execute.new.self) (written c.args.storage.now 1) (written c.execute.new.self 1) c.args.statement.now c.in_ok-executed.ensures.committed (c.in_ok-executed.ensures.written 1)))

pub returns-clause-answer : goal.returns-clause-answer
returns-clause-answer c =
    let tables : Database = after_events (committed c.args.storage.now) (written c.args.storage.now 1) in
    c.keep.ensures.answer ∙ c.in_ok-executed.ensures.answer ∙ ap (λ (r : StatementResult). r.answer) (said_of tables c.args.statement.now c.table_of.result.now c.in_ok-work.work c.in_ok-work.ensures c.table_of.ensures)

pub returns-clause-written : goal.returns-clause-written
returns-clause-written c =
    let tables : Database = after_events (committed c.args.storage.now) (written c.args.storage.now 1) in
    c.keep.ensures.written ∙ ap (λ (e : List RowEvent). e ++ events_ready c.in_ok-executed.executed.writes) (c.in_ok-executed.ensures.written 1)
    ∙ ap (λ (e : List RowEvent). written c.args.storage.now 1 ++ e) (c.in_ok-executed.ensures.events ∙ ap (λ (r : StatementResult). r.events) (said_of tables c.args.statement.now c.table_of.result.now c.in_ok-work.work c.in_ok-work.ensures c.table_of.ensures))
