use Rattle.std.proofs.Common.{ap, ◌∙◌}
use Rattle.base_values.specs.declared.gho_schema.schema.Schema.{Schema}
use Rattle.table_store.specs.Databases.{Database, database}
use Rattle.server_model.specs.Checks.{work_of}
use Rattle.server_model.specs.Operations.{after_events, operation_of}
use Rattle.server_model.proofs.LockedRows.Stables.{statement_sound}
use Rattle.server_transaction.proofs.PreparedWork.{prepares, prepares_nothing}
use Rattle.server_transaction.proofs.execution.prepare.Goals as goal

pub returns-in_default : goal.returns-in_default
returns-in_default c =
    let tables : Database = after_events (database c.args.tables.now) c.args.txn.now.events in
    prepares_nothing tables (operation_of c.args.statement.now) c.table_of.result.now c.nothing.result (statement_sound tables c.args.statement.now c.requires.well_formed) c.table_of.ensures c.in_default.ensures c.nothing.ensures.work c.nothing.ensures.locks

pub returns : goal.returns
returns c =
    let tables : Database = after_events (database c.args.tables.now) c.args.txn.now.events in
    prepares tables (operation_of c.args.statement.now) c.table_of.result.now c.in-Some.seen c.in_ok-work.work c.with_locks.result (statement_sound tables c.args.statement.now c.requires.well_formed) c.table_of.ensures c.in-Some.ensures
    (c.in_ok-work.ensures ∙ ap (λ (s : Schema). work_of s c.args.statement.now) c.schema.ensures.schema) c.with_locks.ensures.work c.with_locks.ensures.locks
