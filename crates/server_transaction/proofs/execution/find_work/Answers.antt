use Rattle.std.proofs.Common.{Some, ap, ◌∙◌}
use Rattle.base_values.specs.declared.gho_schema.schema.Schema.{Schema}
use Rattle.table_store.specs.Databases.{Database, database}
use Rattle.server_model.specs.Checks.{work_of}
use Rattle.server_model.specs.Operations.{after_events, operation_of}
use Rattle.server_model.proofs.LockedRows.Stables.{statement_sound}
use Rattle.server_transaction.proofs.PreparedWork.{is_found, is_missing}
use Rattle.server_transaction.proofs.execution.find_work.Goals as goal

pub returns-in_default : goal.returns-in_default
returns-in_default c =
    let tables : Database = after_events (database c.args.tables.now) c.args.txn.now.events in
    is_missing tables (operation_of c.args.statement.now) c.table_of.result.now (statement_sound tables c.args.statement.now c.requires.well_formed) c.table_of.ensures c.in_default.ensures

pub returns : goal.returns
returns c =
    let tables : Database = after_events (database c.args.tables.now) c.args.txn.now.events in
    is_found tables (operation_of c.args.statement.now) c.table_of.result.now c.in-Some.seen c.in_ok-work.work (Some c.in_ok-found.found) (statement_sound tables c.args.statement.now c.requires.well_formed) c.table_of.ensures c.in-Some.ensures
    (c.in_ok-work.ensures ∙ ap (λ (s : Schema). work_of s c.args.statement.now) c.schema.ensures.schema) (ap Some c.in_ok-found.ensures)
