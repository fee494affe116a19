use Rattle.std.proofs.Common.{refl, ap, ◌∙◌}
use Rattle.table_store.specs.Databases.{Database, database, find_table}
use Rattle.server_model.specs.Operations.{after_events, copy_from, copy_operation}
use Rattle.proof_journals.proofs.Tooling.{copies_sound}
use Rattle.server_transaction.proofs.PreparedWork.{prepares, prepares_nothing}
use Rattle.server_transaction.proofs.row_copies.work.prepare_copy.Goals as goal

pub returns-in_default : goal.returns-in_default
returns-in_default c =
    let tables : Database = after_events (database c.args.tables.now) c.args.txn.now.events in
    let copy = c.args.copy.now in
    prepares_nothing tables (copy_operation tables copy.from.now copy.into.now copy.map.now copy.key.now) copy.into.now c.nothing.result (copies_sound tables copy.from.now copy.into.now copy.map.now copy.key.now c.requires.well_formed) refl c.in_default.ensures c.nothing.ensures.work c.nothing.ensures.locks

pub returns : goal.returns
returns c =
    let tables : Database = after_events (database c.args.tables.now) c.args.txn.now.events in
    let copy = c.args.copy.now in
    prepares tables (copy_operation tables copy.from.now copy.into.now copy.map.now copy.key.now) copy.into.now c.in-Some.into c.in_ok-work.work c.with_locks.result (copies_sound tables copy.from.now copy.into.now copy.map.now copy.key.now c.requires.well_formed) refl c.in-Some.ensures
    (c.in_ok-work.ensures ∙ ap (copy_from (find_table copy.from.now tables) copy.map.now copy.key.now) c.schema.ensures.schema) c.with_locks.ensures.work c.with_locks.ensures.locks
