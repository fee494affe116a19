use Rattle.std.proofs.Common.{◌≡◌, Some, sym}
use Rattle.table_store.specs.Databases.{find_table}
use Rattle.server_model.specs.Operations.{table_of}
use Rattle.server_storage.specs.Storage.{committed}
use Rattle.server.proofs.CounterMoves.{raises, stays_without}
use Rattle.server.proofs.counters.statement_move.Goals as goal

pub returns-then-is_none-2-clause-counters : goal.returns-then-is_none-2-clause-counters
returns-then-is_none-2-clause-counters c = λ answer.
    let found : find_table (table_of c.args.statement.now) (committed c.args.storage.now) ≡ Some c.in-Some.table.now.table = sym (rw (c.table_of-name.ensures, c.tables.ensures) at c.in-Some.ensures.table) in
    stays_without (find_table (table_of c.args.statement.now) (committed c.args.storage.now)) c.in-Some.table.now.table c.args.statement.now answer c.args.all_sessions.now.counters c.args.drawn found
    (rw (c.auto_place.ensures, c.schema.ensures.schema) at c.if-is_none-2.ensures) c.if-is_none.ensures

pub returns-clause-counters : goal.returns-clause-counters
returns-clause-counters c = λ answer.
    let found : find_table (table_of c.args.statement.now) (committed c.args.storage.now) ≡ Some c.in-Some.table.now.table = sym (rw (c.table_of-name.ensures, c.tables.ensures) at c.in-Some.ensures.table) in
    raises (committed c.args.storage.now) c.table_of-name.result.now c.in-Some.table.now.table c.args.statement.now answer c.args.all_sessions.now.counters c.args.drawn c.in_ok-after_given.field-0 c.table_of-name.ensures found
    (rw c.schema-2.ensures.schema at c.in_ok-after_given.ensures)
