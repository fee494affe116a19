use Rattle.std.proofs.Common.{◌≡◌, ◌++◌, drop}
use Rattle.table_store.specs.Databases.{with_change}
use Rattle.server_model.specs.Operations.{change_table}
use Rattle.test_histories.proofs.changes.after_event.Given as goal

-- the other tables follow
abbrev pub invariant-loop-table : goal.invariant-loop-table
invariant-loop-table l = l.after ++ with_change l.event.table (change_table l.event.change) (drop l.table-index l.tables) ≡ with_change l.event.table (change_table l.event.change) l.tables
