use Rattle.std.proofs.Common.{◌≡◌, ◌++◌, drop}
use Rattle.table_store.specs.Databases.{with_change}
use Rattle.test_histories.proofs.alters.with_table.Given as goal

-- the other tables follow
abbrev pub invariant-loop-table : goal.invariant-loop-table
invariant-loop-table l = l.after ++ with_change l.name (λ old. l.new) (drop l.table-index l.tables) ≡ with_change l.name (λ old. l.new) l.tables
