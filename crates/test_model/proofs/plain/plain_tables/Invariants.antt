use Rattle.std.proofs.Common.{◌≡◌, take}
use Rattle.table_store.specs.Databases.{database}
use Rattle.test_model.proofs.plain.plain_tables.Given as goal

-- the tables so far are copied
abbrev pub invariant-loop-n : goal.invariant-loop-n
invariant-loop-n l = l.plain ≡ database (take l.n l.tables)
