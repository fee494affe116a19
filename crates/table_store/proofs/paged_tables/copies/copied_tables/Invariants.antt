use Rattle.std.proofs.Common.{◌≡◌, take}
use Rattle.table_store.specs.Databases.{database}
use Rattle.table_store.specs.PagedTables.PagedDatabases.{stored, AreNamed}
use Rattle.table_store.proofs.paged_tables.copies.copied_tables.Given as goal

-- the tables so far are copied, each under its name
abbrev pub invariant-loop-place : goal.invariant-loop-place
invariant-loop-place l = (database (stored l.copy.values) ≡ database (stored (take l.place l.tables.values))) × AreNamed l.copy
