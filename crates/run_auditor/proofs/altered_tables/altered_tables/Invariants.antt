use Rattle.std.proofs.Common.{◌≡◌, drop}
use Rattle.table_store.specs.Databases.{database}
use Rattle.run_auditor.specs.Judging.{after_these, tables_after}
use Rattle.run_auditor.proofs.altered_tables.altered_tables.Given as goal

-- the tables that are left follow
abbrev pub invariant-loop-place : goal.invariant-loop-place
invariant-loop-place l = after_these (database l.after) (tables_after l.plan (drop l.place (database l.tables))) ≡ tables_after l.plan (database l.tables)
