use Rattle.std.proofs.Common.{◌≡◌, ◌++◌, filter, drop}
use Rattle.table_store.specs.Databases.{database}
use Rattle.run_auditor.proofs.OpeningTables.{is_kept}
use Rattle.run_auditor.proofs.opening.opening_tables.Given as goal

-- those that are left follow
abbrev pub invariant-loop-place : goal.invariant-loop-place
invariant-loop-place l = database l.tables ++ filter (is_kept l.plan.table) (drop l.place (database l.opening)) ≡ filter (is_kept l.plan.table) (database l.opening)
