use Rattle.std.proofs.Common.{◌≡◌, drop}
use Rattle.run_audit.specs.Audits.{first_other}
use Rattle.table_store.specs.Databases.{database}
use Rattle.run_auditor.proofs.printed_tables.first_other.Given as goal

-- the tables that are left decide
abbrev pub invariant-loop-place : goal.invariant-loop-place
invariant-loop-place l = first_other (drop l.place l.printed) (drop l.place (database l.tables)) ≡ first_other l.printed (database l.tables)
