use Rattle.std.proofs.Common.{◌≡◌, ◌++◌, drop}
use Rattle.table_store.specs.Databases.{database}
use Rattle.tool_program.specs.JournalWords.Serials.{tables_left}
use Rattle.top_report.specs.Tables.{tables_text}
use Rattle.top_report.proofs.Left.{left_in}
use Rattle.top_report.proofs.tables.push_tables_left.Given as goal

-- what stands with the tables that are left to print is all
abbrev pub invariant-loop-place : goal.invariant-loop-place
invariant-loop-place l =
    l.into ++ tables_text l.shown (left_in l.plan (database (drop l.place l.opening)) (database l.tables)) ≡ l.fn.into ++ tables_text l.shown (tables_left l.plan (database l.tables))
