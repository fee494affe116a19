-- *Report* of a run. This project's rule.
use Rattle.std.specs.Prelude.{ℕ, Bool, if◌then◌else◌, List, [], ◌++◌}
use Rattle.table_store.specs.Databases.{Database}
use Rattle.server_model.specs.declared.entry.Entry.{Entry}
use Rattle.server_model.specs.declared.outcome.Verdict.{Verdict}
use Rattle.plan_data.specs.PlanData.{PlanData}
use Rattle.tool_program.specs.JournalWords.Serials.{tables_left}
use Rattle.table_print.specs.Names.{names_line}
use Rattle.top_report.specs.Verdicts.{verdict_line}
use Rattle.top_report.specs.ClientLines.Replies.{clients_text}
use Rattle.top_report.specs.Tables.{tables_text}
use Rattle.top_report.specs.ClientLines.Pasts.{history_line}
use Rattle.top_report.specs.Turns.{turns_text}

-- a part of the report, where the plan wants it shown
abbrev pub where_shown : Bool → List ℕ → List ℕ
where_shown shown text = if shown then text else []

-- *Report*: the verdict; what each client got; the plan's tables but the leftovers as they are left; the names of all tables
-- that exist; the history; and the turns.
unfoldable pub report : PlanData → List Entry → Verdict → Database → List ℕ
report plan journal verdict tables =
    verdict_line verdict
    ++ where_shown plan.options.show_replies (clients_text plan journal)
    ++ tables_text plan.options.show_tables (tables_left plan tables)
    ++ names_line tables
    ++ where_shown plan.options.show_history (history_line plan journal)
    ++ where_shown plan.options.show_turns (turns_text journal)
