-- *Numbers are drawn so* from every table, over the RENAME of the migrated one too.
use Rattle.std.specs.Prelude.{◌≤◌, List, length}
use Rattle.server_model.specs.declared.entry.Entry.{Entry}
use Rattle.plan_data.specs.PlanData.{PlanData}
use Rattle.tool_program.specs.JournalWords.Draws.{Draws}
use Rattle.proof_journals.specs.Run.Kept.{IsKept}
use Rattle.proof_plans.specs.ReadPlans.Laws.{WasRead}

-- *Accepted runs draw so*: in every run of every accepted plan each number is drawn by a client's statement; it is the counter of the
-- statement's table, and above each number that was drawn before from a table of that name, and above every value of the column,
-- committed or written by a live session: also of the migrated table, whose name another table has after the RENAME.
abbrev pub AcceptedRunsDraw : Type 0
AcceptedRunsDraw = (plan : PlanData) (journal : List Entry) → WasRead plan → IsKept plan journal → length journal ≤ plan.options.turn_limit → Draws plan journal
