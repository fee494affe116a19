-- How often an attempt to exchange the tables is begun.
use Rattle.std.specs.Prelude.{◌≡◌, ◌≤◌, List}
use Rattle.server_model.specs.declared.entry.Entry.{Entry}
use Rattle.plan_data.specs.PlanData.{PlanData}
use Rattle.tool_program.specs.JournalWords.Journals.{IsFaithful}
use Rattle.tool_program.specs.Programs.{Follows}
use Rattle.tool_program.specs.Tools.{Work, Migrating, moment}

-- *Attempts are few*: at most as many are begun as the plan lets a task be tried
abbrev pub AttemptsAreFew : Type 0
AttemptsAreFew = (plan : PlanData) (journal : List Entry) (work : Work) → 1 ≤ plan.options.default_retries → IsFaithful plan journal → Follows plan journal → (moment plan journal).tool.tool_phase ≡ Migrating work → work.cutover.attempts ≤ plan.options.default_retries
