-- What a whole RENAME asks of the renamer's waits.
use Rattle.std.specs.Prelude.{List, []}
use Rattle.server_model.specs.Along.{Along}
use Rattle.server_model.specs.declared.entry.Entry.{Entry}
use Rattle.plan_data.specs.PlanData.{PlanData}
use Rattle.tool_program.specs.JournalWords.Journals.{IsFaithful}
use Rattle.tool_program.specs.Programs.{Follows}
use Rattle.proof_journals.specs.Sentry.TurnResults.{WaitsSay}

-- *Waits are known*: along every journal that follows the program another actor's turn changes no wait of the renamer's, and
-- after its own it waits only where that was its answer.
abbrev pub WaitsAreReported : Type 0
WaitsAreReported = (plan : PlanData) (journal : List Entry) → IsFaithful plan journal → Follows plan journal → Along (WaitsSay plan) [] journal
