-- What holds of the chunks of every run.
use Rattle.std.specs.Prelude.{◌≡◌, ℕ, false, List}
use Rattle.base_values.specs.declared.span.Bound.{Bound}
use Rattle.base_values.specs.declared.value.Value.{Value}
use Rattle.base_script.specs.declared.actor.Actor.TheVariants.{Copy}
use Rattle.server_model.specs.declared.entry.Asked.TheVariants.{Call}
use Rattle.server_model.specs.declared.entry.Entry.{Entry}
use Rattle.server_model.specs.declared.request.Request.TheVariants as requests
use Rattle.plan_data.specs.PlanData.{PlanData}
use Rattle.tool_program.specs.JournalWords.Journals.{state_at, IsAnswered, IsFaithful}
use Rattle.tool_program.specs.CutoverCore.CutOvers.{is_wait}
use Rattle.tool_program.specs.Online.{IsOnline}
use Rattle.tool_program.specs.Programs.{IsFollowed, Follows}
use Rattle.proof_journals.specs.Machine.FormedPlans.{IsFitting}
use Rattle.proof_journals.specs.Machine.Runnable.{IsRunnable}
use Rattle.proof_journals.specs.Machine.MigrationTables.{TableExists}

-- *Chunk ends come at once*: the copier's call for a chunk's end, after a faithful journal that follows the program, isn't made
-- to wait. So no command comes between the call and its answer.
abbrev pub ChunkEndsComeAtOnce : Type 0
ChunkEndsComeAtOnce =
    (plan : PlanData) (journal : List Entry) (entry : Entry) (table : List ℕ) (low : Bound) (top : List Value) (size : ℕ) → IsFitting plan → TableExists plan → IsFaithful plan journal → Follows plan journal → IsAnswered (state_at plan journal) entry → IsFollowed plan journal entry
    → entry.actor ≡ Copy → entry.asked ≡ Call (requests.ChunkEnd table low top size) → is_wait entry.answer ≡ false

-- *Journals are online*: of a runnable plan, each faithful journal that follows the program. Beside what the law of the
-- program's calls gives, no chunk copies more rows than the size that stood when its end was asked for.
abbrev pub JournalsAreOnline : Type 0
JournalsAreOnline = (plan : PlanData) (journal : List Entry) → IsRunnable plan → IsFaithful plan journal → Follows plan journal → IsOnline plan journal
