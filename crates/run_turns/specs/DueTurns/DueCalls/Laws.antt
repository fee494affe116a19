-- What a run may ask in a turn that is due, and what it may be answered.
use Rattle.std.specs.Prelude.{◌≡◌, ◌<◌, ◌≤◌, false, List, Some, None}
use Rattle.base_script.specs.declared.actor.Actor.{Actor}
use Rattle.server_model.specs.declared.entry.Entry.{Entry}
use Rattle.server_model.specs.Entries.{is_command}
use Rattle.server_model.specs.States.{State}
use Rattle.plan_data.specs.PlanData.{PlanData}
use Rattle.tool_program.specs.JournalWords.Journals.{state_at, IsAnswered, IsFaithful}
use Rattle.tool_program.specs.JournalWords.Sessions.{live_session}
use Rattle.tool_program.specs.Programs.{IsFollowed, Follows}
use Rattle.proof_journals.specs.Machine.FormedPlans.{IsFitting}
use Rattle.proof_journals.specs.Machine.Runnable.{IsRunnable}
use Rattle.proof_journals.specs.Run.Counts.{IsAfter}
use Rattle.proof_journals.specs.Run.Kept.{IsKept}
use Rattle.run_turns.specs.declared.due_turns.migration_run.turn.Turn.{Turn}
use Rattle.run_turns.specs.DueTurns.MigrationRun.ServerTurns.{MayTurn}
use Rattle.run_turns.specs.DueTurns.Due.{due}
use Rattle.run_turns.specs.DueTurns.DueCalls.Ranges.{ahead_of, IsReported}

-- *Due turns may be taken*, all but commands, of a runnable plan, while the server may make a session more where the actor has
-- none
abbrev pub DueTurnsMayBe : Type 0
DueTurnsMayBe =
    (plan : PlanData) (journal : List Entry) (server : State) (actor : Actor) (turn : Turn) → IsRunnable plan → IsKept plan journal → IsAfter (state_at plan journal) server → server.made ≤ 4294967295 → (live_session journal turn.actor ≡ None → server.made < 4294967295) → due plan journal actor ≡ Some turn → is_command turn.asked ≡ false
    → MayTurn server (live_session journal turn.actor) turn

-- *Ranges are known ahead*: where a turn gets a range of keys, the tables before it have it
abbrev pub RangesAreAhead : Type 0
RangesAreAhead = (plan : PlanData) (journal : List Entry) (entry : Entry) → IsFitting plan → IsFaithful plan journal → Follows plan journal → IsAnswered (state_at plan journal) entry → IsFollowed plan journal entry → IsReported (ahead_of plan (state_at plan journal).tables entry.actor) entry.answer
