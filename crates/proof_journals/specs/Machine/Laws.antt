-- What holds of the tool's machines and their sessions after every journal.
use Rattle.std.specs.Prelude.{◌≡◌, ℕ, Bool, true, false, List, [], ◌∷◌, ◌++◌, Some, None}
use Rattle.std.specs.List.{AllByRecursion, list_any}
use Rattle.base_script.specs.declared.actor.Actor.{Actor}
use Rattle.base_script.specs.declared.actor.Side.{Side}
use Rattle.server_model.specs.declared.entry.Asked.TheVariants.{Call, Poll, Cut}
use Rattle.server_model.specs.declared.entry.Entry.{Entry}
use Rattle.server_model.specs.declared.outcome.Cause.{Cause}
use Rattle.server_model.specs.declared.outcome.Verdict.TheVariants as verdicts
use Rattle.server_model.specs.declared.request.Request.{Request}
use Rattle.server_model.specs.declared.request.Request.TheVariants as requests
use Rattle.server_model.specs.Conditions.{ComesWell, MayCall, MayPoll, MayLose}
use Rattle.server_model.specs.Entries.{same_actor}
use Rattle.server_model.specs.States.{State, session_of, is_live, is_in_transaction, holds_tables, is_waiting}
use Rattle.server_model.specs.LockedRows.Coverage.{IsWellFormedTable}
use Rattle.plan_data.specs.PlanData.{PlanData}
use Rattle.tool_program.specs.JournalWords.Histories.{history, is_alter}
use Rattle.tool_program.specs.JournalWords.Journals.{state_at, IsAnswered, IsFaithful}
use Rattle.tool_program.specs.JournalWords.Sessions.{live_session, sessions_named, IsSeated, KeepsSessions}
use Rattle.tool_program.specs.Programs.{given, Follows}
use Rattle.tool_program.specs.Verdicts.{has_ended, verdict_of}
use Rattle.tool_program.specs.Tools.{is_reverting, moment}
use Rattle.proof_journals.specs.Machine.Standings.{standing_of, answered, IsAbout, serves_to, MayTake, opened_for}
use Rattle.proof_journals.specs.Machine.Machines.{ToolPhaseStands}
use Rattle.proof_journals.specs.Machine.Scripts.{ScriptsFit}
use Rattle.proof_journals.specs.Machine.FormedPlans.{IsFitting}
use Rattle.proof_journals.specs.Machine.MigrationTables.{TableExists, ToolPhaseTables}
use Rattle.proof_journals.specs.Machine.TableKeys.{StaysWellFormed}
use Rattle.proof_journals.specs.Machine.Runnable.{IsRunnable}

-- a turn of an actor's leaves the other actors' sessions what they have, and its own what the answer tells
pub record StandsOn (plan : PlanData) (journal : List Entry) (entry : Entry) : Type 0 where
  pub others : (a : Actor) → same_actor entry.actor a ≡ false → standing_of plan (journal ++ entry ∷ []) a ≡ standing_of plan journal a
  pub own : (request : Request) → IsAbout request (standing_of plan journal entry.actor) entry.asked → standing_of plan (journal ++ entry ∷ []) entry.actor ≡ answered request entry.answer (standing_of plan journal entry.actor)
  pub heard : (request : Request) → IsAbout request (standing_of plan journal entry.actor) entry.asked → entry.side ≡ None → serves_to request entry.answer ≡ true

-- *Answers tell standings*: so does each turn after a faithful journal that keeps to its sessions, whatever program it follows.
abbrev pub AnswersTellStandings : Type 0
AnswersTellStandings = (plan : PlanData) (journal : List Entry) (entry : Entry) → IsFaithful plan journal → KeepsSessions journal → IsAnswered (state_at plan journal) entry → IsSeated journal entry → StandsOn plan journal entry

-- each actor's live session is live on the server, and the greatest number that the server gave is the greatest named
pub record IsNumberedBy (plan : PlanData) (journal : List Entry) : Type 0 where
  pub live : (a : Actor) (n : ℕ) → live_session journal a ≡ Some n → is_live (state_at plan journal) n ≡ true
  pub made : (state_at plan journal).made ≡ sessions_named journal

-- *Sessions are numbered* so after each faithful journal that keeps to its sessions.
abbrev pub SessionsAreNumbered : Type 0
SessionsAreNumbered = (plan : PlanData) (journal : List Entry) → IsFaithful plan journal → KeepsSessions journal → IsNumberedBy plan journal

-- *Machines stand with their sessions* after each faithful journal that follows the program.
abbrev pub MachinesStand : Type 0
MachinesStand =
    (plan : PlanData) (journal : List Entry) → IsFaithful plan journal → Follows plan journal
    → ToolPhaseStands journal (standing_of plan journal) (is_reverting (moment plan journal).tool.reason) (moment plan journal).tool.tool_phase

-- a call's session is live and doesn't wait, and the request may come now
pub record IsCalledWell (state : State) (session : ℕ) (request : Request) : Type 0 where
  pub live : is_live state session ≡ true
  pub idle : is_waiting state session ≡ false
  pub comes : ComesWell (is_in_transaction (session_of session state.sessions)) (holds_tables (session_of session state.sessions)) request

-- *Given calls come well*: what is given to an actor comes so, in its live session or in a new one.
abbrev pub GivenCallsComeWell : Type 0
GivenCallsComeWell =
    (plan : PlanData) (journal : List Entry) (actor : Actor) (request : Request) (n : ℕ) → ScriptsFit plan → IsFaithful plan journal → Follows plan journal → given plan journal actor ≡ Some (Call request) → MayTake journal n (live_session journal actor)
    → IsCalledWell (opened_for plan journal actor n) n request

-- the three requests whose keys have to be of the table's kinds: where a chunk ends, its keys, and the copy of a row
abbrev pub has_keys : Request → Bool
has_keys (requests.ChunkEnd table low top size) = true
has_keys (requests.BeginSpan table span size) = true
has_keys (requests.CopyRow from into map key) = true
has_keys request = false

-- *Given calls may be made*: what is given to an actor may be called, in its live session or in a new one; but for these
-- three of the copier's, of which this says nothing.
abbrev pub GivenCallsMayBeMade : Type 0
GivenCallsMayBeMade =
    (plan : PlanData) (journal : List Entry) (actor : Actor) (request : Request) (n : ℕ) → IsFitting plan → IsFaithful plan journal → Follows plan journal → given plan journal actor ≡ Some (Call request) → MayTake journal n (live_session journal actor) → has_keys request ≡ false
    → MayCall (opened_for plan journal actor n) n request

-- *Given polls may be made*: an actor to whom a poll is given has a live session, whose request waits, and that may be
-- polled; but for these three requests, of which this says nothing.
abbrev pub GivenPollsMayBeMade : Type 0
GivenPollsMayBeMade =
    (plan : PlanData) (journal : List Entry) (actor : Actor) → IsFitting plan → IsFaithful plan journal → Follows plan journal → given plan journal actor ≡ Some Poll → ((request : Request) → (standing_of plan journal actor).waits ≡ Some request → has_keys request ≡ false)
    → (n : ℕ) × (live_session journal actor ≡ Some n) × MayPoll (state_at plan journal) n

-- *Tables stand until all is copied*: the migrated one with its schema, and the new one from its making on.
abbrev pub TablesExistUncopied : Type 0
TablesExistUncopied =
    (plan : PlanData) (journal : List Entry) → IsFitting plan → TableExists plan → IsFaithful plan journal → Follows plan journal
    → ToolPhaseTables plan (state_at plan journal).tables (standing_of plan journal) (moment plan journal).tool.tool_phase

-- *Tables stay tables* with clustered keys before each turn, where they are so at the start.
abbrev pub TablesStayTables : Type 0
TablesStayTables =
    (plan : PlanData) (journal : List Entry) → IsFitting plan → AllByRecursion IsWellFormedTable plan.tables → IsFaithful plan journal → Follows plan journal → StaysWellFormed plan journal

-- *Given calls may be called*, all of them: of a runnable plan, after each faithful journal that follows the program.
abbrev pub GivenCallsMayBeCalled : Type 0
GivenCallsMayBeCalled =
    (plan : PlanData) (journal : List Entry) (actor : Actor) (request : Request) (n : ℕ) → IsRunnable plan → IsFaithful plan journal → Follows plan journal → given plan journal actor ≡ Some (Call request) → MayTake journal n (live_session journal actor)
    → MayCall (opened_for plan journal actor n) n request

-- *Given polls may be called*, all of them, likewise
abbrev pub GivenPollsMayBeCalled : Type 0
GivenPollsMayBeCalled =
    (plan : PlanData) (journal : List Entry) (actor : Actor) → IsRunnable plan → IsFaithful plan journal → Follows plan journal → given plan journal actor ≡ Some Poll → (n : ℕ) × (live_session journal actor ≡ Some n) × MayPoll (state_at plan journal) n

-- an actor's session may be lost between its turns, and in a call or a poll that is given, before the effect or after it
pub record MayLoseAny (plan : PlanData) (journal : List Entry) (actor : Actor) : Type 0 where
  pub between : (n : ℕ) → live_session journal actor ≡ Some n → MayLose (state_at plan journal) n None Cut
  pub called : (request : Request) (n : ℕ) (side : Side) → given plan journal actor ≡ Some (Call request) → MayTake journal n (live_session journal actor) → MayLose (opened_for plan journal actor n) n (Some side) (Call request)
  pub polled : (n : ℕ) (side : Side) → given plan journal actor ≡ Some Poll → live_session journal actor ≡ Some n → MayLose (state_at plan journal) n (Some side) Poll

-- *Losses may be*, all of them, likewise
abbrev pub LossesMayBe : Type 0
LossesMayBe = (plan : PlanData) (journal : List Entry) (actor : Actor) → IsRunnable plan → IsFaithful plan journal → Follows plan journal → MayLoseAny plan journal actor

-- of a run that has ended the verdict is *done* where the history has the ALTER, and else *reverted*
pub record TellsAlter (plan : PlanData) (journal : List Entry) : Type 0 where
  pub done : list_any is_alter (history plan journal) ≡ true → verdict_of plan journal ≡ verdicts.Done
  pub reverted : list_any is_alter (history plan journal) ≡ false → (cause : Cause) × (verdict_of plan journal ≡ verdicts.Reverted cause)

-- *Verdicts tell the ALTER* of a fitting plan whose migrated table exists, once the run has ended.
abbrev pub VerdictsTellTheAlter : Type 0
VerdictsTellTheAlter = (plan : PlanData) (journal : List Entry) → IsFitting plan → TableExists plan → IsFaithful plan journal → Follows plan journal → has_ended plan journal ≡ true → TellsAlter plan journal
