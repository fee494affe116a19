-- What holds of a run turn by turn.
use Rattle.std.specs.Prelude.{◌≡◌, ℕ, ◌+◌, ◌<◌, ◌≤◌, nat_lt, max, Bool, false, not, List, [], ◌∷◌, ◌++◌, length, Option, Some, None}
use Rattle.base_script.specs.declared.actor.Actor.{Actor}
use Rattle.base_script.specs.declared.actor.Side.{Side}
use Rattle.server_model.specs.declared.entry.Asked.{Asked}
use Rattle.server_model.specs.declared.entry.Entry.{Entry}
use Rattle.server_model.specs.Entries.{is_client}
use Rattle.server_model.specs.States.{State, session_of, is_waiting, connected, load, is_tool_busy}
use Rattle.server_model.specs.PlainServer.{loses, serves, leaves}
use Rattle.plan_data.specs.PlanData.{PlanData}
use Rattle.tool_program.specs.JournalWords.Journals.{after_entry, state_at, IsAnswered, IsFaithful}
use Rattle.tool_program.specs.JournalWords.KeptPlans.{commands_taken, TakesNext, IsPlanned}
use Rattle.tool_program.specs.JournalWords.Sessions.{live_session, sessions_named, KeepsSessions}
use Rattle.tool_program.specs.Tools.{moment}
use Rattle.tool_program.specs.Programs.{given, IsFollowed}
use Rattle.proof_journals.specs.Run.Counts.{numbered, is_open, is_busy, busy_count, weigh, AreApart, kind_of}
use Rattle.proof_journals.specs.Run.Kept.{IsKept}

-- whose each live session is on the server: no two have one number, each actor's live session is there, the tool's or a
-- client's as the actor is, none has a number that wasn't made, and the greatest that was named was made last
pub record Living (journal : List Entry) (state : State) : Type 0 where
  pub apart : AreApart state.sessions
  pub kinds : (a : Actor) (n : ℕ) → live_session journal a ≡ Some n → kind_of n state.sessions ≡ Some (not (is_client a))
  pub fresh : (k : ℕ) → state.made < k → kind_of k state.sessions ≡ None
  pub named : state.made ≡ sessions_named journal
  pub few : length state.sessions ≤ state.made

-- *Sessions are known*: after every journal that is faithful and keeps to sessions
abbrev pub SessionsAreKnown : Type 0
SessionsAreKnown = (plan : PlanData) (journal : List Entry) → IsFaithful plan journal → KeepsSessions journal → Living journal (state_at plan journal)

-- nobody waits but live sessions
abbrev pub NoneWaits : State → Type 0
NoneWaits state = (k : ℕ) → kind_of k state.sessions ≡ None → is_waiting state k ≡ false

abbrev pub WaitsAreLive : Type 0
WaitsAreLive = (plan : PlanData) (journal : List Entry) → IsFaithful plan journal → KeepsSessions journal → NoneWaits (state_at plan journal)

-- *Lost at once*: a session that connects, and is lost without a call, leaves nothing but its number
abbrev pub NothingIsLeft : Type 0
NothingIsLeft = (state : State) (number : ℕ) (tool : Bool) → kind_of number state.sessions ≡ None → is_waiting state number ≡ false → loses number (connected number tool state) ≡ numbered (max state.made number) state

-- *Counts change by the turn's own session*: how many transactions of clients are open, and how many sessions of the
-- tool's wait or are in a transaction
pub record CountsChange (state : State) (entry : Entry) : Type 0 where
  pub load : load (after_entry state entry) + weigh is_open (session_of entry.session state.sessions) ≡ load state + weigh is_open (session_of entry.session (after_entry state entry).sessions)
  pub busy : busy_count (after_entry state entry) + weigh (is_busy state.waiting) (session_of entry.session state.sessions) ≡ busy_count state + weigh (is_busy (after_entry state entry).waiting) (session_of entry.session (after_entry state entry).sessions)

abbrev pub CountsAreOwn : Type 0
CountsAreOwn = (state : State) (entry : Entry) → AreApart state.sessions → CountsChange state entry

-- *The tool is busy* exactly where some of its sessions is
abbrev pub BusyIsCounted : Type 0
BusyIsCounted = (state : State) → is_tool_busy state ≡ nat_lt 0 (busy_count state)

-- *Numbers of sessions don't matter*: the plain server answers the same, and leaves the same, whatever number its last
-- session was given
pub record SameAnswers (made : ℕ) (state : State) (session : ℕ) (side : Option Side) (asked : Asked) : Type 0 where
  pub answer : (serves (numbered made state) session asked).answer ≡ (serves state session asked).answer
  pub left : leaves side (numbered made state) session asked ≡ numbered made (leaves side state session asked)

abbrev pub NumbersDontMatter : Type 0
NumbersDontMatter = (made : ℕ) (state : State) (session : ℕ) (side : Option Side) (asked : Asked) → SameAnswers made state session side asked

-- *The moment is the journal's*: its server is the state at the journal's end, it counts the journal's turns, and the operator
-- took as many commands as are there
pub record IsMomentOf (plan : PlanData) (journal : List Entry) : Type 0 where
  pub server : (moment plan journal).server ≡ state_at plan journal
  pub turns : (moment plan journal).tool.turns ≡ length journal
  pub taken : (moment plan journal).tool.operator.taken ≡ commands_taken journal

abbrev pub MomentsAreOfJournals : Type 0
MomentsAreOfJournals = (plan : PlanData) (journal : List Entry) → IsMomentOf plan journal

-- *What is given keeps the plan*: it is what the plan has the actor ask
abbrev pub GivenIsPlanned : Type 0
GivenIsPlanned = (plan : PlanData) (journal : List Entry) (actor : Actor) (asked : Asked) → given plan journal actor ≡ Some asked → TakesNext plan journal actor asked

-- *Journals grow*: one that a run keeps is kept with one turn more, where that is answered, planned and followed
abbrev pub JournalsGrow : Type 0
JournalsGrow = (plan : PlanData) (journal : List Entry) (entry : Entry) → IsKept plan journal → IsAnswered (state_at plan journal) entry → IsPlanned plan journal entry → IsFollowed plan journal entry → IsKept plan (journal ++ entry ∷ [])
