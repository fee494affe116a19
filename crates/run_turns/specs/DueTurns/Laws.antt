-- What holds of a journal with the turn that is due.
use Rattle.std.specs.Prelude.{◌≡◌, List, [], ◌∷◌, ◌++◌, Some}
use Rattle.base_script.specs.declared.actor.Actor.{Actor}
use Rattle.server_model.specs.declared.entry.Entry.{Entry}
use Rattle.server_model.specs.States.{State}
use Rattle.plan_data.specs.PlanData.{PlanData}
use Rattle.tool_program.specs.JournalWords.Journals.{after_entry, state_at}
use Rattle.tool_program.specs.JournalWords.Sessions.{NumbersSessions}
use Rattle.proof_journals.specs.Run.Counts.{IsAfter}
use Rattle.proof_journals.specs.Run.Kept.{IsKept}
use Rattle.run_turns.specs.declared.due_turns.migration_run.turn.Turn.{Turn}
use Rattle.run_turns.specs.DueTurns.Due.{due, next_entry}

-- the journal with this entry is kept, and the server as the entry leaves it is the one after it
pub record IsKeptWith (plan : PlanData) (journal : List Entry) (server : State) (entry : Entry) : Type 0 where
  pub kept : IsKept plan (journal ++ entry ∷ [])
  pub following : IsAfter (state_at plan (journal ++ entry ∷ [])) (after_entry server entry)

-- *Due turns are kept*: a journal that a run keeps is kept with the turn that is due, as the server answers it
abbrev pub DueTurnsAreKept : Type 0
DueTurnsAreKept = (plan : PlanData) (journal : List Entry) (server : State) (actor : Actor) (turn : Turn) → IsKept plan journal → IsAfter (state_at plan journal) server → due plan journal actor ≡ Some turn → IsKeptWith plan journal server (next_entry journal server turn)

-- *Sessions are numbered one by one* where no session was made in vain
abbrev pub DueTurnsAreNumbered : Type 0
DueTurnsAreNumbered = (plan : PlanData) (journal : List Entry) (turn : Turn) → IsKept plan journal → NumbersSessions journal → NumbersSessions (journal ++ next_entry journal (state_at plan journal) turn ∷ [])
