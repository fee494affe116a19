-- Whose the sessions on the server are.
use Rattle.std.specs.Prelude.{◌≡◌, ℕ, true, List, Some}
use Rattle.base_script.specs.declared.actor.Actor.{Actor}
use Rattle.server_model.specs.declared.entry.Entry.{Entry}
use Rattle.server_model.specs.States.{is_live}
use Rattle.plan_data.specs.PlanData.{PlanData}
use Rattle.tool_program.specs.JournalWords.Journals.{state_at, IsFaithful}
use Rattle.tool_program.specs.JournalWords.Sessions.{live_session}
use Rattle.tool_program.specs.Programs.{Follows}

-- the session is some actor's live one
pub record IsOwned (journal : List Entry) (session : ℕ) : Type 0 where
  pub actor : Actor
  pub lives : live_session journal actor ≡ Some session

-- *Sessions are owned*: so is each that is live on the server, after each faithful journal that follows the program.
abbrev pub SessionsAreOwned : Type 0
SessionsAreOwned = (plan : PlanData) (journal : List Entry) (session : ℕ) → IsFaithful plan journal → Follows plan journal → is_live (state_at plan journal) session ≡ true → IsOwned journal session
