-- The sentry relation after every journal, and what it says where the tool's RENAME may run.
use Rattle.std.specs.Prelude.{◌≡◌, ◌≢◌, ℕ, false, List, [], Some}
use Rattle.base_script.specs.declared.actor.Actor.{Actor}
use Rattle.server_model.specs.Along.{Along}
use Rattle.server_model.specs.declared.entry.Entry.{Entry}
use Rattle.server_model.specs.Entries.{is_command, same_actor}
use Rattle.plan_data.specs.PlanData.{PlanData}
use Rattle.tool_program.specs.JournalWords.Sessions.{live_session}
use Rattle.tool_program.specs.Programs.{IsFollowed}
use Rattle.proof_journals.specs.Sentry.TurnResults.{IsGuarded, IsNumbered, IsTurned, last_session}

-- *Journals are guarded*: after every journal whose entries are such turns the sentry relation holds.
abbrev pub JournalsAreGuarded : Type 0
JournalsAreGuarded = (plan : PlanData) (journal : List Entry) → Along (IsTurned plan) [] journal → IsGuarded plan journal

-- a journal that follows the program, with sessions from 1
abbrev pub FollowsNumbered : PlanData → List Entry → Type 0
FollowsNumbered plan journal = Along (λ before one. IsFollowed plan before one × IsNumbered one) [] journal

-- *A turn's session is no other actor's last one.*
abbrev pub SessionsDiffer : Type 0
SessionsDiffer =
    (plan : PlanData) (journal : List Entry) (entry : Entry) (actor : Actor) → FollowsNumbered plan journal → IsFollowed plan journal entry → IsNumbered entry → is_command entry.asked ≡ false → same_actor entry.actor actor ≡ false
    → last_session journal actor ≢ entry.session

-- *A live session is its actor's last one.*
abbrev pub LiveIsLast : Type 0
LiveIsLast = (plan : PlanData) (journal : List Entry) (actor : Actor) (session : ℕ) → FollowsNumbered plan journal → live_session journal actor ≡ Some session → session ≡ last_session journal actor
