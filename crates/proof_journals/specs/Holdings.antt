-- What holds of the server, the open transactions and what happened, after each turn.
use Rattle.std.specs.Prelude.{◌≡◌, ◌≢◌, ◌⊎◌, ℕ, ◌==◌, Bool, true, false, List, [], ◌∷◌, ◌++◌, map, Option, Some, None}
use Rattle.std.specs.List.{AllByRecursion}
use Rattle.std.specs.Str.{bytes_eq}
use Rattle.server_locks.specs.MetadataLocks.Grants as grants
use Rattle.server_model.specs.declared.transaction.Mark.TheVariants as marks
use Rattle.server_model.specs.declared.session.Session.{Session}
use Rattle.server_model.specs.declared.session.HeldName.{HeldName}
use Rattle.server_model.specs.declared.transaction.Mark.{Mark}
use Rattle.server_model.specs.declared.transaction.Reply.{Reply}
use Rattle.base_script.specs.declared.script.ScriptWord.{ScriptWord}
use Rattle.table_store.specs.Databases.{Database}
use Rattle.server_model.specs.Operations.{after_events}
use Rattle.server_model.specs.Alone.{stays, line_events}
use Rattle.proof_journals.specs.Scenes.{Scene, PlainItem, Stored, SessionHold, Going, no_hold, not_going, IsKept}
use Rattle.proof_journals.specs.Turns.{MayAskIf}
use Rattle.server_model.specs.States.{State, locked_names, session_of, shared_names}
use Rattle.server_model.specs.declared.session.Waiting.{Waiting}
use Rattle.proof_journals.specs.LineRequests.{need_of_word}

-- what others see of a session: what it holds and wrote, the tables that it locked, and whether it is in a transaction
pub record Face : Type 0 where
  pub hold : SessionHold
  pub locked : List (List ℕ)
  pub busy : Bool

abbrev pub no_face : Face
no_face = record { hold = no_hold; locked = []; busy = false }

abbrev pub names_of : List HeldName → List (List ℕ)
names_of held = map (λ one. one.name) held

abbrev pub face_in : Option Session → Face
face_in None = no_face
face_in (Some session) = record { hold = record { names = names_of (shared_names session.names); locks = session.row_locks; writes = session.writes }; locked = locked_names session.names; busy = session.in_transaction }

abbrev pub face_of : List Session → ℕ → Face
face_of sessions number = face_in (session_of number sessions)

abbrev pub stored : State → Stored
stored state = record { tables = state.tables; log = state.log }

-- a client's session in a transaction has lines, all of them answered; a session outside one has none and holds nothing
-- but tables that it locked; a client locks none
pub record Fits (own : Bool) (face : Face) (going : Going) : Type 0 where
  pub rests : face.busy ≡ false → (face.hold ≡ no_hold) × (going ≡ not_going)
  pub goes : own ≡ true → face.busy ≡ true → going.lines ≢ []
  pub answered : AllByRecursion (λ line. line.mark ≡ marks.Answered) going.lines
  pub tools : own ≡ false → going ≡ not_going
  pub unended : stays going.lines ≡ false
  pub unlocked : own ≡ true → face.locked ≡ []

pub record Holds (scene : Scene) (now : Stored) (faces : ℕ → Face) (going : ℕ → Going) (past : List PlainItem) : Type 0 where
  pub kept : IsKept scene now (λ n. (faces n).hold) going past
  pub fits : (n : ℕ) → Fits (scene.client n) (faces n) (going n)

-- what a session holds and wrote after its line, and its lines
abbrev pub held_after : Database → SessionHold → ScriptWord → Mark → SessionHold
held_after tables hold word mark = record {
  names = hold.names ++ (need_of_word (after_events tables hold.writes) word).names;
  locks = hold.locks ++ (need_of_word (after_events tables hold.writes) word).locks;
  writes = hold.writes ++ line_events (after_events tables hold.writes) word mark;
}

abbrev pub lines_after : Going → ScriptWord → Mark → List Reply → Going
lines_after going word mark got = record { lines = going.lines ++ record { word = word; mark = mark } ∷ []; replies = going.replies ++ got }

-- the name is held so
abbrev pub IsHeld : grants.HeldName → List grants.HeldName → Type 0
IsHeld one [] = ⊥
IsHeld one (first ∷ held) = (one ≡ first) ⊎ IsHeld one held

-- a name that one session holds exclusively is no name of another
abbrev pub OneHolder : List grants.HeldName → Type 0
OneHolder held = (one other : grants.HeldName) → IsHeld one held → IsHeld other held → one.exclusive ≡ true → (other.session == one.session) ≡ false → bytes_eq other.name one.name ≡ false

-- requests that wait are allowed
abbrev pub ProperWaits : Scene → List Waiting → Type 0
ProperWaits scene waiting = AllByRecursion (λ one. MayAskIf (scene.client one.session) scene one.request) waiting
