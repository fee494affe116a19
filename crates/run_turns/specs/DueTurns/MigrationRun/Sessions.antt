-- The session of a turn's actor. (This project's rule.)
use Rattle.std.specs.Prelude.{◌≡◌, ◌<◌, ℕ, not, Option, Some, None}
use Rattle.base_script.specs.declared.actor.Actor.{Actor}
use Rattle.server_model.specs.Entries.{is_client}
use Rattle.server_model.specs.States.{State}
use Rattle.proof_journals.specs.Run.Counts.{kind_of}

-- the session that the actor has is live, the tool's or a client's as the actor is; a session above those that were made
-- isn't
abbrev pub IsSessionOf : State → Actor → Option ℕ → Type 0
IsSessionOf reported actor (Some session) = kind_of session reported.sessions ≡ Some (not (is_client actor))
IsSessionOf reported actor None = (k : ℕ) → reported.made < k → kind_of k reported.sessions ≡ None
