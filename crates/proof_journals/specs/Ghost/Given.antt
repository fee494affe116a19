-- What a session holds and wrote after a job that was granted.
use Rattle.std.specs.Prelude.{◌≡◌, ℕ, ◌==◌, false, ◌++◌}
use Rattle.proof_journals.specs.Scenes.{SessionHold, Stored}
use Rattle.server_model.specs.Operations.{Operation, after_events, operation_needs, operation_result}
use Rattle.server_model.specs.LockedRows.Agreement.{Within}
use Rattle.server_model.specs.LockedRows.Coverage.{Apart}

-- *Granted*: the session keeps its locks, has those that the job needs, none of which conflicts with another session's, and
-- wrote what the job says of the tables as it sees them.
pub record IsGiven (now : Stored) (hold : ℕ → SessionHold) (number : ℕ) (operation : Operation) (own : SessionHold) : Type 0 where
  pub kept : Within (hold number).locks own.locks
  pub needed : Within (operation_needs (after_events now.tables (hold number).writes) operation) own.locks
  pub apart : (n : ℕ) → (n == number) ≡ false → Apart own.locks (hold n).locks
  pub wrote : own.writes ≡ (hold number).writes ++ (operation_result (after_events now.tables (hold number).writes) operation).events
