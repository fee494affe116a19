-- *Free turns*: those that take no memory. (This project's rule.)
use Rattle.std.specs.Prelude.{ℕ, Bool, true, false, ◌&&◌, ◌||◌, nat_lt, Option, Some, None}
use Rattle.base_script.specs.declared.actor.Side.{Side}
use Rattle.base_script.specs.declared.actor.Side.TheVariants.{Before, After}
use Rattle.server_model.specs.declared.entry.Asked.{Asked}
use Rattle.server_model.specs.declared.entry.Asked.TheVariants.{Call, Poll, Command, Cut}
use Rattle.server_model.specs.Conditions.{is_free, is_freely_polled}
use Rattle.server_model.specs.Entries.{is_command}
use Rattle.server_model.specs.States.{State}
use Rattle.run_turns.specs.declared.due_turns.migration_run.turn.Turn.{Turn}
use Rattle.run_turns.specs.DueTurns.MigrationRun.ServerTurns.{is_before}

-- What is asked in a live session: what is lost before it is done, or between calls; COMMIT, ROLLBACK and UNLOCK TABLES; and a poll
-- of LOCK TABLES, CREATE, DROP or RENAME that stays blocked. What is lost after it is done isn't free, since the answer is kept that
-- nobody hears.
abbrev pub is_free_in : State → ℕ → Option Side → Asked → Bool
is_free_in server session (Some After) asked = false
is_free_in server session (Some Before) asked = true
is_free_in server session None (Call request) = is_free request
is_free_in server session None Poll = is_freely_polled server session
is_free_in server session None (Command word) = true
is_free_in server session None Cut = true

-- there is a session for the turn: a live one, or the number of a new one
abbrev pub is_numbered : State → Option ℕ → Bool
is_numbered server None = nat_lt server.made 4294967295
is_numbered server (Some session) = true

-- a new session that is lost before it asks anything isn't made: its number is used up, while one is left
abbrev pub is_freely_passed : State → Turn → Bool
is_freely_passed server turn = is_before turn.side && is_numbered server None

-- *Free turn* of an actor, in its live session where it has one; another new session takes memory, and a command needs none
abbrev pub is_free_turn : State → Option ℕ → Turn → Bool
is_free_turn server None turn = is_command turn.asked || is_freely_passed server turn
is_free_turn server (Some session) turn = is_free_in server session turn.side turn.asked
