-- *Locked counters stay*: while a session holds a table's name exclusively, no other session's turn moves the table's counter, but one
-- that makes, drops or renames a table of that name, or sets its counter.
use Rattle.std.specs.Prelude.{◌≡◌, ◌≢◌, ℕ, true, false, List, Option, Some}
use Rattle.std.specs.Str.{bytes_eq}
use Rattle.base_script.specs.declared.actor.Side.{Side}
use Rattle.server_locks.specs.MetadataLocks.Grants.{holds}
use Rattle.server_model.specs.declared.entry.Asked.{Asked}
use Rattle.server_model.specs.declared.request.Request.{Request}
use Rattle.server_model.specs.declared.request.Request.TheVariants as requests
use Rattle.server_model.specs.PlainServer.{asks_for, counters_left}
use Rattle.server_model.specs.States.{State, names_held, next_of}
use Rattle.proof_journals.specs.Rising.{LeavesName}

-- the request leaves the counters of tables of this name: it makes, drops and renames none, and sets no counter of one
abbrev pub LeavesCounter : List ℕ → Option Request → Type 0
LeavesCounter name (Some (requests.SetCounter table least)) = bytes_eq name table ≡ false
LeavesCounter name asks = LeavesName name asks

-- *Locked counters stay*
abbrev pub LockedCountersStay : Type 0
LockedCountersStay =
    (name : List ℕ) (locker : ℕ) (side : Option Side) (state : State) (number : ℕ) (asked : Asked) → locker ≢ number → holds (names_held state.sessions) locker name true ≡ true → LeavesCounter name (asks_for state number asked)
    → next_of name (counters_left side state number asked) ≡ next_of name state.counters
