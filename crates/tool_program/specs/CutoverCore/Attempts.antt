-- *The cut-over*: the attempts to exchange the two tables by one RENAME, and what is cleared up after them. An attempt goes
-- through its stages in one order: the locker makes the sentry and locks the table and the sentry's name; the inspector writes
-- the hint row, and where the table has an AUTO_INCREMENT column it asks for the number that comes next and sets the new table's
-- counter to it; once that is done and the applier has passed the hint row, the renamer asks for the RENAME, which waits; the inspector sees it wait; the
-- locker drops the sentry and unlocks; and the RENAME runs. An attempt that doesn't succeed ends: the locker unlocks, the
-- RENAME is polled to its answer, and the inspector looks at the tables and drops the sentry where it exists. After the RENAME
-- the inspector looks, and drops the changelog and, where that is wanted, the old table. (gh-ost, "Cut-over", with its sentry
-- table and its lock on both names; the exact steps are this project's rule.)
use Rattle.std.specs.Prelude.{ℕ, Bool, false, ◌&&◌, not, if◌then◌else◌, List, [], ◌∷◌, Option, Some, None}
use Rattle.std.specs.List.{list_any}
use Rattle.std.specs.Str.{bytes_eq}
use Rattle.base_script.specs.declared.statement.Statement.TheVariants as statements
use Rattle.server_model.specs.declared.request.Request.{Request}
use Rattle.server_model.specs.declared.request.Request.TheVariants as requests
use Rattle.server_model.specs.declared.listing.TableName.{TableName}
use Rattle.tool_program.specs.declared.cutover_core.cutover.Role.{Role}
use Rattle.tool_program.specs.declared.cutover_core.cutover.Role.TheVariants.{Inspector, Locker, Renamer}
use Rattle.tool_program.specs.declared.cutover_core.cutover.Stage.{Stage}
use Rattle.tool_program.specs.declared.cutover_core.cutover.Stage.TheVariants.{Locking, Hinting, ReadingCounter, SettingCounter, Drained, Showing, Dropping, Unlocking}
use Rattle.tool_program.specs.declared.cutover_core.cutover.Leftovers.{Leftovers}
use Rattle.tool_program.specs.declared.cutover_core.cutover.Clearing.{Clearing}
use Rattle.tool_program.specs.declared.cutover_core.cutover.Clearing.TheVariants.{Looking, Drops}
use Rattle.tool_program.specs.declared.cutover_core.cutover.Phase.{Phase}
use Rattle.tool_program.specs.declared.cutover_core.cutover.Phase.TheVariants.{Resting, Attempting, Ending, Finishing}
use Rattle.tool_program.specs.declared.cutover_core.cutover.Hold.{Hold}
use Rattle.tool_program.specs.declared.cutover_core.cutover.Hold.TheVariants.{Nothing, Locks}
use Rattle.tool_program.specs.declared.cutover_core.cutover.CutOver.{CutOver}
use Rattle.base_values.specs.ToolNames.{ghost_name, log_name, old_name}
use Rattle.tool_changelog.specs.ToolTables.{sentry_comment, sentry_schema}
use Rattle.tool_changelog.specs.Hints.{hint_row}

-- a cut-over at its start
abbrev pub new_cutover : List ℕ → ℕ → Bool → Bool → CutOver
new_cutover table drain_limit drops_old has_counter =
    record { table = table; drain_limit = drain_limit; drops_old = drops_old; has_counter = has_counter; attempts = 0; phase = Resting; hold = Nothing; renamer_waits = false; is_asked = false; is_stopped = false }

-- nothing is left to be dropped
abbrev pub is_clear : Leftovers → Bool
is_clear left = not left.log && not left.new_table && not left.old

-- the first that is dropped: the changelog, then the new table, then the old one or the sentry
abbrev pub first_name : List ℕ → Leftovers → List ℕ
first_name table left = if left.log then log_name table else if left.new_table then ghost_name table else old_name table

abbrev pub without_first : Leftovers → Leftovers
without_first left =
    if left.log then record left { log = false } else if left.new_table then record left { new_table = false } else record left { old = false }

-- the listed tables have one of this name
abbrev pub has_name : List ℕ → List TableName → Bool
has_name name tables = list_any (λ table. bytes_eq table.name name) tables

-- the sentry is listed
abbrev pub has_sentry : List ℕ → List TableName → Bool
has_sentry table tables = list_any (λ listed. bytes_eq listed.name (old_name table) && bytes_eq listed.comment sentry_comment) tables

-- THE NEXT CALL

-- two tables exchanged as one
abbrev pub exchange : List ℕ → Request
exchange table = requests.Rename (record { old = table; new = old_name table } ∷ record { old = ghost_name table; new = table } ∷ [])

-- the locker's call in an attempt that may succeed
abbrev pub locker_at : List ℕ → Stage → Option Request
locker_at table Locking = Some (requests.LockTables (table ∷ old_name table ∷ []))
locker_at table Dropping = Some (requests.Drop (old_name table))
locker_at table Unlocking = Some requests.Unlock
locker_at table stage = None

-- the attempt ends: UNLOCK, where the table lock is held
abbrev pub unlocks : Hold → Option Request
unlocks Locks = Some requests.Unlock
unlocks hold = None

abbrev pub locker_call : CutOver → Phase → Option Request
locker_call cutover Resting = if cutover.is_stopped then None else Some (requests.Create (sentry_schema cutover.table))
locker_call cutover (Attempting stage) = locker_at cutover.table stage
locker_call cutover (Ending clearing) = unlocks cutover.hold
locker_call cutover phase = None

-- the hint row of an attempt is written
abbrev pub writes_hint : List ℕ → ℕ → Request
writes_hint table attempt = requests.Do (statements.Insert (log_name table) None (hint_row attempt) None)

abbrev pub inspector_at : CutOver → Stage → Option Request
inspector_at cutover Hinting = Some (writes_hint cutover.table cutover.attempts)
inspector_at cutover (ReadingCounter drain) = Some (requests.ShowCounter cutover.table)
inspector_at cutover (SettingCounter number drain) = Some (requests.SetCounter (ghost_name cutover.table) number)
inspector_at cutover Showing = Some requests.ShowWaiting
inspector_at cutover stage = None

-- the attempt's sessions are at rest: the locker neither waits nor holds the lock, and the RENAME doesn't wait
abbrev pub is_free : Hold → Bool → Bool
is_free Nothing renamer_waits = not renamer_waits
is_free hold renamer_waits = false

abbrev pub clears : List ℕ → Clearing → Option Request
clears table Looking = Some requests.ShowTables
clears table (Drops left) = Some (requests.Drop (first_name table left))

abbrev pub inspector_call : CutOver → Phase → Option Request
inspector_call cutover (Attempting stage) = inspector_at cutover stage
inspector_call cutover (Ending clearing) = if is_free cutover.hold cutover.renamer_waits then clears cutover.table clearing else None
inspector_call cutover (Finishing clearing) = clears cutover.table clearing
inspector_call cutover phase = None

abbrev pub renamer_call : CutOver → Phase → Option Request
renamer_call cutover (Attempting Drained) = Some (exchange cutover.table)
renamer_call cutover phase = None

-- *Next*: the call that comes next for this one of the three, where it doesn't wait.
unfoldable pub next : Role → CutOver → Option Request
next Inspector cutover = inspector_call cutover cutover.phase
next Locker cutover = locker_call cutover cutover.phase
next Renamer cutover = renamer_call cutover cutover.phase
