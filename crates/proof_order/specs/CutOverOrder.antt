-- *The order of the cut-over*, read from the journal alone: who called what, and what was answered. The sentry is dropped once
-- the RENAME was seen to wait, under the lock; the RENAME is called once a hint row of its own attempt was applied, and once the new
-- table's counter was set to what the old table's was shown to be under the lock, where it has one; nothing is read of the log from
-- then on; and an attempt that failed is cleared up once nobody holds or waits. (gh-ost, "Cut-over"; the counter is this project's
-- rule.)
use Rattle.std.specs.Prelude.{◌≡◌, ℕ, ◌+◌, ◌==◌, Bool, true, false, ◌&&◌, ◌||◌, not, if◌then◌else◌, List, [], ◌∷◌, fold, Option, Some, None}
use Rattle.std.specs.List.{list_any}
use Rattle.std.specs.Str.{bytes_eq}
use Rattle.base_script.specs.declared.actor.Actor.{Actor}
use Rattle.base_script.specs.declared.actor.Actor.TheVariants.{Insp, Apply, Lock, Ren, Client}
use Rattle.base_script.specs.declared.statement.Statement.TheVariants as statements
use Rattle.base_values.specs.declared.event.RowEvent.{RowEvent}
use Rattle.base_values.specs.declared.value.Value.{Value}
use Rattle.base_values.specs.ToolNames.{ghost_name, log_name, old_name}
use Rattle.server_model.specs.Along.{Along}
use Rattle.server_model.specs.Entries.{same_actor, request_in}
use Rattle.server_model.specs.declared.answer.Answer.{Answer}
use Rattle.server_model.specs.declared.answer.Answer.TheVariants as answers
use Rattle.server_model.specs.declared.entry.Asked.{Asked}
use Rattle.server_model.specs.declared.entry.Asked.TheVariants.{Call, Cut}
use Rattle.server_model.specs.declared.entry.Entry.{Entry}
use Rattle.server_model.specs.declared.listing.ShownWaiter.{ShownWaiter}
use Rattle.server_model.specs.declared.listing.TableName.{TableName}
use Rattle.server_model.specs.declared.request.Request.{Request}
use Rattle.server_model.specs.declared.request.Request.TheVariants as requests
use Rattle.plan_data.specs.PlanData.{PlanData, has_counter}
use Rattle.tool_changelog.specs.Hints.{hint_row, last_hint}
use Rattle.tool_program.specs.CutoverCore.Attempts.{has_sentry}

-- WHAT AN ACTOR DID LAST

abbrev pub called_after : Asked → Option Request → Option Request
called_after (Call request) last = Some request
called_after asked last = last

abbrev pub call_after : Actor → Actor → Asked → Option Request → Option Request
call_after actor other asked last = if same_actor other actor then called_after asked last else last

-- *Last call*: what the actor called last, by the turns so far.
unfoldable pub last_call : Actor → List Entry → Option Request
last_call actor journal = fold (λ last entry. call_after actor entry.actor entry.asked last) None journal

abbrev pub answer_after : Actor → Actor → Answer → Option Answer → Option Answer
answer_after actor other answer last = if same_actor other actor then Some answer else last

-- *Last answer*: what the actor was answered last, by the turns so far.
unfoldable pub last_answer : Actor → List Entry → Option Answer
last_answer actor journal = fold (λ last entry. answer_after actor entry.actor entry.answer last) None journal

-- a loss between calls is the answer to no call
abbrev pub reply_after : Actor → Actor → Asked → Answer → Option Answer → Option Answer
reply_after actor other Cut answer last = last
reply_after actor other asked answer last = answer_after actor other answer last

-- *Last reply*: what the actor was answered last when it called or polled, by the turns so far.
unfoldable pub last_reply : Actor → List Entry → Option Answer
last_reply actor journal = fold (λ last entry. reply_after actor entry.actor entry.asked entry.answer last) None journal

-- who was answered so last waits
abbrev pub waits_so : Option Answer → Bool
waits_so (Some (answers.Waits by)) = true
waits_so answer = false

-- Who called this last, and was answered so, holds its tables by LOCK TABLES: that was granted; or a table was dropped since,
-- which gives up no lock.
abbrev pub holds_so : Option Request → Option Answer → Bool
holds_so (Some (requests.LockTables names)) (Some (answers.Ok count)) = true
holds_so (Some (requests.Drop name)) (Some answers.Lost) = false
holds_so (Some (requests.Drop name)) (Some answer) = true
holds_so call answer = false

-- the locker holds the tables
abbrev pub is_locked : List Entry → Bool
is_locked before = holds_so (last_call Lock before) (last_answer Lock before)

-- nobody of the attempt holds the tables or waits
abbrev pub is_at_rest : List Entry → Bool
is_at_rest before = not (is_locked before) && not (waits_so (last_answer Lock before)) && not (waits_so (last_answer Ren before))

-- THE ATTEMPT

-- the locker's CREATE, of the sentry, begins an attempt
abbrev pub begins : Actor → Asked → Bool
begins Lock (Call (requests.Create schema)) = true
begins actor asked = false

abbrev pub begun_after : Actor → Asked → ℕ → ℕ
begun_after actor asked count = if begins actor asked then count + 1 else count

-- *Attempts begun* so far.
unfoldable pub attempts_begun : List Entry → ℕ
attempts_begun journal = fold (λ count entry. begun_after entry.actor entry.asked count) 0 journal

-- in which session the RENAME of the attempt was called, 0 where it wasn't yet; and whether a listing of waits had it
pub record Shown : Type 0 where
  pub session : ℕ
  pub shown : Bool

abbrev pub has_session : ℕ → List ShownWaiter → Bool
has_session session waiters = list_any (λ waiter. waiter.session == session) waiters

abbrev pub shown_after : Actor → ℕ → Asked → Answer → Shown → Shown
shown_after Lock session (Call (requests.Create schema)) answer shown = record { session = 0; shown = false }
shown_after Ren session (Call (requests.Rename pairs)) answer shown = record shown { session = session }
shown_after Insp session asked (answers.Waiting waiters) shown = record shown { shown = shown.shown || has_session shown.session waiters }
shown_after actor session asked answer shown = shown

-- *Shown*: whether the inspector was shown that the RENAME of this attempt waits.
unfoldable pub rename_shown : List Entry → Shown
rename_shown journal = fold (λ shown entry. shown_after entry.actor entry.session entry.asked entry.answer shown) (record { session = 0; shown = false }) journal

abbrev pub renamed_after : Actor → Answer → Bool → Bool
renamed_after Ren (answers.Ok count) renamed = true
renamed_after actor answer renamed = renamed

-- *Renamed*: the RENAME was done, as the renamer was answered.
unfoldable pub is_renamed : List Entry → Bool
is_renamed journal = fold (λ renamed entry. renamed_after entry.actor entry.answer renamed) false journal

abbrev pub listed_after : Actor → Answer → List TableName → List TableName
listed_after Insp (answers.Tables tables) listed = tables
listed_after actor answer listed = listed

-- *Listed*: the tables that the inspector was shown last.
unfoldable pub tables_listed : List Entry → List TableName
tables_listed journal = fold (λ listed entry. listed_after entry.actor entry.answer listed) [] journal

-- The RENAME was called, and its attempt isn't over: it is once the inspector's listing has no sentry, or its DROP is done.
abbrev pub renaming_after : PlanData → Actor → Asked → Answer → Bool → Bool
renaming_after plan Ren (Call (requests.Rename pairs)) answer renaming = true
renaming_after plan Insp asked (answers.Tables tables) renaming = renaming && has_sentry plan.table tables
renaming_after plan Insp (Call (requests.Drop name)) (answers.Ok count) renaming = false
renaming_after plan actor asked answer renaming = renaming

-- *Renaming*: from the call of a RENAME to the end of its attempt.
unfoldable pub is_renaming : PlanData → List Entry → Bool
is_renaming plan journal = fold (λ renaming entry. renaming_after plan entry.actor entry.asked entry.answer renaming) false journal

-- THE HINT ROWS

-- the attempts whose hint rows the applier came past, the last one, and that of the events that were read last
pub record Hints : Type 0 where
  pub passed : List ℕ
  pub last : ℕ
  pub read : ℕ

-- no event is of the table
abbrev pub has_none : List ℕ → List RowEvent → Bool
has_none table events = not (list_any (λ event. bytes_eq event.table table) events)

abbrev pub past : ℕ → Hints → Hints
past hint hints = record { passed = hint ∷ hints.passed; last = hint; read = hint }

-- the events were read: where none is of the table nothing is to be applied
abbrev pub read_so : PlanData → List RowEvent → Hints → Hints
read_so plan events hints = if has_none plan.table events then past (last_hint plan.table hints.last events) hints else record hints { read = last_hint plan.table hints.last events }

-- what is read is applied once it is committed
abbrev pub hints_after : PlanData → Actor → Asked → Answer → Hints → Hints
hints_after plan Apply (Call (requests.ReadLog position limit tables)) (answers.Events events next) hints = read_so plan events hints
hints_after plan Apply (Call requests.Commit) (answers.Ok count) hints = past hints.read hints
hints_after plan actor asked answer hints = hints

-- *Hints applied*: the hint rows that the applier has come past, so that all before them is applied.
unfoldable pub hints_applied : PlanData → List Entry → Hints
hints_applied plan journal = fold (λ hints entry. hints_after plan entry.actor entry.asked entry.answer hints) (record { passed = []; last = 0; read = 0 }) journal

-- THE COUNTER

-- who called this last, and was answered so, was shown that the table's counter is this number
abbrev pub shown_so : List ℕ → ℕ → Option Request → Option Answer → Bool
shown_so table number (Some (requests.ShowCounter name)) (Some (answers.At shown)) = bytes_eq name table && (shown == number)
shown_so table number call answer = false

-- who called this last, and was answered so, set the table's counter
abbrev pub set_so : List ℕ → Option Request → Option Answer → Bool
set_so table (Some (requests.SetCounter name number)) (Some (answers.Ok count)) = bytes_eq name table
set_so table call answer = false

-- the inspector set the new table's counter, and called nothing since
abbrev pub is_carried : PlanData → List Entry → Bool
is_carried plan before = set_so (ghost_name plan.table) (last_call Insp before) (last_reply Insp before)

-- WHAT IS ASKED OF A CALL

-- The locker drops the sentry alone, once the RENAME was seen to wait, and under the lock. In an attempt the inspector drops
-- what has the old table's name where it is the sentry, by what was listed last, or where the plan lets it drop the old table.
-- Nobody else drops a table.
abbrev pub drops_well : PlanData → List Entry → Actor → Request → Bool
drops_well plan before Lock (requests.Drop name) = bytes_eq name (old_name plan.table) && (rename_shown before).shown && is_locked before
drops_well plan before Insp (requests.Drop name) =
    not (bytes_eq name (old_name plan.table)) || (attempts_begun before == 0) || plan.options.ok_to_drop_table || has_sentry plan.table (tables_listed before)
drops_well plan before actor (requests.Drop name) = false
drops_well plan before actor request = true

-- The renamer alone renames: under the lock, once the hint row of the attempt that was begun last was applied, and where the table
-- has a counter once the new table's is set.
abbrev pub renames_well : PlanData → List Entry → Actor → Request → Bool
renames_well plan before Ren (requests.Rename pairs) =
    list_any (λ attempt. attempt == attempts_begun before) (hints_applied plan before).passed && is_locked before && (not (has_counter plan) || is_carried plan before)
renames_well plan before actor (requests.Rename pairs) = false
renames_well plan before actor request = true

-- The applier alone reads the log, and begins no batch from a RENAME's call to its attempt's end.
abbrev pub reads_well : PlanData → List Entry → Actor → Request → Bool
reads_well plan before Apply (requests.ReadLog position limit tables) = not (is_renaming plan before)
reads_well plan before actor (requests.ReadLog position limit tables) = false
reads_well plan before actor request = true

-- Until the RENAME was done the inspector lists tables, and drops them, where no attempt holds the tables or waits.
abbrev pub clears_well : List Entry → Actor → Request → Bool
clears_well before Insp requests.ShowTables = is_renamed before || is_at_rest before
clears_well before Insp (requests.Drop name) = is_renamed before || is_at_rest before
clears_well before actor request = true

-- The inspector alone asks for a counter, and sets one: the old table's is shown to it under the lock, and at once it sets the new
-- table's to that number.
abbrev pub counts_well : PlanData → List Entry → Actor → Request → Bool
counts_well plan before Insp (requests.ShowCounter name) = bytes_eq name plan.table && is_locked before
counts_well plan before Insp (requests.SetCounter name number) =
    bytes_eq name (ghost_name plan.table) && shown_so plan.table number (last_call Insp before) (last_reply Insp before) && is_locked before
counts_well plan before actor (requests.ShowCounter name) = false
counts_well plan before actor (requests.SetCounter name number) = false
counts_well plan before actor request = true

-- what the inspector inserts is the hint row of the attempt that was begun last, under the lock
pub record IsHint (plan : PlanData) (before : List Entry) (table : List ℕ) (row : List Value) : Type 0 where
  pub log : table ≡ log_name plan.table
  pub hint : row ≡ hint_row (attempts_begun before)
  pub locked : is_locked before ≡ true

-- what it writes by REPLACE are rows of notes, where no attempt holds the tables or waits
pub record IsNoted (plan : PlanData) (before : List Entry) (table : List ℕ) : Type 0 where
  pub log : table ≡ log_name plan.table
  pub rests : is_at_rest before ≡ true

abbrev pub HintsWell : PlanData → List Entry → Actor → Request → Type 0
HintsWell plan before Insp (requests.Do (statements.Insert table columns row drawn)) = IsHint plan before table row
HintsWell plan before Insp (requests.Do (statements.Replace table columns row drawn)) = IsNoted plan before table
HintsWell plan before actor request = Unit {0}

-- a call of the tool's comes in its order
pub record IsOrderedCall (plan : PlanData) (before : List Entry) (actor : Actor) (request : Request) : Type 0 where
  pub drops : drops_well plan before actor request ≡ true
  pub renames : renames_well plan before actor request ≡ true
  pub reads : reads_well plan before actor request ≡ true
  pub clears : clears_well before actor request ≡ true
  pub hints : HintsWell plan before actor request
  pub counts : counts_well plan before actor request ≡ true

abbrev pub IsOrderedTurn : PlanData → List Entry → Actor → Option Request → Type 0
IsOrderedTurn plan before (Client client) request = Unit {0}
IsOrderedTurn plan before actor None = Unit {0}
IsOrderedTurn plan before actor (Some request) = IsOrderedCall plan before actor request

-- *Keeps the order of the cut-over*: each call of the tool's comes in its order.
unfoldable pub KeepsOrder : PlanData → List Entry → Type 0
KeepsOrder plan journal = Along (λ before entry. IsOrderedTurn plan before entry.actor (request_in entry.asked)) [] journal
