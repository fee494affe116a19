-- What the inspector asks and waits with, in each phase of the cut-over; and that nobody else changes it.
use Rattle.std.proofs.Common.{◌≡◌, ℕ, Bool, true, false, cond, not, List, Option, Some, None, refl, sym, ap, ◌∙◌, subst}
use Rattle.std.specs.Str.{bytes_eq}
use Rattle.std.proofs.lemmas.Bool.{true≢false}
use Rattle.server_model.specs.declared.answer.Answer.{Answer}
use Rattle.server_model.specs.declared.answer.Answer.TheVariants as answers
use Rattle.server_model.specs.declared.listing.TableName.{TableName}
use Rattle.server_model.specs.declared.request.Request.{Request}
use Rattle.server_model.specs.declared.request.Request.TheVariants as requests
use Rattle.base_values.specs.ToolNames.{ghost_name, log_name, old_name}
use Rattle.tool_changelog.specs.ToolTables.{sentry_schema}
use Rattle.tool_program.specs.CutoverCore.Attempts.{clears, first_name, has_name, has_sentry, inspector_call, is_clear, is_free, without_first, writes_hint}
use Rattle.tool_program.specs.CutoverCore.CutOvers.{attempts_after, drained, ended, failed, finishing, inspector_phase, inspector_stage, is_bad, is_done, left_at_end, locker_phase, renamer_phase, seen, sentry_alone, waits_phase, drain_of, drains_to}
use Rattle.tool_program.specs.declared.cutover_core.cutover.Clearing.TheVariants.{Drops, Looking}
use Rattle.tool_program.specs.declared.cutover_core.cutover.CutOver.{CutOver}
use Rattle.tool_program.specs.declared.cutover_core.cutover.Hold.{Hold}
use Rattle.tool_program.specs.declared.cutover_core.cutover.Hold.TheVariants.{Nothing}
use Rattle.tool_program.specs.declared.cutover_core.cutover.Leftovers.{Leftovers}
use Rattle.tool_program.specs.declared.cutover_core.cutover.Phase.{Phase}
use Rattle.tool_program.specs.declared.cutover_core.cutover.Phase.TheVariants.{Attempting, Ending, Finished, Finishing, Resting}
use Rattle.tool_program.specs.declared.cutover_core.cutover.Stage.TheVariants.{Drained, Dropping, Exchanging, Hinting, Locking, Showing, Unlocking, ReadingCounter, SettingCounter}
use Rattle.server_model.proofs.LockedRows.Tests.{turned_bytes}
use Rattle.proof_journals.specs.ServerTurns.Others.{takes_names}
use Rattle.proof_journals.specs.Machine.Machines.{both_names}
use Rattle.proof_journals.specs.Machine.Standings.{answers_to}
use Rattle.proof_journals.proofs.Machine.Asking.{some_request}
use Rattle.proof_journals.proofs.Machine.CuttingOver.{LockerAsks, drain_cases}
use Rattle.proof_journals.proofs.Machine.Inspecting.{IsNote}
use Rattle.proof_journals.proofs.Machine.Marks.{ghost_not_log, old_not_log}
use Rattle.proof_journals.proofs.Machine.Schemas.{keeps_table}
use Rattle.tool_program.specs.declared.cutover_core.cutover.Hold.TheVariants.{Locks, WaitsToGuard, WaitsToLock}
use Rattle.tool_program.specs.declared.cutover_core.cutover.Drain.TheVariants.{Turns, Passed}
use Rattle.tool_program.specs.declared.cutover_core.cutover.Drain.{Drain}

-- NAMES

-- the request leaves the changelog
abbrev pub KeepsLog : List ℕ → Request → Type 0
KeepsLog table request = keeps_table (log_name table) request ≡ true

pub shared_keeps : (name : List ℕ) (request : Request) → takes_names request ≡ false → keeps_table name request ≡ true
shared_keeps name (requests.Create schema) off = absurd (true≢false off)
shared_keeps name (requests.Drop dropped) off = absurd (true≢false off)
shared_keeps name (requests.Rename pairs) off = absurd (true≢false off)
shared_keeps name (requests.LockTables names) off = refl
shared_keeps name request off = refl

pub locker_keeps_log : (table : List ℕ) (hold : Hold) (phase : Phase) (request : Request) → LockerAsks table hold phase request → KeepsLog table request
unfolding sentry_schema
locker_keeps_log table hold phase request asks = by hold phase asks where
  one_of : (other : Request) → request ≡ other → KeepsLog table other → KeepsLog table request
  one_of other is keeps = subst (KeepsLog table) (sym is) keeps

  makes : request ≡ requests.Create (sentry_schema table) → KeepsLog table request
  makes is = one_of (requests.Create (sentry_schema table)) is (ap not (old_not_log table))

  by : (hold : Hold) (phase : Phase) → LockerAsks table hold phase request → KeepsLog table request
  by Nothing Resting is = makes is
  by Nothing (Attempting Locking) is = one_of (requests.LockTables (both_names table)) is refl
  by Nothing phase is = absurd is
  by WaitsToGuard phase is = makes is
  by WaitsToLock phase is = one_of (requests.LockTables (both_names table)) is refl
  by Locks (Attempting Dropping) is = one_of (requests.Drop (old_name table)) is (ap not (turned_bytes (old_name table) (log_name table) (old_not_log table)))
  by Locks (Attempting Unlocking) is = one_of requests.Unlock is refl
  by Locks (Ending clearing) is = one_of requests.Unlock is refl
  by Locks phase is = absurd is

first_keeps_log : (table : List ℕ) (left : Leftovers) → left.log ≡ false → KeepsLog table (requests.Drop (first_name table left))
first_keeps_log table left none = ap not (by left.log left.new_table none) where
  by : (a b : Bool) → a ≡ false → bytes_eq (log_name table) (cond a (log_name table) (cond b (ghost_name table) (old_name table))) ≡ false
  by true b is = absurd (true≢false is)
  by false true is = turned_bytes (ghost_name table) (log_name table) (ghost_not_log table)
  by false false is = turned_bytes (old_name table) (log_name table) (old_not_log table)

-- WHAT IT ASKS, AND WAITS WITH

-- what it asks, by a call or by a poll
abbrev pub AsksAt : Request → List ℕ → ℕ → Phase → Type 0
AsksAt request table attempt (Attempting Hinting) = request ≡ writes_hint table attempt
AsksAt request table attempt (Attempting (ReadingCounter drain)) = request ≡ requests.ShowCounter table
AsksAt request table attempt (Attempting (SettingCounter number drain)) = request ≡ requests.SetCounter (ghost_name table) number
AsksAt request table attempt (Attempting Showing) = request ≡ requests.ShowWaiting
AsksAt request table attempt (Attempting stage) = ⊥
AsksAt request table attempt Resting = IsNote table request
AsksAt request table attempt (Ending Looking) = takes_names request ≡ false
AsksAt request table attempt (Ending (Drops left)) = request ≡ requests.Drop (first_name table left)
AsksAt request table attempt (Finishing clearing) = Unit {0}
AsksAt request table attempt Finished = Unit {0}

-- what it waits with
abbrev pub WaitsAt : Option Request → List ℕ → ℕ → Phase → Type 0
WaitsAt None table attempt phase = Unit {0}
WaitsAt (Some request) table attempt (Attempting Hinting) = request ≡ writes_hint table attempt
WaitsAt (Some request) table attempt (Attempting (SettingCounter number drain)) = request ≡ requests.SetCounter (ghost_name table) number
WaitsAt (Some request) table attempt (Attempting stage) = ⊥
WaitsAt (Some request) table attempt Resting = ⊥
WaitsAt (Some request) table attempt (Ending Looking) = takes_names request ≡ false
WaitsAt (Some request) table attempt (Ending (Drops left)) = request ≡ requests.Drop (first_name table left)
WaitsAt (Some request) table attempt (Finishing clearing) = Unit {0}
WaitsAt (Some request) table attempt Finished = Unit {0}

-- while an attempt ends the changelog isn't dropped
abbrev pub SparesLog : Phase → Type 0
SparesLog (Ending (Drops left)) = left.log ≡ false
SparesLog phase = Unit {0}

-- what waits is asked
pub waits_asks : (request : Request) (table : List ℕ) (attempt : ℕ) (phase : Phase) → WaitsAt (Some request) table attempt phase → AsksAt request table attempt phase
waits_asks request table attempt (Attempting Hinting) at = at
waits_asks request table attempt (Attempting (SettingCounter number drain)) at = at
waits_asks request table attempt (Attempting stage) at = absurd at
waits_asks request table attempt Resting at = absurd at
waits_asks request table attempt (Ending Looking) at = at
waits_asks request table attempt (Ending (Drops left)) at = at
waits_asks request table attempt (Finishing clearing) at = tt
waits_asks request table attempt Finished at = tt

-- so is what is called
pub call_asks : (cutover : CutOver) (phase : Phase) (request : Request) → inspector_call cutover phase ≡ Some request → AsksAt request cutover.table cutover.attempts phase
call_asks cutover (Attempting Hinting) request is = some_request (λ (r : Request). r ≡ writes_hint cutover.table cutover.attempts) _ request is refl
call_asks cutover (Attempting (ReadingCounter drain)) request is = some_request (λ (r : Request). r ≡ requests.ShowCounter cutover.table) _ request is refl
call_asks cutover (Attempting (SettingCounter number drain)) request is = some_request (λ (r : Request). r ≡ requests.SetCounter (ghost_name cutover.table) number) _ request is refl
call_asks cutover (Attempting Showing) request is = some_request (λ (r : Request). r ≡ requests.ShowWaiting) _ request is refl
call_asks cutover (Attempting stage) request is = absurd cc
call_asks cutover Resting request is = absurd cc
call_asks cutover (Ending Looking) request is = by (is_free cutover.hold cutover.renamer_waits) is where
  by : (b : Bool) → cond b (clears cutover.table Looking) None ≡ Some request → takes_names request ≡ false
  by true is = some_request (λ (r : Request). takes_names r ≡ false) _ request is refl
  by false is = absurd cc
call_asks cutover (Ending (Drops left)) request is = by (is_free cutover.hold cutover.renamer_waits) is where
  by : (b : Bool) → cond b (clears cutover.table (Drops left)) None ≡ Some request → request ≡ requests.Drop (first_name cutover.table left)
  by true is = some_request (λ (r : Request). r ≡ requests.Drop (first_name cutover.table left)) _ request is refl
  by false is = absurd cc
call_asks cutover (Finishing clearing) request is = tt
call_asks cutover Finished request is = tt

-- what is asked leaves the changelog, until the RENAME was done
pub asks_keep : (request : Request) (table : List ℕ) (attempt : ℕ) (phase : Phase) → is_done phase ≡ false → SparesLog phase → AsksAt request table attempt phase → KeepsLog table request
asks_keep request table attempt (Attempting Hinting) undone spares at = ap (keeps_table (log_name table)) at
asks_keep request table attempt (Attempting (ReadingCounter drain)) undone spares at = ap (keeps_table (log_name table)) at
asks_keep request table attempt (Attempting (SettingCounter number drain)) undone spares at = ap (keeps_table (log_name table)) at
asks_keep request table attempt (Attempting Showing) undone spares at = ap (keeps_table (log_name table)) at
asks_keep request table attempt (Attempting stage) undone spares at = absurd at
asks_keep request table attempt Resting undone spares at = subst (KeepsLog table) (sym at.is) refl
asks_keep request table attempt (Ending Looking) undone spares at = shared_keeps (log_name table) request at
asks_keep request table attempt (Ending (Drops left)) undone spares at = subst (KeepsLog table) (sym at) (first_keeps_log table left spares)
asks_keep request table attempt (Finishing clearing) undone spares at = absurd (true≢false undone)
asks_keep request table attempt Finished undone spares at = absurd (true≢false undone)

-- BEHIND ITS ANSWER

-- it waits, but with a note
pub asked_waits : (cutover : CutOver) (request : Request) (table : List ℕ) (attempt by : ℕ) (phase : Phase) → AsksAt request table attempt phase → answers_to request (answers.Waits by) ≡ true → (phase ≡ Resting → ⊥) → WaitsAt (Some request) table attempt (inspector_phase cutover phase (answers.Waits by))
asked_waits cutover request table attempt by (Attempting Hinting) at may stands = at
asked_waits cutover request table attempt by (Attempting (ReadingCounter drain)) at may stands = absurd (true≢false (sym may ∙ ap (λ (r : Request). answers_to r (answers.Waits by)) at))
asked_waits cutover request table attempt by (Attempting (SettingCounter number drain)) at may stands = at
asked_waits cutover request table attempt by (Attempting Showing) at may stands = absurd (true≢false (sym may ∙ ap (λ (r : Request). answers_to r (answers.Waits by)) at))
asked_waits cutover request table attempt by (Attempting stage) at may stands = absurd at
asked_waits cutover request table attempt by Resting at may stands = absurd (stands refl)
asked_waits cutover request table attempt by (Ending Looking) at may stands = at
asked_waits cutover request table attempt by (Ending (Drops left)) at may stands = at
asked_waits cutover request table attempt by (Finishing Looking) at may stands = tt
asked_waits cutover request table attempt by (Finishing (Drops left)) at may stands = tt
asked_waits cutover request table attempt by Finished at may stands = tt

finishing_spares : (left : Leftovers) → SparesLog (finishing left)
finishing_spares left = by (is_clear left) where
  by : (b : Bool) → SparesLog (cond b Finished (Finishing (Drops left)))
  by true = tt
  by false = tt

seen_spares : (cutover : CutOver) (tables : List TableName) → SparesLog (seen cutover tables)
seen_spares cutover tables = by (not (has_name (ghost_name cutover.table) tables)) (has_sentry cutover.table tables) where
  by : (a b : Bool) → SparesLog (cond a (finishing (left_at_end cutover tables)) (cond b (Ending (Drops sentry_alone)) Resting))
  by true b = finishing_spares (left_at_end cutover tables)
  by false true = refl
  by false false = tt

pub inspector_spares : (cutover : CutOver) (phase : Phase) (answer : Answer) → SparesLog phase → SparesLog (inspector_phase cutover phase answer)
inspector_spares cutover (Attempting stage) answer at = by (is_bad answer) where
  by : (b : Bool) → SparesLog (cond b (Ending Looking) (Attempting (inspector_stage cutover.has_counter stage answer)))
  by true = tt
  by false = tt
inspector_spares cutover (Ending clearing) answers.Lost at = tt
inspector_spares cutover (Ending clearing) (answers.TimedOut waited) at = tt
inspector_spares cutover (Ending Looking) (answers.Tables tables) at = seen_spares cutover tables
inspector_spares cutover (Ending Looking) answer at = tt
inspector_spares cutover (Ending (Drops left)) (answers.Ok count) at = tt
inspector_spares cutover (Ending (Drops left)) answer at = at
inspector_spares cutover (Finishing Looking) answers.Lost at = tt
inspector_spares cutover (Finishing Looking) (answers.TimedOut waited) at = tt
inspector_spares cutover (Finishing Looking) (answers.Tables tables) at = finishing_spares (left_at_end cutover tables)
inspector_spares cutover (Finishing Looking) answer at = tt
inspector_spares cutover (Finishing (Drops left)) answers.Lost at = tt
inspector_spares cutover (Finishing (Drops left)) (answers.TimedOut waited) at = tt
inspector_spares cutover (Finishing (Drops left)) (answers.Ok count) at = finishing_spares (without_first left)
inspector_spares cutover (Finishing (Drops left)) answer at = tt
inspector_spares cutover Resting answer at = tt
inspector_spares cutover Finished answer at = tt

-- OTHERS' TURNS

pub locker_spares : (phase : Phase) (answer : Answer) → SparesLog phase → SparesLog (locker_phase phase answer)
locker_spares Resting (answers.Ok count) at = tt
locker_spares Resting (answers.Waits by) at = tt
locker_spares Resting answer at = tt
locker_spares (Attempting stage) answer at = by (is_bad answer) where
  by : (b : Bool) → SparesLog (cond b (Ending Looking) (Attempting (Rattle.tool_program.specs.CutoverCore.CutOvers.locker_stage stage answer)))
  by true = tt
  by false = tt
locker_spares (Ending clearing) answer at = at
locker_spares (Finishing clearing) answer at = tt
locker_spares Finished answer at = tt

pub locker_waits : (waits : Option Request) (table : List ℕ) (attempt : ℕ) (phase : Phase) (answer : Answer) → WaitsAt waits table attempt phase → WaitsAt waits table (attempts_after phase attempt) (locker_phase phase answer)
locker_waits None table attempt phase answer at = tt
locker_waits (Some request) table attempt (Attempting Hinting) answer at = by (is_bad answer) where
  by : (b : Bool) → WaitsAt (Some request) table attempt (cond b (Ending Looking) (Attempting Hinting))
  by true = ap takes_names at
  by false = at
locker_waits (Some request) table attempt (Attempting (SettingCounter number drain)) answer at = by (is_bad answer) where
  by : (b : Bool) → WaitsAt (Some request) table attempt (cond b (Ending Looking) (Attempting (SettingCounter number drain)))
  by true = ap takes_names at
  by false = at
locker_waits (Some request) table attempt (Attempting stage) answer at = absurd at
locker_waits (Some request) table attempt Resting answer at = absurd at
locker_waits (Some request) table attempt (Ending Looking) answer at = at
locker_waits (Some request) table attempt (Ending (Drops left)) answer at = at
locker_waits (Some request) table attempt (Finishing clearing) answer at = tt
locker_waits (Some request) table attempt Finished answer at = tt

failed_spares : (phase : Phase) → SparesLog phase → SparesLog (failed phase)
failed_spares (Attempting stage) at = tt
failed_spares Resting at = tt
failed_spares (Ending clearing) at = at
failed_spares (Finishing clearing) at = tt
failed_spares Finished at = tt

failed_waits : (waits : Option Request) (table : List ℕ) (attempt : ℕ) (phase : Phase) → WaitsAt waits table attempt phase → WaitsAt waits table attempt (failed phase)
failed_waits None table attempt phase at = tt
failed_waits (Some request) table attempt (Attempting Hinting) at = ap takes_names at
failed_waits (Some request) table attempt (Attempting (SettingCounter number drain)) at = ap takes_names at
failed_waits (Some request) table attempt (Attempting stage) at = absurd at
failed_waits (Some request) table attempt Resting at = absurd at
failed_waits (Some request) table attempt (Ending clearing) at = at
failed_waits (Some request) table attempt (Finishing clearing) at = tt
failed_waits (Some request) table attempt Finished at = tt

shown_spares : (phase : Phase) → SparesLog phase → SparesLog (waits_phase phase)
shown_spares (Attempting Drained) at = tt
shown_spares (Attempting stage) at = tt
shown_spares Resting at = tt
shown_spares (Ending clearing) at = at
shown_spares (Finishing clearing) at = tt
shown_spares Finished at = tt

shown_waits : (waits : Option Request) (table : List ℕ) (attempt : ℕ) (phase : Phase) → WaitsAt waits table attempt phase → WaitsAt waits table attempt (waits_phase phase)
shown_waits None table attempt phase at = tt
shown_waits (Some request) table attempt (Attempting Hinting) at = at
shown_waits (Some request) table attempt (Attempting (SettingCounter number drain)) at = at
shown_waits (Some request) table attempt (Attempting stage) at = absurd at
shown_waits (Some request) table attempt Resting at = absurd at
shown_waits (Some request) table attempt (Ending clearing) at = at
shown_waits (Some request) table attempt (Finishing clearing) at = tt
shown_waits (Some request) table attempt Finished at = tt

pub renamer_spares : (phase : Phase) (answer : Answer) → SparesLog phase → SparesLog (renamer_phase phase answer)
renamer_spares phase (answers.Ok count) at = tt
renamer_spares phase (answers.Waits by) at = shown_spares phase at
renamer_spares phase answers.Lost at = failed_spares phase at
renamer_spares phase (answers.TimedOut waited) at = failed_spares phase at
renamer_spares phase answer at = at

pub renamer_waits : (waits : Option Request) (table : List ℕ) (attempt : ℕ) (phase : Phase) (answer : Answer) → WaitsAt waits table attempt phase → WaitsAt waits table attempt (renamer_phase phase answer)
renamer_waits None table attempt phase answer at = tt
renamer_waits (Some request) table attempt phase (answers.Ok count) at = tt
renamer_waits (Some request) table attempt phase (answers.Waits by) at = shown_waits (Some request) table attempt phase at
renamer_waits (Some request) table attempt phase answers.Lost at = failed_waits (Some request) table attempt phase at
renamer_waits (Some request) table attempt phase (answers.TimedOut waited) at = failed_waits (Some request) table attempt phase at
renamer_waits (Some request) table attempt phase answer at = at

pub ended_spares : (phase : Phase) → SparesLog phase → SparesLog (ended phase)
ended_spares (Attempting Unlocking) at = tt
ended_spares (Attempting Exchanging) at = tt
ended_spares (Attempting stage) at = tt
ended_spares Resting at = tt
ended_spares (Ending clearing) at = at
ended_spares (Finishing clearing) at = tt
ended_spares Finished at = tt

pub ended_waits : (waits : Option Request) (table : List ℕ) (attempt : ℕ) (phase : Phase) → WaitsAt waits table attempt phase → WaitsAt waits table attempt (ended phase)
ended_waits None table attempt phase at = tt
ended_waits (Some request) table attempt (Attempting Hinting) at = ap takes_names at
ended_waits (Some request) table attempt (Attempting (SettingCounter number drain)) at = ap takes_names at
ended_waits (Some request) table attempt (Attempting stage) at = absurd at
ended_waits (Some request) table attempt Resting at = absurd at
ended_waits (Some request) table attempt (Ending clearing) at = at
ended_waits (Some request) table attempt (Finishing clearing) at = tt
ended_waits (Some request) table attempt Finished at = tt

pub drained_spares : (cutover : CutOver) (hint : ℕ) (phase : Phase) → SparesLog phase → SparesLog (drained cutover hint phase)
drained_spares cutover hint (Attempting stage) at = by (drain_of stage) where
  by : (drain : Option Drain) → SparesLog (drains_to cutover hint stage drain)
  by (Some (Turns turns)) = drain_cases SparesLog cutover hint turns stage (λ same. tt) tt tt
  by drain = tt
drained_spares cutover hint Resting at = tt
drained_spares cutover hint (Ending clearing) at = at
drained_spares cutover hint (Finishing clearing) at = tt
drained_spares cutover hint Finished at = tt

pub drained_waits : (cutover : CutOver) (hint : ℕ) (waits : Option Request) (table : List ℕ) (attempt : ℕ) (phase : Phase) → WaitsAt waits table attempt phase → WaitsAt waits table attempt (drained cutover hint phase)
drained_waits cutover hint None table attempt phase at = tt
drained_waits cutover hint (Some request) table attempt (Attempting Hinting) at = at
drained_waits cutover hint (Some request) table attempt (Attempting (SettingCounter number (Turns turns))) at = drain_cases (WaitsAt (Some request) table attempt) cutover hint turns (SettingCounter number (Turns turns)) (λ same. at) (ap takes_names at) at
drained_waits cutover hint (Some request) table attempt (Attempting (SettingCounter number Passed)) at = at
drained_waits cutover hint (Some request) table attempt (Attempting stage) at = absurd at
drained_waits cutover hint (Some request) table attempt Resting at = absurd at
drained_waits cutover hint (Some request) table attempt (Ending clearing) at = at
drained_waits cutover hint (Some request) table attempt (Finishing clearing) at = tt
drained_waits cutover hint (Some request) table attempt Finished at = tt
