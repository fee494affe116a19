-- *The cut-over*: what it makes of an answer, of an applier's turn and of a revert.
use Rattle.std.specs.Prelude.{ℕ, ◌+◌, ◌==◌, nat_le, Bool, true, false, ◌&&◌, not, if◌then◌else◌, List, Option, Some, None}
use Rattle.std.specs.List.{list_any}
use Rattle.server_model.specs.declared.answer.Answer.{Answer}
use Rattle.server_model.specs.declared.listing.TableName.{TableName}
use Rattle.server_model.specs.declared.listing.ShownWaiter.{ShownWaiter}
use Rattle.server_model.specs.declared.answer.Answer.TheVariants as answers
use Rattle.server_model.specs.declared.outcome.Progress.{Progress}
use Rattle.server_model.specs.declared.outcome.Progress.TheVariants.{Going, TaskDone, TaskFailed}
use Rattle.base_values.specs.ToolNames.{ghost_name, log_name, old_name}
use Rattle.tool_program.specs.declared.cutover_core.cutover.Role.{Role}
use Rattle.tool_program.specs.declared.cutover_core.cutover.Role.TheVariants.{Inspector, Locker, Renamer}
use Rattle.tool_program.specs.declared.cutover_core.cutover.Stage.{Stage}
use Rattle.tool_program.specs.declared.cutover_core.cutover.Stage.TheVariants.{Guarding, Locking, Hinting, ReadingCounter, SettingCounter, Draining, Drained, Showing, Dropping, Unlocking, Exchanging}
use Rattle.tool_program.specs.declared.cutover_core.cutover.Drain.{Drain}
use Rattle.tool_program.specs.declared.cutover_core.cutover.Drain.TheVariants.{Turns, Passed}
use Rattle.tool_program.specs.declared.cutover_core.cutover.Leftovers.{Leftovers}
use Rattle.tool_program.specs.declared.cutover_core.cutover.Clearing.{Clearing}
use Rattle.tool_program.specs.declared.cutover_core.cutover.Clearing.TheVariants.{Looking, Drops}
use Rattle.tool_program.specs.declared.cutover_core.cutover.Phase.{Phase}
use Rattle.tool_program.specs.declared.cutover_core.cutover.Phase.TheVariants.{Resting, Attempting, Ending, Finishing, Finished}
use Rattle.tool_program.specs.declared.cutover_core.cutover.Hold.{Hold}
use Rattle.tool_program.specs.declared.cutover_core.cutover.Hold.TheVariants.{Nothing, WaitsToGuard, WaitsToLock, Locks}
use Rattle.tool_program.specs.declared.cutover_core.cutover.CutOver.{CutOver}
use Rattle.tool_program.specs.CutoverCore.Attempts.{is_clear, without_first, has_name, has_sentry}

-- WHAT AN ANSWER CHANGES

-- the attempt doesn't succeed, or goes on to its end
abbrev pub failed : Phase → Phase
failed (Attempting stage) = Ending Looking
failed phase = phase

-- the session was lost, or its wait timed out
abbrev pub is_bad : Answer → Bool
is_bad answers.Lost = true
is_bad (answers.TimedOut waited) = true
is_bad answer = false

-- the locker's answer in an attempt
abbrev pub locker_stage : Stage → Answer → Stage
locker_stage Guarding (answers.Ok count) = Locking
locker_stage Locking (answers.Ok count) = Hinting
locker_stage Dropping (answers.Ok count) = Unlocking
locker_stage Unlocking (answers.Ok count) = Exchanging
locker_stage stage answer = stage

-- the answer to the call that makes the sentry begins an attempt
abbrev pub begun : Answer → Phase
begun (answers.Ok count) = Attempting Locking
begun (answers.Waits by) = Attempting Guarding
begun answer = Ending Looking

abbrev pub locker_phase : Phase → Answer → Phase
locker_phase Resting answer = begun answer
locker_phase (Attempting stage) answer = if is_bad answer then Ending Looking else Attempting (locker_stage stage answer)
locker_phase phase answer = phase

-- what the locker has by the answers to the calls that make the sentry and lock the tables
abbrev pub hold_of_guard : Answer → Hold
hold_of_guard (answers.Waits by) = WaitsToGuard
hold_of_guard answer = Nothing

abbrev pub hold_of_lock : Answer → Hold
hold_of_lock (answers.Waits by) = WaitsToLock
hold_of_lock (answers.Ok count) = Locks
hold_of_lock answer = Nothing

-- the answer to a call under the table lock: to drop the sentry keeps the lock, to unlock gives it up
abbrev pub hold_under : Phase → Answer → Hold
hold_under (Attempting Dropping) answer = if is_bad answer then Nothing else Locks
hold_under phase answer = Nothing

-- the answer to a call that waited for nothing yet
abbrev pub hold_first : Phase → Answer → Hold
hold_first (Attempting Locking) answer = hold_of_lock answer
hold_first phase answer = hold_of_guard answer

abbrev pub hold_after : Hold → Phase → Answer → Hold
hold_after Nothing phase answer = hold_first phase answer
hold_after WaitsToGuard phase answer = hold_of_guard answer
hold_after WaitsToLock phase answer = hold_of_lock answer
hold_after Locks phase answer = hold_under phase answer

abbrev pub is_resting : Phase → Bool
is_resting Resting = true
is_resting phase = false

-- making the sentry begins one attempt more, in which no RENAME was asked for
abbrev pub attempts_after : Phase → ℕ → ℕ
attempts_after Resting attempts = attempts + 1
attempts_after phase attempts = attempts

abbrev pub locker_took : CutOver → Answer → CutOver
locker_took cutover answer =
    record cutover {
      attempts = attempts_after cutover.phase cutover.attempts;
      phase = locker_phase cutover.phase answer;
      hold = hold_after cutover.hold cutover.phase answer;
      is_asked = if is_resting cutover.phase then false else cutover.is_asked;
    }

-- after the RENAME the inspector drops the changelog, and the old table where that is wanted, where they are listed
abbrev pub left_at_end : CutOver → List TableName → Leftovers
left_at_end cutover tables =
    record { log = has_name (log_name cutover.table) tables; new_table = false; old = cutover.drops_old && has_name (old_name cutover.table) tables }

abbrev pub finishing : Leftovers → Phase
finishing left = if is_clear left then Finished else Finishing (Drops left)

-- after an attempt that failed the inspector drops the sentry alone
abbrev pub sentry_alone : Leftovers
sentry_alone = record { log = false; new_table = false; old = true }

-- what the inspector sees after an attempt: where the new table is gone, the RENAME was done after all; else the sentry, where
-- it is listed
abbrev pub seen : CutOver → List TableName → Phase
seen cutover tables =
    if not (has_name (ghost_name cutover.table) tables) then finishing (left_at_end cutover tables)
    else if has_sentry cutover.table tables then Ending (Drops sentry_alone) else Resting

-- some session waits that another one refuses: the RENAME, and the lock is held
abbrev pub shows_wait : List ShownWaiter → Bool
shows_wait waiters = list_any (λ waiter. not (waiter.by == 0)) waiters

-- the stage once no counter is to be carried any more
abbrev pub drain_stage : Drain → Stage
drain_stage (Turns turns) = Draining turns
drain_stage Passed = Drained

-- after the hint row the counter comes next, where the table has one
abbrev pub hinted : Bool → Stage
hinted true = ReadingCounter (Turns 0)
hinted false = Draining 0

abbrev pub inspector_stage : Bool → Stage → Answer → Stage
inspector_stage has_counter Hinting (answers.Ok count) = hinted has_counter
inspector_stage has_counter (ReadingCounter drain) (answers.At number) = SettingCounter number drain
inspector_stage has_counter (SettingCounter number drain) (answers.Ok count) = drain_stage drain
inspector_stage has_counter Showing (answers.Waiting waiters) = if shows_wait waiters then Dropping else Showing
inspector_stage has_counter stage answer = stage

-- the inspector's answer while an attempt ends
abbrev pub ending_after : CutOver → Clearing → Answer → Phase
ending_after cutover clearing answers.Lost = Ending Looking
ending_after cutover clearing (answers.TimedOut waited) = Ending Looking
ending_after cutover Looking (answers.Tables tables) = seen cutover tables
ending_after cutover (Drops left) (answers.Ok count) = Resting
ending_after cutover clearing answer = Ending clearing

abbrev pub finishing_after : CutOver → Clearing → Answer → Phase
finishing_after cutover clearing answers.Lost = Finishing Looking
finishing_after cutover clearing (answers.TimedOut waited) = Finishing Looking
finishing_after cutover Looking (answers.Tables tables) = finishing (left_at_end cutover tables)
finishing_after cutover (Drops left) (answers.Ok count) = finishing (without_first left)
finishing_after cutover clearing answer = Finishing clearing

abbrev pub inspector_phase : CutOver → Phase → Answer → Phase
inspector_phase cutover (Attempting stage) answer = if is_bad answer then Ending Looking else Attempting (inspector_stage cutover.has_counter stage answer)
inspector_phase cutover (Ending clearing) answer = ending_after cutover clearing answer
inspector_phase cutover (Finishing clearing) answer = finishing_after cutover clearing answer
inspector_phase cutover phase answer = phase

abbrev pub inspector_took : CutOver → Answer → CutOver
inspector_took cutover answer = record cutover { phase = inspector_phase cutover cutover.phase answer }

-- the RENAME waits: next the inspector looks for it
abbrev pub waits_phase : Phase → Phase
waits_phase (Attempting Drained) = Attempting Showing
waits_phase phase = phase

abbrev pub renamer_phase : Phase → Answer → Phase
renamer_phase phase (answers.Ok count) = Finishing Looking
renamer_phase phase (answers.Waits by) = waits_phase phase
renamer_phase phase answers.Lost = failed phase
renamer_phase phase (answers.TimedOut waited) = failed phase
renamer_phase phase answer = phase

abbrev pub is_wait : Answer → Bool
is_wait (answers.Waits by) = true
is_wait answer = false

abbrev pub renamer_took : CutOver → Answer → CutOver
renamer_took cutover answer = record cutover { phase = renamer_phase cutover.phase answer; renamer_waits = is_wait answer; is_asked = true }

-- *Took*: the cut-over after an answer to one of the three, a wait among them. A loss between calls of a session that
-- held the table lock or waited counts as the answer `Lost`.
unfoldable pub took : Role → CutOver → Answer → CutOver
took Inspector cutover answer = inspector_took cutover answer
took Locker cutover answer = locker_took cutover answer
took Renamer cutover answer = renamer_took cutover answer

-- an attempt is under way
abbrev pub stands : Phase → Bool
stands (Attempting stage) = true
stands (Ending clearing) = true
stands phase = false

-- the attempt that is under way may yet succeed
abbrev pub may_succeed : Phase → Bool
may_succeed (Attempting stage) = true
may_succeed phase = false

-- the RENAME was done, as the tool knows
abbrev pub is_done : Phase → Bool
is_done (Finishing clearing) = true
is_done Finished = true
is_done phase = false

-- AFTER AN APPLIER'S TURN

-- how far the applier is with the events before the hint row, from when that is written until it is known that it has passed it
abbrev pub drain_of : Stage → Option Drain
drain_of (ReadingCounter drain) = Some drain
drain_of (SettingCounter number drain) = Some drain
drain_of (Draining turns) = Some (Turns turns)
drain_of stage = None

abbrev pub with_drain : Stage → Drain → Stage
with_drain (ReadingCounter before) drain = ReadingCounter drain
with_drain (SettingCounter number before) drain = SettingCounter number drain
with_drain (Draining turns) drain = drain_stage drain
with_drain stage drain = stage

-- the attempt is drained where the applier has passed its hint row, and fails where it hasn't in this many turns
abbrev pub drains_to : CutOver → ℕ → Stage → Option Drain → Phase
drains_to cutover hint stage (Some (Turns turns)) =
    if hint == cutover.attempts then Attempting (with_drain stage Passed)
    else if nat_le cutover.drain_limit (turns + 1) then Ending Looking else Attempting (with_drain stage (Turns (turns + 1)))
drains_to cutover hint stage drain = Attempting stage

abbrev pub drained : CutOver → ℕ → Phase → Phase
drained cutover hint (Attempting stage) = drains_to cutover hint stage (drain_of stage)
drained cutover hint phase = phase

-- *Applier's turn*: after each turn of the applier but a loss between calls, with the attempt of the last hint row that its
-- position has passed.
unfoldable pub applier_turn : ℕ → CutOver → CutOver
applier_turn hint cutover = record cutover { phase = drained cutover hint cutover.phase }

-- THE REVERT

-- an attempt that is under way ends, unless the sentry is dropped already
abbrev pub ended : Phase → Phase
ended (Attempting Unlocking) = Attempting Unlocking
ended (Attempting Exchanging) = Attempting Exchanging
ended (Attempting stage) = Ending Looking
ended phase = phase

-- *Reverted*: an attempt that is under way is ended, and no other begins.
unfoldable pub reverted : CutOver → CutOver
reverted cutover = record cutover { phase = ended cutover.phase; is_stopped = true }

-- WHAT IT MEANS FOR THE TASK

abbrev pub task_of : Phase → Phase → Answer → Progress
task_of before Finished answer = TaskDone
task_of before Resting answer = if stands before then TaskDone else Going
task_of before after answer = if is_bad answer then TaskFailed else Going

-- what the answer means for the cut-over: done where an attempt has ended, failed exactly on a loss and a time-out
unfoldable pub progress : Role → CutOver → Answer → Progress
progress role cutover answer = if is_bad answer then TaskFailed else task_of cutover.phase (took role cutover answer).phase answer

abbrev pub is_ending : Phase → Bool
is_ending (Ending clearing) = true
is_ending phase = false

abbrev pub is_finished : Phase → Bool
is_finished Finished = true
is_finished phase = false
