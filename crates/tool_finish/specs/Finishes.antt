-- *The new tool*: where a run has as many turns as its plan allows and hasn't ended, all its sessions are lost, and a new tool goes on
-- alone from the checkpoint in the changelog: it loses the sessions, lists the tables and reads the checkpoint; it drops the sentry,
-- hands on the table's counter where there is one, and asks for the range of keys; it copies from the checkpoint's reach to the greatest
-- key, applies what was logged from the checkpoint's position until nothing is unread, exchanges the tables, and drops what is left
-- over. Where the new table isn't listed, the RENAME was done, and it drops what is left over at once. A row that doesn't fit is
-- rolled back, and ends it. (After gh-ost's `resume.md`; the exact calls are this project's rule.)
use Rattle.std.specs.Prelude.{◌≡◌, ℕ, ◌==◌, pos, codes, Bool, true, false, ◌&&◌, if◌then◌else◌, is_some, List, [], ◌∷◌, ◌++◌, length, drop, find, fold, Option, Some, None}
use Rattle.base_values.specs.declared.value.Value.{Value}
use Rattle.base_values.specs.declared.value.Value.TheVariants.{Num}
use Rattle.base_values.specs.declared.span.Bound.TheVariants.{Open, Closed}
use Rattle.base_values.specs.ToolNames.{ghost_name, log_name, old_name}
use Rattle.base_values.specs.GhoSchema.Rows.{key_places}
use Rattle.base_script.specs.declared.actor.Actor.{Actor}
use Rattle.base_script.specs.declared.actor.Actor.TheVariants.{Insp, Copy, Apply, Ren}
use Rattle.base_script.specs.declared.statement.Statement.TheVariants as statements
use Rattle.base_script.specs.declared.statement.Shown.TheVariants as shown
use Rattle.base_script.specs.declared.statement.Condition.TheVariants.{Equal}
use Rattle.server_model.specs.Along.{Along}
use Rattle.server_model.specs.declared.answer.Answer.{Answer}
use Rattle.server_model.specs.declared.answer.Answer.TheVariants as answers
use Rattle.server_model.specs.declared.answer.KeyRange.{KeyRange}
use Rattle.server_model.specs.declared.entry.Asked.{Asked}
use Rattle.server_model.specs.declared.entry.Asked.TheVariants.{Call, Cut}
use Rattle.server_model.specs.declared.entry.Entry.{Entry}
use Rattle.server_model.specs.declared.listing.TableName.{TableName}
use Rattle.server_model.specs.declared.outcome.Cause.{Cause}
use Rattle.server_model.specs.declared.outcome.Cause.TheVariants as causes
use Rattle.server_model.specs.declared.outcome.Progress.{Progress}
use Rattle.server_model.specs.declared.outcome.Progress.TheVariants.{Unfit}
use Rattle.server_model.specs.declared.outcome.Verdict.{Verdict}
use Rattle.server_model.specs.declared.outcome.Verdict.TheVariants as verdicts
use Rattle.server_model.specs.declared.request.Request.{Request}
use Rattle.server_model.specs.declared.request.Request.TheVariants as requests
use Rattle.server_model.specs.States.{State, unread}
use Rattle.plan_data.specs.PlanData.{PlanData, has_counter, new_map, new_schema, old_schema}
use Rattle.tool_changelog.specs.declared.checkpoint.Reach.{Reach}
use Rattle.tool_changelog.specs.declared.checkpoint.Reach.TheVariants as reaches
use Rattle.tool_notes.specs.declared.checkpoint.Checkpoint.{Checkpoint}
use Rattle.tool_notes.specs.Readings.{checkpoint_of}
use Rattle.tool_program.specs.JournalWords.Journals.{state_at}
use Rattle.tool_program.specs.JournalWords.Sessions.{IsInSession, live_session}
use Rattle.tool_program.specs.declared.chunk_copier.copier.Copier.{Copier}
use Rattle.tool_program.specs.declared.chunk_copier.copier.CopyRange.{CopyRange}
use Rattle.tool_program.specs.ChunkCopier.Copiers.{new_copier}
use Rattle.tool_program.specs.ChunkCopier.Copiers as copiers
use Rattle.tool_program.specs.declared.event_applier.applier.Applier.{Applier}
use Rattle.tool_program.specs.EventApplier.Appliers.{new_applier}
use Rattle.tool_program.specs.EventApplier.Appliers as appliers
use Rattle.tool_program.specs.CutoverCore.Attempts.{exchange, has_name, has_sentry}
use Rattle.tool_program.specs.Orders.{actors}
use Rattle.tool_program.specs.Verdicts.{new_column_name}
use Rattle.tool_finish.specs.declared.stage.Listed.{Listed}
use Rattle.tool_finish.specs.declared.stage.Listed.TheVariants.{NotRenamed, Renamed}
use Rattle.tool_finish.specs.declared.stage.Refusal.{Refusal}
use Rattle.tool_finish.specs.declared.stage.UnfitRow.{UnfitRow}
use Rattle.tool_finish.specs.declared.stage.UnfitRow.TheVariants.{Copied, Applied}
use Rattle.tool_finish.specs.declared.stage.Stage.{Stage}
use Rattle.tool_finish.specs.declared.stage.Stage.TheVariants.{Losing, Listing, Reading, Clearing, ReadingCounter, SettingCounter, Ranging, Copying, Applying, Exchanging, DroppingLog, DroppingOld, RollingBack, Done, Reverted}

-- THE COPIER AND THE APPLIER

-- the copy goes on behind the checkpoint's reach, up to the greatest key that exists now; nothing is left where all was copied, or the
-- table has no row
abbrev pub range_from : Reach → Option KeyRange → Option CopyRange
range_from reach None = None
range_from reaches.Nothing (Some range) = Some (record { low = Closed range.least; top = range.greatest })
range_from (reaches.To key) (Some range) = Some (record { low = Open key; top = range.greatest })
range_from reaches.All (Some range) = None

abbrev pub copier_from : PlanData → Reach → Option KeyRange → Copier
copier_from plan reach range = new_copier plan.table (new_map plan) (range_from reach range) plan.options.chunk_size

abbrev pub applier_from : PlanData → ℕ → Applier
applier_from plan position =
    new_applier plan.table (record (new_schema plan) { name = ghost_name plan.table }) (new_map plan) position plan.options.dml_batch_size

-- WHICH CALL COMES NEXT

-- an actor, and what it asks
abbrev pub Asking : Type 0
Asking = Actor × Asked

abbrev pub calls : Actor → Request → Option Asking
calls actor request = Some (actor, Call request)

abbrev pub copies : Option Request → Option Asking
copies None = None
copies (Some request) = calls Copy request

-- the first actor, in their fixed order, that has a session
unfoldable pub first_live : PlanData → List Entry → Option Actor
first_live plan journal = find (λ actor. is_some (live_session journal actor)) (actors plan)

abbrev pub cuts : Option Actor → Option Asking
cuts None = None
cuts (Some actor) = Some (actor, Cut)

-- the checkpoint's row is that with id 0
abbrev pub reads_checkpoint : PlanData → Request
reads_checkpoint plan = requests.Do (statements.Select (log_name plan.table) shown.All (Equal (record { column = codes "id"; value = Num (pos 0) } ∷ [])))

abbrev pub rolls_back : UnfitRow → Actor
rolls_back (Copied copier refusal) = Copy
rolls_back (Applied applier refusal) = Apply

-- *Next*: the call that comes next, and whose it is; none where the new tool is over
unfoldable pub next : PlanData → List Entry → Stage → Option Asking
next plan journal Losing = cuts (first_live plan journal)
next plan journal Listing = calls Insp requests.ShowTables
next plan journal (Reading listed) = calls Insp (reads_checkpoint plan)
next plan journal (Clearing found) = calls Insp (requests.Drop (old_name plan.table))
next plan journal (ReadingCounter found) = calls Insp (requests.ShowCounter plan.table)
next plan journal (SettingCounter found number) = calls Insp (requests.SetCounter (ghost_name plan.table) number)
next plan journal (Ranging found) = calls Insp (requests.Ends plan.table)
next plan journal (Copying copier applier) = copies (copiers.next journal copier)
next plan journal (Applying applier) = calls Apply (appliers.next journal applier)
next plan journal Exchanging = calls Ren (exchange plan.table)
next plan journal (DroppingLog old) = calls Insp (requests.Drop (log_name plan.table))
next plan journal DroppingOld = calls Insp (requests.Drop (old_name plan.table))
next plan journal (RollingBack row) = calls (rolls_back row) requests.Rollback
next plan journal stage = None

-- WHAT AN ANSWER MAKES OF IT

-- sessions are lost as long as there are any
abbrev pub losing : PlanData → List Entry → Stage
losing plan journal = if is_some (first_live plan journal) then Losing else Listing

-- where the new table isn't listed, the RENAME was done
abbrev pub listed_in : PlanData → List TableName → Listed
listed_in plan tables = if has_name (ghost_name plan.table) tables then NotRenamed (has_sentry plan.table tables) else Renamed (has_name (old_name plan.table) tables)

abbrev pub listed : PlanData → Answer → Stage
listed plan (answers.Tables tables) = Reading (listed_in plan tables)
listed plan answer = Listing

-- what is left over is dropped, the old table only where the plan allows it
abbrev pub dropping : PlanData → Bool → Stage
dropping plan old = DroppingLog (old && plan.options.ok_to_drop_table)

-- the table's counter is handed on where there is one
abbrev pub counting : PlanData → Checkpoint → Stage
counting plan found = if has_counter plan then ReadingCounter found else Ranging found

abbrev pub clearing : PlanData → Listed → Checkpoint → Stage
clearing plan (NotRenamed true) found = Clearing found
clearing plan (NotRenamed false) found = counting plan found
clearing plan (Renamed old) found = dropping plan old

abbrev pub checkpoint_in : Answer → Option Checkpoint
checkpoint_in (answers.Rows (row ∷ rows)) = checkpoint_of row
checkpoint_in answer = None

abbrev pub has_read : PlanData → Listed → Option Checkpoint → Stage
has_read plan listed None = Reading listed
has_read plan listed (Some found) = clearing plan listed found

abbrev pub counter_read : Checkpoint → Answer → Stage
counter_read found (answers.At number) = SettingCounter found number
counter_read found answer = ReadingCounter found

-- where the applier is to read and nothing is unread, the tables are exchanged
abbrev pub applying : PlanData → State → Applier → Stage
applying plan state applier =
    if appliers.starts applier && (unread state applier.position (plan.table ∷ log_name plan.table ∷ []) == 0) then Exchanging else Applying applier

abbrev pub copying : PlanData → State → Copier → Applier → Stage
copying plan state copier applier = if copier.is_copied then applying plan state applier else Copying copier applier

abbrev pub ranged : PlanData → State → Checkpoint → Answer → Stage
ranged plan state found (answers.Ends range) = copying plan state (copier_from plan found.reach range) (applier_from plan found.position)
ranged plan state found answer = Ranging found

-- the copier before its turn and after it
abbrev pub copied : PlanData → State → ℕ → Applier → Copier → Copier → Progress → Stage
copied plan state turn applier before after (Unfit column number) = RollingBack (Copied before (record { turn = turn; column = column; number = number }))
copied plan state turn applier before after progress = copying plan state after applier

-- the applier before its turn and after it
abbrev pub applied : PlanData → State → ℕ → Applier → Applier → Progress → Stage
applied plan state turn before after (Unfit column number) = RollingBack (Applied before (record { turn = turn; column = column; number = number }))
applied plan state turn before after progress = applying plan state after

abbrev pub dropped_log : Bool → Stage
dropped_log true = DroppingOld
dropped_log false = Done

-- *Took*: the stage behind a turn with this answer, which is the last of the journal; the server is then in this state.
unfoldable pub took : PlanData → List Entry → State → Answer → Stage → Stage
took plan journal state answer Losing = losing plan journal
took plan journal state answer Listing = listed plan answer
took plan journal state answer (Reading listed) = has_read plan listed (checkpoint_in answer)
took plan journal state answer (Clearing found) = counting plan found
took plan journal state answer (ReadingCounter found) = counter_read found answer
took plan journal state answer (SettingCounter found number) = Ranging found
took plan journal state answer (Ranging found) = ranged plan state found answer
took plan journal state answer (Copying copier applier) =
    copied plan state (length journal) applier copier (copiers.took (length journal) copier answer) (copiers.progress copier answer)
took plan journal state answer (Applying applier) =
    applied plan state (length journal) applier (appliers.took (length journal) applier answer) (appliers.progress applier answer)
took plan journal state answer Exchanging = dropping plan true
took plan journal state answer (DroppingLog old) = dropped_log old
took plan journal state answer DroppingOld = Done
took plan journal state answer (RollingBack row) = Reverted row
took plan journal state answer stage = stage

-- THE TURNS BEHIND THE RUN'S

-- the turns so far, and the stage behind them
pub record Walk : Type 0 where
  pub turns : List Entry
  pub stage : Stage

abbrev pub walked : PlanData → Walk → Entry → Walk
walked plan walk entry =
    let turns : List Entry = walk.turns ++ entry ∷ [] in record { turns = turns; stage = took plan turns (state_at plan turns) entry.answer walk.stage }

-- *The stage* behind the run's turns and these of the new tool
unfoldable pub stage_behind : PlanData → List Entry → List Entry → Stage
stage_behind plan run turns = (fold (walked plan) (record { turns = run; stage = losing plan run }) turns).stage

-- a turn of the new tool: the call that comes next, in its actor's session; it isn't lost
pub record IsFinishTurn (plan : PlanData) (run before : List Entry) (entry : Entry) : Type 0 where
  pub given : next plan before (stage_behind plan run (drop (length run) before)) ≡ Some (entry.actor, entry.asked)
  pub session : IsInSession before entry entry.asked (live_session before entry.actor)
  pub side : entry.side ≡ None

-- *Finishes*: these turns behind a run are the new tool's.
unfoldable pub IsFinish : PlanData → List Entry → List Entry → Type 0
IsFinish plan run turns = Along (IsFinishTurn plan run) run turns

-- HOW IT ENDS

abbrev pub unfit_cause : PlanData → Refusal → List Value → Cause
unfit_cause plan refusal key = causes.Unfit refusal.turn key (new_column_name plan refusal.column) refusal.number

-- why it reverts: the row's key, the column and the number
abbrev pub cause_of : PlanData → List Entry → UnfitRow → Cause
cause_of plan journal (Copied copier refusal) = unfit_cause plan refusal (copiers.unfit_key journal copier)
cause_of plan journal (Applied applier refusal) = unfit_cause plan refusal (appliers.unfit_key journal (key_places (old_schema plan)) applier)

abbrev pub verdict_in : PlanData → List Entry → Stage → Verdict
verdict_in plan journal Done = verdicts.Done
verdict_in plan journal (Reverted row) = verdicts.Reverted (cause_of plan journal row)
verdict_in plan journal stage = verdicts.Unfinished

abbrev pub is_over : Stage → Bool
is_over Done = true
is_over (Reverted row) = true
is_over stage = false

-- *The new tool's verdict*, behind these turns of it
unfoldable pub finish_verdict : PlanData → List Entry → List Entry → Verdict
finish_verdict plan run turns = verdict_in plan (run ++ turns) (stage_behind plan run turns)
