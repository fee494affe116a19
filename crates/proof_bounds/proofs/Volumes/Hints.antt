-- Each attempt to exchange the tables logs one event of the changelog at most: its hint row, which the inspector inserts while the
-- attempt has none; and each row of a note two. Nobody else's turn logs any, and the inspector waits with no INSERT, so none outlives
-- its attempt.
use Rattle.proof_migration.proofs.ToolServes.{tool_serves}
use Rattle.std.proofs.Common.{◌≡◌, ◌≤◌, ◌<◌, ◌⊎◌, inl, inr, ℕ, ◌+◌, ◌*◌, Bool, true, false, cond, List, [], ◌∷◌, ◌++◌, Option, Some, None, refl, sym, ap, ◌∙◌, subst, arith, append_assoc, append-nil}
use Rattle.std.specs.Prelude.{count_by, ◌&&◌, ◌||◌}
use Rattle.std.specs.Str.{bytes_eq}
use Rattle.std.proofs.lemmas.Bool.{true≢false, false≢true}
use Rattle.std.proofs.lemmas.List.Sums.{sum_by-cons, sum_by_push}
use Rattle.base_script.specs.declared.actor.Actor.{Actor}
use Rattle.base_script.specs.declared.actor.Actor.TheVariants.{Op, Insp, Copy, Apply, Lock, Ren, Client}
use Rattle.base_script.specs.declared.operator.OperatorWord.{OperatorWord}
use Rattle.base_script.specs.declared.statement.Statement.{Statement}
use Rattle.base_script.specs.declared.operator.OperatorWord.TheVariants.{ChunkSize}
use Rattle.base_values.specs.declared.event.RowEvent.{RowEvent}
use Rattle.base_values.specs.GhoSchema.Tables.{IsTable}
use Rattle.base_values.specs.ToolNames.{ghost_name, log_name}
use Rattle.table_store.specs.Databases.{TableRows, find_table}
use Rattle.server_model.specs.declared.answer.Answer.{Answer}
use Rattle.server_model.specs.declared.answer.Answer.TheVariants as answers
use Rattle.server_model.specs.declared.entry.Asked.{Asked}
use Rattle.server_model.specs.declared.entry.Asked.TheVariants.{Call, Poll, Command, Cut}
use Rattle.server_model.specs.declared.entry.Entry.{Entry}
use Rattle.server_model.specs.declared.request.Request.{Request}
use Rattle.server_model.specs.declared.request.Request.TheVariants as requests
use Rattle.server_model.specs.Entries.{is_client, is_command, is_cut, same_actor}
use Rattle.server_model.specs.LockedRows.Coverage.{IsWellFormedTable}
use Rattle.server_model.specs.LockedRows.Databases.{IsWellFormedDatabase, WhereFound}
use Rattle.server_model.specs.Operations.{operation_of, operation_result}
use Rattle.server_model.specs.States.{State, is_of, is_of_tool, session_of}
use Rattle.plan_data.specs.PlanData.{PlanData}
use Rattle.tool_changelog.specs.ToolTables.{log_schema}
use Rattle.tool_program.specs.declared.cutover_core.cutover.Clearing.{Clearing}
use Rattle.tool_program.specs.declared.cutover_core.cutover.Clearing.TheVariants.{Looking, Drops}
use Rattle.tool_program.specs.declared.cutover_core.cutover.CutOver.{CutOver}
use Rattle.tool_program.specs.declared.cutover_core.cutover.Phase.{Phase}
use Rattle.tool_program.specs.declared.cutover_core.cutover.Phase.TheVariants.{Resting, Attempting, Ending, Finishing, Finished}
use Rattle.tool_program.specs.declared.cutover_core.cutover.Role.TheVariants.{Inspector, Locker, Renamer}
use Rattle.tool_program.specs.declared.cutover_core.cutover.Stage.{Stage}
use Rattle.tool_program.specs.declared.cutover_core.cutover.Stage.TheVariants.{Guarding, Locking, Hinting, ReadingCounter, SettingCounter, Showing, Dropping, Unlocking}
use Rattle.tool_program.specs.CutoverCore.Attempts as attempts
use Rattle.tool_program.specs.CutoverCore.CutOvers as cutovers
use Rattle.tool_program.specs.CutoverCore.CutOvers.{attempts_after, begun, inspector_phase, is_bad, locker_phase, locker_stage, renamer_phase}
use Rattle.tool_program.specs.JournalWords.Bounds.{measures}
use Rattle.tool_program.specs.JournalWords.Journals.{opens, state_after, state_at}
use Rattle.tool_program.specs.NoteWriter.Notes.{writes}
use Rattle.tool_program.specs.Programs.{IsGiven, tool_call}
use Rattle.tool_program.specs.Setups.{Setup, Listing, Clearing as Clears, MakingLog, MakingGhost, Marking, Reaching, Ready, setup_after}
use Rattle.tool_program.specs.Tools.{Tool, ToolPhase, Migrating, SettingUp, Work, is_reverting, moment, stopped, tool_phase_of}
use Rattle.tool_program.proofs.OnlineCalls.Machines.{ToolPhaseIsNamed, named}
use Rattle.proof_journals.specs.Holdings.{face_in, face_of}
use Rattle.proof_journals.specs.Machine.Machines.{ToolPhaseStands, WorkStands}
use Rattle.proof_journals.specs.Machine.Runnable.{IsRunnable}
use Rattle.proof_journals.specs.Machine.Standings.{Standing, standing_in, standing_of}
use Rattle.proof_journals.specs.Plans.{IsSerialPlan, limits_of, scene_of}
use Rattle.proof_journals.specs.Run.Kept.{IsKept}
use Rattle.proof_journals.specs.Turns.{about}
use Rattle.proof_journals.proofs.Actors.{Begins, Commands, GoesOn, Placed, placed}
use Rattle.proof_journals.proofs.Ghost.Keeping.{found_besides}
use Rattle.proof_journals.proofs.Ghost.Leaving.{holds_of}
use Rattle.proof_journals.proofs.Machine.Asking.{some_request}
use Rattle.proof_journals.proofs.Machine.Inspecting.{IsNote, inspects_or}
use Rattle.proof_journals.proofs.Journals.{no_command}
use Rattle.proof_migration.specs.Program.Hints.{is_unhinted}
use Rattle.proof_migration.specs.ToolPhase.Unaltered.{IsUnaltered}
use Rattle.proof_migration.proofs.Migration.Leaves.{WritesAway}
use Rattle.proof_migration.proofs.Program.Hints.Asked.{before, insp_from, known, lost_left, others_left, run, scene_run, served, setup_left, together, uncommanded}
use Rattle.proof_migration.proofs.Program.Hints.Known.{hints_go}
use Rattle.proof_migration.proofs.Program.Hints.Logging.{LogsAway, LogsHint, away_left, hint_left, watched}
use Rattle.proof_migration.proofs.Program.Hints.Phases.{HintsIn, Passes, drain_passes, end_passes, hint_below, insp_below, may_hint, renamer_passes}
use Rattle.proof_migration.proofs.Program.Hints.States.{HintsGo}
use Rattle.proof_migration.proofs.Program.Hints.Writes.{hint_insert}
use Rattle.proof_migration.proofs.Migration.Copier.Served.{seen_of}
use Rattle.proof_migration.proofs.Program.Turns.Asked.{waits_with}
use Rattle.proof_migration.proofs.Program.Turns.Follows.{kept_front}
use Rattle.proof_migration.proofs.ToolPhase.Owners.{commands_operator}
use Rattle.proof_migration.proofs.ToolPhase.ToolPhaseTurns.{AnswerKeeps, ApplyKeeps, CopyKeeps, CutKeeps, DrainKeeps, Kept, ResizeKeeps, SetupKeeps, TurnKeeps, UnfitKeeps, turn_kept}
use Rattle.proof_migration.proofs.ToolPhase.Unaltered.Away.{unaltered_front}
use Rattle.proof_bounds.proofs.Attempts.{attempts_few}
use Rattle.proof_bounds.proofs.Going.{waits_to_set}
use Rattle.proof_bounds.proofs.Inspecting.{setting_is}
use Rattle.proof_bounds.proofs.Notes.{notes_few}
use Rattle.proof_bounds.proofs.AttemptTurns.LogWrites.{log_found}
use Rattle.proof_bounds.proofs.AttemptTurns.NoteRows.{note_write}
use Rattle.proof_bounds.proofs.AttemptTurns.NoteTurns.{notes_go_along}
use Rattle.proof_bounds.specs.Notes.{is_note, note_turns, replaces}
use Rattle.proof_bounds.specs.Volumes.Laws.{HintsAreFew, ReadEventsAreFew}
use Rattle.proof_bounds.proofs.Volumes.HintRows.{away_count, insert_few, replace_few, row_grows}
use Rattle.proof_journals.proofs.Ghost.Rows.LineEvents.{count_both, count_of}
use Rattle.proof_bounds.proofs.Volumes.Volumes.{events_few, holds}

-- WHAT IS COUNTED

-- the attempt that is under way has its hint row before it
abbrev unhinted : Phase → ℕ
unhinted phase = cond (is_unhinted phase) 1 0

-- the changelog's events are of attempts that were begun, and of so many rows of notes; the last attempt's isn't there, where it has
-- yet to be written
abbrev Counted : List ℕ → ℕ → List RowEvent → ToolPhase → Type 0
Counted t rows log (SettingUp setup tries) = count_of (log_name t) log ≤ 2 * rows
Counted t rows log (Migrating work) = count_of (log_name t) log + unhinted work.cutover.phase ≤ work.cutover.attempts + 2 * rows

counted_later : (t : List ℕ) (rows more : ℕ) (log later : List RowEvent) (tool_phase : ToolPhase) → rows ≤ more → count_of (log_name t) later ≡ count_of (log_name t) log → Counted t rows log tool_phase → Counted t more later tool_phase
counted_later t rows more log later (SettingUp setup tries) less same counted = omega (arith, less, same, counted)
counted_later t rows more log later (Migrating work) less same counted = omega (arith, less, same, counted)

-- FROM ONE PHASE TO ANOTHER

less_unhinted : (one next : Bool) → (next ≡ true → one ≡ true) → cond next 1 0 ≤ cond one 1 0
less_unhinted true true may = omega arith
less_unhinted true false may = omega arith
less_unhinted false true may = absurd (false≢true (may refl))
less_unhinted false false may = omega arith

passes_few : (phase next : Phase) → Passes phase next → unhinted next ≤ unhinted phase
passes_few phase next passes = less_unhinted (is_unhinted phase) (is_unhinted next) passes.unhinted

locks_few : (stage : Stage) (answer : Answer) → unhinted (Attempting (locker_stage stage answer)) ≤ unhinted (Attempting stage)
locks_few Guarding (answers.Ok count) = omega arith
locks_few Locking (answers.Ok count) = omega arith
locks_few Dropping (answers.Ok count) = omega arith
locks_few Unlocking (answers.Ok count) = omega arith
locks_few stage answer = omega arith

begun_few : (answer : Answer) → unhinted (begun answer) ≤ 1
begun_few (answers.Ok count) = omega arith
begun_few (answers.Waits by) = omega arith
begun_few answer = omega arith

-- the locker's answer: an attempt that begins has its hint row before it
locker_few : (phase : Phase) (answer : Answer) (n attempts rows : ℕ) → n + unhinted phase ≤ attempts + 2 * rows → n + unhinted (locker_phase phase answer) ≤ attempts_after phase attempts + 2 * rows
locker_few Resting answer n attempts rows few = let a = begun_few answer in omega (arith, a, few)
locker_few (Attempting stage) answer n attempts rows few = by (is_bad answer) where
  by : (b : Bool) → n + unhinted (cond b (Ending Looking) (Attempting (locker_stage stage answer))) ≤ attempts + 2 * rows
  by true = omega (arith, few)
  by false = let a = locks_few stage answer in omega (arith, a, few)
locker_few (Ending clearing) answer n attempts rows few = few
locker_few (Finishing clearing) answer n attempts rows few = few
locker_few Finished answer n attempts rows few = few

-- the inspector's answer: no attempt loses its hint row
insp_few : (cutover : CutOver) (phase : Phase) (answer : Answer) → unhinted (inspector_phase cutover phase answer) ≤ unhinted phase
insp_few cutover phase answer = by (is_unhinted phase) (is_unhinted (inspector_phase cutover phase answer)) (insp_below [] cutover 0 phase answer []) where
  never : (most : ℕ) → most < 0 → ⊥
  never most less = omega (arith, less)

  by : (one next : Bool) → (HintsIn one [] 0 [] → HintsIn next [] 0 []) → cond next 1 0 ≤ cond one 1 0
  by true true moves = omega arith
  by true false moves = omega arith
  by false true moves = let most = moves tt in absurd (never most.0 most.1)
  by false false moves = omega arith

-- ... and behind its hint row the attempt isn't without one
hinted_none : (cutover : CutOver) (phase : Phase) (answer : Answer) → may_hint phase ≡ true → (answer ≡ answers.Ok 1) ⊎ (answer ≡ answers.Lost) → unhinted (inspector_phase cutover phase answer) ≡ 0
hinted_none cutover phase answer may said = by (is_unhinted (inspector_phase cutover phase answer)) (hint_below [] cutover 0 phase answer [] may said tt) where
  never : (most : ℕ) → most < 0 → ⊥
  never most less = omega (arith, less)

  by : (next : Bool) → HintsIn next [] 0 [] → cond {A = ℕ} next 1 0 ≡ 0
  by true most = absurd (never most.0 most.1)
  by false below = refl

-- WHAT THE INSPECTOR CALLS

-- it is in no attempt that has its hint row before it, or asks for no row at all
abbrev HintsOnly : List ℕ → CutOver → Phase → Request → Type 0
HintsOnly t cutover phase request = ((phase ≡ Attempting Hinting) × (request ≡ requests.Do (hint_insert t cutover.attempts))) ⊎ WritesAway (watched t) request

-- or writes a note's row
abbrev NotesOrHints : List ℕ → CutOver → Request → Type 0
NotesOrHints t cutover request = IsNote t request ⊎ HintsOnly t cutover cutover.phase request

insp_calls : (t : List ℕ) (cutover : CutOver) (request : Request) → cutover.table ≡ t → attempts.next Inspector cutover ≡ Some request → HintsOnly t cutover cutover.phase request
unfolding attempts.next
insp_calls t cutover request own is = by cutover.phase is where
  clears : (phase : Phase) (clearing : Clearing) → attempts.clears cutover.table clearing ≡ Some request → HintsOnly t cutover phase request
  clears phase Looking is = some_request (HintsOnly t cutover phase) requests.ShowTables request is (inr tt)
  clears phase (Drops left) is = some_request (HintsOnly t cutover phase) (requests.Drop (attempts.first_name cutover.table left)) request is (inr tt)

  ends : (b : Bool) (clearing : Clearing) → cond b (attempts.clears cutover.table clearing) None ≡ Some request → HintsOnly t cutover (Ending clearing) request
  ends true clearing is = clears (Ending clearing) clearing is
  ends false clearing is = absurd cc

  by : (phase : Phase) → attempts.inspector_call cutover phase ≡ Some request → HintsOnly t cutover phase request
  by (Attempting Hinting) is =
      some_request (HintsOnly t cutover (Attempting Hinting)) (attempts.writes_hint cutover.table cutover.attempts) request is (inl (refl, ap (λ (n : List ℕ). requests.Do (hint_insert n cutover.attempts)) own))
  by (Attempting (ReadingCounter drain)) is = some_request (HintsOnly t cutover (Attempting (ReadingCounter drain))) (requests.ShowCounter cutover.table) request is (inr tt)
  by (Attempting (SettingCounter number drain)) is = some_request (HintsOnly t cutover (Attempting (SettingCounter number drain))) (requests.SetCounter (Rattle.base_values.specs.ToolNames.ghost_name cutover.table) number) request is (inr tt)
  by (Attempting Showing) is = some_request (HintsOnly t cutover (Attempting Showing)) requests.ShowWaiting request is (inr tt)
  by (Attempting stage) is = absurd cc
  by (Ending clearing) is = ends (attempts.is_free cutover.hold cutover.renamer_waits) clearing is
  by (Finishing clearing) is = clears (Finishing clearing) clearing is
  by Resting is = absurd cc
  by Finished is = absurd cc

-- ONE TURN

module _ (plan : PlanData) (runs : IsRunnable plan) (serial : IsSerialPlan plan) (journal : List Entry) (entry : Entry) (kept : IsKept plan (journal ++ entry ∷ [])) (off : IsUnaltered plan (journal ++ entry ∷ [])) (was : Counted plan.table (note_turns journal) (state_at plan journal).log (moment plan journal).tool.tool_phase) where
  abbrev t : List ℕ
  t = plan.table

  abbrev more : List Entry
  more = journal ++ entry ∷ []

  abbrev now : State
  now = state_at plan journal

  abbrev then : State
  then = state_at plan more

  abbrev has : Actor → Standing
  has = standing_of plan journal

  abbrev tool : Tool
  tool = record (moment plan journal).tool { turns = (moment plan journal).tool.turns + 1 }

  abbrev Goal : ToolPhase → Type 0
  Goal tool_phase = Counted t (note_turns more) then.log tool_phase

  hints : HintsGo plan journal
  hints = hints_go plan journal runs serial (before plan runs serial journal entry kept off) (unaltered_front plan journal (entry ∷ []) off)

  notes_more : (b : Bool) → is_note entry ≡ b → note_turns more ≡ note_turns journal + cond b 1 0
  notes_more b at = sum_by_push (λ (one : Entry). cond (is_note one) 1 0) journal entry ∙ ap (λ (c : Bool). note_turns journal + cond c 1 0) at

  notes_up : note_turns journal ≤ note_turns more
  notes_up = by (is_note entry) refl where
    by : (b : Bool) → is_note entry ≡ b → note_turns journal ≤ note_turns more
    by b at = let count = notes_more b at in omega (arith, count)

  -- nothing is logged of the changelog
  same_count : LogsAway t now then → count_of (log_name t) then.log ≡ count_of (log_name t) now.log
  same_count logs =
      let a : count_of (log_name t) then.log ≡ count_of (log_name t) now.log + count_of (log_name t) logs.events = ap (count_of (log_name t)) logs.log ∙ count_both (log_name t) now.log logs.events in
      let b = away_count (log_name t) logs.events logs.away in
      omega (arith, a, b)

  old_so : LogsAway t now then → Goal (moment plan journal).tool.tool_phase
  old_so logs = counted_later t (note_turns journal) (note_turns more) now.log then.log (moment plan journal).tool.tool_phase notes_up (same_count logs) was

  others_old : same_actor entry.actor Insp ≡ false → Goal (moment plan journal).tool.tool_phase
  others_old other = old_so (others_left plan runs serial journal entry kept off hints.none other).logs

  lost_old : entry.asked ≡ Cut → Goal (moment plan journal).tool.tool_phase
  lost_old cut = old_so (lost_left plan runs serial journal entry kept off hints.none cut).logs

  -- THE MACHINES

  back : (b : Bool) (tool_phase : ToolPhase) → Goal tool_phase → Goal (stopped tool_phase)
  unfolding cutovers.reverted
  back b (SettingUp setup tries) at = at
  back b (Migrating work) at = let a = passes_few work.cutover.phase (cutovers.ended work.cutover.phase) (end_passes work.cutover.phase) in omega (arith, a, at)

  abbrev New : Kept
  New b tool_phase = Goal tool_phase

  drained_so : DrainKeeps New
  unfolding cutovers.applier_turn
  drained_so b work tries at = let a = passes_few work.cutover.phase (cutovers.drained work.cutover work.applier.hint work.cutover.phase) (drain_passes work.cutover work.applier.hint work.cutover.phase) in omega (arith, a, at)

  unfit_so : (work : Work) → Goal (Migrating work) → UnfitKeeps New work
  unfit_so work at = record { renamed = λ is. at; reverts = back true (Migrating work) at }

  copy_so : (answer : Answer) (work : Work) → Goal (Migrating work) → CopyKeeps New answer tool work
  copy_so answer work at = record { reverting = λ is. at; unfit = λ going place number is. unfit_so work at; took = λ going fits tries. at }

  apply_so : (answer : Answer) (work : Work) → Goal (Migrating work) → ApplyKeeps New answer tool work
  apply_so answer work at = record { reverting = λ is. at; unfit = λ going place number is. unfit_so work at; took = λ going fits tries. at }

  lock_so : (answer : Answer) (work : Work) → Goal (Migrating work) → CutKeeps New answer tool Locker work
  unfolding cutovers.took
  lock_so answer work at tries = locker_few work.cutover.phase answer (count_of (log_name t) then.log) work.cutover.attempts (note_turns more) at

  ren_so : (answer : Answer) (work : Work) → Goal (Migrating work) → CutKeeps New answer tool Renamer work
  unfolding cutovers.took
  ren_so answer work at tries = let a = passes_few work.cutover.phase (renamer_phase work.cutover.phase answer) (renamer_passes work.cutover.phase answer) in omega (arith, a, at)

  insp_so : (answer : Answer) (work : Work) → Goal (Migrating work) → CutKeeps New answer tool Inspector work
  unfolding cutovers.took
  insp_so answer work at tries = let a = insp_few work.cutover work.cutover.phase answer in omega (arith, a, at)

  -- THE SETUP

  setup_so : (answer : Answer) (setup : Setup) (tries : List ℕ) → Goal (SettingUp setup tries) → SetupKeeps plan New answer tool setup tries
  setup_so answer setup tries at = record { reverting = λ is. at; again = λ going bad some. at; goes = λ going good. by (setup_after plan.table setup answer) } where
    by : (next : Setup) → Goal (tool_phase_of plan tool.operator.size next tries)
    by (Ready position range) = omega (arith, at)
    by Listing = at
    by (Clears left) = at
    by MakingLog = at
    by MakingGhost = at
    by Marking = at
    by (Reaching position) = at

  -- THE INSPECTOR'S TURN

  abbrev About : Request → Type 0
  About request = about (opens entry now) entry.session entry.asked ≡ Some request

  idle_face : (work : Work) → (moment plan journal).tool.tool_phase ≡ Migrating work → entry.actor ≡ Insp → (request : Request) → About request → (face_of now.sessions entry.session).busy ≡ false
  idle_face work eq same request is = by (placed journal entry (served plan runs serial journal entry kept off).seated) ∙ ap (λ (a : Actor). (has a).busy) same ∙ stands.inspector.busy where
    stands : WorkStands journal (is_reverting (moment plan journal).tool.reason) has work
    stands = subst (ToolPhaseStands journal has (is_reverting (moment plan journal).tool.reason)) eq (together plan runs serial journal entry kept off).stands

    by : Placed journal entry → (face_of now.sessions entry.session).busy ≡ (has entry.actor).busy
    by (Commands command zero) = absurd (true≢false (sym command ∙ uncommanded plan runs serial journal entry kept off request is))
    by (GoesOn calls live) = ap (λ (o : Option ℕ). (standing_in now o).busy) (sym live)
    by (Begins calls uncut live above) = ap (λ s. (face_in s).busy) ((together plan runs serial journal entry kept off).known.fresh entry.session above) ∙ ap (λ (o : Option ℕ). (standing_in now o).busy) (sym live)

  -- it called its request now
  called : (work : Work) (request : Request) → (moment plan journal).tool.tool_phase ≡ Migrating work → entry.actor ≡ Insp → About request → NotesOrHints t work.cutover request
  called work request eq same is =
      insp_from plan runs serial journal entry kept off (NotesOrHints t work.cutover request) request same is
      (λ call. inspects_or plan journal (moment plan journal).tool work request (NotesOrHints t work.cutover request) (ap (λ (c : ToolPhase). tool_call plan (moment plan journal).server journal (moment plan journal).tool c Insp) (sym eq) ∙ call)
      (λ note resting. inl note) (λ next. inr (insp_calls t work.cutover request (subst (ToolPhaseIsNamed plan) eq (named plan journal)).cutover next)))
      (λ some. inr (inr (setting_is plan (WritesAway (watched t)) (λ number. tt) (moment plan journal).tool.tool_phase request (waits_to_set plan journal request runs serial (before plan runs serial journal entry kept off) some))))

  -- a note's row is asked for in a call: no request of a note's waits
  note_called : (request : Request) → IsNote t request → entry.actor ≡ Insp → is_cut entry.asked ≡ false → About request → is_note entry ≡ true
  note_called request note same uncut is = ap (λ (a : Actor). same_actor a Insp && replaces entry.asked) same ∙ by entry.asked refl uncut is where
    waits_not : (has Insp).waits ≡ Some request → ⊥
    waits_not some =
        setting_is plan (λ (r : Request). r ≡ request → ⊥) (λ number both. other_request number (both ∙ note.is)) (moment plan journal).tool.tool_phase request (waits_to_set plan journal request runs serial (before plan runs serial journal entry kept off) some) refl where
          other_request : (number : ℕ) → requests.SetCounter (ghost_name plan.table) number ≡ writes t note.row → ⊥
          other_request number both = cc

    by : (asked : Asked) → entry.asked ≡ asked → is_cut asked ≡ false → about (opens entry now) entry.session asked ≡ Some request → replaces asked ≡ true
    by (Call called) asks uncut is = let one : called ≡ request = cc in ap (λ (r : Request). replaces (Call r)) (one ∙ note.is)
    by Poll asks uncut is =
        absurd (waits_not (ap (λ (a : Actor). (has a).waits) (sym same) ∙ waits_with plan serial runs.fitting journal entry (known plan runs serial journal entry kept off) (run plan runs serial journal entry kept off) off (ap is_command asks) request is))
    by Cut asks uncut is = absurd (true≢false uncut)
    by (Command word) asks uncut is = absurd cc

  module _ (work : Work) (eq : (moment plan journal).tool.tool_phase ≡ Migrating work) (same : entry.actor ≡ Insp) (uncut : is_cut entry.asked ≡ false) where
    count_was : count_of (log_name t) now.log + unhinted work.cutover.phase ≤ work.cutover.attempts + 2 * note_turns journal
    count_was = subst (Counted t (note_turns journal) now.log) eq was

    -- no row is asked for
    away_so : LogsAway t now then → CutKeeps New entry.answer tool Inspector work
    away_so logs = insp_so entry.answer work (counted_later t (note_turns journal) (note_turns more) now.log then.log (Migrating work) notes_up (same_count logs) count_was)

    -- the inspector's session is the tool's
    own_tool : (request : Request) → About request → is_of_tool (session_of entry.session (opens entry now).sessions) ≡ true
    own_tool request asks =
        tool_serves plan journal entry (before plan runs serial journal entry kept off) (together plan runs serial journal entry kept off) (run plan runs serial journal entry kept off)
        (no_command (opens entry now) entry.session entry.asked request asks) (ap is_client same)

    -- a statement grows the log by what it writes
    grown_by : (statement : Statement) (most : ℕ) → count_of (log_name t) (operation_result (seen_of now entry.session) (operation_of statement)).events ≤ most → About (requests.Do statement) → count_of (log_name t) then.log ≤ count_of (log_name t) now.log + most
    grown_by statement most few asks =
        row_grows t (limits_of plan) (scene_of plan more) journal entry (scene_run plan runs serial journal entry kept off) hints.none statement most few uncut asks (idle_face work eq same (requests.Do statement) asks) (own_tool (requests.Do statement) asks)

    -- the hint row is logged
    hinted_so : work.cutover.phase ≡ Attempting Hinting → About (requests.Do (hint_insert t work.cutover.attempts)) → LogsHint t work.cutover.attempts entry.answer now then → may_hint work.cutover.phase ≡ true → CutKeeps New entry.answer tool Inspector work
    unfolding cutovers.took
    hinted_so hinting asks hint may tries =
        let grown = grown_by (hint_insert t work.cutover.attempts) 1 (insert_few t work.cutover.attempts (seen_of now entry.session)) asks in
        let up = notes_up in
        let none = hinted_none work.cutover work.cutover.phase entry.answer may hint.said in
        let one : unhinted work.cutover.phase ≡ 1 = ap unhinted hinting in
        let few = count_was in
        omega (arith, grown, up, none, one, few)

    -- a note's row is logged, and what it is put in place of
    noted_so : (request : Request) → IsNote t request → About request → CutKeeps New entry.answer tool Inspector work
    noted_so request note asks = insp_so entry.answer work (let grown = grown_by (note_write t note.row) 2 few (asks ∙ ap Some note.is) in let rows = notes_more true (note_called request note same uncut asks) in let was_few = count_was in omega (arith, grown, rows, was_few)) where
      off_now : IsUnaltered plan journal
      off_now = unaltered_front plan journal (entry ∷ []) off

      found : (table : TableRows) × (find_table (log_name t) now.tables ≡ Some table) × (table.schema ≡ log_schema t)
      found = log_found plan runs serial journal entry kept off_now work eq

      seen_found : find_table (log_name t) (seen_of now entry.session) ≡ Some found.0
      seen_found = found_besides (log_name t) (holds_of now entry.session).writes now.tables (hints.none entry.session) ∙ found.1

      is_table : IsTable found.0.schema found.0.rows
      is_table = (subst (WhereFound IsWellFormedTable) found.1 (all_well_formed.each (log_name t))).is_table where
        all_well_formed : IsWellFormedDatabase now.tables
        all_well_formed = (holds plan journal runs serial (before plan runs serial journal entry kept off) off_now).holds.holds.kept.well_formed

      few : count_of (log_name t) (operation_result (seen_of now entry.session) (operation_of (note_write t note.row))).events ≤ 2
      few = replace_few t note.row (seen_of now entry.session) found.0 seen_found found.2 is_table

    asked_so : (request : Request) → About request → CutKeeps New entry.answer tool Inspector work
    asked_so request is = by (called work request eq same is) where
      same_about : (other : Request) → About other → request ≡ other
      same_about other also = let both : Some request ≡ Some other = sym is ∙ also in cc

      by : NotesOrHints t work.cutover request → CutKeeps New entry.answer tool Inspector work
      by (inl note) = noted_so request note is
      by (inr (inr away)) = away_so (away_left t (limits_of plan) (scene_of plan more) journal entry (scene_run plan runs serial journal entry kept off) (run plan runs serial journal entry kept off).answered.sides hints.none (λ other also. subst (WritesAway (watched t)) (same_about other also) away)).logs
      by (inr (inl hinting)) = logged (hint_left t (limits_of plan) (scene_of plan more) journal entry (scene_run plan runs serial journal entry kept off) (run plan runs serial journal entry kept off).answered.sides hints.none work.cutover.attempts uncut asks (idle_face work eq same (requests.Do (hint_insert t work.cutover.attempts)) asks) (own_tool (requests.Do (hint_insert t work.cutover.attempts)) asks)).logs where
        asks : About (requests.Do (hint_insert t work.cutover.attempts))
        asks = is ∙ ap Some hinting.1

        logged : LogsAway t now then ⊎ LogsHint t work.cutover.attempts entry.answer now then → CutKeeps New entry.answer tool Inspector work
        logged (inl away) = away_so away
        logged (inr hint) = hinted_so hinting.0 asks hint (ap may_hint hinting.0)

    insp_work_so : CutKeeps New entry.answer tool Inspector work
    insp_work_so = by (about (opens entry now) entry.session entry.asked) refl where
      by : (asks : Option Request) → about (opens entry now) entry.session entry.asked ≡ asks → CutKeeps New entry.answer tool Inspector work
      by None is = away_so (away_left t (limits_of plan) (scene_of plan more) journal entry (scene_run plan runs serial journal entry kept off) (run plan runs serial journal entry kept off).answered.sides hints.none (λ other also. absurd (no other (sym is ∙ also)))).logs where
        no : (other : Request) → None ≡ Some other → ⊥
        no other both = cc
      by (Some request) is = asked_so request is

  uncut_so : (asked : Asked) → entry.asked ≡ asked → (entry.asked ≡ Cut → ⊥) → is_cut entry.asked ≡ false
  uncut_so Cut asks uncut = absurd (uncut asks)
  uncut_so (Call request) asks uncut = ap is_cut asks
  uncut_so Poll asks uncut = ap is_cut asks
  uncut_so (Command word) asks uncut = ap is_cut asks

  -- THE WHOLE TURN

  lost_so : (actor : Actor) (tool_phase : ToolPhase) → Goal tool_phase → AnswerKeeps plan New answers.Lost tool actor tool_phase
  lost_so Insp (SettingUp setup tries) at = setup_so answers.Lost setup tries at
  lost_so Insp (Migrating work) at = insp_so answers.Lost work at
  lost_so Lock (Migrating work) at = lock_so answers.Lost work at
  lost_so Ren (Migrating work) at = ren_so answers.Lost work at
  lost_so Copy (Migrating work) at = copy_so answers.Lost work at
  lost_so Apply (Migrating work) at = apply_so answers.Lost work at
  lost_so Lock (SettingUp setup tries) at = at
  lost_so Ren (SettingUp setup tries) at = at
  lost_so Copy (SettingUp setup tries) at = at
  lost_so Apply (SettingUp setup tries) at = at
  lost_so Op tool_phase at = at
  lost_so (Client c) tool_phase at = at

  other_than : (actor : Actor) → same_actor actor Insp ≡ false → entry.actor ≡ actor → same_actor entry.actor Insp ≡ false
  other_than actor other same = ap (λ (a : Actor). same_actor a Insp) same ∙ other

  heard_so : (entry.asked ≡ Cut → ⊥) → (actor : Actor) → entry.actor ≡ actor → (tool_phase : ToolPhase) → (moment plan journal).tool.tool_phase ≡ tool_phase → AnswerKeeps plan New entry.answer tool actor tool_phase
  heard_so uncut Insp same (SettingUp setup tries) eq =
      setup_so entry.answer setup tries (counted_later t (note_turns journal) (note_turns more) now.log then.log (SettingUp setup tries) notes_up (same_count (setup_left plan runs serial journal entry kept off hints.none setup tries eq same).logs) (subst (Counted t (note_turns journal) now.log) eq was))
  heard_so uncut Insp same (Migrating work) eq = insp_work_so work eq same (uncut_so entry.asked refl uncut)
  heard_so uncut Lock same (Migrating work) eq = lock_so entry.answer work (subst Goal eq (others_old (other_than Lock refl same)))
  heard_so uncut Ren same (Migrating work) eq = ren_so entry.answer work (subst Goal eq (others_old (other_than Ren refl same)))
  heard_so uncut Copy same (Migrating work) eq = copy_so entry.answer work (subst Goal eq (others_old (other_than Copy refl same)))
  heard_so uncut Apply same (Migrating work) eq = apply_so entry.answer work (subst Goal eq (others_old (other_than Apply refl same)))
  heard_so uncut Lock same (SettingUp setup tries) eq = subst Goal eq (others_old (other_than Lock refl same))
  heard_so uncut Ren same (SettingUp setup tries) eq = subst Goal eq (others_old (other_than Ren refl same))
  heard_so uncut Copy same (SettingUp setup tries) eq = subst Goal eq (others_old (other_than Copy refl same))
  heard_so uncut Apply same (SettingUp setup tries) eq = subst Goal eq (others_old (other_than Apply refl same))
  heard_so uncut Op same tool_phase eq = subst Goal eq (others_old (other_than Op refl same))
  heard_so uncut (Client c) same tool_phase eq = subst Goal eq (others_old (other_than (Client c) refl same))

  commanded_old : (word : OperatorWord) → entry.asked ≡ Command word → Goal (moment plan journal).tool.tool_phase
  commanded_old word asks = others_old (ap (λ (a : Actor). same_actor a Insp) (commands_operator plan journal entry.actor word (subst (IsGiven plan journal entry) asks (run plan runs serial journal entry kept off).followed.given)))

  resize_so : (size : ℕ) (tool_phase : ToolPhase) → Goal tool_phase → ResizeKeeps New tool size tool_phase
  resize_so size (SettingUp setup tries) at = at
  resize_so size (Migrating work) at = at

  turn_counts : TurnKeeps plan New (moment plan journal).server entry tool
  turn_counts = record {
    commanded = λ word asks unsized. commanded_old word asks;
    resized = λ size asks. resize_so size (moment plan journal).tool.tool_phase (commanded_old (ChunkSize size) asks);
    idle = λ cut idle. lost_old cut;
    lost = λ cut worked. lost_so entry.actor (moment plan journal).tool.tool_phase (lost_old cut);
    heard = λ uncut uncommanded. heard_so uncut entry.actor refl (moment plan journal).tool.tool_phase refl;
  }

  counted_more : Goal (moment plan more).tool.tool_phase
  counted_more = turn_kept plan New back journal entry drained_so turn_counts

-- EVERY JOURNAL

counts_on : (plan : PlanData) → IsRunnable plan → IsSerialPlan plan → (journal rest : List Entry) → IsKept plan (journal ++ rest) → IsUnaltered plan (journal ++ rest) → Counted plan.table (note_turns journal) (state_at plan journal).log (moment plan journal).tool.tool_phase → Counted plan.table (note_turns (journal ++ rest)) (state_at plan (journal ++ rest)).log (moment plan (journal ++ rest)).tool.tool_phase
counts_on plan runs serial journal [] kept off was = subst (λ (j : List Entry). Counted plan.table (note_turns j) (state_at plan j).log (moment plan j).tool.tool_phase) (sym (append-nil journal)) was
counts_on plan runs serial journal (entry ∷ rest) kept off was =
    let same : (journal ++ entry ∷ []) ++ rest ≡ journal ++ entry ∷ rest = append_assoc journal (entry ∷ []) rest in
    let kept_all : IsKept plan ((journal ++ entry ∷ []) ++ rest) = subst (IsKept plan) (sym same) kept in
    let off_all : IsUnaltered plan ((journal ++ entry ∷ []) ++ rest) = subst (IsUnaltered plan) (sym same) off in
    subst (λ (j : List Entry). Counted plan.table (note_turns j) (state_at plan j).log (moment plan j).tool.tool_phase) same
    (counts_on plan runs serial (journal ++ entry ∷ []) rest kept_all off_all
    (counted_more plan runs serial journal entry (kept_front plan (journal ++ entry ∷ []) rest kept_all) (unaltered_front plan (journal ++ entry ∷ []) rest off_all) was))

none_counted : (plan : PlanData) → Counted plan.table (note_turns []) (state_at plan []).log (moment plan []).tool.tool_phase
unfolding moment state_after
none_counted plan = omega arith

-- *Hints are few*, and so are notes
pub hints_few : HintsAreFew
hints_few plan journal some most runs serial kept off = by (moment plan journal).tool.tool_phase refl (counts_on plan runs serial [] journal kept off (none_counted plan)) where
  rows : note_turns journal ≤ 2 * (measures plan).notes
  rows = notes_few plan journal kept.planned (notes_go_along plan journal most runs serial kept)

  by : (tool_phase : ToolPhase) → (moment plan journal).tool.tool_phase ≡ tool_phase → Counted plan.table (note_turns journal) (state_at plan journal).log tool_phase → count_of (log_name plan.table) (state_at plan journal).log ≤ plan.options.default_retries + 4 * (measures plan).notes
  by (SettingUp setup tries) eq counted = let a = rows in omega (arith, counted, a)
  by (Migrating work) eq counted = let a = rows in let most_tried = attempts_few plan journal work some kept.faithful kept.follows eq in omega (arith, counted, a, most_tried)

-- THE TWO TOGETHER

both_most : (one two : List ℕ) (log : List RowEvent) → count_by (is_of (one ∷ two ∷ [])) log ≤ count_of one log + count_of two log
both_most one two [] = omega arith
both_most one two (event ∷ log) =
    let a = sum_by-cons (λ (e : RowEvent). cond (is_of (one ∷ two ∷ []) e) 1 0) event log in
    let b = sum_by-cons (λ (e : RowEvent). cond (is_of (one ∷ []) e) 1 0) event log in
    let c = sum_by-cons (λ (e : RowEvent). cond (is_of (two ∷ []) e) 1 0) event log in
    let d = both_most one two log in
    let e = by (bytes_eq event.table one) (bytes_eq event.table two) in
    omega (arith, a, b, c, d, e) where
      by : (p q : Bool) → cond (p || (q || false)) 1 0 ≤ cond (p || false) 1 0 + cond (q || false) 1 0
      by true true = omega arith
      by true false = omega arith
      by false true = omega arith
      by false false = omega arith

-- *What is read is little*
pub read_few : ReadEventsAreFew
unfolding measures
read_few plan journal some most runs serial kept off =
    let a = both_most plan.table (log_name plan.table) (state_at plan journal).log in
    let b = events_few plan journal runs serial kept off in
    let c = hints_few plan journal some most runs serial kept off in
    omega (arith, a, b, c)
