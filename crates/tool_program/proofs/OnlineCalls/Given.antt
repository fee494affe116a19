-- What is given to an actor of the tool is one of its machines' calls, and online.
use Rattle.std.proofs.Common.{◌≡◌, ℕ, ◌+◌, Bool, true, false, List, [], ◌∷◌, ◌++◌, Option, Some, None, refl, sym, ap, ◌∙◌, subst}
use Rattle.std.specs.Prelude.{if◌then◌else◌, ◌&&◌, not, nat_le, nat_lt}
use Rattle.std.specs.List.{slice_get}
use Rattle.std.proofs.lemmas.Bool.{not-false}
use Rattle.base_values.specs.declared.value.Value.{Value}
use Rattle.server_model.specs.Along.{Along}
use Rattle.base_script.specs.declared.actor.Actor.{Actor}
use Rattle.base_script.specs.declared.actor.Actor.TheVariants.{Op, Insp, Copy, Apply, Lock, Ren, Client}
use Rattle.base_script.specs.declared.operator.OperatorWord.{OperatorWord}
use Rattle.server_model.specs.declared.request.Request.{Request}
use Rattle.server_model.specs.declared.request.Request.TheVariants as requests
use Rattle.server_model.specs.declared.entry.Entry.{Entry}
use Rattle.server_model.specs.declared.entry.Asked.{Asked}
use Rattle.server_model.specs.declared.entry.Asked.TheVariants.{Call, Poll}
use Rattle.server_model.specs.Entries.{request_in}
use Rattle.plan_data.specs.PlanData.{PlanData}
use Rattle.tool_program.specs.JournalWords.Sessions.{live_session}
use Rattle.tool_program.specs.JournalWords.KeptPlans.{words_of}
use Rattle.base_values.specs.ToolNames.{ghost_name}
use Rattle.tool_changelog.specs.Heartbeats.{heartbeat_row}
use Rattle.tool_program.specs.declared.chunk_copier.copier.Copier.{Copier}
use Rattle.tool_program.specs.declared.chunk_copier.copier.CopyRange.{CopyRange}
use Rattle.tool_program.specs.declared.chunk_copier.copier.CopyStep.{CopyStep}
use Rattle.tool_program.specs.declared.chunk_copier.copier.CopyStep.TheVariants as copying
use Rattle.tool_program.specs.ChunkCopier.Copiers as copiers
use Rattle.tool_program.specs.declared.event_applier.applier.Applier.{Applier}
use Rattle.tool_program.specs.declared.event_applier.applier.ApplyStep.{ApplyStep}
use Rattle.tool_program.specs.declared.event_applier.applier.ApplyStep.TheVariants as applying
use Rattle.tool_program.specs.EventApplier.Appliers.{Doing, Putting, Removing, Changing}
use Rattle.tool_program.specs.EventApplier.Appliers as appliers
use Rattle.tool_program.specs.declared.cutover_core.cutover.Clearing.{Clearing}
use Rattle.tool_program.specs.declared.cutover_core.cutover.Clearing.TheVariants.{Looking, Drops}
use Rattle.tool_program.specs.declared.cutover_core.cutover.CutOver.{CutOver}
use Rattle.tool_program.specs.declared.cutover_core.cutover.Hold.{Hold}
use Rattle.tool_program.specs.declared.cutover_core.cutover.Hold.TheVariants.{Locks}
use Rattle.tool_program.specs.declared.cutover_core.cutover.Phase.{Phase}
use Rattle.tool_program.specs.declared.cutover_core.cutover.Phase.TheVariants.{Resting, Attempting, Ending, Finishing}
use Rattle.tool_program.specs.declared.cutover_core.cutover.Stage.{Stage}
use Rattle.tool_program.specs.declared.cutover_core.cutover.Stage.TheVariants.{Locking, Hinting, ReadingCounter, SettingCounter, Drained, Showing, Dropping, Unlocking}
use Rattle.tool_program.specs.declared.cutover_core.cutover.Role.TheVariants.{Inspector, Locker, Renamer}
use Rattle.tool_program.specs.CutoverCore.Attempts as cutovers
use Rattle.tool_program.specs.CutoverCore.CutOvers.{stands, is_done, is_resting}
use Rattle.tool_program.specs.declared.note_writer.notes.Notes.{Notes}
use Rattle.tool_program.specs.NoteWriter.Notes as notes
use Rattle.tool_program.specs.Setups as setups
use Rattle.tool_program.specs.Operators.{is_throttled, is_postponed}
use Rattle.tool_program.specs.Tools.{Work, ToolPhase, SettingUp, Migrating, Moment, is_reverting, moment}
use Rattle.tool_program.specs.Programs.{in_transaction, waits, rolls_back, copy_call, unread_in, is_held, may_read, apply_call, may_begin, lock_call, checkpoint_in, note_call, inspect_call, tool_call, calls, commands, tool_asks, given, IsGiven, IsFollowed, Follows}
use Rattle.tool_program.specs.OnlineCalls.{AsksWell, GivenCallsAreOnline, IsAskedWell, FollowedCallsAreOnline}
use Rattle.tool_program.proofs.OnlineCalls.Machines.{IsNamed, ToolPhaseIsNamed, named}
use Rattle.tool_program.proofs.OnlineCalls.Asking as well

-- what is asked is a call of the machine's
called : (wait : Bool) (call : Option Request) (request : Request) → (if wait then Some Poll else calls call) ≡ Some (Call request) → call ≡ Some request
called true call request is = absurd cc
called false None request is = absurd cc
called false (Some one) request is = cc

-- a call that is made is not held back
unheld : (held : Bool) (call : Option Request) (request : Request) → (if held then None else call) ≡ Some request → (held ≡ false) × (call ≡ Some request)
unheld true call request is = absurd cc
unheld false call request is = (refl, is)

-- what is asked under a condition is asked
granted : (may : Bool) (call : Option Request) (request : Request) → (if may then call else None) ≡ Some request → call ≡ Some request
granted true call request is = is
granted false call request is = absurd cc

held_back : (starts held : Bool) → (starts && held) ≡ false → starts ≡ true → held ≡ false
held_back true held is on = is
held_back false held is on = absurd cc

-- a batch that may be read
batch_free : (some held : Bool) → (some && not held) ≡ true → held ≡ false
batch_free true true is = absurd cc
batch_free true false is = refl
batch_free false held is = absurd cc

-- an attempt that may begin
attempt_free : (copied few throttled postponed : Bool) → (copied && few && not throttled && not postponed) ≡ true → ((copied && few) ≡ true) × (throttled ≡ false)
attempt_free true true false false is = (refl, refl)
attempt_free copied few throttled postponed is = absurd cc

one_call : (A : Request → Type 0) (one request : Request) → Some one ≡ Some request → A one → A request
one_call A one request is at = subst A (let same : one ≡ request = cc in same) at

-- a transaction that is open is rolled back
rolled : (A : Request → Type 0) (busy : Bool) (request : Request) → (if busy then Some requests.Rollback else None) ≡ Some request → A requests.Rollback → A request
rolled A true request is at = one_call A requests.Rollback request is at
rolled A false request is at = absurd cc

-- one of two calls
either_call : (A : Type 0) (first : Bool) (one other : Option Request) (request : Request) → (if first then one else other) ≡ Some request → (one ≡ Some request → A) → (other ≡ Some request → A) → A
either_call A true one other request is by_one by_other = by_one is
either_call A false one other request is by_one by_other = by_other is

module _ (plan : PlanData) (now : Moment) (journal : List Entry) where
  -- THE COPIER

  row_copied : (copier : Copier) (key : Option (List Value)) (request : Request) → copier.table ≡ plan.table → copiers.copies copier key ≡ Some request → AsksWell plan now Copy request
  row_copied copier None request same is = absurd cc
  row_copied copier (Some key) request same is =
      one_call (AsksWell plan now Copy) (requests.CopyRow copier.table (ghost_name copier.table) copier.map key) request is (well.copies_row plan now copier.table copier.map key same)

  copier_at : (copier : Copier) (range : CopyRange) (step : CopyStep) (request : Request) → copier.table ≡ plan.table → (copiers.is_choosing step ≡ true → is_throttled plan now.server now.tool.operator ≡ false)
      → copiers.call_at journal copier range step ≡ Some request → AsksWell plan now Copy request
  copier_at copier range copying.Choosing request same off is =
      one_call (AsksWell plan now Copy) (requests.ChunkEnd copier.table (copiers.low_end journal range copier.following) range.top copier.size) request is
      (well.chooses plan now copier.table (copiers.low_end journal range copier.following) range.top copier.size same (off refl))
  copier_at copier range (copying.Spanning reported size) request same off is =
      one_call (AsksWell plan now Copy) _ request is (well.spans plan now copier.table _ size same)
  copier_at copier range (copying.Copying chunk copied) request same off is = row_copied copier (copiers.key_at journal (copying.Copying chunk copied)) request same is
  copier_at copier range (copying.Committing chunk) request same off is = one_call (AsksWell plan now Copy) requests.Commit request is (well.copier_commits plan now)

  copier_in : (copier : Copier) (range : Option CopyRange) (request : Request) → copier.table ≡ plan.table → (copiers.starts copier ≡ true → is_throttled plan now.server now.tool.operator ≡ false)
      → copiers.call_in journal copier range ≡ Some request → AsksWell plan now Copy request
  copier_in copier None request same off is = absurd cc
  copier_in copier (Some range) request same off is = copier_at copier range copier.step request same off is

  copier_asks : (work : Work) (request : Request) → IsNamed plan work → copy_call plan now.server journal now.tool work ≡ Some request → AsksWell plan now Copy request
  unfolding copiers.next
  copier_asks work request names is =
      let free = unheld (copiers.starts work.copier && is_throttled plan now.server now.tool.operator) (copiers.next journal work.copier) request is in
      let left = unheld work.copier.is_copied (copiers.call_in journal work.copier work.copier.range) request free.1 in
      copier_in work.copier work.copier.range request names.copier (held_back (copiers.starts work.copier) (is_throttled plan now.server now.tool.operator) free.0) left.1

  -- THE APPLIER

  statement_result : (applier : Applier) (doing : Option Doing) → applier.new_schema.name ≡ ghost_name plan.table → AsksWell plan now Apply (appliers.statement_result applier doing)
  statement_result applier None into = well.applier_commits plan now
  statement_result applier (Some (Putting row)) into = well.applies plan now (appliers.statement_of applier (Putting row)) into
  statement_result applier (Some (Removing row)) into = well.applies plan now (appliers.statement_of applier (Removing row)) into
  statement_result applier (Some (Changing before after)) into = well.applies plan now (appliers.statement_of applier (Changing before after)) into

  applier_at : (applier : Applier) (step : ApplyStep) → applier.table ≡ plan.table → applier.new_schema.name ≡ ghost_name plan.table
      → (appliers.is_reading step ≡ true → Rattle.tool_program.specs.Online.attempt_stands now.tool.tool_phase ≡ false → is_throttled plan now.server now.tool.operator ≡ false) → AsksWell plan now Apply (appliers.call_at journal applier step)
  applier_at applier applying.Reading same into off = well.reads plan now applier.table applier.position applier.batch same (off refl)
  applier_at applier (applying.Beginning batch) same into off = well.applier_begins plan now
  applier_at applier (applying.Applying batch done part) same into off = statement_result applier (appliers.doing_at journal applier (applying.Applying batch done part)) into
  applier_at applier (applying.Committing batch) same into off = well.applier_commits plan now

  -- a batch that is read outside an attempt isn't held back
  read_free : (stood asked throttled : Bool) → (if stood then asked else throttled) ≡ false → stood ≡ false → throttled ≡ false
  read_free true asked throttled may out = absurd cc
  read_free false asked throttled may out = may

  applier_free : (work : Work) → now.tool.tool_phase ≡ Migrating work → (appliers.starts work.applier && not (may_read plan now.server now.tool work)) ≡ false → appliers.starts work.applier ≡ true
      → Rattle.tool_program.specs.Online.attempt_stands now.tool.tool_phase ≡ false → is_throttled plan now.server now.tool.operator ≡ false
  applier_free work tool_phase free starts out =
      let may : may_read plan now.server now.tool work ≡ true = not-false (may_read plan now.server now.tool work) (held_back (appliers.starts work.applier) (not (may_read plan now.server now.tool work)) free starts) in
      let unheld : is_held plan now.server now.tool work ≡ false = batch_free (nat_lt 0 (unread_in now.server work)) (is_held plan now.server now.tool work) may in
      let outside : stands work.cutover.phase ≡ false = ap Rattle.tool_program.specs.Online.attempt_stands (sym tool_phase) ∙ out in
      read_free (stands work.cutover.phase) work.cutover.is_asked (is_throttled plan now.server now.tool.operator) unheld outside

  applier_asks : (work : Work) (request : Request) → now.tool.tool_phase ≡ Migrating work → IsNamed plan work → apply_call plan now.server journal now.tool work ≡ Some request → AsksWell plan now Apply request
  unfolding appliers.next
  applier_asks work request tool_phase names is =
      let going = unheld (is_done work.cutover.phase) (if appliers.starts work.applier && not (may_read plan now.server now.tool work) then None else Some (appliers.next journal work.applier)) request is in
      let free = unheld (appliers.starts work.applier && not (may_read plan now.server now.tool work)) (Some (appliers.next journal work.applier)) request going.1 in
      one_call (AsksWell plan now Apply) (appliers.next journal work.applier) request free.1
      (applier_at work.applier work.applier.step names.applier names.into (λ starts out. applier_free work tool_phase free.0 starts out))

  -- THE LOCKER

  stage_goes : (work : Work) (stage : Stage) → now.tool.tool_phase ≡ Migrating work → work.cutover.phase ≡ Attempting stage → Rattle.tool_program.specs.Online.attempt_goes_on now.tool.tool_phase ≡ true
  stage_goes work stage tool_phase phase = ap Rattle.tool_program.specs.Online.attempt_goes_on tool_phase ∙ ap Rattle.tool_program.specs.CutoverCore.CutOvers.may_succeed phase

  locker_at : (table : List ℕ) (stage : Stage) (request : Request) → table ≡ plan.table → Rattle.tool_program.specs.Online.attempt_goes_on now.tool.tool_phase ≡ true → cutovers.locker_at table stage ≡ Some request → AsksWell plan now Lock request
  locker_at table Locking request same going is = one_call (AsksWell plan now Lock) _ request is (well.locks plan now table same going)
  locker_at table Dropping request same going is = one_call (AsksWell plan now Lock) _ request is (well.unguards plan now table same)
  locker_at table Unlocking request same going is = one_call (AsksWell plan now Lock) requests.Unlock request is (well.unlocks plan now)
  locker_at table stage request same going is = absurd cc

  unlocked : (hold : Hold) (request : Request) → cutovers.unlocks hold ≡ Some request → AsksWell plan now Lock request
  unlocked Locks request is = one_call (AsksWell plan now Lock) requests.Unlock request is (well.unlocks plan now)
  unlocked hold request is = absurd cc

  -- an attempt begins where the tool may begin one
  begun : (work : Work) (request : Request) → now.tool.tool_phase ≡ Migrating work → IsNamed plan work → may_begin plan now.server now.tool work ≡ true → (if work.cutover.is_stopped then None else Some (requests.Create (Rattle.tool_changelog.specs.ToolTables.sentry_schema work.cutover.table))) ≡ Some request
      → AsksWell plan now Lock request
  begun work request tool_phase names may is =
      let near = attempt_free work.copier.is_copied (nat_le (unread_in now.server work) plan.options.max_backlog) (is_throttled plan now.server now.tool.operator) (is_postponed plan now.tool.operator) may in
      one_call (AsksWell plan now Lock) _ request (unheld work.cutover.is_stopped _ request is).1
      (well.guards plan now work.cutover.table names.cutover (ap (Rattle.tool_program.specs.Online.is_near plan now) tool_phase ∙ near.0) near.1)

  locker_in : (work : Work) (phase : Phase) (request : Request) → now.tool.tool_phase ≡ Migrating work → work.cutover.phase ≡ phase → IsNamed plan work → (is_resting phase && not (may_begin plan now.server now.tool work)) ≡ false
      → cutovers.locker_call work.cutover phase ≡ Some request → AsksWell plan now Lock request
  locker_in work Resting request tool_phase at names free is = begun work request tool_phase names (not-false (may_begin plan now.server now.tool work) free) is
  locker_in work (Attempting stage) request tool_phase at names free is = locker_at work.cutover.table stage request names.cutover (stage_goes work stage tool_phase at) is
  locker_in work (Ending clearing) request tool_phase at names free is = unlocked work.cutover.hold request is
  locker_in work phase request tool_phase at names free is = absurd cc

  locker_asks : (work : Work) (request : Request) → now.tool.tool_phase ≡ Migrating work → IsNamed plan work → lock_call plan now.server now.tool work ≡ Some request → AsksWell plan now Lock request
  unfolding cutovers.next
  locker_asks work request tool_phase names is =
      let free = unheld (is_resting work.cutover.phase && not (may_begin plan now.server now.tool work)) (cutovers.next Locker work.cutover) request is in
      locker_in work work.cutover.phase request tool_phase refl names free.0 free.1

  -- THE RENAMER

  renamer_in : (work : Work) (phase : Phase) (request : Request) → now.tool.tool_phase ≡ Migrating work → work.cutover.phase ≡ phase → IsNamed plan work → cutovers.renamer_call work.cutover phase ≡ Some request → AsksWell plan now Ren request
  renamer_in work (Attempting Drained) request tool_phase at names is =
      one_call (AsksWell plan now Ren) (cutovers.exchange work.cutover.table) request is (well.exchanges plan now work.cutover.table names.cutover (stage_goes work Drained tool_phase at))
  renamer_in work phase request tool_phase at names is = absurd cc

  renamer_asks : (work : Work) (request : Request) → now.tool.tool_phase ≡ Migrating work → IsNamed plan work → cutovers.next Renamer work.cutover ≡ Some request → AsksWell plan now Ren request
  unfolding cutovers.next
  renamer_asks work request tool_phase names is = renamer_in work work.cutover.phase request tool_phase refl names is

  -- THE INSPECTOR

  table_drops : (table : List ℕ) (clearing : Clearing) (request : Request) → table ≡ plan.table → cutovers.clears table clearing ≡ Some request → AsksWell plan now Insp request
  table_drops table Looking request same is = one_call (AsksWell plan now Insp) requests.ShowTables request is (well.looks plan now)
  table_drops table (Drops left) request same is =
      one_call (AsksWell plan now Insp) (requests.Drop (cutovers.first_name table left)) request is (subst (λ (t : List ℕ). AsksWell plan now Insp (requests.Drop (cutovers.first_name t left))) (sym same) (well.drops plan now left))

  inspector_at : (cutover : CutOver) (stage : Stage) (request : Request) → cutover.table ≡ plan.table → cutovers.inspector_at cutover stage ≡ Some request → AsksWell plan now Insp request
  inspector_at cutover Hinting request same is =
      one_call (AsksWell plan now Insp) (cutovers.writes_hint cutover.table cutover.attempts) request is (subst (λ (t : List ℕ). AsksWell plan now Insp (cutovers.writes_hint t cutover.attempts)) (sym same) (well.hints plan now cutover.attempts))
  inspector_at cutover (ReadingCounter drain) request same is =
      one_call (AsksWell plan now Insp) (requests.ShowCounter cutover.table) request is (subst (λ (t : List ℕ). AsksWell plan now Insp (requests.ShowCounter t)) (sym same) (well.shows_counter plan now))
  inspector_at cutover (SettingCounter number drain) request same is =
      one_call (AsksWell plan now Insp) (requests.SetCounter (ghost_name cutover.table) number) request is
      (subst (λ (t : List ℕ). AsksWell plan now Insp (requests.SetCounter (ghost_name t) number)) (sym same) (well.sets_counter plan now number))
  inspector_at cutover Showing request same is = one_call (AsksWell plan now Insp) requests.ShowWaiting request is (well.watches plan now)
  inspector_at cutover stage request same is = absurd cc

  inspector_in : (cutover : CutOver) (phase : Phase) (request : Request) → cutover.table ≡ plan.table → cutovers.inspector_call cutover phase ≡ Some request → AsksWell plan now Insp request
  inspector_in cutover (Attempting stage) request same is = inspector_at cutover stage request same is
  inspector_in cutover (Ending clearing) request same is = by (cutovers.is_free cutover.hold cutover.renamer_waits) is
    where
      by : (free : Bool) → (if free then cutovers.clears cutover.table clearing else None) ≡ Some request → AsksWell plan now Insp request
      by true is = table_drops cutover.table clearing request same is
      by false is = absurd cc
  inspector_in cutover (Finishing clearing) request same is = table_drops cutover.table clearing request same is
  inspector_in cutover phase request same is = absurd cc

  note_in : (so_far : Notes) (row : Option (List Value)) (request : Request) → notes.row_or_beat row plan so_far ≡ Some request → AsksWell plan now Insp request
  note_in so_far (Some row) request is = one_call (AsksWell plan now Insp) (notes.writes plan.table row) request is (well.notes plan now row)
  note_in so_far None request is =
      let row = heartbeat_row (so_far.begun + 1) in
      one_call (AsksWell plan now Insp) (notes.writes plan.table row) request (granted (notes.may_beat plan.options.notes plan.options.note_every so_far) (Some (notes.writes plan.table row)) request is) (well.notes plan now row)

  note_asks : (work : Work) (request : Request) → note_call plan journal now.tool work ≡ Some request → AsksWell plan now Insp request
  unfolding notes.next
  note_asks work request is =
      let due = unheld (is_reverting now.tool.reason) (notes.next plan (checkpoint_in journal work) (notes.notes_of journal)) request is in
      note_in (notes.notes_of journal) (notes.checkpoint_next (notes.notes_of journal).step (checkpoint_in journal work)) request due.1

  inspector_asks : (work : Work) (request : Request) → IsNamed plan work → inspect_call plan journal now.tool work ≡ Some request → AsksWell plan now Insp request
  unfolding cutovers.next
  inspector_asks work request names is =
      either_call (AsksWell plan now Insp request) (is_resting work.cutover.phase) (note_call plan journal now.tool work) (cutovers.next Inspector work.cutover) request is (λ note. note_asks work request note)
      (λ call. inspector_in work.cutover work.cutover.phase request names.cutover call)

  setup_in : (setup : setups.Setup) (request : Request) → setups.setup_call plan setup ≡ Some request → AsksWell plan now Insp request
  setup_in setups.Listing request is = one_call (AsksWell plan now Insp) requests.ShowTables request is (well.looks plan now)
  setup_in (setups.Clearing left) request is = one_call (AsksWell plan now Insp) _ request is (well.drops plan now left)
  setup_in setups.MakingLog request is = one_call (AsksWell plan now Insp) _ request is (well.makes_log plan now)
  setup_in setups.MakingGhost request is = one_call (AsksWell plan now Insp) _ request is (well.makes_ghost plan now)
  setup_in setups.Marking request is = one_call (AsksWell plan now Insp) requests.LogEnd request is (well.marks plan now)
  setup_in (setups.Reaching position) request is = one_call (AsksWell plan now Insp) _ request is (well.reaches plan now)
  setup_in (setups.Ready position range) request is = absurd cc

  -- ANY OF THEM

  tool_asks_well : (tool_phase : ToolPhase) (actor : Actor) (request : Request) → now.tool.tool_phase ≡ tool_phase → ToolPhaseIsNamed plan tool_phase → tool_call plan now.server journal now.tool tool_phase actor ≡ Some request → AsksWell plan now actor request
  tool_asks_well (SettingUp setup tries) Insp request at names is = setup_in setup request (unheld (is_reverting now.tool.reason) (setups.setup_call plan setup) request is).1
  tool_asks_well (Migrating work) Insp request at names is = inspector_asks work request names is
  tool_asks_well (Migrating work) Copy request at names is =
      either_call (AsksWell plan now Copy request) (is_reverting now.tool.reason) (rolls_back now.server (live_session journal Copy)) (copy_call plan now.server journal now.tool work) request is
      (λ back. rolled (AsksWell plan now Copy) (in_transaction now.server (live_session journal Copy)) request back (well.copier_rolls_back plan now)) (λ call. copier_asks work request names call)
  tool_asks_well (Migrating work) Apply request at names is =
      either_call (AsksWell plan now Apply request) (is_reverting now.tool.reason) (rolls_back now.server (live_session journal Apply)) (apply_call plan now.server journal now.tool work) request is
      (λ back. rolled (AsksWell plan now Apply) (in_transaction now.server (live_session journal Apply)) request back (well.applier_rolls_back plan now)) (λ call. applier_asks work request at names call)
  tool_asks_well (Migrating work) Lock request at names is = locker_asks work request at names is
  tool_asks_well (Migrating work) Ren request at names is = renamer_asks work request at names is
  tool_asks_well tool_phase actor request at names is = absurd cc

no_command : (word : Option OperatorWord) (request : Request) → commands word ≡ Some (Call request) → ⊥
no_command None request is = absurd cc
no_command (Some word) request is = absurd cc

asked_well : (plan : PlanData) (journal : List Entry) (actor : Actor) (request : Request) → tool_asks plan journal (moment plan journal) actor ≡ Some (Call request) → AsksWell plan (moment plan journal) actor request
asked_well plan journal actor request is =
    let now = moment plan journal in
    tool_asks_well plan now journal now.tool.tool_phase actor request refl (named plan journal) (called (waits now.server (live_session journal actor)) (tool_call plan now.server journal now.tool now.tool.tool_phase actor) request is)

-- *Given calls are online*
pub given_calls : GivenCallsAreOnline
unfolding given
given_calls plan journal (Client client) request tool is = absurd cc
given_calls plan journal Op request tool is = absurd (no_command (slice_get (words_of plan) (moment plan journal).tool.operator.taken) request is)
given_calls plan journal Insp request tool is = asked_well plan journal Insp request is
given_calls plan journal Copy request tool is = asked_well plan journal Copy request is
given_calls plan journal Apply request tool is = asked_well plan journal Apply request is
given_calls plan journal Lock request tool is = asked_well plan journal Lock request is
given_calls plan journal Ren request tool is = asked_well plan journal Ren request is

entry_well : (plan : PlanData) (before : List Entry) (entry : Entry) (actor : Actor) (asked : Asked) → entry.actor ≡ actor → IsGiven plan before entry asked → IsAskedWell plan before actor (request_in asked)
entry_well plan before entry (Client client) asked same is = tt
entry_well plan before entry Op (Call request) same is = given_calls plan before Op request refl (subst (λ (a : Actor). given plan before a ≡ Some (Call request)) same is)
entry_well plan before entry Insp (Call request) same is = given_calls plan before Insp request refl (subst (λ (a : Actor). given plan before a ≡ Some (Call request)) same is)
entry_well plan before entry Copy (Call request) same is = given_calls plan before Copy request refl (subst (λ (a : Actor). given plan before a ≡ Some (Call request)) same is)
entry_well plan before entry Apply (Call request) same is = given_calls plan before Apply request refl (subst (λ (a : Actor). given plan before a ≡ Some (Call request)) same is)
entry_well plan before entry Lock (Call request) same is = given_calls plan before Lock request refl (subst (λ (a : Actor). given plan before a ≡ Some (Call request)) same is)
entry_well plan before entry Ren (Call request) same is = given_calls plan before Ren request refl (subst (λ (a : Actor). given plan before a ≡ Some (Call request)) same is)
entry_well plan before entry actor asked same is = tt

all_well : (plan : PlanData) (before journal : List Entry) → Along (IsFollowed plan) before journal → Along (λ some entry. IsAskedWell plan some entry.actor (request_in entry.asked)) before journal
all_well plan before [] follows = tt
all_well plan before (entry ∷ journal) follows = (entry_well plan before entry entry.actor entry.asked refl follows.0.given, all_well plan (before ++ entry ∷ []) journal follows.1)

-- *Followed calls are online*
pub followed_calls : FollowedCallsAreOnline
unfolding Follows
followed_calls plan journal follows = all_well plan [] journal follows
