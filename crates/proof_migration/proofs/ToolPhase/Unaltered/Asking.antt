-- What each actor of the tool asks, by its kind: whose rows are written, and which tables are made, dropped and renamed.
use Rattle.std.proofs.Common.{◌≡◌, ℕ, Bool, true, false, cond, not, ◌||◌, ◌&&◌, List, [], ◌∷◌, Option, Some, None, refl, sym, ap, ◌∙◌, subst}
use Rattle.std.specs.List.{AllByRecursion, list_any, list_all, slice_get}
use Rattle.std.specs.Str.{bytes_eq}
use Rattle.std.proofs.lemmas.Bool.{true≢false, and_parts, or_left, or_parts}
use Rattle.base_values.specs.declared.value.Value.{Value}
use Rattle.base_script.specs.declared.actor.Actor.{Actor}
use Rattle.base_script.specs.declared.actor.Actor.TheVariants.{Op, Insp, Copy, Apply, Lock, Ren, Client}
use Rattle.base_script.specs.declared.script.ScriptWord.{ScriptWord}
use Rattle.base_script.specs.declared.script.ScriptWord.TheVariants as words
use Rattle.table_store.specs.declared.renames.Pair.{Pair}
use Rattle.server_model.specs.declared.entry.Asked.TheVariants.{Call, Poll}
use Rattle.server_model.specs.declared.entry.Entry.{Entry}
use Rattle.server_model.specs.declared.request.Request.{Request}
use Rattle.server_model.specs.declared.request.Request.TheVariants as requests
use Rattle.server_model.specs.Operations.{table_of}
use Rattle.plan_data.specs.PlanData.{PlanData}
use Rattle.base_values.specs.ToolNames.{ghost_name, log_name, is_tool_name}
use Rattle.tool_program.specs.JournalWords.Clients.{client_at, client_asks, word_asks}
use Rattle.tool_program.specs.JournalWords.Histories.{renames_away, takes_away}
use Rattle.tool_program.specs.JournalWords.KeptPlans.{words_of}
use Rattle.tool_program.specs.JournalWords.Sessions.{live_session}
use Rattle.tool_program.specs.declared.chunk_copier.copier.Copier.{Copier}
use Rattle.tool_program.specs.declared.chunk_copier.copier.CopyRange.{CopyRange}
use Rattle.tool_program.specs.declared.chunk_copier.copier.CopyStep.{CopyStep}
use Rattle.tool_program.specs.declared.chunk_copier.copier.CopyStep.TheVariants as copying
use Rattle.tool_program.specs.ChunkCopier.Copiers as copiers
use Rattle.tool_program.specs.declared.event_applier.applier.Applier.{Applier}
use Rattle.tool_program.specs.declared.event_applier.applier.ApplyStep.{ApplyStep}
use Rattle.tool_program.specs.declared.event_applier.applier.ApplyStep.TheVariants as applying
use Rattle.tool_program.specs.EventApplier.Appliers as appliers
use Rattle.tool_program.specs.EventApplier.Appliers.{Doing, Putting, Removing, Changing}
use Rattle.tool_program.specs.declared.cutover_core.cutover.Clearing.{Clearing}
use Rattle.tool_program.specs.declared.cutover_core.cutover.Clearing.TheVariants.{Looking, Drops}
use Rattle.tool_program.specs.declared.cutover_core.cutover.CutOver.{CutOver}
use Rattle.tool_program.specs.declared.cutover_core.cutover.Hold.{Hold}
use Rattle.tool_program.specs.declared.cutover_core.cutover.Hold.TheVariants.{Locks}
use Rattle.tool_program.specs.declared.cutover_core.cutover.Phase.{Phase}
use Rattle.tool_program.specs.declared.cutover_core.cutover.Phase.TheVariants.{Resting, Attempting, Ending, Finishing, Finished}
use Rattle.tool_program.specs.declared.cutover_core.cutover.Role.TheVariants.{Inspector, Locker}
use Rattle.tool_program.specs.declared.cutover_core.cutover.Stage.TheVariants.{Locking, Hinting, Showing, Dropping, Unlocking, ReadingCounter, SettingCounter}
use Rattle.tool_program.specs.CutoverCore.Attempts as cutovers
use Rattle.tool_program.specs.CutoverCore.CutOvers.{is_resting}
use Rattle.tool_program.specs.Online.{may_exclude, attempt_goes_on}
use Rattle.tool_program.specs.Operators.{is_throttled}
use Rattle.tool_program.specs.Programs.{in_transaction, rolls_back, copy_call, apply_call, may_begin, tool_call, tool_asks, given, waits, calls}
use Rattle.tool_program.specs.Setups.{Setup, Listing, Clearing as Clears, MakingLog, MakingGhost, Marking, Reaching, Ready, setup_call}
use Rattle.tool_program.specs.Tools.{ToolPhase, SettingUp, Migrating, Moment, is_reverting, moment}
use Rattle.tool_program.specs.OnlineCalls.{AsksWell}
use Rattle.tool_program.proofs.OnlineCalls.Given as online
use Rattle.tool_program.proofs.OnlineCalls.Machines.{ToolPhaseIsNamed, named}
use Rattle.tool_program.proofs.OnlineCalls.Naming.{is_known}
use Rattle.proof_journals.specs.Scenes.{NamesTable}
use Rattle.proof_journals.specs.Plans.{client_names, scene_of}
use Rattle.proof_journals.specs.Turns.{ClientAsks}
use Rattle.server_model.proofs.LockedRows.Tests.{same_bytes, turned_bytes}
use Rattle.proof_journals.proofs.Machine.Inspecting.{inspects_or}
use Rattle.proof_journals.proofs.Machine.Asking.{some_request, unless_called, renamer_next}
use Rattle.proof_journals.proofs.Machine.Clients.{Next, calls_line, polls_line, client_next}
use Rattle.proof_journals.proofs.Machine.Journals.{apply_called}
use Rattle.proof_journals.proofs.Machine.Polling.{no_word}
use Rattle.proof_journals.proofs.Machine.Staying.{lines_named}

-- the inspector writes rows of the changelog, the copier and the applier of the new table; tables of the tool's are made and
-- dropped; and the RENAME is the renamer's exchange
abbrev pub ToolCall : PlanData → Request → Actor → Type 0
ToolCall plan (requests.Do statement) Insp = table_of statement ≡ log_name plan.table
ToolCall plan (requests.Do statement) Apply = table_of statement ≡ ghost_name plan.table
ToolCall plan (requests.Do statement) actor = ⊥
ToolCall plan (requests.CopyRow from into map key) Copy = into ≡ ghost_name plan.table
ToolCall plan (requests.CopyRow from into map key) actor = ⊥
ToolCall plan (requests.Create schema) actor = is_tool_name plan.table schema.name ≡ true
ToolCall plan (requests.Drop name) actor = is_tool_name plan.table name ≡ true
ToolCall plan (requests.Rename pairs) actor = (actor ≡ Ren) × (requests.Rename pairs ≡ cutovers.exchange plan.table)
ToolCall plan request actor = Unit {0}

-- what an actor asks, or waits with
abbrev pub AskedAs : PlanData → Actor → Request → Type 0
AskedAs plan (Client c) request = ClientAsks (scene_of plan []) request
AskedAs plan Op request = ⊥
AskedAs plan actor request = ToolCall plan request actor

-- NAMES

known_tool : (own tool : Bool) → (own || tool) ≡ true → own ≡ false → tool ≡ true
known_tool true tool known off = absurd (true≢false off)
known_tool false tool known off = known

excluded : (a b : Bool) → cond a b true ≡ true → b ≡ false → a ≡ false
excluded true b well off = absurd (true≢false (sym well ∙ off))
excluded false b well off = refl

-- a name that is defined is one of the tool's
tool_named : (table name : List ℕ) → list_all (is_known table) (name ∷ []) ≡ true → list_any (bytes_eq table) (name ∷ []) ≡ false → is_tool_name table name ≡ true
tool_named table name known off =
    known_tool (bytes_eq name table) (is_tool_name table name) (and_parts (is_known table name) true known).0 (turned_bytes table name (or_parts (bytes_eq table name) false off).0)

-- ROWS AND THE RENAME

-- the same of rows and of the RENAME alone
abbrev RowCall : PlanData → Actor → Request → Type 0
RowCall plan actor (requests.Create schema) = Unit {0}
RowCall plan actor (requests.Drop name) = Unit {0}
RowCall plan actor request = ToolCall plan request actor

abbrev locks_or_defines : Request → Bool
locks_or_defines (requests.Create schema) = true
locks_or_defines (requests.LockTables names) = true
locks_or_defines (requests.Drop name) = true
locks_or_defines requests.Unlock = true
locks_or_defines request = false

locker_kind : (cutover : CutOver) (request : Request) → cutovers.next Locker cutover ≡ Some request → locks_or_defines request ≡ true
unfolding cutovers.next
locker_kind cutover request is = by cutover.phase is where
  Kind : Request → Type 0
  Kind r = locks_or_defines r ≡ true

  frees : (hold : Hold) → cutovers.unlocks hold ≡ Some request → Kind request
  frees Locks is = some_request Kind requests.Unlock request is refl
  frees hold is = absurd cc

  by : (phase : Phase) → cutovers.locker_call cutover phase ≡ Some request → Kind request
  by Resting is = some_request Kind _ request (unless_called cutover.is_stopped _ request is) refl
  by (Attempting Locking) is = some_request Kind _ request is refl
  by (Attempting Dropping) is = some_request Kind _ request is refl
  by (Attempting Unlocking) is = some_request Kind _ request is refl
  by (Attempting stage) is = absurd cc
  by (Ending clearing) is = frees cutover.hold is
  by (Finishing clearing) is = absurd cc
  by Finished is = absurd cc

locker_rows : (plan : PlanData) (request : Request) → locks_or_defines request ≡ true → RowCall plan Lock request
locker_rows plan (requests.Create schema) kind = tt
locker_rows plan (requests.LockTables names) kind = tt
locker_rows plan (requests.Drop name) kind = tt
locker_rows plan requests.Unlock kind = tt
locker_rows plan request kind = absurd cc

setup_rows : (plan : PlanData) (setup : Setup) (request : Request) → setup_call plan setup ≡ Some request → RowCall plan Insp request
setup_rows plan Listing request is = some_request (RowCall plan Insp) _ request is tt
setup_rows plan (Clears left) request is = some_request (RowCall plan Insp) _ request is tt
setup_rows plan MakingLog request is = some_request (RowCall plan Insp) _ request is tt
setup_rows plan MakingGhost request is = some_request (RowCall plan Insp) _ request is tt
setup_rows plan Marking request is = some_request (RowCall plan Insp) _ request is tt
setup_rows plan (Reaching position) request is = some_request (RowCall plan Insp) _ request is tt
setup_rows plan (Ready position range) request is = absurd cc

clears_rows : (plan : PlanData) (table : List ℕ) (clearing : Clearing) (request : Request) → cutovers.clears table clearing ≡ Some request → RowCall plan Insp request
clears_rows plan table Looking request is = some_request (RowCall plan Insp) requests.ShowTables request is tt
clears_rows plan table (Drops left) request is = some_request (RowCall plan Insp) (requests.Drop (cutovers.first_name table left)) request is tt

inspector_rows : (plan : PlanData) (cutover : CutOver) (request : Request) → cutover.table ≡ plan.table → cutovers.next Inspector cutover ≡ Some request → RowCall plan Insp request
unfolding cutovers.next
inspector_rows plan cutover request own is = by cutover.phase is where
  ends : (b : Bool) (clearing : Clearing) → cond b (cutovers.clears cutover.table clearing) None ≡ Some request → RowCall plan Insp request
  ends true clearing is = clears_rows plan cutover.table clearing request is
  ends false clearing is = absurd cc

  by : (phase : Phase) → cutovers.inspector_call cutover phase ≡ Some request → RowCall plan Insp request
  by (Attempting Hinting) is = some_request (RowCall plan Insp) (cutovers.writes_hint cutover.table cutover.attempts) request is (ap log_name own)
  by (Attempting (ReadingCounter drain)) is = some_request (RowCall plan Insp) (requests.ShowCounter cutover.table) request is tt
  by (Attempting (SettingCounter number drain)) is = some_request (RowCall plan Insp) (requests.SetCounter (ghost_name cutover.table) number) request is tt
  by (Attempting Showing) is = some_request (RowCall plan Insp) requests.ShowWaiting request is tt
  by (Attempting stage) is = absurd cc
  by (Ending clearing) is = ends (cutovers.is_free cutover.hold cutover.renamer_waits) clearing is
  by (Finishing clearing) is = clears_rows plan cutover.table clearing request is
  by Resting is = absurd cc
  by Finished is = absurd cc

copier_rows : (plan : PlanData) (journal : List Entry) (copier : Copier) (request : Request) → copier.table ≡ plan.table → copiers.next journal copier ≡ Some request → RowCall plan Copy request
unfolding copiers.next
copier_rows plan journal copier request own is = ranged copier.range (unless_called copier.is_copied (copiers.call_in journal copier copier.range) request is) where
  copied : (key : Option (List Value)) → copiers.copies copier key ≡ Some request → RowCall plan Copy request
  copied None is = absurd cc
  copied (Some key) is = some_request (RowCall plan Copy) _ request is (ap ghost_name own)

  by : (range : CopyRange) (step : CopyStep) → copiers.call_at journal copier range step ≡ Some request → RowCall plan Copy request
  by range copying.Choosing is = some_request (RowCall plan Copy) _ request is tt
  by range (copying.Spanning reported size) is = some_request (RowCall plan Copy) _ request is tt
  by range (copying.Copying chunk done) is = copied (copiers.key_at journal (copying.Copying chunk done)) is
  by range (copying.Committing chunk) is = some_request (RowCall plan Copy) _ request is tt

  ranged : (range : Option CopyRange) → copiers.call_in journal copier range ≡ Some request → RowCall plan Copy request
  ranged None is = absurd cc
  ranged (Some range) is = by range copier.step is

applier_rows : (plan : PlanData) (journal : List Entry) (applier : Applier) → applier.new_schema.name ≡ ghost_name plan.table → RowCall plan Apply (appliers.next journal applier)
unfolding appliers.next
applier_rows plan journal applier into = by applier.step where
  said : (doing : Option Doing) → RowCall plan Apply (appliers.statement_result applier doing)
  said None = tt
  said (Some (Putting row)) = into
  said (Some (Removing row)) = into
  said (Some (Changing before after)) = into

  by : (step : ApplyStep) → RowCall plan Apply (appliers.call_at journal applier step)
  by applying.Reading = tt
  by (applying.Beginning batch) = tt
  by (applying.Applying batch done part) = said (appliers.doing_at journal applier (applying.Applying batch done part))
  by (applying.Committing batch) = tt

rolled_rows : (plan : PlanData) (actor : Actor) (busy : Bool) (request : Request) → cond busy (Some requests.Rollback) None ≡ Some request → RowCall plan actor request
rolled_rows plan actor true request is = some_request (RowCall plan actor) requests.Rollback request is tt
rolled_rows plan actor false request is = absurd cc

exchange_rows : (plan : PlanData) (table : List ℕ) → table ≡ plan.table → RowCall plan Ren (cutovers.exchange table)
exchange_rows plan table own = (refl, ap cutovers.exchange own)

-- it takes the migrated table away
pub exchange_takes : (table : List ℕ) (pairs : List Pair) → requests.Rename pairs ≡ cutovers.exchange table → takes_away table pairs ≡ true
exchange_takes table pairs is = subst (λ (r : Request). renames_away table (Some r) ≡ true) (sym is) (or_left (bytes_eq table table) _ (same_bytes table))

module _ (plan : PlanData) (journal : List Entry) where
  abbrev now : Moment
  now = moment plan journal

  back_or : (actor : Actor) (b : Bool) (back call : Option Request) (request : Request) → cond b back call ≡ Some request → (back ≡ Some request → RowCall plan actor request) → (call ≡ Some request → RowCall plan actor request) → RowCall plan actor request
  back_or actor true back call request is one other = one is
  back_or actor false back call request is one other = other is

  tool_rows : (tool_phase : ToolPhase) (actor : Actor) (request : Request) → ToolPhaseIsNamed plan tool_phase → tool_call plan now.server journal now.tool tool_phase actor ≡ Some request → RowCall plan actor request
  tool_rows (SettingUp setup tries) Insp request names is = setup_rows plan setup request (unless_called (is_reverting now.tool.reason) (setup_call plan setup) request is)
  tool_rows (Migrating work) Insp request names is =
      inspects_or plan journal now.tool work request (RowCall plan Insp request) is (λ note resting. subst (RowCall plan Insp) (sym note.is) refl) (λ next. inspector_rows plan work.cutover request names.cutover next)
  tool_rows (Migrating work) Copy request names is =
      back_or Copy (is_reverting now.tool.reason) (rolls_back now.server (live_session journal Copy)) (copy_call plan now.server journal now.tool work) request is
      (λ back. rolled_rows plan Copy (in_transaction now.server (live_session journal Copy)) request back)
      (λ call. copier_rows plan journal work.copier request names.copier (unless_called (copiers.starts work.copier && is_throttled plan now.server now.tool.operator) (copiers.next journal work.copier) request call))
  tool_rows (Migrating work) Apply request names is =
      back_or Apply (is_reverting now.tool.reason) (rolls_back now.server (live_session journal Apply)) (apply_call plan now.server journal now.tool work) request is
      (λ back. rolled_rows plan Apply (in_transaction now.server (live_session journal Apply)) request back)
      (λ call. subst (RowCall plan Apply) (sym (apply_called plan journal work request call)) (applier_rows plan journal work.applier names.into))
  tool_rows (Migrating work) Lock request names is =
      locker_rows plan request (locker_kind work.cutover request (unless_called (is_resting work.cutover.phase && not (may_begin plan now.server now.tool work)) (cutovers.next Locker work.cutover) request is))
  tool_rows (Migrating work) Ren request names is = subst (RowCall plan Ren) (sym (renamer_next work.cutover request is)) (exchange_rows plan work.cutover.table names.cutover)
  tool_rows tool_phase actor request names is = absurd cc

  -- all of it
  called : (actor : Actor) (request : Request) → RowCall plan actor request → AsksWell plan now actor request → ToolCall plan request actor
  called actor (requests.Create schema) rows well = tool_named plan.table schema.name well.names (excluded (list_any (bytes_eq plan.table) (schema.name ∷ [])) (may_exclude actor (requests.Create schema) && attempt_goes_on now.tool.tool_phase) well.excludes (never_made actor)) where
    never_made : (actor : Actor) → (may_exclude actor (requests.Create schema) && attempt_goes_on now.tool.tool_phase) ≡ false
    never_made Op = refl
    never_made Insp = refl
    never_made Copy = refl
    never_made Apply = refl
    never_made Lock = refl
    never_made Ren = refl
    never_made (Client c) = refl
  called actor (requests.Drop name) rows well = tool_named plan.table name well.names (excluded (list_any (bytes_eq plan.table) (name ∷ [])) (may_exclude actor (requests.Drop name) && attempt_goes_on now.tool.tool_phase) well.excludes (never_dropped actor)) where
    never_dropped : (actor : Actor) → (may_exclude actor (requests.Drop name) && attempt_goes_on now.tool.tool_phase) ≡ false
    never_dropped Op = refl
    never_dropped Insp = refl
    never_dropped Copy = refl
    never_dropped Apply = refl
    never_dropped Lock = refl
    never_dropped Ren = refl
    never_dropped (Client c) = refl
  called actor request rows well = rows

  tool_asked : (actor : Actor) (request : Request) → AsksWell plan now actor request → tool_asks plan journal now actor ≡ Some (Call request) → ToolCall plan request actor
  tool_asked actor request well gives =
      called actor request (tool_rows now.tool.tool_phase actor request (named plan journal) (was_called (waits now.server (live_session journal actor)) (tool_call plan now.server journal now.tool now.tool.tool_phase actor) gives)) well where
        was_called : (wait : Bool) (call : Option Request) → cond wait (Some Poll) (calls call) ≡ Some (Call request) → call ≡ Some request
        was_called true call is = absurd cc
        was_called false None is = absurd cc
        was_called false (Some one) is = cc

  -- CLIENTS

  client_asked : (c : ℕ) (request : Request) → client_asks plan journal c ≡ Some (Call request) → ClientAsks (scene_of plan []) request
  client_asked c request gives = by (client_next plan journal c (Call request) gives) where
    word_in_script : (word : ScriptWord) → NamesTable (client_names plan) word → ClientAsks (scene_of plan []) (word_asks word)
    word_in_script words.Begin is = tt
    word_in_script words.Commit is = tt
    word_in_script words.Rollback is = tt
    word_in_script (words.Do statement) is = is

    by : Next (client_at plan journal c) (Call request) → ClientAsks (scene_of plan []) request
    by (calls_line line lines going off left same) =
        let one : word_asks line.word ≡ request = cc in
        subst (ClientAsks (scene_of plan [])) one (word_in_script line.word (subst (AllByRecursion (λ line. NamesTable (client_names plan) line.word)) left (lines_named plan journal c)).0)
    by (polls_line going on same) = absurd (no same) where
      no : Call request ≡ Poll → ⊥
      no both = cc

  -- WHAT IS GIVEN

  pub given_asked : (actor : Actor) (request : Request) → given plan journal actor ≡ Some (Call request) → AskedAs plan actor request
  unfolding given
  given_asked (Client c) request gives = client_asked c request gives
  given_asked Op request gives = absurd (no_word (slice_get (words_of plan) (moment plan journal).tool.operator.taken) (Call request) refl gives)
  given_asked Insp request gives = tool_asked Insp request (online.given_calls plan journal Insp request refl gives) gives
  given_asked Copy request gives = tool_asked Copy request (online.given_calls plan journal Copy request refl gives) gives
  given_asked Apply request gives = tool_asked Apply request (online.given_calls plan journal Apply request refl gives) gives
  given_asked Lock request gives = tool_asked Lock request (online.given_calls plan journal Lock request refl gives) gives
  given_asked Ren request gives = tool_asked Ren request (online.given_calls plan journal Ren request refl gives) gives
