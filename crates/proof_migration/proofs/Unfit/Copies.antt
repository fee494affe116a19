-- A turn of a copier in which a value was refused, the program's or a new tool's: it read a row of the migrated table that can't be converted.
use Rattle.std.proofs.Common.{◌≡◌, ℕ, Bool, true, false, cond, not, List, [], ◌∷◌, ◌++◌, Option, Some, None, refl, sym, ap, ◌∙◌, subst}
use Rattle.std.specs.Prelude.{find, unwrap_or}
use Rattle.std.specs.List.{slice_get}
use Rattle.std.specs.Option.{option_map}
use Rattle.base_values.specs.Laws.{StoresAgain}
use Rattle.base_values.specs.declared.event.RowEvent.{RowEvent}
use Rattle.base_values.specs.declared.gho_schema.schema.Schema.{Schema}
use Rattle.base_values.specs.declared.row_conversion.map.MapColumn.{MapColumn}
use Rattle.base_values.specs.declared.value.Value.{Value}
use Rattle.base_values.specs.GhoSchema.Rows.{key_of, key_places}
use Rattle.base_values.specs.ToolNames.{ghost_name}
use Rattle.base_values.proofs.Orders.{tied_keys}
use Rattle.base_script.specs.declared.actor.Actor.{Actor}
use Rattle.base_script.specs.declared.actor.Actor.TheVariants.{Copy}
use Rattle.table_store.specs.Databases.{TableRows, Database, find_table}
use Rattle.table_store.specs.RowLists.{is_at}
use Rattle.table_store.proofs.Orders.{is_Equal}
use Rattle.server_model.specs.declared.answer.Answer.{Answer}
use Rattle.server_model.specs.declared.answer.Answer.TheVariants as answers
use Rattle.server_model.specs.declared.entry.Entry.{Entry}
use Rattle.server_model.specs.declared.outcome.Progress.TheVariants.{Unfit}
use Rattle.server_model.specs.declared.request.Request.{Request}
use Rattle.server_model.specs.declared.request.Request.TheVariants as requests
use Rattle.server_model.specs.EarlierAnswers.{keys_in}
use Rattle.server_model.specs.Entries.{answer_at, is_client, is_command}
use Rattle.server_model.specs.Operations.{after_events}
use Rattle.server_model.specs.States.{State, session_of, view, writes_of}
use Rattle.plan_data.specs.PlanData.{PlanData, new_map, old_schema}
use Rattle.tool_program.specs.JournalWords.Journals.{opens, state_at}
use Rattle.tool_program.specs.JournalWords.Sessions.{live_session}
use Rattle.tool_program.specs.declared.chunk_copier.copier.Chunk.{Chunk}
use Rattle.tool_program.specs.declared.chunk_copier.copier.Copier.{Copier}
use Rattle.tool_program.specs.declared.chunk_copier.copier.CopyStep.{CopyStep}
use Rattle.tool_program.specs.declared.chunk_copier.copier.CopyStep.TheVariants.{Choosing, Spanning, Copying, Committing}
use Rattle.tool_program.specs.declared.event_applier.applier.Applier.{Applier}
use Rattle.tool_program.specs.ChunkCopier.Copiers as copiers
use Rattle.tool_program.specs.ChunkCopier.Copiers.{call_at, copies, key_at, progress_at, resized}
use Rattle.tool_program.specs.Failures.{row_in}
use Rattle.tool_program.proofs.JournalWords.Answers.{answer_more}
use Rattle.proof_journals.specs.Holdings.{Face, face_of}
use Rattle.proof_journals.specs.Plans.{limits_of, scene_of}
use Rattle.proof_journals.specs.Scenes.{SessionHold}
use Rattle.proof_journals.specs.Ghost.HeldKeys.{Clustered}
use Rattle.proof_journals.specs.Ghost.Invariant.{NotOf}
use Rattle.proof_journals.specs.Ghost.Rows.Moments.{Row}
use Rattle.proof_journals.specs.Ghost.Rows.Timelines.{Migration}
use Rattle.proof_journals.specs.Machine.MigrationTables.{TablesExist, schema_of}
use Rattle.proof_journals.specs.Machine.Standings.{IsAbout, MayTake, standing_of}
use Rattle.proof_journals.proofs.Actors.{Placed, placed}
use Rattle.proof_journals.proofs.Faces.{faces_opened, writes_face}
use Rattle.proof_journals.proofs.Ghost.Keeping.{found_besides}
use Rattle.proof_journals.proofs.Ghost.Running.{any_kept}
use Rattle.proof_journals.proofs.Machine.Seated.{IsKnown, IsServed}
use Rattle.proof_migration.specs.Migration.Machines.{MigrationStands}
use Rattle.proof_migration.specs.Program.Turns.Goes.{StandsFor, machines_of}
use Rattle.proof_migration.specs.Program.Turns.Laws.{IsMigrationOf}
use Rattle.proof_migration.proofs.Migration.Copier.Knowing.{Asks, asks_at}
use Rattle.proof_migration.proofs.Migration.Copier.Rows.{after_none, not_of}
use Rattle.proof_migration.proofs.Program.Turns.ActorStates.{SomeActorStates, actor_state_own, new_holds, some_actor_states}
use Rattle.proof_migration.proofs.ToolPhase.CopyAnswers.{CopyFits, UnfitRow, own_copy}
use Rattle.proof_migration.proofs.ToolPhase.Hearing.{opened_tables}
use Rattle.proof_migration.proofs.ToolServes.{about_uncommanded}
use Rattle.proof_migration.proofs.Unfit.Refusals.{HasNoConvertedRow}

-- THE ANSWER

abbrev IsRefusal : CopyStep → Answer → ℕ → ℕ → Type 0
IsRefusal (Copying chunk copied) (answers.Refused one (Some other)) place number = (one ≡ number) × (other ≡ place)
IsRefusal step answer place number = ⊥

refusal : (step : CopyStep) (answer : Answer) (place number : ℕ) → progress_at step answer ≡ Unfit place number → IsRefusal step answer place number
refusal (Copying chunk copied) (answers.Refused one (Some other)) place number is = let a : one ≡ number = cc in let b : other ≡ place = cc in (a, b)
refusal Choosing answers.Lost place number is = absurd cc
refusal (Spanning reported size) answers.Lost place number is = absurd cc
refusal (Committing chunk) answers.Lost place number is = absurd cc
refusal step answer place number is = absurd cc

refused : (step : CopyStep) (answer : Answer) (place number : ℕ) → IsRefusal step answer place number → answer ≡ answers.Refused number (Some place)
refused (Copying chunk copied) (answers.Refused one (Some other)) place number is = ap (λ (n : ℕ). answers.Refused n (Some other)) is.0 ∙ ap (λ (p : ℕ). answers.Refused number (Some p)) is.1
refused step answer place number is = absurd is

-- THE ROW

-- what is found passes the test
found_passes : (test : List Value → Bool) (rows : List (List Value)) (row : List Value) → find test rows ≡ Some row → test row ≡ true
found_passes test [] row found = absurd cc
found_passes test (first ∷ rows) row found = by (test first) refl found (found_passes test rows row) where
  by : (b : Bool) → test first ≡ b → cond b (Some first) (find test rows) ≡ Some row → (find test rows ≡ Some row → test row ≡ true) → test row ≡ true
  by true is same later = let one : first ≡ row = cc in ap test (sym one) ∙ is
  by false is same later = later same

row_keyed : (places : List ℕ) (key row : List Value) (rows : List (List Value)) → find (is_at places key) rows ≡ Some row → key_of places row ≡ key
row_keyed places key row rows found = sym (tied_keys key (key_of places row) (is_Equal _ (found_passes (is_at places key) rows row found)))

-- this row of the migrated table has this key, and can't be converted
pub record IsUnfitRow (plan : PlanData) (tables : Database) (key : List Value) (place number : ℕ) : Type 0 where
  pub row : List Value
  pub concerned : row_in (find_table plan.table tables) key ≡ Some row
  pub keyed : key_of (key_places (old_schema plan)) row ≡ key
  pub none : HasNoConvertedRow (new_map plan) row place number

unfit_row : (plan : PlanData) (tables seen : Database) (key : List Value) (place number : ℕ) → find_table plan.table seen ≡ find_table plan.table tables → schema_of plan.table tables ≡ Some (old_schema plan) → UnfitRow seen plan.table (new_map plan) key place number → IsUnfitRow plan tables key place number
unfit_row plan tables seen key place number same stands is =
    let found : find_table plan.table tables ≡ Some is.old = sym same ∙ is.found in
    let schema : Some (is.old.schema) ≡ Some (old_schema plan) = sym (ap (option_map (λ (table : TableRows). table.schema)) found) ∙ stands in
    let own : is.old.schema ≡ old_schema plan = cc in
    record {
      row = is.row;
      concerned = ap (λ (table : Option TableRows). row_in table key) found ∙ is.stands;
      keyed = ap (λ (s : Schema). key_of (key_places s) is.row) (sym own) ∙ row_keyed (key_places is.old.schema) key is.row is.old.rows is.stands;
      none = record { fault = is.unfit; refuses = is.refuses; numbered = is.numbered };
    }

-- the key that was told is told in the longer journal
key_more : (journal more : List Entry) (step : CopyStep) (key : List Value) → key_at journal step ≡ Some key → key_at (journal ++ more) step ≡ Some key
key_more journal more (Copying chunk copied) key is = by (answer_at journal chunk.reported) refl where
  by : (answer : Option Answer) → answer_at journal chunk.reported ≡ answer → key_at (journal ++ more) (Copying chunk copied) ≡ Some key
  by None none = absurd (no (sym (ap (λ (a : Option Answer). slice_get (keys_in a) copied) none) ∙ is)) where
    no : None ≡ Some key → ⊥
    no same = cc
  by (Some answer) some = ap (λ (a : Option Answer). slice_get (keys_in a) copied) (answer_more journal more chunk.reported answer some ∙ sym some) ∙ is
key_more journal more Choosing key is = absurd cc
key_more journal more (Spanning reported size) key is = absurd cc
key_more journal more (Committing chunk) key is = absurd cc

-- THE TURN

-- *What the copier was refused*: the copy of this row, whose key every longer journal tells
pub record IsRefusedCopy (plan : PlanData) (journal : List Entry) (entry : Entry) (copier : Copier) (place number : ℕ) : Type 0 where
  pub refused : entry.answer ≡ answers.Refused number (Some place)
  pub key : List Value
  pub told : (more : List Entry) → copiers.unfit_key (journal ++ more) copier ≡ key
  pub row : IsUnfitRow plan (state_at plan journal).tables key place number

module _ (again : StoresAgain) (plan : PlanData) (m : Migration) (at : Clustered m.schema) (rows : List Row) (of : IsMigrationOf plan m rows) (journal : List Entry) (entry : Entry) (known : IsKnown plan journal) (served : IsServed plan journal entry) (locked : (standing_of plan journal entry.actor).locked ≡ [])
    (tables : TablesExist plan (state_at plan journal).tables) (copier : Copier) (applier : Applier) (table : copier.table ≡ plan.table) (columns : copier.map ≡ new_map plan) (stands : StandsFor plan m at rows journal copier applier) (same : entry.actor ≡ Copy) (size : ℕ) (request : Request)
    (next : copiers.next journal (resized size copier) ≡ Some request) (is_about : IsAbout request (standing_of plan journal entry.actor) entry.asked) (place number : ℕ) (unfit : copiers.progress copier entry.answer ≡ Unfit place number) where
  abbrev now : State
  now = state_at plan journal

  is_refusal : IsRefusal copier.step entry.answer place number
  unfolding copiers.progress
  is_refusal = refusal copier.step entry.answer place number unfit

  answered : entry.answer ≡ answers.Refused number (Some place)
  answered = refused copier.step entry.answer place number is_refusal

  -- WHAT IS ASKED

  asks : Asks journal (resized size copier) request
  asks = asks_at journal (resized size copier) request next

  abbrev Own : List Value → Request
  Own key = requests.CopyRow plan.table (ghost_name plan.table) (new_map plan) key

  -- it copies the row of this key
  record CopiesKey : Type 0 where
    key : List Value
    key_is : key_at journal copier.step ≡ Some key
    asked : request ≡ Own key

  copies_key : CopiesKey
  copies_key = by_step copier.step refl is_refusal where
    by_key : (chunk : Chunk) (copied : ℕ) → copier.step ≡ Copying chunk copied → (found : Option (List Value)) → key_at journal (Copying chunk copied) ≡ found → CopiesKey
    by_key chunk copied here None none =
        absurd (let e : None ≡ Some request = ap (copies (resized size copier)) (sym none) ∙ ap (call_at journal (resized size copier) asks.range) (sym here) ∙ asks.call in cc)
    by_key chunk copied here (Some key) some =
        let e : Some (requests.CopyRow copier.table (ghost_name copier.table) copier.map key) ≡ Some request = ap (copies (resized size copier)) (sym some) ∙ ap (call_at journal (resized size copier) asks.range) (sym here) ∙ asks.call in
        let one : requests.CopyRow copier.table (ghost_name copier.table) copier.map key ≡ request = cc in
        record {
          key = key;
          key_is = ap (key_at journal) here ∙ some;
          asked = sym one ∙ ap (λ (t : List ℕ). requests.CopyRow t (ghost_name t) copier.map key) table ∙ ap (λ (c : List MapColumn). requests.CopyRow plan.table (ghost_name plan.table) c key) columns;
        }

    by_step : (step : CopyStep) → copier.step ≡ step → IsRefusal step entry.answer place number → CopiesKey
    by_step (Copying chunk copied) here is = by_key chunk copied here (key_at journal (Copying chunk copied)) refl
    by_step step here is = absurd is

  abbrev seen : Database
  seen = view entry.session (opens entry now)

  said : UnfitRow seen plan.table (new_map plan) copies_key.key place number
  said =
      subst (CopyFits seen plan.table (new_map plan) copies_key.key) answered
      (own_copy again plan of.runs.mapped journal entry known served copies_key.key (subst (λ (r : Request). IsAbout r (standing_of plan journal entry.actor) entry.asked) copies_key.asked is_about) locked tables)

  -- ITS SESSION WROTE NO ROW OF THE MIGRATED TABLE

  abbrev own_writes : List RowEvent
  own_writes = (face_of now.sessions entry.session).hold.writes

  seen_is : seen ≡ after_events now.tables own_writes
  seen_is =
      ap (λ (d : Database). after_events d (writes_of (session_of entry.session (opens entry now).sessions))) (opened_tables plan journal entry)
      ∙ ap (after_events now.tables) (writes_face (session_of entry.session (opens entry now).sessions) ∙ ap (λ (f : Face). f.hold.writes) (faces_opened (is_command entry.asked) (not (is_client entry.actor)) entry.session entry.session now))

  committed_in : (copies applies : ℕ) → copies ≡ entry.session → MigrationStands m at rows (limits_of plan) (scene_of plan []) journal (machines_of copier copies applier applies) → find_table m.name (after_events now.tables own_writes) ≡ find_table m.name now.tables
  committed_in copies applies own migrates =
      any_kept (find_table m.name (after_events now.tables own_writes) ≡ find_table m.name now.tables) m at rows copies applies _
      (λ apply kept. found_besides m.name own_writes now.tables
      (subst (NotOf m.name) (sym kept.tool.kept.chunk ∙ ap (λ (n : ℕ). (face_of now.sessions n).hold.writes) own) (not_of m.name m.new.name kept.ghost.chunk kept.tool.kept.differ))) migrates.tool.stands

  where_placed : Placed journal entry
  where_placed = placed journal entry served.seated

  may_take : MayTake journal entry.session (live_session journal Copy)
  may_take = subst (λ (a : Actor). MayTake journal entry.session (live_session journal a)) same (actor_state_own plan journal entry known where_placed (about_uncommanded request (standing_of plan journal entry.actor) entry.asked is_about))

  committed : find_table m.name (after_events now.tables own_writes) ≡ find_table m.name now.tables
  committed = by (live_session journal Copy) refl where
    some : SomeActorStates journal
    some = some_actor_states journal known.sessions

    by : (live : Option ℕ) → live_session journal Copy ≡ live → find_table m.name (after_events now.tables own_writes) ≡ find_table m.name now.tables
    by (Some session) lives =
        let one : some.copier ≡ session = subst (MayTake journal some.copier) lives some.actor_states.copy in
        let other : entry.session ≡ session = subst (MayTake journal entry.session) lives may_take in
        committed_in some.copier some.applier (one ∙ sym other) (stands some.copier some.applier some.actor_states)
    by None none =
        let new : own_writes ≡ [] = ap (λ (h : SessionHold). h.writes) (new_holds plan journal entry.session known (subst (MayTake journal entry.session) none may_take)) in
        ap (find_table m.name) (ap (after_events now.tables) new ∙ after_none now.tables)

  table_seen : find_table plan.table seen ≡ find_table plan.table now.tables
  table_seen = subst (λ (n : List ℕ). find_table n seen ≡ find_table n now.tables) of.of.name (ap (find_table m.name) seen_is ∙ committed)

  pub refused_copy : IsRefusedCopy plan journal entry copier place number
  refused_copy = record {
    refused = answered;
    key = copies_key.key;
    told = λ more. ap (λ (k : Option (List Value)). unwrap_or k []) (key_more journal more copier.step copies_key.key copies_key.key_is);
    row = unfit_row plan now.tables seen copies_key.key place number table_seen tables.old said;
  }
