-- What a session sees under its locks stays while others have their turns.
use Rattle.std.proofs.Common.{◌≡◌, ℕ, Bool, true, false, not, List, [], ◌∷◌, ◌++◌, map, Option, Some, None, Result, Ok, Err, refl, sym, ap, ◌∙◌, subst, inl, inr}
use Rattle.std.specs.Prelude.{◌==◌}
use Rattle.std.specs.List.{list_any}
use Rattle.std.specs.Str.{bytes_eq}
use Rattle.std.proofs.lemmas.Bool.{or_right}
use Rattle.base_values.specs.declared.event.RowEvent.{RowEvent}
use Rattle.base_values.specs.declared.gho_schema.schema.Schema.{Schema}
use Rattle.base_values.specs.GhoSchema.Rows.{key_places}
use Rattle.server_locks.specs.declared.row_locks.lock.Lock.{Lock}
use Rattle.table_store.specs.Databases.{TableRows, Database, find_table, has_table, rename_tables}
use Rattle.base_script.specs.declared.actor.Side.{Side}
use Rattle.base_script.specs.declared.actor.Side.TheVariants.{Before, After}
use Rattle.server_model.specs.declared.session.Session.{Session}
use Rattle.server_model.specs.Rows.{reaches}
use Rattle.server_model.specs.Needs.{lock_on}
use Rattle.server_model.specs.LockedRows.Agreement.{Agree, Among, Within, TablesAgree, covers, is_under}
use Rattle.server_model.specs.LockedRows.Coverage.{Apart, IsWellFormedTable}
use Rattle.server_model.specs.LockedRows.Databases.{EventsCovered, WhereFound}
use Rattle.server_model.specs.Operations.{Operation, table_of, operation_of, statement_result, operation_result, operation_needs, after_events, copy_operation}
use Rattle.proof_journals.specs.Scenes.{Stored, SessionHold}
use Rattle.proof_journals.specs.Turns.{scene_state, IsReported, IsAllowed, IsSceneRun}
use Rattle.server_model.specs.declared.entry.Asked.{Asked}
use Rattle.server_model.specs.declared.entry.Asked.TheVariants.{Call, Poll, Cut, Command}
use Rattle.server_model.specs.declared.entry.Entry.{Entry}
use Rattle.server_model.specs.Entries.{is_command, is_client}
use Rattle.proof_journals.specs.Holdings.{Face, face_in, face_of}
use Rattle.std.proofs.lemmas.List.{append-nil, append_assoc}
use Rattle.server_model.specs.Along.{Along}
use Rattle.proof_journals.specs.ServerTurns.Others.{OthersAgree, RowsStay, StaysTo, OthersStay}
use Rattle.proof_journals.proofs.ServerTurns.Others.{entry_faces, at_wait, created_same, dropped_same, renamed_same}
use Rattle.server_model.proofs.LockedRows.Finding.{agree_then, agree_itself, tables_itself, says_covered}
use Rattle.server_model.proofs.LockedRows.Standing.{same-filter, same-within}
use Rattle.server_model.proofs.LockedRows.Points.{within-left, within-right, within-itself}
use Rattle.server_model.proofs.LockedRows.Stables.{covered_both, covered_more, covered_before, others_agree}
use Rattle.proof_journals.proofs.Words.{names_left, names_last, quiet_covered}
use Rattle.proof_journals.proofs.Faces.{faces_opened}
use Rattle.proof_journals.proofs.Names.{Free, OneIn, names_granted, opened_one}
use Rattle.proof_journals.proofs.Answering.{apart_both}
use Rattle.proof_journals.proofs.Tooling.{AreApart, names_two}
use Rattle.proof_journals.proofs.Serves.{IsFree, granted}
use Rattle.proof_journals.proofs.Journals.{state_more, JournalHolds, journal_holds, stored_opened}
use Rattle.server_model.specs.declared.request.Request.TheVariants.{BeginSpan, ChunkEnd, CopyRow, Create, Drop, Ends, LockTables, LogEnd, ReadLog, Rename, SetCounter, ShowCounter, ShowTables, ShowWaiting, Unlock}
use Rattle.server_model.specs.declared.request.Request.{Request}
use Rattle.server_model.specs.declared.request.Request.TheVariants as requests
use Rattle.server_model.specs.Blockers.{need, need_within, blocker}
use Rattle.server_model.specs.States.{State, is_in_transaction, names_held, opened, pair_names, session_of, view, waiting_of, writes_of}
use Rattle.server_model.specs.declared.session.Waiting.{Waiting}
use Rattle.server_model.specs.Effects.{all_exist, begins, created, effect_unless, defined, dropped, is_outside, locks_if, renamed_or, result_effect}
use Rattle.server_model.specs.Drawing.{filled}
use Rattle.server_model.specs.PlainServer.{called_unless, calls, does, done, did, exclusive, is_over, leaves, loses, polled_of, polled_over, polled_unless, polls, serves, without_waiting}
use Rattle.tool_program.specs.JournalWords.Journals.{after_entry, opens}
use Rattle.server_model.proofs.LockedRows.Tests.{turned, same_bytes}

-- the session has its locks and its writes, apart from what others hold
pub record OwnHold (now : State) (number : ℕ) : Type 0 where
  pub hold : SessionHold
  pub writes : writes_of (session_of number now.sessions) ≡ hold.writes
  pub covered : EventsCovered hold.names hold.locks now.tables hold.writes
  pub apart : AreApart now number hold.locks

-- the others see the same afterwards
abbrev pub AgreesFor : State → ℕ → Database → Type 0
AgreesFor now number after = (n : ℕ) → (n == number) ≡ false → Agree (face_of now.sessions n).hold.names (face_of now.sessions n).hold.locks now.tables after

agrees_still : (now : State) (number : ℕ) → AgreesFor now number now.tables
agrees_still now number n differ = agree_itself (face_of now.sessions n).hold.names (face_of now.sessions n).hold.locks now.tables

agrees_commits : (now : State) (number : ℕ) (own : OwnHold now number) (names : List (List ℕ)) (locks : List Lock) (events : List RowEvent) → AreApart now number locks → EventsCovered names (own.hold.locks ++ locks) now.tables (own.hold.writes ++ events)
    → AgreesFor now number (after_events now.tables (writes_of (session_of number now.sessions) ++ events))
agrees_commits now number own names locks events free covered n differ =
    subst (λ (w : List RowEvent). Agree (face_of now.sessions n).hold.names (face_of now.sessions n).hold.locks now.tables (after_events now.tables (w ++ events))) (sym own.writes)
    (others_agree (face_of now.sessions n).hold.names names (own.hold.locks ++ locks) (face_of now.sessions n).hold.locks now.tables (own.hold.writes ++ events)
    (apart_both own.hold.locks locks (face_of now.sessions n).hold.locks (own.apart n differ) (free n differ)) covered)

task_covered : (now : State) (number : ℕ) (own : OwnHold now number) (names : List (List ℕ)) (locks : List Lock) (task : Operation) → list_any (bytes_eq task.table) (own.hold.names ++ names) ≡ true → locks ≡ operation_needs (after_events now.tables own.hold.writes) task
    → EventsCovered (own.hold.names ++ names) (own.hold.locks ++ locks) now.tables (own.hold.writes ++ (operation_result (after_events now.tables own.hold.writes) task).events)
task_covered now number own names locks task mine same =
    let all = within-left own.hold.locks own.hold.locks locks (within-itself own.hold.locks) in
    let needed : Within (operation_needs (after_events now.tables own.hold.writes) task) (own.hold.locks ++ locks) = subst (λ (l : List Lock). Within l (own.hold.locks ++ locks)) same (within-right locks own.hold.locks locks (within-itself locks)) in
    covered_both (own.hold.names ++ names) (own.hold.locks ++ locks) now.tables own.hold.writes (operation_result (after_events now.tables own.hold.writes) task).events
    (covered_more own.hold.names (own.hold.names ++ names) own.hold.locks (own.hold.locks ++ locks) now.tables own.hold.writes (names_left own.hold.names names) all own.covered)
    (covered_before (own.hold.names ++ names) (own.hold.locks ++ locks) now.tables own.hold.writes (operation_result (after_events now.tables own.hold.writes) task).events (says_covered (own.hold.names ++ names) (own.hold.locks ++ locks) (after_events now.tables own.hold.writes) task mine needed))

agrees_task : (now : State) (number : ℕ) (own : OwnHold now number) (names : List (List ℕ)) (seen : Database) (task : Database → Operation) → seen ≡ after_events now.tables own.hold.writes → list_any (bytes_eq (task seen).table) (own.hold.names ++ names) ≡ true → AreApart now number (operation_needs seen (task seen))
    → AgreesFor now number (after_events now.tables (writes_of (session_of number now.sessions) ++ (operation_result seen (task seen)).events))
agrees_task now number own names seen task same mine free =
    agrees_commits now number own (own.hold.names ++ names) (operation_needs seen (task seen)) (operation_result seen (task seen)).events free
    (subst (λ (d : Database). list_any (bytes_eq (task d).table) (own.hold.names ++ names) ≡ true → EventsCovered (own.hold.names ++ names) (own.hold.locks ++ operation_needs d (task d)) now.tables (own.hold.writes ++ (operation_result d (task d)).events)) (sym same)
    (λ its. task_covered now number own names (operation_needs (after_events now.tables own.hold.writes) (task (after_events now.tables own.hold.writes))) (task (after_events now.tables own.hold.writes)) its refl) mine)

agrees_moves : (now : State) (number : ℕ) (names : List (List ℕ)) (tables : Database) → Free (names_held now.sessions) number (map exclusive names) → ((name : List ℕ) → list_any (bytes_eq name) names ≡ false → find_table name tables ≡ find_table name now.tables) → AgreesFor now number tables
agrees_moves now number names tables free same n differ = record {
  tables = λ name held. rw (same name (names_granted now.sessions number n names name free differ held)) (tables_itself (face_of now.sessions n).hold.locks (find_table name now.tables));
}

agrees_defined : (now : State) (w : List Waiting) (number : ℕ) (names : List (List ℕ)) (tables : Result Database ℕ) → Free (names_held now.sessions) number (map exclusive names) → ((after : Database) → tables ≡ Ok after → (name : List ℕ) → list_any (bytes_eq name) names ≡ false → find_table name after ≡ find_table name now.tables)
    → AgreesFor now number (does (defined tables) (at_wait now w) number).after.tables
agrees_defined now w number names (Ok tables) free same = agrees_moves now number names tables free (same tables refl)
agrees_defined now w number names (Err refusal) free same = agrees_still now number

agrees_effect : (now : State) (w : List Waiting) (number : ℕ) (own : OwnHold now number) (outside busy : Bool) (request : Request) → IsFree now number (need_within (view number now) request) → AgreesFor now number (does (effect_unless outside busy (view number now) (at_wait now w) request) (at_wait now w) number).after.tables
agrees_effect now w number own true busy request free = agrees_still now number
agrees_effect now w number own false busy requests.Begin free = agrees_still now number
agrees_effect now w number own false busy requests.Rollback free = agrees_still now number
agrees_effect now w number own false busy requests.Commit free =
    agrees_commits now number own (own.hold.names ++ []) [] [] (λ n differ lock other one two. absurd one) (quiet_covered now.tables own.hold [] [] own.covered)
agrees_effect now w number own false busy (requests.Do statement) free = at busy where
  at : (b : Bool) → AgreesFor now number (does (result_effect b (need_within (view number now) (requests.Do statement)) (statement_result (view number now) statement)) (at_wait now w) number).after.tables
  at true = agrees_still now number
  at false = agrees_task now number own (table_of statement ∷ []) (view number now) (λ d. operation_of statement) (ap (λ (e : List RowEvent). after_events now.tables e) own.writes) (names_last own.hold.names (table_of statement)) free.apart
agrees_effect now w number own false busy (LockTables names) free = at (all_exist names now.tables) where
  at : (b : Bool) → AgreesFor now number (does (locks_if b names) (at_wait now w) number).after.tables
  at true = agrees_still now number
  at false = agrees_still now number
agrees_effect now w number own false busy Unlock free = agrees_still now number
agrees_effect now w number own false busy (Create schema) free = agrees_defined now w number (schema.name ∷ []) (created (has_table schema.name now.tables) schema now.tables) free.names (created_same (has_table schema.name now.tables) schema now.tables)
agrees_effect now w number own false busy (Drop name) free = agrees_defined now w number (name ∷ []) (dropped (has_table name now.tables) name now.tables) free.names (dropped_same (has_table name now.tables) name now.tables)
agrees_effect now w number own false busy (Rename pairs) free = agrees_defined now w number (pair_names pairs) (renamed_or (rename_tables pairs now.tables)) free.names (renamed_same pairs now.tables (rename_tables pairs now.tables) refl)
agrees_effect now w number own false busy ShowTables free = agrees_still now number
agrees_effect now w number own false busy ShowWaiting free = agrees_still now number
agrees_effect now w number own false busy (ShowCounter table) free = agrees_still now number
agrees_effect now w number own false busy (SetCounter table least) free = agrees_still now number
agrees_effect now w number own false busy LogEnd free = agrees_still now number
agrees_effect now w number own false busy (ReadLog position limit names) free = agrees_still now number
agrees_effect now w number own false busy (Ends table) free = agrees_still now number
agrees_effect now w number own false busy (ChunkEnd table low top size) free = agrees_still now number
agrees_effect now w number own false busy (BeginSpan table span size) free = at (find_table table now.tables) where
  at : (found : Option TableRows) → AgreesFor now number (does (begins found span size (need_within (view number now) (BeginSpan table span size))) (at_wait now w) number).after.tables
  at None = agrees_still now number
  at (Some t) = agrees_still now number
agrees_effect now w number own false busy (CopyRow from into columns key) free = at busy where
  at : (b : Bool) → AgreesFor now number (does (result_effect b (need_within (view number now) (CopyRow from into columns key)) (operation_result (view number now) (copy_operation (view number now) from into columns key))) (at_wait now w) number).after.tables
  at true = agrees_still now number
  at false = agrees_task now number own (from ∷ into ∷ []) (view number now) (λ d. copy_operation d from into columns key) (ap (λ (e : List RowEvent). after_events now.tables e) own.writes) (names_two own.hold.names from into) free.apart

agrees_done : (now : State) (w : List Waiting) (number : ℕ) (own : OwnHold now number) (request : Request) → IsFree now number (need now number request) → AgreesFor now number (done (at_wait now w) number request).after.tables
unfolding did
agrees_done now w number own request free = agrees_effect now w number own (is_outside (session_of number now.sessions) (filled now number request)) (is_in_transaction (session_of number now.sessions)) (filled now number request) free

agrees_served : (now : State) (number : ℕ) (asked : Asked) → OwnHold now number → OneIn now.sessions → AgreesFor now number (serves now number asked).after.tables
unfolding calls polls loses
agrees_served now number (Call request) own one = at (blocker now number (need now number request)) refl where
  at : (by : Option ℕ) → blocker now number (need now number request) ≡ by → AgreesFor now number (called_unless by now number request).after.tables
  at None is = agrees_done now now.waiting number own request (granted now number (need now number request) one is)
  at (Some by) is = agrees_still now number
agrees_served now number Poll own one = at (waiting_of number now.waiting) where
  over : (b : Bool) (by : ℕ) → AgreesFor now number (polled_over b by now number).after.tables
  over true by = agrees_still now number
  over false by = agrees_still now number

  each : (waiting : Waiting) (by : Option ℕ) → blocker now number (need now number waiting.request) ≡ by → AgreesFor now number (polled_unless by now number waiting.request).after.tables
  each waiting None is = agrees_done now (without_waiting number now).waiting number own waiting.request (granted now number (need now number waiting.request) one is)
  each waiting (Some by) is = over (is_over now number) by

  at : (waiting : Option Waiting) → AgreesFor now number (polled_of waiting now number).after.tables
  at None = agrees_still now number
  at (Some waiting) = each waiting (blocker now number (need now number waiting.request)) refl
agrees_served now number (Command word) own one = agrees_still now number
agrees_served now number Cut own one = agrees_still now number

agrees_turn : (side : Option Side) (now : State) (number : ℕ) (asked : Asked) → OwnHold now number → OneIn now.sessions → AgreesFor now number (leaves side now number asked).tables
unfolding loses
agrees_turn None now number asked own one = agrees_served now number asked own one
agrees_turn (Some Before) now number asked own one = agrees_still now number
agrees_turn (Some After) now number asked own one = agrees_served now number asked own one

writes_face : (o : Option Session) → writes_of o ≡ (face_in o).hold.writes
writes_face None = refl
writes_face (Some s) = refl

-- *What a session sees under its locks stays*
pub others_agree_law : OthersAgree
others_agree_law limits scene journal entry other run differ =
    let state : State = scene_state limits scene journal in
    let number : ℕ = entry.session in
    let nothing : Bool = is_command entry.asked in
    let tool : Bool = not (is_client entry.actor) in
    let now : State = opens entry state in
    let held : JournalHolds limits scene journal = journal_holds limits scene journal run in
    let tables : now.tables ≡ state.tables = ap (λ (s : Stored). s.tables) (stored_opened nothing tool number state) in
    let face : (n : ℕ) → face_of now.sessions n ≡ face_of state.sessions n = λ n. faces_opened nothing tool number n state in
    let own : OwnHold now number = record {
      hold = (face_of now.sessions number).hold;
      writes = writes_face (session_of number now.sessions);
      covered = subst (λ (f : Face). EventsCovered f.hold.names f.hold.locks now.tables f.hold.writes) (sym (face number)) (subst (λ (d : Database). EventsCovered (face_of state.sessions number).hold.names (face_of state.sessions number).hold.locks d (face_of state.sessions number).hold.writes) (sym tables) (held.holds.kept.fine number).covered);
      apart = λ n off. subst (λ (f : Face). Apart (face_of now.sessions number).hold.locks f.hold.locks) (sym (face n)) (subst (λ (f : Face). Apart f.hold.locks (face_of state.sessions n).hold.locks) (sym (face number)) (held.holds.kept.apart number n (turned n number off)));
    } in
    let agree : Agree (face_of now.sessions other).hold.names (face_of now.sessions other).hold.locks now.tables (after_entry state entry).tables = agrees_turn entry.side now number entry.asked own (opened_one nothing tool number state held.one) other differ in
    let same : Agree (face_of state.sessions other).hold.names (face_of state.sessions other).hold.locks now.tables (after_entry state entry).tables = subst (λ (f : Face). Agree f.hold.names f.hold.locks now.tables (after_entry state entry).tables) (face other) agree in
    rw (state_more (opened limits scene.opening) journal entry) (subst (λ (d : Database). Agree (face_of state.sessions other).hold.names (face_of state.sessions other).hold.locks d (after_entry state entry).tables) tables same)

-- ROWS UNDER A LOCK

under_one : (schema : Schema) (lock : Lock) (locks : List Lock) (row : _) → Among lock locks → covers schema row lock ≡ true → is_under schema locks row ≡ true
unfolding is_under
under_one schema lock [] row among is = absurd among
under_one schema lock (first ∷ locks) row (inl same) is = rw (subst (λ (l : Lock). covers schema row l ≡ true) same is) refl
under_one schema lock (first ∷ locks) row (inr more) is = or_right (covers schema row first) _ (under_one schema lock locks row more is)

-- *Rows under a lock stay*
pub rows_stay : RowsStay
rows_stay names locks a b name one two exclusive reach agree well_formed_a well_formed_b held found_a found_b among =
    let tables : TablesAgree locks (Some one) (Some two) = subst (λ (o : Option TableRows). TablesAgree locks o (Some two)) found_a (subst (λ (o : Option TableRows). TablesAgree locks (find_table name a) o) found_b (agree.tables name held)) in
    let first : IsWellFormedTable one = subst (λ (o : Option TableRows). WhereFound IsWellFormedTable o) found_a (well_formed_a.each name) in
    let second : IsWellFormedTable two = subst (λ (o : Option TableRows). WhereFound IsWellFormedTable o) found_b (well_formed_b.each name) in (
      sym tables.0,
      sym (same-filter (reaches one.schema reach) (key_places one.schema) one.rows two.rows first.is_table.ascends (rw tables.0 second.is_table.ascends)
          (same-within (reaches one.schema reach) (is_under one.schema locks) one.rows two.rows (λ row is. under_one one.schema (lock_on one.schema exclusive reach) locks row among (covered row is)) tables.1)),
    ) where
      covered : (row : _) → reaches one.schema reach row ≡ true → covers one.schema row (lock_on one.schema exclusive reach) ≡ true
      covered row is = rw (same_bytes one.schema.name, is) refl

-- THROUGH ANY NUMBER OF TURNS

pub along_front : {E : Type 0} (keeps : List E → E → Type 0) (before front following : List E) → Along keeps before (front ++ following) → Along keeps before front
along_front keeps before [] following all = tt
along_front keeps before (entry ∷ front) following all = (all.0, along_front keeps (before ++ entry ∷ []) front following all.1)

-- *What a session holds and sees stays*
pub others_stay_law : OthersStay
others_stay_law limits scene journal [] session run differ =
    subst (λ (j : List Entry). StaysTo limits scene journal j session) (sym (append-nil journal)) (record { face = refl; agree = agree_itself (face_of (scene_state limits scene journal).sessions session).hold.names (face_of (scene_state limits scene journal).sessions session).hold.locks (scene_state limits scene journal).tables })
others_stay_law limits scene journal (entry ∷ more) session run differ =
    let here : IsSceneRun limits scene journal = record { well_formed = run.well_formed; migrated = run.migrated; reported = along_front (IsReported limits scene) [] journal (entry ∷ more) run.reported; allowed = along_front (IsAllowed limits scene) [] journal (entry ∷ more) run.allowed } in
    let regroup : (journal ++ entry ∷ []) ++ more ≡ journal ++ entry ∷ more = append_assoc journal (entry ∷ []) more in
    let face : face_of (scene_state limits scene (journal ++ entry ∷ [])).sessions session ≡ face_of (scene_state limits scene journal).sessions session =
    rw (state_more (opened limits scene.opening) journal entry) (entry_faces limits scene journal entry (journal_holds limits scene journal here) session differ.0) in
    let agree = others_agree_law limits scene journal entry session here differ.0 in
    let rest : StaysTo limits scene (journal ++ entry ∷ []) ((journal ++ entry ∷ []) ++ more) session = others_stay_law limits scene (journal ++ entry ∷ []) more session (subst (IsSceneRun limits scene) (sym regroup) run) differ.1 in
    subst (λ (j : List Entry). StaysTo limits scene journal j session) regroup (record {
      face = rest.face ∙ face;
      agree = agree_then (face_of (scene_state limits scene journal).sessions session).hold.names (face_of (scene_state limits scene journal).sessions session).hold.locks (scene_state limits scene journal).tables (scene_state limits scene (journal ++ entry ∷ [])).tables (scene_state limits scene ((journal ++ entry ∷ []) ++ more)).tables agree
          (subst (λ (f : Face). Agree f.hold.names f.hold.locks (scene_state limits scene (journal ++ entry ∷ [])).tables (scene_state limits scene ((journal ++ entry ∷ []) ++ more)).tables) face rest.agree);
    })
