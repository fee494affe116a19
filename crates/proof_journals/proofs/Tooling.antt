-- What a turn of the tool leaves of all that is kept, by its deed.
use Rattle.std.proofs.Common.{◌≡◌, ℕ, Bool, true, false, not, ◌||◌, List, [], ◌∷◌, ◌++◌, filter, cond, Option, Some, None, Result, Ok, Err, refl, sym, ap, ◌∙◌, subst}
use Rattle.std.specs.Prelude.{◌==◌}
use Rattle.std.specs.Option.{option_map}
use Rattle.std.proofs.Math.Bool.{or-true}
use Rattle.std.proofs.lemmas.List.{append-nil}
use Rattle.std.specs.List.{list_any}
use Rattle.std.specs.Str.{bytes_eq}
use Rattle.base_values.specs.declared.value.Value.{Value}
use Rattle.base_values.specs.GhoSchema.Tables.{IsRow}
use Rattle.base_values.specs.declared.row_conversion.map.MapColumn.{MapColumn}
use Rattle.base_values.specs.declared.row_conversion.conversion_fault.UnfitAt.{UnfitAt}
use Rattle.base_values.specs.RowConversion.ConvertedRows.{converted_row}
use Rattle.base_values.specs.declared.event.RowEvent.{RowEvent}
use Rattle.server_locks.specs.declared.row_locks.lock.Lock.{Lock}
use Rattle.table_store.specs.Databases.{TableRows, Database, find_table, row_at_key}
use Rattle.base_script.specs.declared.script.ScriptWord.{ScriptWord}
use Rattle.base_script.specs.declared.script.ScriptWord.TheVariants as words
use Rattle.base_script.specs.declared.statement.Statement.{Statement}
use Rattle.server_model.specs.declared.session.Session.{Session}
use Rattle.server_model.specs.declared.work.Work.TheVariants.{Copy}
use Rattle.server_model.specs.Checks.{new_row}
use Rattle.server_model.specs.LockedRows.Agreement.{Within}
use Rattle.server_model.specs.LockedRows.Coverage.{Apart, IsWellFormedTable, IsSound}
use Rattle.server_model.specs.LockedRows.Databases.{WhereFound, IsWellFormedDatabase, TaskSound}
use Rattle.server_model.specs.Operations.{Operation, table_of, operation_of, statement_result, operation_result, operation_needs, row_needs, after_events, copy_from, copy_operation, copy_work}
use Rattle.proof_journals.specs.Scenes.{PlainItem, Scene, seen, is_mine, Serial, SessionHold, Going, no_hold, not_going, IsFine, Besides}
use Rattle.proof_journals.specs.Turns.{Still, happens}
use Rattle.proof_journals.specs.Holdings.{Face, no_face, face_in, face_of, stored, Holds}
use Rattle.server_model.proofs.LockedRows.Sound.{new_is, refused_or}
use Rattle.server_model.proofs.LockedRows.Points.{within-left, within-right, within-itself}
use Rattle.server_model.proofs.LockedRows.Finding.{agree_within, agree_itself, says_covered}
use Rattle.server_model.proofs.LockedRows.Stables.{covered_both, covered_more, covered_before, statement_sound}
use Rattle.proof_journals.proofs.Tools.{safe_task}
use Rattle.proof_journals.proofs.Words.{names_left, names_last, quiet_covered}
use Rattle.proof_journals.proofs.Faces.{faces_with, faces_without}
use Rattle.proof_journals.proofs.Held.{hold_in, holding_face, rests_face, locking_face, unlocking_face, said_mine, mine_both}
use Rattle.proof_journals.proofs.Turning.{Turned, turned_still, tool_grows, tool_writes, tool_rests, tool_moves, tool_locks, moving}
use Rattle.proof_journals.proofs.Answering.{apart_both, lost_faces}
use Rattle.server_model.specs.PlainServer.{at_rest, commits, counting, forgets, goes_on, holding, locking, loses, unlocking}
use Rattle.server_model.specs.declared.need.Need.{Need}
use Rattle.server_model.specs.States.{State, is_in_transaction, locked_names, session_of, view, with_session, writes_of}
use Rattle.proof_journals.specs.LineRequests.{does_word, need_of_word}
use Rattle.server_model.proofs.LockedRows.Tests.{turned, same_bytes}

-- a session of the tool at work on the server
pub record ToolWork (scene : Scene) (state : State) (number : ℕ) (going : ℕ → Going) (past : List PlainItem) : Type 0 where
  pub holds : Holds scene (stored state) (face_of state.sessions) going past
  pub found : Session
  pub is : session_of number state.sessions ≡ Some found
  pub tool : scene.client number ≡ false

pub own_fine : (scene : Scene) (state : State) (number : ℕ) (going : ℕ → Going) (past : List PlainItem) (work : ToolWork scene state number going past) → IsFine scene false state.tables (hold_in work.found) not_going
own_fine scene state number going past work =
    subst (λ (g : Going). IsFine scene false state.tables (hold_in work.found) g) ((work.holds.fits number).tools work.tool)
    (subst (λ (b : Bool). IsFine scene b state.tables (hold_in work.found) (going number)) work.tool (subst (λ (f : Face). IsFine scene (scene.client number) state.tables f.hold (going number)) (ap face_in work.is) (work.holds.kept.fine number)))

own_apart : (scene : Scene) (state : State) (number : ℕ) (going : ℕ → Going) (past : List PlainItem) (work : ToolWork scene state number going past) (n : ℕ) → (n == number) ≡ false → Apart (hold_in work.found).locks (face_of state.sessions n).hold.locks
own_apart scene state number going past work n differ = subst (λ (f : Face). Apart f.hold.locks (face_of state.sessions n).hold.locks) (ap face_in work.is) (work.holds.kept.apart number n (turned n number differ))

-- with what was granted and written
abbrev pub grown : SessionHold → Need → List RowEvent → SessionHold
grown hold need events = record { names = hold.names ++ need.names; locks = hold.locks ++ need.locks; writes = hold.writes ++ events }

-- nothing is written
pub quiet_fine : (scene : Scene) (tables : Database) (hold : SessionHold) (need : Need) → IsFine scene false tables hold not_going → IsFine scene false tables (grown hold need []) not_going
quiet_fine scene tables hold need fine = record {
  lasting = record {
    each = λ other is agree. subst (λ (w : List RowEvent). IsWellFormedDatabase (after_events other w)) (sym (append-nil hold.writes))
        (fine.lasting.each other is (agree_within hold.names (hold.names ++ need.names) hold.locks (hold.locks ++ need.locks) tables other (names_left hold.names need.names) (within-left hold.locks hold.locks need.locks (within-itself hold.locks)) agree));
  };
  covered = quiet_covered tables hold need.names need.locks fine.covered;
  named = mine_both scene false hold.writes [] fine.named tt;
  lines = tt;
}

-- a task on no client table
pub task_fine : (scene : Scene) (tables : Database) (hold : SessionHold) (need : Need) (task : Operation) → IsWellFormedDatabase tables → IsFine scene false tables hold not_going → TaskSound task (after_events tables hold.writes) → is_mine scene task.table ≡ false
    → list_any (bytes_eq task.table) (hold.names ++ need.names) ≡ true → need.locks ≡ operation_needs (after_events tables hold.writes) task → IsFine scene false tables (grown hold need (operation_result (after_events tables hold.writes) task).events) not_going
task_fine scene tables hold need task well_formed fine sound off mine locks =
    let named = names_left hold.names need.names in
    let all = within-left hold.locks hold.locks need.locks (within-itself hold.locks) in
    let needed : Within (operation_needs (after_events tables hold.writes) task) (hold.locks ++ need.locks) = subst (λ (l : List Lock). Within l (hold.locks ++ need.locks)) locks (within-right need.locks hold.locks need.locks (within-itself need.locks)) in
    let events = (operation_result (after_events tables hold.writes) task).events in
    record {
      lasting = safe_task hold.names (hold.names ++ need.names) hold.locks (hold.locks ++ need.locks) hold.writes tables task fine.lasting well_formed sound named all mine needed;
      covered = covered_both (hold.names ++ need.names) (hold.locks ++ need.locks) tables hold.writes events (covered_more hold.names (hold.names ++ need.names) hold.locks (hold.locks ++ need.locks) tables hold.writes named all fine.covered)
          (covered_before (hold.names ++ need.names) (hold.locks ++ need.locks) tables hold.writes events (says_covered (hold.names ++ need.names) (hold.locks ++ need.locks) (after_events tables hold.writes) task mine needed));
      named = mine_both scene false hold.writes events fine.named (said_mine scene false (after_events tables hold.writes) task off);
      lines = tt;
    }

-- copying is sound
copied_sound : (values : Option (Result (List Value) UnfitAt)) (found : Option TableRows) → WhereFound IsWellFormedTable found → WhereFound (λ table. IsSound table.schema.columns (copy_work values table.schema)) found
copied_sound values None is = tt
copied_sound None (Some table) is = tt
copied_sound (Some (Err at)) (Some table) is = tt
copied_sound (Some (Ok values)) (Some table) is = refused_or table.schema.columns (IsRow table.schema.columns) (new_row table.schema None values) Copy (new_is table.schema None values is.defaults) (λ row fits. fits)

copy_sound : (from : Option TableRows) (columns : List MapColumn) (key : List Value) (found : Option TableRows) → WhereFound IsWellFormedTable found → WhereFound (λ table. IsSound table.schema.columns (copy_from from columns key table.schema)) found
copy_sound None columns key None is = tt
copy_sound None columns key (Some table) is = tt
copy_sound (Some source) columns key found is = copied_sound (option_map (converted_row columns) (row_at_key source key)) found is

pub copies_sound : (tables : Database) (from into : List ℕ) (columns : List MapColumn) (key : List Value) → IsWellFormedDatabase tables → TaskSound (copy_operation tables from into columns key) tables
copies_sound tables from into columns key is = copy_sound (find_table from tables) columns key (find_table into tables) (is.each into)

-- the end of a turn: its session may be lost then
abbrev pub final : Bool → ℕ → State → State
final true number state = loses number state
final false number state = state

-- what a grant of row locks tells
abbrev pub AreApart : State → ℕ → List Lock → Type 0
AreApart state number locks = (n : ℕ) → (n == number) ≡ false → Apart locks (face_of state.sessions n).hold.locks

grown_apart : (scene : Scene) (state : State) (number : ℕ) (going : ℕ → Going) (past : List PlainItem) (work : ToolWork scene state number going past) (locks : List Lock) → AreApart state number locks → AreApart state number ((hold_in work.found).locks ++ locks)
grown_apart scene state number going past work locks apart n differ = apart_both (hold_in work.found).locks locks (face_of state.sessions n).hold.locks (own_apart scene state number going past work n differ) (apart n differ)

gone_faces : (number : ℕ) (change : Session → Session) (sessions : List Session) (found : Session) → ((s : Session) → (change s).number ≡ s.number) → session_of number sessions ≡ Some found → Besides number (face_of sessions) (face_of (filter (λ session. not (session.number == number)) (with_session number change sessions))) no_face
gone_faces number change sessions found keeps is = lost_faces number sessions (with_session number change sessions) (face_in (Some (change found))) (faces_with number change sessions found keeps is)

-- it goes on
pub tool_goes_on : (scene : Scene) (state : State) (number : ℕ) (going : ℕ → Going) (past : List PlainItem) (work : ToolWork scene state number going past) (need : Need) (events : List RowEvent) (lost : Bool) → AreApart state number need.locks
    → IsFine scene false state.tables (grown (hold_in work.found) need events) not_going → Turned scene (stored (final lost number (goes_on number need events state))) (face_of (final lost number (goes_on number need events state)).sessions) number Still going past
unfolding loses
tool_goes_on scene state number going past work need events false apart fine =
    tool_grows scene (stored state) (face_of state.sessions) (face_of (with_session number (holding need events) state.sessions)) number going past (grown (hold_in work.found) need events) (locked_names work.found.names) work.tool work.holds
    (subst (λ (f : Face). Besides number (face_of state.sessions) (face_of (with_session number (holding need events) state.sessions)) f) (holding_face need events work.found) (faces_with number (holding need events) state.sessions work.found (λ s. refl) work.is)) fine
    (grown_apart scene state number going past work need.locks apart)
tool_goes_on scene state number going past work need events true apart fine =
    tool_rests scene (stored state) (face_of state.sessions) (face_of (filter (λ session. not (session.number == number)) (with_session number (holding need events) state.sessions))) number going past [] work.tool work.holds
    (gone_faces number (holding need events) state.sessions work.found (λ s. refl) work.is)

rest_faces : (scene : Scene) (state : State) (number : ℕ) (going : ℕ → Going) (past : List PlainItem) (work : ToolWork scene state number going past) → Besides number (face_of state.sessions) (face_of (with_session number at_rest state.sessions)) (record { hold = no_hold; locked = locked_names work.found.names; busy = false })
rest_faces scene state number going past work = subst (λ (f : Face). Besides number (face_of state.sessions) (face_of (with_session number at_rest state.sessions)) f) (rests_face work.found) (faces_with number at_rest state.sessions work.found (λ s. refl) work.is)

-- it commits
pub tool_commits : (scene : Scene) (state : State) (number : ℕ) (going : ℕ → Going) (past : List PlainItem) (work : ToolWork scene state number going past) (need : Need) (events : List RowEvent) (lost : Bool) → AreApart state number need.locks
    → IsFine scene false state.tables (grown (hold_in work.found) need events) not_going → Turned scene (stored (final lost number (commits number events state))) (face_of (final lost number (commits number events state)).sessions) number Still going past
unfolding loses
tool_commits scene state number going past work need events false apart fine =
    tool_writes scene (stored state) (stored (commits number events state)) (face_of state.sessions) (face_of (with_session number at_rest state.sessions)) number going past (grown (hold_in work.found) need events) (locked_names work.found.names) work.tool work.holds
    (rest_faces scene state number going past work) fine (grown_apart scene state number going past work need.locks apart) (rw work.is refl) (rw work.is refl)
tool_commits scene state number going past work need events true apart fine =
    tool_writes scene (stored state) (stored (commits number events state)) (face_of state.sessions) (face_of (filter (λ session. not (session.number == number)) (with_session number at_rest state.sessions))) number going past (grown (hold_in work.found) need events) [] work.tool work.holds
    (gone_faces number at_rest state.sessions work.found (λ s. refl) work.is) fine (grown_apart scene state number going past work need.locks apart) (rw work.is refl) (rw work.is refl)

-- it forgets
pub tool_forgets : (scene : Scene) (state : State) (number : ℕ) (going : ℕ → Going) (past : List PlainItem) (work : ToolWork scene state number going past) (lost : Bool) → Turned scene (stored (final lost number (forgets number state))) (face_of (final lost number (forgets number state)).sessions) number Still going past
unfolding loses
tool_forgets scene state number going past work false = tool_rests scene (stored state) (face_of state.sessions) (face_of (with_session number at_rest state.sessions)) number going past (locked_names work.found.names) work.tool work.holds (rest_faces scene state number going past work)
tool_forgets scene state number going past work true =
    tool_rests scene (stored state) (face_of state.sessions) (face_of (filter (λ session. not (session.number == number)) (with_session number at_rest state.sessions))) number going past [] work.tool work.holds (gone_faces number at_rest state.sessions work.found (λ s. refl) work.is)

-- nothing changes
pub tool_stays : (scene : Scene) (state : State) (number : ℕ) (going : ℕ → Going) (past : List PlainItem) (work : ToolWork scene state number going past) (lost : Bool) → Turned scene (stored (final lost number state)) (face_of (final lost number state).sessions) number Still going past
unfolding loses
tool_stays scene state number going past work false = turned_still scene (stored state) (face_of state.sessions) (face_of state.sessions) number going past (λ n. refl) work.holds
tool_stays scene state number going past work true = tool_rests scene (stored state) (face_of state.sessions) (face_of (filter (λ session. not (session.number == number)) state.sessions)) number going past [] work.tool work.holds (faces_without number state.sessions)

-- a count changes
pub tool_counts : (scene : Scene) (state : State) (number count : ℕ) (going : ℕ → Going) (past : List PlainItem) (work : ToolWork scene state number going past) (lost : Bool) (state' : State) → state'.tables ≡ state.tables → state'.log ≡ state.log → state'.sessions ≡ with_session number (counting count) state.sessions
    → Turned scene (stored (final lost number state')) (face_of (final lost number state').sessions) number Still going past
unfolding loses
tool_counts scene state number count going past work false state' tables log sessions =
    rw (tables, log, sessions) (tool_locks scene (stored state) (face_of state.sessions) (face_of (with_session number (counting count) state.sessions)) number going past (locked_names work.found.names) work.tool work.holds
    (subst (λ (f : Face). Besides number (face_of state.sessions) (face_of (with_session number (counting count) state.sessions)) (record { hold = f.hold; locked = locked_names work.found.names; busy = f.busy })) (sym (ap face_in work.is)) (faces_with number (counting count) state.sessions work.found (λ s. refl) work.is)))
tool_counts scene state number count going past work true state' tables log sessions =
    rw (tables, log, sessions) (tool_rests scene (stored state) (face_of state.sessions) (face_of (filter (λ session. not (session.number == number)) (with_session number (counting count) state.sessions))) number going past [] work.tool work.holds
    (gone_faces number (counting count) state.sessions work.found (λ s. refl) work.is))

-- it locks tables
pub tool_locks_names : (scene : Scene) (state : State) (number : ℕ) (going : ℕ → Going) (past : List PlainItem) (work : ToolWork scene state number going past) (names : List (List ℕ)) (lost : Bool)
    → Turned scene (stored (final lost number (record state { sessions = with_session number (locking names) state.sessions }))) (face_of (final lost number (record state { sessions = with_session number (locking names) state.sessions })).sessions) number Still going past
unfolding loses
tool_locks_names scene state number going past work names false =
    tool_locks scene (stored state) (face_of state.sessions) (face_of (with_session number (locking names) state.sessions)) number going past (locked_names work.found.names ++ names) work.tool work.holds
    (subst (λ (f : Face). Besides number (face_of state.sessions) (face_of (with_session number (locking names) state.sessions)) (record { hold = f.hold; locked = locked_names work.found.names ++ names; busy = f.busy })) (sym (ap face_in work.is))
    (subst (λ (f : Face). Besides number (face_of state.sessions) (face_of (with_session number (locking names) state.sessions)) f) (locking_face names work.found) (faces_with number (locking names) state.sessions work.found (λ s. refl) work.is)))
tool_locks_names scene state number going past work names true =
    tool_rests scene (stored state) (face_of state.sessions) (face_of (filter (λ session. not (session.number == number)) (with_session number (locking names) state.sessions))) number going past [] work.tool work.holds (gone_faces number (locking names) state.sessions work.found (λ s. refl) work.is)

-- it unlocks them
pub tool_unlocks_names : (scene : Scene) (state : State) (number : ℕ) (going : ℕ → Going) (past : List PlainItem) (work : ToolWork scene state number going past) (lost : Bool)
    → Turned scene (stored (final lost number (record state { sessions = with_session number unlocking state.sessions }))) (face_of (final lost number (record state { sessions = with_session number unlocking state.sessions })).sessions) number Still going past
unfolding loses
tool_unlocks_names scene state number going past work false =
    tool_locks scene (stored state) (face_of state.sessions) (face_of (with_session number unlocking state.sessions)) number going past [] work.tool work.holds
    (subst (λ (f : Face). Besides number (face_of state.sessions) (face_of (with_session number unlocking state.sessions)) (record { hold = f.hold; locked = []; busy = f.busy })) (sym (ap face_in work.is))
    (subst (λ (f : Face). Besides number (face_of state.sessions) (face_of (with_session number unlocking state.sessions)) f) (unlocking_face work.found) (faces_with number unlocking state.sessions work.found (λ s. refl) work.is)))
tool_unlocks_names scene state number going past work true =
    tool_rests scene (stored state) (face_of state.sessions) (face_of (filter (λ session. not (session.number == number)) (with_session number unlocking state.sessions))) number going past [] work.tool work.holds (gone_faces number unlocking state.sessions work.found (λ s. refl) work.is)

-- whole tables change, outside a transaction
pub tool_redefines : (scene : Scene) (state : State) (number : ℕ) (going : ℕ → Going) (past : List PlainItem) (work : ToolWork scene state number going past) (tables : Database) (alters lost : Bool) → is_in_transaction (session_of number state.sessions) ≡ false
    → Serial scene (record { tables = scene.opening; log = [] }) (past ++ happens (moving alters) (going number)) (seen scene (record { tables = tables; log = state.log })) → IsWellFormedDatabase tables
    → ((n : ℕ) → (n == number) ≡ false → (name : List ℕ) → list_any (bytes_eq name) (face_of state.sessions n).hold.names ≡ true → find_table name tables ≡ find_table name state.tables)
    → Turned scene (stored (final lost number (record state { tables = tables }))) (face_of (final lost number (record state { tables = tables })).sessions) number (moving alters) going past
unfolding loses
tool_redefines scene state number going past work tables alters false rests serial is others =
    tool_moves scene (stored state) (record { tables = tables; log = state.log }) (face_of state.sessions) (face_of state.sessions) number going past (locked_names work.found.names) alters work.tool work.holds (record { there = λ n differ. refl; here = ap face_in work.is ∙ none }) serial is others where
      busy : work.found.in_transaction ≡ false
      busy = sym (ap is_in_transaction work.is) ∙ rests

      hold : hold_in work.found ≡ no_hold
      hold = (subst (λ (f : Face). f.busy ≡ false → (f.hold ≡ no_hold) × (going number ≡ not_going)) (ap face_in work.is) (work.holds.fits number).rests busy).0

      none : face_in (Some work.found) ≡ record { hold = no_hold; locked = locked_names work.found.names; busy = false }
      none = ap (λ (s : SessionHold). let f : Face = record { hold = s; locked = locked_names work.found.names; busy = work.found.in_transaction } in f) hold ∙ ap (λ (b : Bool). let f : Face = record { hold = no_hold; locked = locked_names work.found.names; busy = b } in f) busy
tool_redefines scene state number going past work tables alters true rests serial is others =
    tool_moves scene (stored state) (record { tables = tables; log = state.log }) (face_of state.sessions) (face_of (filter (λ session. not (session.number == number)) state.sessions)) number going past [] alters work.tool work.holds (faces_without number state.sessions) serial is others

pub names_two : (a : List (List ℕ)) (from into : List ℕ) → list_any (bytes_eq into) (a ++ from ∷ into ∷ []) ≡ true
names_two [] from into = at (bytes_eq into from) where
  at : (b : Bool) → (b || (bytes_eq into into || false)) ≡ true
  at true = refl
  at false = rw (same_bytes into) refl
names_two (x ∷ a) from into = rw (names_two a from into) (or-true (bytes_eq into x))

-- a line of the tool
pub tool_do : (scene : Scene) (state : State) (number : ℕ) (going : ℕ → Going) (past : List PlainItem) (work : ToolWork scene state number going past) (statement : Statement) (seen : Database) → seen ≡ after_events state.tables work.found.writes → is_mine scene (table_of statement) ≡ false
    → AreApart state number (row_needs seen statement) → (busy lost : Bool)
    → Turned scene (stored (final lost number (cond busy (goes_on number (need_of_word seen (words.Do statement)) (statement_result seen statement).events state) (commits number (statement_result seen statement).events state))))
    (face_of (final lost number (cond busy (goes_on number (need_of_word seen (words.Do statement)) (statement_result seen statement).events state) (commits number (statement_result seen statement).events state))).sessions) number Still going past
tool_do scene state number going past work statement seen same off apart busy lost = at busy where
  hold : SessionHold
  hold = hold_in work.found

  fine : IsFine scene false state.tables (grown hold (need_of_word seen (words.Do statement)) (statement_result seen statement).events) not_going
  fine = rw same (task_fine scene state.tables hold (need_of_word (after_events state.tables work.found.writes) (words.Do statement)) (operation_of statement) work.holds.kept.well_formed (own_fine scene state number going past work)
      (statement_sound (after_events state.tables work.found.writes) statement ((own_fine scene state number going past work).lasting.each state.tables work.holds.kept.well_formed (agree_itself hold.names hold.locks state.tables))) off (names_last hold.names (table_of statement)) refl)

  at : (b : Bool) → Turned scene (stored (final lost number (cond b (goes_on number (need_of_word seen (words.Do statement)) (statement_result seen statement).events state) (commits number (statement_result seen statement).events state))))
      (face_of (final lost number (cond b (goes_on number (need_of_word seen (words.Do statement)) (statement_result seen statement).events state) (commits number (statement_result seen statement).events state))).sessions) number Still going past
  at true = tool_goes_on scene state number going past work (need_of_word seen (words.Do statement)) (statement_result seen statement).events lost apart fine
  at false = tool_commits scene state number going past work (need_of_word seen (words.Do statement)) (statement_result seen statement).events lost apart fine

abbrev pub ToolWord : Scene → ScriptWord → Type 0
ToolWord scene (words.Do statement) = is_mine scene (table_of statement) ≡ false
ToolWord scene word = Unit {0}

pub tool_word : (scene : Scene) (state : State) (number : ℕ) (going : ℕ → Going) (past : List PlainItem) (work : ToolWork scene state number going past) (word : ScriptWord) → ToolWord scene word → AreApart state number (need_of_word (view number state) word).locks → (lost : Bool)
    → Turned scene (stored (final lost number (does_word (view number state) state number word))) (face_of (final lost number (does_word (view number state) state number word)).sessions) number Still going past
tool_word scene state number going past work words.Begin off apart lost =
    tool_goes_on scene state number going past work (need_of_word (view number state) words.Begin) [] lost apart (quiet_fine scene state.tables (hold_in work.found) (need_of_word (view number state) words.Begin) (own_fine scene state number going past work))
tool_word scene state number going past work words.Commit off apart lost =
    tool_commits scene state number going past work (need_of_word (view number state) words.Commit) [] lost apart (quiet_fine scene state.tables (hold_in work.found) (need_of_word (view number state) words.Commit) (own_fine scene state number going past work))
tool_word scene state number going past work words.Rollback off apart lost = tool_forgets scene state number going past work lost
tool_word scene state number going past work (words.Do statement) off apart lost =
    tool_do scene state number going past work statement (view number state) (ap (λ (o : Option Session). after_events state.tables (writes_of o)) work.is) off apart (is_in_transaction (session_of number state.sessions)) lost

-- copying a row
pub tool_copies : (scene : Scene) (state : State) (number : ℕ) (going : ℕ → Going) (past : List PlainItem) (work : ToolWork scene state number going past) (need : Need) (from into : List ℕ) (columns : List MapColumn) (key : List Value) (seen : Database) → seen ≡ after_events state.tables work.found.writes → is_mine scene into ≡ false
    → need.names ≡ from ∷ into ∷ [] → need.locks ≡ operation_needs seen (copy_operation seen from into columns key) → AreApart state number need.locks → IsFine scene false state.tables (grown (hold_in work.found) need (operation_result seen (copy_operation seen from into columns key)).events) not_going
tool_copies scene state number going past work need from into columns key seen same off names locks apart =
    let hold = hold_in work.found in
    let well_formed = (own_fine scene state number going past work).lasting.each state.tables work.holds.kept.well_formed (agree_itself hold.names hold.locks state.tables) in
    let locks_are : need.locks ≡ operation_needs (after_events state.tables work.found.writes) (copy_operation (after_events state.tables work.found.writes) from into columns key) = locks ∙ ap (λ (d : Database). operation_needs d (copy_operation d from into columns key)) same in
    rw same (task_fine scene state.tables hold need (copy_operation (after_events state.tables work.found.writes) from into columns key) work.holds.kept.well_formed (own_fine scene state number going past work)
    (copies_sound (after_events state.tables work.found.writes) from into columns key well_formed) off (rw names (names_two hold.names from into)) locks_are)
