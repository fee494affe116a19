-- What each session wrote fits the committed tables, behind every turn.
use Rattle.server_model.specs.States.{is_of_tool}
use Rattle.server_model.proofs.Filling.{filled_case}
use Rattle.server_model.specs.Drawing.{numbered}
use Rattle.std.proofs.Common.{◌≡◌, ℕ, Bool, true, false, not, List, [], ◌∷◌, ◌++◌, Option, Some, None, Result, Ok, Err, refl, sym, ap, ◌∙◌, subst}
use Rattle.std.specs.Prelude.{◌==◌}
use Rattle.std.specs.List.{list_any}
use Rattle.std.specs.Str.{bytes_eq}
use Rattle.std.proofs.lemmas.List.{append-nil, append_assoc}
use Rattle.base_values.specs.declared.event.RowEvent.{RowEvent}
use Rattle.server_locks.specs.declared.row_locks.lock.Lock.{Lock}
use Rattle.table_store.specs.Databases.{TableRows, Database, find_table, has_table, rename_tables}
use Rattle.base_script.specs.declared.actor.Side.{Side}
use Rattle.base_script.specs.declared.actor.Side.TheVariants.{Before, After}
use Rattle.server_model.specs.declared.session.Limits.{Limits}
use Rattle.server_model.specs.declared.session.Session.{Session}
use Rattle.server_model.specs.declared.session.Waiting.{Waiting}
use Rattle.server_model.specs.declared.need.Need.{Need}
use Rattle.server_model.specs.declared.entry.Asked.{Asked}
use Rattle.server_model.specs.declared.entry.Asked.TheVariants.{Call, Poll, Cut, Command}
use Rattle.server_model.specs.declared.entry.Entry.{Entry}
use Rattle.server_model.specs.declared.request.Request.{Request}
use Rattle.server_model.specs.declared.request.Request.TheVariants as requests
use Rattle.server_model.specs.Along.{Along}
use Rattle.server_model.specs.Effects.{all_exist, begins, created, effect_unless, defined, dropped, is_outside, locks_if, nothing_needed, renamed_or, result_effect}
use Rattle.server_model.specs.Entries.{is_command, is_client}
use Rattle.server_model.specs.Operations.{Operation, table_of, operation_of, statement_result, operation_result, operation_needs, after_events, copy_operation}
use Rattle.server_model.specs.Blockers.{need, need_within, blocker}
use Rattle.server_model.specs.PlainServer.{at_rest, called_unless, calls, counting, does, done, did, goes_on, holding, is_over, leaves, locking, loses, polled_of, polled_over, polled_unless, polls, serves, unlocking, without_waiting}
use Rattle.server_model.specs.States.{State, is_in_transaction, opened, session_of, view, waiting_of, with_session, writes_of}
use Rattle.tool_program.specs.JournalWords.Journals.{after_entry, opens, state_after}
use Rattle.server_model.specs.LockedRows.Databases.{IsWellFormedDatabase, TaskSound}
use Rattle.server_model.proofs.LockedRows.Finding.{agree_within}
use Rattle.server_model.proofs.LockedRows.Points.{within-left, within-right, within-itself}
use Rattle.server_model.proofs.LockedRows.Stables.{statement_sound}
use Rattle.server_model.proofs.LockedRows.Tests.{are_one}
use Rattle.proof_journals.specs.Scenes.{Scene, SessionHold, no_hold}
use Rattle.proof_journals.specs.Holdings.{Face, face_in, face_of}
use Rattle.proof_journals.specs.Turns.{about, scene_state, AtRest, IsReported, IsAllowed, IsSceneRun}
use Rattle.proof_journals.proofs.Faces.{faces_opened, faces_with, faces_without, opened_live}
use Rattle.proof_journals.proofs.Held.{hold_in, holding_face, rests_face, locking_face, unlocking_face}
use Rattle.proof_journals.proofs.Journals.{state_more, journal_holds, found_live, stored_opened}
use Rattle.proof_journals.proofs.Tooling.{copies_sound, names_two}
use Rattle.proof_journals.proofs.Words.{names_left, names_last}
use Rattle.proof_journals.proofs.ServerTurns.Agreements.{along_front, others_agree_law}
use Rattle.proof_journals.proofs.ServerTurns.Others.{at_wait, entry_faces}
use Rattle.proof_journals.specs.Ghost.FittingEvents.{IsFitting}
use Rattle.proof_journals.specs.Ghost.Laws.{WritesFit}
use Rattle.proof_journals.proofs.Ghost.Fitting.{fitting_begin, fitting_others, fitting_task, fitting_end, well_formed_events}

-- what a session wrote fits, under what it holds
abbrev FaceFits : Database → Face → Type 0
FaceFits tables face = IsFitting face.hold.names face.hold.locks face.hold.writes tables

abbrev OwnFits : State → ℕ → Type 0
OwnFits after number = FaceFits after.tables (face_of after.sessions number)

-- a session before its turn
pub record Own (now : State) (number : ℕ) : Type 0 where
  pub found : Session
  pub is : session_of number now.sessions ≡ Some found
  pub well_formed : IsWellFormedDatabase now.tables
  pub fits : FaceFits now.tables (face_in (Some found))
  pub rests : found.in_transaction ≡ false → hold_in found ≡ no_hold

own_still : (now : State) (number : ℕ) → Own now number → OwnFits now number
own_still now number own = subst (λ (o : Option Session). FaceFits now.tables (face_in o)) (sym own.is) own.fits

-- its session changes so
own_changes : (now : State) (number : ℕ) (own : Own now number) (tables : Database) (change : Session → Session) (face : Face) → ((s : Session) → (change s).number ≡ s.number) → face_in (Some (change own.found)) ≡ face → FaceFits tables face → FaceFits tables (face_of (with_session number change now.sessions) number)
own_changes now number own tables change face keeps same fits = subst (FaceFits tables) (sym ((faces_with number change now.sessions own.found keeps own.is).here ∙ same)) fits

own_grows : (now : State) (w : List Waiting) (number : ℕ) (own : Own now number) (need : Need) (events : List RowEvent) → IsFitting ((hold_in own.found).names ++ need.names) ((hold_in own.found).locks ++ need.locks) ((hold_in own.found).writes ++ events) now.tables
    → OwnFits (goes_on number need events (at_wait now w)) number
own_grows now w number own need events fits =
    own_changes now number own now.tables (holding need events) _ (λ s. refl) (holding_face need events own.found) fits

own_rests : (now : State) (number : ℕ) (own : Own now number) (tables : Database) → FaceFits tables (face_of (with_session number at_rest now.sessions) number)
own_rests now number own tables = own_changes now number own tables at_rest _ (λ s. refl) (rests_face own.found) (fitting_begin tables)

own_counts : (now : State) (number : ℕ) (own : Own now number) (count : ℕ) → FaceFits now.tables (face_of (with_session number (counting count) now.sessions) number)
own_counts now number own count = own_changes now number own now.tables (counting count) (face_in (Some own.found)) (λ s. refl) refl own.fits

own_gone : (state : State) (number : ℕ) → OwnFits (loses number state) number
unfolding loses
own_gone state number = subst (FaceFits state.tables) (sym (faces_without number state.sessions).here) (fitting_begin state.tables)

-- a job that is granted
operation_fits : (now : State) (number : ℕ) (own : Own now number) (names : List (List ℕ)) (seen : Database) (operation : Database → Operation) → seen ≡ after_events now.tables (hold_in own.found).writes → TaskSound (operation (after_events now.tables (hold_in own.found).writes)) (after_events now.tables (hold_in own.found).writes)
    → list_any (bytes_eq (operation (after_events now.tables (hold_in own.found).writes)).table) ((hold_in own.found).names ++ names) ≡ true
    → IsFitting ((hold_in own.found).names ++ names) ((hold_in own.found).locks ++ operation_needs seen (operation seen)) ((hold_in own.found).writes ++ (operation_result seen (operation seen)).events) now.tables
operation_fits now number own names seen operation same sound mine =
    let hold : SessionHold = hold_in own.found in
    let view : Database = after_events now.tables hold.writes in
    subst (λ (d : Database). IsFitting (hold.names ++ names) (hold.locks ++ operation_needs d (operation d)) (hold.writes ++ (operation_result d (operation d)).events) now.tables) (sym same)
    (fitting_task hold.names (hold.names ++ names) hold.locks (hold.locks ++ operation_needs view (operation view)) hold.writes now.tables (operation view) own.fits own.well_formed sound (names_left hold.names names)
    (within-left hold.locks hold.locks (operation_needs view (operation view)) (within-itself hold.locks)) mine (within-right (operation_needs view (operation view)) hold.locks (operation_needs view (operation view)) (within-itself (operation_needs view (operation view)))))

-- more names and locks, and nothing written
quiet_fits : (now : State) (number : ℕ) (own : Own now number) (names : List (List ℕ)) (locks : List Lock) → IsFitting ((hold_in own.found).names ++ names) ((hold_in own.found).locks ++ locks) ((hold_in own.found).writes ++ []) now.tables
quiet_fits now number own names locks =
    let hold : SessionHold = hold_in own.found in
    rw (append-nil hold.writes) (record { each = λ other is agree. own.fits.each other is (agree_within hold.names (hold.names ++ names) hold.locks (hold.locks ++ locks) now.tables other (names_left hold.names names) (within-left hold.locks hold.locks locks (within-itself hold.locks)) agree) })

seen_well_formed : (now : State) (number : ℕ) (own : Own now number) → IsWellFormedDatabase (after_events now.tables (hold_in own.found).writes)
seen_well_formed now number own = well_formed_events now.tables (hold_in own.found).writes own.well_formed (fitting_end (hold_in own.found).names (hold_in own.found).locks (hold_in own.found).writes now.tables own.well_formed own.fits)

-- whole tables change, outside a transaction
own_moves : (now : State) (number : ℕ) (own : Own now number) → hold_in own.found ≡ no_hold → (tables : Database) → FaceFits tables (face_of now.sessions number)
own_moves now number own none tables =
    subst (λ (o : Option Session). FaceFits tables (face_in o)) (sym own.is) (subst (λ (h : SessionHold). IsFitting h.names h.locks h.writes tables) (sym none) (fitting_begin tables))

own_defined : (now : State) (w : List Waiting) (number : ℕ) (own : Own now number) (tables : Result Database ℕ) → hold_in own.found ≡ no_hold → OwnFits (does (defined tables) (at_wait now w) number).after number
own_defined now w number own (Ok tables) none = own_moves now number own none tables
own_defined now w number own (Err refusal) none = own_still now number own

-- EACH DEED

own_effect : (now : State) (w : List Waiting) (number : ℕ) (own : Own now number) (outside busy : Bool) (seen : Database) (request : Request) → seen ≡ after_events now.tables (hold_in own.found).writes → (busy ≡ false → hold_in own.found ≡ no_hold) → AtRest busy (Some request)
    → OwnFits (does (effect_unless outside busy seen (at_wait now w) request) (at_wait now w) number).after number
own_effect now w number own true busy seen request same quiet rests = own_still now number own
own_effect now w number own false busy seen requests.Begin same quiet rests = own_grows now w number own nothing_needed [] (quiet_fits now number own [] [])
own_effect now w number own false busy seen requests.Commit same quiet rests = own_rests now number own _
own_effect now w number own false busy seen requests.Rollback same quiet rests = own_rests now number own now.tables
own_effect now w number own false busy seen (requests.Do statement) same quiet rests = at busy where
  at : (b : Bool) → OwnFits (does (result_effect b (need_within seen (requests.Do statement)) (statement_result seen statement)) (at_wait now w) number).after number
  at true =
      own_grows now w number own (need_within seen (requests.Do statement)) (statement_result seen statement).events
      (operation_fits now number own (table_of statement ∷ []) seen (λ d. operation_of statement) same (statement_sound (after_events now.tables (hold_in own.found).writes) statement (seen_well_formed now number own)) (names_last (hold_in own.found).names (table_of statement)))
  at false = own_rests now number own _
own_effect now w number own false busy seen (requests.Ends table) same quiet rests = own_still now number own
own_effect now w number own false busy seen (requests.ChunkEnd table low top size) same quiet rests = own_still now number own
own_effect now w number own false busy seen (requests.BeginSpan table span size) same quiet rests = at (find_table table now.tables) where
  at : (found : Option TableRows) → OwnFits (does (begins found span size (need_within seen (requests.BeginSpan table span size))) (at_wait now w) number).after number
  at None = own_still now number own
  at (Some t) =
      own_grows now w number own (need_within seen (requests.BeginSpan table span size)) []
      (quiet_fits now number own (need_within seen (requests.BeginSpan table span size)).names (need_within seen (requests.BeginSpan table span size)).locks)
own_effect now w number own false busy seen (requests.CopyRow from into map key) same quiet rests = at busy where
  at : (b : Bool) → OwnFits (does (result_effect b (need_within seen (requests.CopyRow from into map key)) (operation_result seen (copy_operation seen from into map key))) (at_wait now w) number).after number
  at true =
      own_grows now w number own (need_within seen (requests.CopyRow from into map key)) (operation_result seen (copy_operation seen from into map key)).events
      (operation_fits now number own (from ∷ into ∷ []) seen (λ d. copy_operation d from into map key) same (copies_sound (after_events now.tables (hold_in own.found).writes) from into map key (seen_well_formed now number own)) (names_two (hold_in own.found).names from into))
  at false = own_rests now number own _
own_effect now w number own false busy seen (requests.LockTables names) same quiet rests = at (all_exist names now.tables) where
  at : (b : Bool) → OwnFits (does (locks_if b names) (at_wait now w) number).after number
  at true = own_changes now number own now.tables (locking names) _ (λ s. refl) (locking_face names own.found) own.fits
  at false = own_still now number own
own_effect now w number own false busy seen requests.Unlock same quiet rests = own_changes now number own now.tables unlocking _ (λ s. refl) (unlocking_face own.found) own.fits
own_effect now w number own false busy seen (requests.Create schema) same quiet rests = own_defined now w number own (created (has_table schema.name now.tables) schema now.tables) (quiet rests)
own_effect now w number own false busy seen (requests.Drop name) same quiet rests = own_defined now w number own (dropped (has_table name now.tables) name now.tables) (quiet rests)
own_effect now w number own false busy seen (requests.Rename pairs) same quiet rests = own_defined now w number own (renamed_or (rename_tables pairs now.tables)) (quiet rests)
own_effect now w number own false busy seen requests.LogEnd same quiet rests = own_still now number own
own_effect now w number own false busy seen (requests.ReadLog position limit tables) same quiet rests = own_still now number own
own_effect now w number own false busy seen requests.ShowTables same quiet rests = own_still now number own
own_effect now w number own false busy seen requests.ShowWaiting same quiet rests = own_still now number own
own_effect now w number own false busy seen (requests.ShowCounter table) same quiet rests = own_still now number own
own_effect now w number own false busy seen (requests.SetCounter table least) same quiet rests = own_still now number own

own_did : (now : State) (w : List Waiting) (number : ℕ) (own : Own now number) (request : Request) → AtRest (is_in_transaction (session_of number now.sessions)) (Some request) → OwnFits (did (at_wait now w) number request).after number
unfolding did
own_did now w number own request rests =
    own_effect now w number own (is_outside (session_of number now.sessions) request) (is_in_transaction (session_of number now.sessions)) (view number now) request (ap (λ (o : Option Session). after_events now.tables (writes_of o)) own.is)
    (λ quiet. own.rests (sym (ap is_in_transaction own.is) ∙ quiet)) rests

own_done : (now : State) (w : List Waiting) (number : ℕ) (own : Own now number) (request : Request) → AtRest (is_in_transaction (session_of number now.sessions)) (Some request) → OwnFits (done (at_wait now w) number request).after number
own_done now w number own request =
    filled_case (λ asked full. AtRest (is_in_transaction (session_of number now.sessions)) (Some asked) → OwnFits (did (at_wait now w) number full).after number) (own_did now w number own) (λ statement n rests. own_did now w number own (requests.Do (numbered n statement)) tt)
    (is_of_tool (session_of number now.sessions)) now.tables now.counters request

-- EACH TURN

own_served : (now : State) (number : ℕ) (asked : Asked) → Own now number → AtRest (is_in_transaction (session_of number now.sessions)) (about now number asked) → OwnFits (serves now number asked).after number
unfolding calls polls
own_served now number (Call request) own rests = at (blocker now number (need now number request)) where
  at : (by : Option ℕ) → OwnFits (called_unless by now number request).after number
  at None = own_done now now.waiting number own request rests
  at (Some by) = own_counts now number own 0
own_served now number Poll own rests = at (waiting_of number now.waiting) rests where
  over : (b : Bool) (by : ℕ) → OwnFits (polled_over b by now number).after number
  over true by = own_rests now number own now.tables
  over false by = own_counts now number own _

  each : (waiting : Waiting) (by : Option ℕ) → AtRest (is_in_transaction (session_of number now.sessions)) (Some waiting.request) → OwnFits (polled_unless by now number waiting.request).after number
  each waiting None quiet = own_done now (without_waiting number now).waiting number own waiting.request quiet
  each waiting (Some by) quiet = over (is_over now number) by

  at : (waiting : Option Waiting) → AtRest (is_in_transaction (session_of number now.sessions)) (Rattle.proof_journals.specs.Turns.request_of waiting) → OwnFits (polled_of waiting now number).after number
  at None quiet = own_still now number own
  at (Some waiting) quiet = each waiting (blocker now number (need now number waiting.request)) quiet
own_served now number (Command word) own rests = own_still now number own
own_served now number Cut own rests = own_gone now number

own_turn : (side : Option Side) (now : State) (number : ℕ) (asked : Asked) → Own now number → AtRest (is_in_transaction (session_of number now.sessions)) (about now number asked) → OwnFits (leaves side now number asked) number
own_turn None now number asked own rests = own_served now number asked own rests
own_turn (Some Before) now number asked own rests = own_gone now number
own_turn (Some After) now number asked own rests = own_gone (serves now number asked).after number

-- a command changes nothing of a session
command_turn : (side : Option Side) (now : State) (number : ℕ) (asked : Asked) → is_command asked ≡ true → OwnFits now number → OwnFits (leaves side now number asked) number
command_turn None now number (Command word) is fits = fits
command_turn (Some Before) now number asked is fits = own_gone now number
command_turn (Some After) now number asked is fits = own_gone (serves now number asked).after number
command_turn None now number (Call request) is fits = absurd (let no : false ≡ true = is in cc)
command_turn None now number Poll is fits = absurd (let no : false ≡ true = is in cc)
command_turn None now number Cut is fits = absurd (let no : false ≡ true = is in cc)

-- an entry's own session
own_entry : (limits : Limits) (scene : Scene) (journal : List Entry) (entry : Entry) → IsSceneRun limits scene journal → IsAllowed limits scene journal entry → OwnFits (scene_state limits scene journal) entry.session → OwnFits (after_entry (scene_state limits scene journal) entry) entry.session
own_entry limits scene journal entry run allowed fits = at (is_command entry.asked) refl
  where
    nothing : Bool
    nothing = is_command entry.asked

    tool : Bool
    tool = not (is_client entry.actor)

    before : State
    before = scene_state limits scene journal

    now : State
    now = opens entry before

    face : face_of now.sessions entry.session ≡ face_of before.sessions entry.session
    face = faces_opened nothing tool entry.session entry.session before

    tables : now.tables ≡ before.tables
    tables = ap (λ (s : _). s.tables) (stored_opened nothing tool entry.session before)

    now_fits : OwnFits now entry.session
    now_fits = subst (λ (d : Database). FaceFits d (face_of now.sessions entry.session)) (sym tables) (subst (FaceFits before.tables) (sym face) fits)

    own : (found : Session) → session_of entry.session now.sessions ≡ Some found → Own now entry.session
    own found is =
        let held = journal_holds limits scene journal run in
        let same : face_in (Some found) ≡ face_of before.sessions entry.session = sym (ap face_in is) ∙ face in
        record {
          found = found;
          is = is;
          well_formed = subst (λ (d : Database). IsWellFormedDatabase d) (sym tables) held.holds.kept.well_formed;
          fits = subst (λ (o : Option Session). FaceFits now.tables (face_in o)) is now_fits;
          rests = λ quiet. ap (λ (f : Face). f.hold) same ∙ ((held.holds.fits entry.session).rests (sym (ap (λ (f : Face). f.busy) same) ∙ quiet)).0;
        }

    at : (b : Bool) → is_command entry.asked ≡ b → OwnFits (after_entry before entry) entry.session
    at true is = command_turn entry.side now entry.session entry.asked is now_fits
    at false is =
        found_live (session_of entry.session now.sessions) (OwnFits (leaves entry.side now entry.session entry.asked) entry.session) (opened_live nothing tool entry.session before is)
        (λ found there. own_turn entry.side now entry.session entry.asked (own found there) allowed.rests)

-- EACH JOURNAL

-- the next entry of a run is allowed, and its front is a run
pub along_next : {E : Type 0} (keeps : List E → E → Type 0) (before front : List E) (entry : E) (following : List E) → Along keeps before (front ++ entry ∷ following) → keeps (before ++ front) entry
along_next keeps before [] entry following all = subst (λ (b : List _). keeps b entry) (sym (append-nil before)) all.0
along_next keeps before (first ∷ front) entry following all = subst (λ (b : List _). keeps b entry) (append_assoc before (first ∷ []) front) (along_next keeps (before ++ first ∷ []) front entry following all.1)

pub run_front : (limits : Limits) (scene : Scene) (journal more : List Entry) → IsSceneRun limits scene (journal ++ more) → IsSceneRun limits scene journal
run_front limits scene journal more run =
    record { well_formed = run.well_formed; migrated = run.migrated; reported = along_front (IsReported limits scene) [] journal more run.reported; allowed = along_front (IsAllowed limits scene) [] journal more run.allowed }

-- all sessions' writes fit
abbrev AllFit : State → Type 0
AllFit state = (n : ℕ) → OwnFits state n

turn_fits : (limits : Limits) (scene : Scene) (journal : List Entry) (entry : Entry) → IsSceneRun limits scene journal → IsAllowed limits scene journal entry → AllFit (scene_state limits scene journal) → AllFit (scene_state limits scene (journal ++ entry ∷ []))
turn_fits limits scene journal entry run allowed all n = rw (state_more (opened limits scene.opening) journal entry) (at (n == entry.session) refl)
  where
    state : State
    state = scene_state limits scene journal

    at : (b : Bool) → (n == entry.session) ≡ b → OwnFits (after_entry (scene_state limits scene journal) entry) n
    at false differ =
        subst (FaceFits (after_entry (scene_state limits scene journal) entry).tables) (sym (entry_faces limits scene journal entry (journal_holds limits scene journal run) n differ))
        (fitting_others (face_of (scene_state limits scene journal).sessions n).hold.names (face_of (scene_state limits scene journal).sessions n).hold.locks (face_of (scene_state limits scene journal).sessions n).hold.writes (scene_state limits scene journal).tables (after_entry (scene_state limits scene journal) entry).tables
        (subst (λ (s : State). Rattle.server_model.specs.LockedRows.Agreement.Agree (face_of (scene_state limits scene journal).sessions n).hold.names (face_of (scene_state limits scene journal).sessions n).hold.locks (scene_state limits scene journal).tables s.tables) (state_more (opened limits scene.opening) journal entry)
        (others_agree_law limits scene journal entry n run differ)) (all n))
    at true same = subst (OwnFits (after_entry (scene_state limits scene journal) entry)) (sym (are_one n entry.session same)) (own_entry limits scene journal entry run allowed (all entry.session))

writes_fit_on : (limits : Limits) (scene : Scene) (journal more : List Entry) → IsSceneRun limits scene (journal ++ more) → AllFit (scene_state limits scene journal) → AllFit (scene_state limits scene (journal ++ more))
writes_fit_on limits scene journal [] run all = rw (append-nil journal) all
writes_fit_on limits scene journal (entry ∷ more) run all =
    let regroup : (journal ++ entry ∷ []) ++ more ≡ journal ++ entry ∷ more = append_assoc journal (entry ∷ []) more in
    let next = turn_fits limits scene journal entry (run_front limits scene journal (entry ∷ more) run) (along_next (IsAllowed limits scene) [] journal entry more run.allowed) all in
    subst (λ (j : List Entry). AllFit (scene_state limits scene j)) regroup (writes_fit_on limits scene (journal ++ entry ∷ []) more (subst (IsSceneRun limits scene) (sym regroup) run) next)

-- *Behind every run each session's own writes fit the committed tables.*
pub writes_fit : WritesFit
unfolding state_after
writes_fit limits scene journal run =
    let held = journal_holds limits scene journal run in
    let all : AllFit (scene_state limits scene journal) = writes_fit_on limits scene [] journal run (λ n. fitting_begin scene.opening) in
    record {
      well_formed = held.holds.kept.well_formed;
      fits = λ n. let face : Face = face_of (scene_state limits scene journal).sessions n in fitting_end face.hold.names face.hold.locks face.hold.writes (scene_state limits scene journal).tables held.holds.kept.well_formed (all n);
      covered = λ n. (held.holds.kept.fine n).covered;
      apart = held.holds.kept.apart;
    }
