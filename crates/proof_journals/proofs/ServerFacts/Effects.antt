-- What a deed leaves of all that each session holds and wrote.
use Rattle.std.proofs.Common.{◌≡◌, ℕ, Bool, true, false, List, [], ◌∷◌, ◌++◌, map, Option, Some, None, Result, Ok, Err, refl, sym, ap, ◌∙◌, subst}
use Rattle.std.specs.Prelude.{◌==◌}
use Rattle.base_values.specs.declared.event.RowEvent.{RowEvent}
use Rattle.base_values.specs.declared.gho_schema.schema.Schema.{Schema}
use Rattle.table_store.specs.Databases.{TableRows, Database, find_table, has_table, rename_tables, without_table}
use Rattle.table_store.specs.declared.renames.NotRenamed.{NotRenamed}
use Rattle.table_store.specs.declared.renames.Pair.{Pair}
use Rattle.server_model.specs.declared.need.Need.{Need}
use Rattle.server_model.specs.declared.request.Request.{Request}
use Rattle.server_model.specs.declared.request.Request.TheVariants as requests
use Rattle.server_model.specs.declared.session.Session.{Session}
use Rattle.server_model.specs.declared.work.StatementResult.{StatementResult}
use Rattle.server_model.specs.Conditions.{ComesWell, IsWellFormed}
use Rattle.server_model.specs.Effects.{Effect, Rests, Grows, Writes, Forgets, Moves, Locks, Unlocks, all_exist, begins, created, effect, effect_unless, effect_within, defined, dropped, is_outside, locks_if, nothing_needed, renamed_or, result_effect}
use Rattle.server_model.specs.Operations.{after_events, copy_operation, operation_result, statement_result}
use Rattle.server_model.specs.Blockers.{need, need_within}
use Rattle.server_model.specs.PlainServer.{at_rest, does, exclusive, holding, locking, unlocking}
use Rattle.server_model.specs.States.{State, holds_tables, is_in_transaction, names_held, pair_names, session_of, view, with_session, writes_of}
use Rattle.server_model.specs.LockedRows.Coverage.{Apart}
use Rattle.server_model.specs.LockedRows.Databases.{IsWellFormedDatabase}
use Rattle.server_model.proofs.LockedRows.Tests.{are_one, turned}
use Rattle.proof_journals.specs.Scenes.{no_hold, Besides}
use Rattle.proof_journals.specs.Holdings.{Face, face_in, face_of}
use Rattle.proof_journals.proofs.Answering.{apart_both}
use Rattle.proof_journals.proofs.Faces.{faces_with, writes_face, busy_face}
use Rattle.proof_journals.proofs.Held.{holding_face, rests_face, locking_face, unlocking_face}
use Rattle.proof_journals.proofs.Moves.{Moved, create_moves, drop_moves, rename_moves}
use Rattle.proof_journals.proofs.Names.{Free, names_granted}
use Rattle.proof_journals.proofs.Serves.{IsFree}
use Rattle.proof_journals.proofs.ValidTables.{valid_table}
use Rattle.proof_journals.proofs.Ghost.Fitting.{fitting_end, well_formed_events}
use Rattle.proof_journals.specs.ServerFacts.Invariants.{OwnFits}
use Rattle.proof_journals.specs.ServerFacts.Grants.{grown, GrowsWell}
use Rattle.proof_journals.proofs.ServerFacts.Created.{own_created}
use Rattle.proof_journals.proofs.ServerFacts.Kept.{Keeps, own_rests, own_moved, keeps_goes, keeps_rests, keeps_holds, keeps_commits}
use Rattle.proof_journals.proofs.ServerFacts.Granted.{quiet_own, statement_own, copy_own}

-- the deed does no harm
abbrev pub EffectFits : State → ℕ → Effect → Type 0
EffectFits state number (Rests answer) = Unit {0}
EffectFits state number (Grows answer need events) = GrowsWell state.tables (face_of state.sessions) number need events
EffectFits state number (Writes answer events) = (need : Need) × GrowsWell state.tables (face_of state.sessions) number need events
EffectFits state number (Forgets answer) = Unit {0}
EffectFits state number (Moves answer tables) = IsWellFormedDatabase tables × ((n : ℕ) → OwnFits tables (face_of state.sessions n))
EffectFits state number (Locks answer names) = Unit {0}
EffectFits state number (Unlocks answer) = Unit {0}

abbrev pub KeepsIn : State → Type 0
KeepsIn state = Keeps state.tables (face_of state.sessions)

-- WHAT A DEED LEAVES

grown_besides : (number : ℕ) (sessions : List Session) (found : Session) (need : Need) (events : List RowEvent) → session_of number sessions ≡ Some found
    → Besides number (face_of sessions) (face_of (with_session number (holding need events) sessions)) (grown (face_of sessions number) need events)
grown_besides number sessions found need events is =
    subst (λ (f : Face). Besides number (face_of sessions) (face_of (with_session number (holding need events) sessions)) f) (holding_face need events found ∙ ap (λ (f : Face). grown f need events) (ap face_in (sym is)))
    (faces_with number (holding need events) sessions found (λ s. refl) is)

pub grown_apart : (tables : Database) (faces : ℕ → Face) (number : ℕ) (need : Need) (events : List RowEvent) → Keeps tables faces → GrowsWell tables faces number need events → (n : ℕ) → (n == number) ≡ false → Apart (grown (faces number) need events).hold.locks (faces n).hold.locks
grown_apart tables faces number need events kept well n differ = apart_both (faces number).hold.locks need.locks (faces n).hold.locks (kept.apart number n (turned n number differ)) (well.apart n differ)

rest_besides : (number : ℕ) (sessions : List Session) (found : Session) → session_of number sessions ≡ Some found → (own : Face) × (own.hold ≡ no_hold) × Besides number (face_of sessions) (face_of (with_session number at_rest sessions)) own
rest_besides number sessions found is = (face_in (Some (at_rest found)), ap (λ (f : Face). f.hold) (rests_face found), faces_with number at_rest sessions found (λ s. refl) is)

pub grown_well_formed : (tables : Database) (faces : ℕ → Face) (number : ℕ) (need : Need) (events : List RowEvent) → Keeps tables faces → GrowsWell tables faces number need events → IsWellFormedDatabase (after_events tables ((faces number).hold.writes ++ events))
grown_well_formed tables faces number need events kept well =
    let own = grown (faces number) need events in
    well_formed_events tables own.hold.writes kept.well_formed (fitting_end own.hold.names own.hold.locks own.hold.writes tables kept.well_formed well.own.fitting)

commits_so : (state : State) (number : ℕ) (found : Session) (need : Need) (events : List RowEvent) → session_of number state.sessions ≡ Some found → KeepsIn state → GrowsWell state.tables (face_of state.sessions) number need events
    → Keeps (after_events state.tables (writes_of (session_of number state.sessions) ++ events)) (face_of (with_session number at_rest state.sessions))
commits_so state number found need events is kept well =
    let faces = face_of state.sessions in
    let own = grown (faces number) need events in
    let rest = rest_besides number state.sessions found is in
    subst (λ (w : List RowEvent). Keeps (after_events state.tables (w ++ events)) (face_of (with_session number at_rest state.sessions))) (sym (writes_face (session_of number state.sessions)))
    (keeps_commits state.tables faces (face_of (with_session number at_rest state.sessions)) number rest.0 own.hold.names own.hold.locks own.hold.writes kept well.own.covered (grown_apart state.tables faces number need events kept well)
    (grown_well_formed state.tables faces number need events kept well) rest.1 rest.2)

-- *A deed that does no harm keeps all.*
pub does_keeps : (state : State) (number : ℕ) (found : Session) (effect : Effect) → session_of number state.sessions ≡ Some found → KeepsIn state → EffectFits state number effect → KeepsIn (does effect state number).after
does_keeps state number found (Rests answer) is kept fits = kept
does_keeps state number found (Grows answer need events) is kept fits =
    keeps_goes state.tables (face_of state.sessions) (face_of (with_session number (holding need events) state.sessions)) number (grown (face_of state.sessions number) need events) kept fits.own
    (grown_apart state.tables (face_of state.sessions) number need events kept fits) (grown_besides number state.sessions found need events is)
does_keeps state number found (Writes answer events) is kept fits = commits_so state number found fits.0 events is kept fits.1
does_keeps state number found (Forgets answer) is kept fits =
    let rest = rest_besides number state.sessions found is in
    keeps_rests state.tables (face_of state.sessions) (face_of (with_session number at_rest state.sessions)) number rest.0 kept rest.1 rest.2
does_keeps state number found (Moves answer tables) is kept fits = record { well_formed = fits.0; own = fits.1; apart = kept.apart }
does_keeps state number found (Locks answer names) is kept fits =
    keeps_holds state.tables (face_of state.sessions) (face_of (with_session number (locking names) state.sessions)) number (face_in (Some (locking names found))) kept
    (ap (λ (f : Face). f.hold) (locking_face names found) ∙ ap (λ (f : Face). f.hold) (ap face_in (sym is))) (ap (λ (f : Face). f.busy) (locking_face names found) ∙ ap (λ (f : Face). f.busy) (ap face_in (sym is)))
    (faces_with number (locking names) state.sessions found (λ s. refl) is)
does_keeps state number found (Unlocks answer) is kept fits =
    keeps_holds state.tables (face_of state.sessions) (face_of (with_session number unlocking state.sessions)) number (face_in (Some (unlocking found))) kept
    (ap (λ (f : Face). f.hold) (unlocking_face found) ∙ ap (λ (f : Face). f.hold) (ap face_in (sym is))) (ap (λ (f : Face). f.busy) (unlocking_face found) ∙ ap (λ (f : Face). f.busy) (ap face_in (sym is)))
    (faces_with number unlocking state.sessions found (λ s. refl) is)

-- WHICH DEED

-- a session at work: what is kept, and what was granted to it
pub record AtWork (state : State) (number : ℕ) (request : Request) : Type 0 where
  pub kept : KeepsIn state
  pub free : IsFree state number (need_within (view number state) request)
  pub comes : ComesWell (is_in_transaction (session_of number state.sessions)) (holds_tables (session_of number state.sessions)) request
  pub formed : IsWellFormed state.tables request

-- names that nobody else holds
moves_fit : (state : State) (number : ℕ) (names : List (List ℕ)) (after : Database) → KeepsIn state → Free (names_held state.sessions) number (map exclusive names) → is_in_transaction (session_of number state.sessions) ≡ false → Moved names state.tables after
    → IsWellFormedDatabase after × ((n : ℕ) → OwnFits after (face_of state.sessions n))
moves_fit state number names after kept free rests moved = (moved.well_formed kept.well_formed, λ n. at n (n == number) refl) where
  at : (n : ℕ) (b : Bool) → (n == number) ≡ b → OwnFits after (face_of state.sessions n)
  at n true here =
      let busy : (face_of state.sessions number).busy ≡ false = sym (busy_face (session_of number state.sessions)) ∙ rests in
      subst (λ (m : ℕ). OwnFits after (face_of state.sessions m)) (sym (are_one n number here)) (own_rests after (face_of state.sessions number) ((kept.own number).rests busy))
  at n false differ = own_moved state.tables after (face_of state.sessions n) (λ name held. moved.others name (names_granted state.sessions number n names name free differ held)) (kept.own n)

created_fit : (state : State) (number : ℕ) (schema : Schema) (b : Bool) → has_table schema.name state.tables ≡ b → KeepsIn state → IsWellFormed state.tables (requests.Create schema) → EffectFits state number (defined (created b schema state.tables))
created_fit state number schema true stands kept formed = tt
created_fit state number schema false stands kept formed =
    let new = valid_table schema formed.valid in
    ((create_moves schema state.tables new).well_formed kept.well_formed, λ n. own_created schema state.tables (face_of state.sessions n) new stands (kept.own n))

dropped_fit : (state : State) (number : ℕ) (name : List ℕ) (b : Bool) → KeepsIn state → Free (names_held state.sessions) number (map exclusive (name ∷ [])) → is_in_transaction (session_of number state.sessions) ≡ false → EffectFits state number (defined (dropped b name state.tables))
dropped_fit state number name true kept free rests = moves_fit state number (name ∷ []) (without_table name state.tables) kept free rests (drop_moves name state.tables)
dropped_fit state number name false kept free rests = tt

renamed_fit : (state : State) (number : ℕ) (pairs : List Pair) (result : Result Database NotRenamed) → rename_tables pairs state.tables ≡ result → KeepsIn state → Free (names_held state.sessions) number (map exclusive (pair_names pairs)) → is_in_transaction (session_of number state.sessions) ≡ false
    → EffectFits state number (defined (renamed_or result))
renamed_fit state number pairs (Ok after) is kept free rests = moves_fit state number (pair_names pairs) after kept free rests (rename_moves pairs state.tables after is)
renamed_fit state number pairs (Err reason) is kept free rests = tt

-- what a statement or a copy gives
result_fits : (state : State) (number : ℕ) (busy : Bool) (need : Need) (result : StatementResult) → GrowsWell state.tables (face_of state.sessions) number need result.events → EffectFits state number (result_effect busy need result)
result_fits state number true need result well = well
result_fits state number false need result well = (need, well)

quiet_well : (state : State) (number : ℕ) (need : Need) → KeepsIn state → ((n : ℕ) → (n == number) ≡ false → Apart need.locks (face_of state.sessions n).hold.locks) → GrowsWell state.tables (face_of state.sessions) number need []
quiet_well state number need kept apart = record { apart = apart; own = quiet_own state.tables (face_of state.sessions number) need (kept.own number) }

no_locks : (state : State) (number : ℕ) (n : ℕ) → (n == number) ≡ false → Apart [] (face_of state.sessions n).hold.locks
no_locks state number n differ lock other one two = absurd one

seen_face : (state : State) (number : ℕ) → view number state ≡ after_events state.tables (face_of state.sessions number).hold.writes
seen_face state number = ap (after_events state.tables) (writes_face (session_of number state.sessions))

statement_well : (state : State) (number : ℕ) (statement : _) (seen : Database) → seen ≡ after_events state.tables (face_of state.sessions number).hold.writes → KeepsIn state → ((n : ℕ) → (n == number) ≡ false → Apart (need_within seen (requests.Do statement)).locks (face_of state.sessions n).hold.locks)
    → GrowsWell state.tables (face_of state.sessions) number (need_within seen (requests.Do statement)) (statement_result seen statement).events
statement_well state number statement seen same kept apart = record {
  apart = apart;
  own = rw same (statement_own state.tables (face_of state.sessions number) (need_within (after_events state.tables (face_of state.sessions number).hold.writes) (requests.Do statement)) statement kept.well_formed (kept.own number) refl refl);
}

copy_well : (state : State) (number : ℕ) (from into : List ℕ) (columns : _) (key : _) (seen : Database) → seen ≡ after_events state.tables (face_of state.sessions number).hold.writes → KeepsIn state → ((n : ℕ) → (n == number) ≡ false → Apart (need_within seen (requests.CopyRow from into columns key)).locks (face_of state.sessions n).hold.locks)
    → GrowsWell state.tables (face_of state.sessions) number (need_within seen (requests.CopyRow from into columns key)) (operation_result seen (copy_operation seen from into columns key)).events
copy_well state number from into columns key seen same kept apart = record {
  apart = apart;
  own = rw same (copy_own state.tables (face_of state.sessions number) (need_within (after_events state.tables (face_of state.sessions number).hold.writes) (requests.CopyRow from into columns key)) from into columns key kept.well_formed (kept.own number) refl refl);
}

-- *Each request's deed does no harm.*
pub within_fits : (state : State) (number : ℕ) (busy : Bool) (request : Request) → AtWork state number request → EffectFits state number (effect_within busy (view number state) state request)
within_fits state number busy requests.Begin work = quiet_well state number nothing_needed work.kept (no_locks state number)
within_fits state number busy requests.Commit work = (nothing_needed, quiet_well state number nothing_needed work.kept (no_locks state number))
within_fits state number busy requests.Rollback work = tt
within_fits state number busy (requests.Do statement) work =
    result_fits state number busy (need_within (view number state) (requests.Do statement)) (statement_result (view number state) statement) (statement_well state number statement (view number state) (seen_face state number) work.kept work.free.apart)
within_fits state number busy (requests.Ends table) work = tt
within_fits state number busy (requests.ChunkEnd table low top size) work = tt
within_fits state number busy (requests.BeginSpan table span size) work = at (find_table table state.tables) where
  at : (found : Option TableRows) → EffectFits state number (begins found span size (need_within (view number state) (requests.BeginSpan table span size)))
  at None = tt
  at (Some found) = quiet_well state number (need_within (view number state) (requests.BeginSpan table span size)) work.kept work.free.apart
within_fits state number busy (requests.CopyRow from into columns key) work =
    result_fits state number busy (need_within (view number state) (requests.CopyRow from into columns key)) (operation_result (view number state) (copy_operation (view number state) from into columns key))
    (copy_well state number from into columns key (view number state) (seen_face state number) work.kept work.free.apart)
within_fits state number busy (requests.LockTables names) work = at (all_exist names state.tables) where
  at : (b : Bool) → EffectFits state number (locks_if b names)
  at true = tt
  at false = tt
within_fits state number busy requests.Unlock work = tt
within_fits state number busy (requests.Create schema) work = created_fit state number schema (has_table schema.name state.tables) refl work.kept work.formed
within_fits state number busy (requests.Drop name) work = dropped_fit state number name (has_table name state.tables) work.kept work.free.names work.comes
within_fits state number busy (requests.Rename pairs) work = renamed_fit state number pairs (rename_tables pairs state.tables) refl work.kept work.free.names work.comes
within_fits state number busy requests.LogEnd work = tt
within_fits state number busy (requests.ReadLog position limit tables) work = tt
within_fits state number busy requests.ShowTables work = tt
within_fits state number busy requests.ShowWaiting work = tt
within_fits state number busy (requests.ShowCounter table) work = tt
within_fits state number busy (requests.SetCounter table least) work = tt

unless_fits : (state : State) (number : ℕ) (outside busy : Bool) (request : Request) → AtWork state number request → EffectFits state number (effect_unless outside busy (view number state) state request)
unless_fits state number true busy request work = tt
unless_fits state number false busy request work = within_fits state number busy request work

pub effect_fits : (state : State) (number : ℕ) (request : Request) → AtWork state number request → EffectFits state number (effect state number request)
effect_fits state number request work = unless_fits state number (is_outside (session_of number state.sessions) request) (is_in_transaction (session_of number state.sessions)) request work
