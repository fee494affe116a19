-- A session with what it was granted: what it wrote goes with the tables.
use Rattle.std.proofs.Common.{◌≡◌, ℕ, true, List, [], ◌∷◌, ◌++◌, Option, Some, None, refl, sym, ap, ◌∙◌, subst}
use Rattle.std.specs.Prelude.{is_some}
use Rattle.std.proofs.lemmas.Bool.{true≢false}
use Rattle.std.proofs.lemmas.List.{append-nil}
use Rattle.std.specs.List.{list_any}
use Rattle.std.specs.Str.{bytes_eq}
use Rattle.base_values.specs.declared.value.Value.{Value}
use Rattle.base_values.specs.declared.row_conversion.map.MapColumn.{MapColumn}
use Rattle.base_values.specs.declared.event.Change.{Change}
use Rattle.base_values.specs.declared.event.RowEvent.{RowEvent}
use Rattle.server_locks.specs.declared.row_locks.lock.Lock.{Lock}
use Rattle.table_store.specs.Databases.{TableRows, Database, find_table, with_change}
use Rattle.base_script.specs.declared.statement.Statement.{Statement}
use Rattle.server_model.specs.declared.need.Need.{Need}
use Rattle.server_model.specs.Operations.{Operation, table_of, operation_of, statement_result, operation_result, operation_needs, row_needs, result_in, events_of, after_events, change_table, copy_operation}
use Rattle.server_model.specs.StatementResults.{tells}
use Rattle.server_model.specs.LockedRows.Agreement.{Within}
use Rattle.server_model.specs.LockedRows.Databases.{IsWellFormedDatabase, TaskSound}
use Rattle.server_model.proofs.LockedRows.Points.{within-left, within-right, within-itself}
use Rattle.server_model.proofs.LockedRows.Finding.{agree_within, found_after, says_covered}
use Rattle.server_model.proofs.LockedRows.Stables.{covered_both, covered_more, covered_before, statement_sound}
use Rattle.proof_journals.specs.Holdings.{Face}
use Rattle.proof_journals.proofs.Words.{names_left, names_last, quiet_covered}
use Rattle.proof_journals.proofs.Tooling.{copies_sound, names_two}
use Rattle.proof_journals.specs.Ghost.FittingEvents.{EventsFit}
use Rattle.proof_journals.proofs.Ghost.Fitting.{fitting_end, fitting_task, well_formed_events}
use Rattle.proof_journals.proofs.ServerTurns.Others.{some_changed}
use Rattle.proof_journals.specs.ServerFacts.Invariants.{AllExist, OwnFits}
use Rattle.proof_journals.specs.ServerFacts.Grants.{grown}

-- the tables as the session sees them
abbrev pub seen_by : Database → Face → Database
seen_by tables face = after_events tables face.hold.writes

pub seen_well_formed : (tables : Database) (face : Face) → IsWellFormedDatabase tables → OwnFits tables face → IsWellFormedDatabase (seen_by tables face)
seen_well_formed tables face is own = well_formed_events tables face.hold.writes is (fitting_end face.hold.names face.hold.locks face.hold.writes tables is own.fitting)

-- nothing is written
pub quiet_own : (tables : Database) (face : Face) (need : Need) → OwnFits tables face → OwnFits tables (grown face need [])
quiet_own tables face need own = record {
  rests = λ is. absurd (true≢false is);
  fitting = record {
    each = λ other is agree. subst (λ (w : List RowEvent). EventsFit other w) (sym (append-nil face.hold.writes))
        (own.fitting.each other is (agree_within face.hold.names (face.hold.names ++ need.names) face.hold.locks (face.hold.locks ++ need.locks) tables other (names_left face.hold.names need.names) (within-left face.hold.locks face.hold.locks need.locks (within-itself face.hold.locks)) agree));
  };
  covered = quiet_covered tables face.hold need.names need.locks own.covered;
  standing = subst (AllExist tables) (sym (append-nil face.hold.writes)) own.standing;
}

-- tables of events stand
each_stands : (tables : Database) (name : List ℕ) (changes : List Change) → is_some (find_table name tables) ≡ true → AllExist tables (events_of name changes)
each_stands tables name [] is = tt
each_stands tables name (change ∷ changes) is = (is, each_stands tables name changes is)

said_in : (tables : Database) (operation : Operation) (found : Option TableRows) → find_table operation.table tables ≡ found → AllExist tables (result_in operation found).events
said_in tables operation None is = tt
said_in tables operation (Some table) is = each_stands tables operation.table (tells table.schema table.rows (operation.work table.schema)).changes (ap is_some is)

pub said_stand : (tables : Database) (operation : Operation) → AllExist tables (operation_result tables operation).events
unfolding operation_result
said_stand tables operation = said_in tables operation (find_table operation.table tables) refl

pub stands_after : (name : List ℕ) (tables : Database) (events : List RowEvent) → is_some (find_table name (after_events tables events)) ≡ is_some (find_table name tables)
unfolding after_events
stands_after name tables [] = refl
stands_after name tables (event ∷ events) =
    stands_after name (with_change event.table (change_table event.change) tables) events ∙ ap is_some (found_after event.table name event.change tables) ∙ some_changed (bytes_eq event.table name) event.change (find_table name tables)

stand_before : (tables : Database) (writes events : List RowEvent) → AllExist (after_events tables writes) events → AllExist tables events
stand_before tables writes [] stand = tt
stand_before tables writes (event ∷ events) stand = (sym (stands_after event.table tables writes) ∙ stand.0, stand_before tables writes events stand.1)

stand_both : (tables : Database) (a b : List RowEvent) → AllExist tables a → AllExist tables b → AllExist tables (a ++ b)
stand_both tables [] b one two = two
stand_both tables (event ∷ a) b one two = (one.0, stand_both tables a b one.1 two)

-- *What a job writes goes with the tables*, where the locks that it needs were granted.
pub operation_own : (tables : Database) (face : Face) (need : Need) (operation : Operation) → IsWellFormedDatabase tables → OwnFits tables face → TaskSound operation (seen_by tables face) → list_any (bytes_eq operation.table) (face.hold.names ++ need.names) ≡ true → need.locks ≡ operation_needs (seen_by tables face) operation
    → OwnFits tables (grown face need (operation_result (seen_by tables face) operation).events)
operation_own tables face need operation well_formed own sound mine locks =
    let names = names_left face.hold.names need.names in
    let all = within-left face.hold.locks face.hold.locks need.locks (within-itself face.hold.locks) in
    let needed : Within (operation_needs (seen_by tables face) operation) (face.hold.locks ++ need.locks) = subst (λ (l : List Lock). Within l (face.hold.locks ++ need.locks)) locks (within-right need.locks face.hold.locks need.locks (within-itself need.locks)) in
    let events = (operation_result (seen_by tables face) operation).events in
    record {
      rests = λ is. absurd (true≢false is);
      fitting = fitting_task face.hold.names (face.hold.names ++ need.names) face.hold.locks (face.hold.locks ++ need.locks) face.hold.writes tables operation own.fitting well_formed sound names all mine needed;
      covered = covered_both (face.hold.names ++ need.names) (face.hold.locks ++ need.locks) tables face.hold.writes events (covered_more face.hold.names (face.hold.names ++ need.names) face.hold.locks (face.hold.locks ++ need.locks) tables face.hold.writes names all own.covered)
          (covered_before (face.hold.names ++ need.names) (face.hold.locks ++ need.locks) tables face.hold.writes events (says_covered (face.hold.names ++ need.names) (face.hold.locks ++ need.locks) (seen_by tables face) operation mine needed));
      standing = stand_both tables face.hold.writes events own.standing (stand_before tables face.hold.writes events (said_stand (seen_by tables face) operation));
    }

-- a statement
pub statement_own : (tables : Database) (face : Face) (need : Need) (statement : Statement) → IsWellFormedDatabase tables → OwnFits tables face → need.names ≡ table_of statement ∷ [] → need.locks ≡ row_needs (seen_by tables face) statement
    → OwnFits tables (grown face need (statement_result (seen_by tables face) statement).events)
statement_own tables face need statement well_formed own names locks =
    operation_own tables face need (operation_of statement) well_formed own (statement_sound (seen_by tables face) statement (seen_well_formed tables face well_formed own)) (rw names (names_last face.hold.names (table_of statement))) locks

-- a row that is copied
pub copy_own : (tables : Database) (face : Face) (need : Need) (from into : List ℕ) (map : List MapColumn) (key : List Value) → IsWellFormedDatabase tables → OwnFits tables face → need.names ≡ from ∷ into ∷ []
    → need.locks ≡ operation_needs (seen_by tables face) (copy_operation (seen_by tables face) from into map key) → OwnFits tables (grown face need (operation_result (seen_by tables face) (copy_operation (seen_by tables face) from into map key)).events)
copy_own tables face need from into map key well_formed own names locks =
    operation_own tables face need (copy_operation (seen_by tables face) from into map key) well_formed own (copies_sound (seen_by tables face) from into map key (seen_well_formed tables face well_formed own)) (rw names (names_two face.hold.names from into)) locks
