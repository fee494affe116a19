-- What a statement does keeps what is kept: a transaction is opened, there is more room, and the transaction writes more.
use Rattle.std.proofs.Common.{◌≡◌, ℕ, ◌+◌, ◌≤◌, ◌==◌, Bool, true, false, ◌||◌, List, [], ◌∷◌, ◌++◌, length, cond, Option, Some, None, refl, sym, ap, ◌∙◌, subst, arith}
use Rattle.std.specs.Prelude.{IsSome, IsSomeAnd, IfSome}
use Rattle.std.specs.Option.{option_map}
use Rattle.std.specs.List.{AllByRecursion, list_any}
use Rattle.std.specs.Str.{bytes_eq}
use Rattle.std.proofs.Math.Bool.{or-true}
use Rattle.std.proofs.lemmas.Bool.{false≢true, true≢false}
use Rattle.std.proofs.lemmas.List.Folds.{list_any-append}
use Rattle.base_values.specs.declared.gho_schema.schema.Schema.{Schema}
use Rattle.base_values.specs.declared.event.Change.{Change}
use Rattle.base_values.specs.declared.event.RowEvent.{RowEvent}
use Rattle.table_store.specs.Databases.{TableRows, StoredTable, Database, database, find_table, spare_in}
use Rattle.server_model.specs.Operations.{after_events, events_of}
use Rattle.base_values.proofs.SchemaRules.Lists.{All-append, All-weaker}
use Rattle.server_model.specs.LockedRows.Databases.{IsWellFormedDatabase}
use Rattle.server_model.proofs.LockedRows.Tests.{same_bytes, are_same, are_one}
use Rattle.server_transaction.specs.FittingEvents.{EventsFit}
use Rattle.server_seen.specs.Stored.{StoredWrites}
use Rattle.server_transaction.specs.Premises.{HasSchema, IsOf}
use Rattle.server_transaction.specs.Rooms.{puts_in}
use Rattle.server_transaction.specs.Shown.{find_writes}
use Rattle.server_transaction.specs.Stored.{StoredTxn, TableChanges, HasRoom, events_in, schemas, schemas_with}
use Rattle.server_storage.specs.KeptTxns.Transactions.{HasEvents}
use Rattle.server_storage.proofs.KeptTxns.Transactions.Kept.{begins, grows}
use Rattle.server_storage.specs.declared.open_txns.txns.OpenTxn.{OpenTxn}
use Rattle.server_storage.specs.OpenTxns.Open.{txn_of, with_txn, written_of, puts_open, IsOpened, IsReserved, IsChanged, Takes}
use Rattle.server_storage.proofs.OpenTxns.Changed.{changed_each, changed_puts, changed_there, opened_each, opened_puts, opened_there}
use Rattle.server_storage.specs.KeptTxns.Kept.{IsKept, IsKeptOn}
use Rattle.server_storage.specs.KeptTxns.Laws.{BeginningKeeps, OpeningKeeps, ReservingKeeps, MakingRoomKeeps, RoomMakesReady, WritingKeeps}
use Rattle.server_storage.proofs.KeptTxns.Each.{each_found, each_changed, opened_written, own_before, own_after, others_after}
use Rattle.server_storage.proofs.KeptTxns.Rooms.{puts-append, puts-nil, puts_elsewhere, puts_few, more_room}

-- there is an event of the table of each schema
abbrev Have : List RowEvent → List Schema → Type 0
Have events some = AllByRecursion (λ schema. list_any (λ event. bytes_eq event.table schema.name) events ≡ true) some

-- NONE IS OPEN

pub beginning_keeps : BeginningKeeps
beginning_keeps tables well_formed = record { well_formed = well_formed; one_each = tt; of = tt; events = tt; room = λ name. omega arith }

-- A TRANSACTION IS OPENED

have_none : (events : List RowEvent) (tables : List StoredWrites) → tables ≡ [] → Have events (schemas tables)
have_none events tables none = subst (λ (ts : List StoredWrites). Have events (schemas ts)) (sym none) tt

opened_kept : (tables : List StoredTable) (one : OpenTxn) (txns : List OpenTxn) → IsKept tables txns → txn_of one.session txns ≡ None → one.txn.events ≡ [] → one.txn.tables ≡ [] → IsKept tables (txns ++ one ∷ [])
opened_kept tables one txns kept none no_events no_tables = record {
  well_formed = kept.well_formed;
  one_each = opened_each one.session one txns refl none kept.one_each;
  of = All-append (λ (o : OpenTxn). IsOf (database tables) o.txn) txns (one ∷ []) kept.of (begins (database tables) one.txn no_events no_tables kept.well_formed, tt);
  events = All-append (λ (o : OpenTxn). HasEvents o.txn) txns (one ∷ []) kept.events (have_none one.txn.events one.txn.tables no_tables, tt);
  room = λ name.
      let all = opened_puts name one txns in
      let own = puts-nil name one.txn.events no_events in
      let before = kept.room name in
      omega (arith, all, own, before);
}

pub opening_keeps : OpeningKeeps
opening_keeps tables number before after kept none opened =
    let one : OpenTxn = record { session = number; txn = opened.txn } in
    subst (IsKeptOn tables before) (sym opened.after_is) (record {
      kept = opened_kept tables one before kept none opened.events opened.tables;
      written = λ session. opened_written number session one before refl opened.events none;
    })

-- A TRANSACTION HAS BECOME ANOTHER

changed_kept : (tables : List StoredTable) (number : ℕ) (was now : StoredTxn) (before after : List OpenTxn) → IsKept tables before → IsChanged number was now before after → IsOf (database tables) now → HasEvents now → ((name : List ℕ) → puts_open name (with_txn number now before) ≤ spare_in name tables)
    → IsKept tables after
changed_kept tables number was now before after kept changed of has room = subst (IsKept tables) (sym changed.after_is) (record {
  well_formed = kept.well_formed;
  one_each = changed_each number now before kept.one_each;
  of = each_changed (λ (o : OpenTxn). IsOf (database tables) o.txn) number now before kept.of (λ one. of);
  events = each_changed (λ (o : OpenTxn). HasEvents o.txn) number now before kept.events (λ one. has);
  room = room;
})

-- what it was is one of the database
was_of : (tables : List StoredTable) (number : ℕ) (was now : StoredTxn) (before after : List OpenTxn) → IsKept tables before → IsChanged number was now before after → IsOf (database tables) was
was_of tables number was now before after kept changed = subst (IsOf (database tables)) (sym changed.was_is) (each_found (λ (o : OpenTxn). IsOf (database tables) o.txn) number changed.found before kept.of changed.there)

was_having : (tables : List StoredTable) (number : ℕ) (was now : StoredTxn) (before after : List OpenTxn) → IsKept tables before → IsChanged number was now before after → HasEvents was
was_having tables number was now before after kept changed = subst HasEvents (sym changed.was_is) (each_found (λ (o : OpenTxn). HasEvents o.txn) number changed.found before kept.events changed.there)

-- the rows that all put then
changed_room : (tables : List StoredTable) (number : ℕ) (was now : StoredTxn) (before after : List OpenTxn) (name : List ℕ) (more : ℕ) → IsChanged number was now before after → puts_in name now.events ≡ puts_in name was.events + more → puts_open name before + more ≤ spare_in name tables
    → puts_open name (with_txn number now before) ≤ spare_in name tables
changed_room tables number was now before after name more changed own room =
    let all = changed_puts name number now changed.found before changed.there in
    let same = ap (λ (t : StoredTxn). puts_in name t.events) changed.was_is in
    omega (arith, all, same, own, room)

-- it has more room
pub reserving_keeps : ReservingKeeps
reserving_keeps tables number before after kept reserved =
    let was = reserved.was in
    let now = reserved.now in
    let of = was_of tables number was now before after kept reserved.changed in
    record {
      kept = changed_kept tables number was now before after kept reserved.changed
          (record {
            fit = subst (EventsFit (database tables)) (sym reserved.events) of.fit;
            well_formed = subst (λ (es : List RowEvent). IsWellFormedDatabase (after_events (database tables) es)) (sym reserved.events) of.well_formed;
            stand = subst (AllByRecursion (HasSchema (database tables))) (sym reserved.schemas_are) of.stand;
          })
          (subst (λ (es : List RowEvent). Have es (schemas now.tables)) (sym reserved.events) (subst (Have was.events) (sym reserved.schemas_are) (was_having tables number was now before after kept reserved.changed)))
          (λ name. changed_room tables number was now before after name 0 reserved.changed (let same = ap (puts_in name) reserved.events in omega (arith, same)) (let room = kept.room name in omega (arith, room)));
      written = λ session. at session (session == number) refl;
    }
  where
    at : (session : ℕ) (b : Bool) → (session == number) ≡ b → written_of session after ≡ written_of session before
    at session true is =
        let own : written_of number after ≡ written_of number before = own_after number reserved.was reserved.now before after reserved.changed ∙ reserved.events ∙ sym (own_before number reserved.was reserved.now before after reserved.changed) in
        subst (λ (n : ℕ). written_of n after ≡ written_of n before) (sym (are_one session number is)) own
    at session false differ = others_after number session reserved.was reserved.now before after reserved.changed differ

-- A TABLE HAS MORE ROOM

pub making_room_keeps : MakingRoomKeeps
making_room_keeps own was now txns kept same more others = record {
  well_formed = subst IsWellFormedDatabase (sym same) kept.well_formed;
  one_each = kept.one_each;
  of = subst (λ (ts : Database). AllByRecursion (λ (o : OpenTxn). IsOf ts o.txn) txns) (sym same) kept.of;
  events = kept.events;
  room = λ name. let before = kept.room name in let room = more_room own name was now others more in omega (arith, before, room);
}

-- WRITES ARE READY

-- what was written to a table that stands with this schema is known by it
known_first : (tables : Database) (schema : Schema) (first : StoredWrites) (others : List StoredWrites) (b : Bool) → bytes_eq first.schema.name schema.name ≡ b → HasSchema tables first.schema → HasSchema tables schema
    → IfSome (find_writes schema.name others) (λ table. table.schema ≡ schema) → IfSome (cond b (Some first) (find_writes schema.name others)) (λ table. table.schema ≡ schema)
known_first tables schema first others true is has own rest =
    let there : option_map (λ (t : TableRows). t.schema) (find_table schema.name tables) ≡ Some first.schema = subst (λ (n : List ℕ). option_map (λ (t : TableRows). t.schema) (find_table n tables) ≡ Some first.schema) (are_same first.schema.name schema.name is) has in
    let both : Some first.schema ≡ Some schema = sym there ∙ own in
    let same : first.schema ≡ schema = cc in
    same
known_first tables schema first others false is has own rest = rest

known_by : (tables : Database) (schema : Schema) (written : List StoredWrites) → AllByRecursion (HasSchema tables) (schemas written) → HasSchema tables schema → IfSome (find_writes schema.name written) (λ table. table.schema ≡ schema)
known_by tables schema [] all own = tt
known_by tables schema (first ∷ written) all own = known_first tables schema first written (bytes_eq first.schema.name schema.name) refl all.0 own (known_by tables schema written all.1 own)

taken_by : (tables : Database) (writes : TableChanges) (number : ℕ) (txns : List OpenTxn) → AllByRecursion (λ one. IsOf tables one.txn) txns → IsSome (txn_of number txns) → IfSome (txn_of number txns) (λ one. HasRoom one.txn writes) → HasSchema tables writes.schema
    → IsSomeAnd (txn_of number txns) (λ one. Takes writes one.txn)
taken_by tables writes number txns all some room has = at (txn_of number txns) refl some room where
  at : (found : Option OpenTxn) → txn_of number txns ≡ found → IsSome found → IfSome found (λ one. HasRoom one.txn writes) → IsSomeAnd found (λ one. Takes writes one.txn)
  at None is some room = absurd (false≢true some)
  at (Some one) is some room =
      let of : IsOf tables one.txn = each_found (λ (o : OpenTxn). IsOf tables o.txn) number one txns all is in
      record { room = room; schema = known_by tables writes.schema one.txn.tables of.stand has }

pub room_makes_ready : RoomMakesReady
room_makes_ready tables txns number count writes kept some room has written counted spare = record {
  takes = taken_by (database tables) writes number txns kept.of some room has;
  has = has;
  some = written;
  room = λ name. at name (bytes_eq writes.schema.name name) refl;
} where
  at : (name : List ℕ) (b : Bool) → bytes_eq writes.schema.name name ≡ b → puts_open name txns + puts_in name (events_in writes) ≤ spare_in name tables
  at name true is =
      let here : count + length writes.changes ≤ spare_in name tables = subst (λ (n : List ℕ). count + length writes.changes ≤ spare_in n tables) (are_same writes.schema.name name is) spare in
      let all = counted name in
      let own = puts_few name writes in
      omega (arith, here, all, own)
  at name false differ =
      let all = kept.room name in
      let own : puts_in name (events_in writes) ≡ 0 = puts_elsewhere name writes.schema.name writes.changes differ in
      omega (arith, all, own)

-- THE TRANSACTION WRITES

-- there is an event still, and one of what is written
have_still : (events more : List RowEvent) (some : List Schema) → Have events some → Have (events ++ more) some
have_still events more some has =
    All-weaker (λ (s : Schema). list_any (λ (e : RowEvent). bytes_eq e.table s.name) events ≡ true) (λ (s : Schema). list_any (λ (e : RowEvent). bytes_eq e.table s.name) (events ++ more) ≡ true)
    (λ s here. list_any-append (λ (e : RowEvent). bytes_eq e.table s.name) events more ∙ ap (λ (b : Bool). b || list_any (λ (e : RowEvent). bytes_eq e.table s.name) more) here) some has

have_first : (writes : TableChanges) → (length writes.changes == 0) ≡ false → list_any (λ (e : RowEvent). bytes_eq e.table writes.schema.name) (events_in writes) ≡ true
have_first writes some = at writes.changes some where
  at : (changes : List Change) → (length changes == 0) ≡ false → list_any (λ (e : RowEvent). bytes_eq e.table writes.schema.name) (events_of writes.schema.name changes) ≡ true
  at [] some = absurd (true≢false some)
  at (change ∷ changes) some = ap (λ (b : Bool). b || list_any (λ (e : RowEvent). bytes_eq e.table writes.schema.name) (events_of writes.schema.name changes)) (same_bytes writes.schema.name)

have_new : (events : List RowEvent) (writes : TableChanges) → (length writes.changes == 0) ≡ false → list_any (λ (e : RowEvent). bytes_eq e.table writes.schema.name) (events ++ events_in writes) ≡ true
have_new events writes some =
    list_any-append (λ (e : RowEvent). bytes_eq e.table writes.schema.name) events (events_in writes)
    ∙ ap (λ (b : Bool). list_any (λ (e : RowEvent). bytes_eq e.table writes.schema.name) events || b) (have_first writes some)
    ∙ or-true (list_any (λ (e : RowEvent). bytes_eq e.table writes.schema.name) events)

have_with : (events : List RowEvent) (some : List Schema) (schema : Schema) (b : Bool) → Have events some → list_any (λ (e : RowEvent). bytes_eq e.table schema.name) events ≡ true → Have events (cond b some (some ++ schema ∷ []))
have_with events some schema true has new = has
have_with events some schema false has new = All-append (λ (s : Schema). list_any (λ (e : RowEvent). bytes_eq e.table s.name) events ≡ true) some (schema ∷ []) has (new, tt)

have_more : (was now : StoredTxn) (writes : TableChanges) → HasEvents was → (length writes.changes == 0) ≡ false → now.events ≡ was.events ++ events_in writes → schemas now.tables ≡ schemas_with writes.schema (schemas was.tables) → HasEvents now
have_more was now writes has some events_are schemas_are =
    let all : List RowEvent = was.events ++ events_in writes in
    let with_all : Have all (schemas_with writes.schema (schemas was.tables)) =
    have_with all (schemas was.tables) writes.schema (list_any (λ (s : Schema). bytes_eq s.name writes.schema.name) (schemas was.tables)) (have_still was.events (events_in writes) (schemas was.tables) has) (have_new was.events writes some) in
    subst (λ (es : List RowEvent). Have es (schemas now.tables)) (sym events_are) (subst (Have all) (sym schemas_are) with_all)

pub writing_keeps : WritingKeeps
writing_keeps tables number writes before after kept ready fit well_formed written =
    let was = written.was in
    let now = written.now in
    let own = own_before number was now before after written.changed in
    record {
      kept = changed_kept tables number was now before after kept written.changed
          (grows (database tables) was now writes.schema (events_in writes) (was_of tables number was now before after kept written.changed) ready.has
          (subst (λ (es : List RowEvent). EventsFit (after_events (database tables) es) (events_in writes)) own fit)
          (subst (λ (es : List RowEvent). IsWellFormedDatabase (after_events (after_events (database tables) es) (events_in writes))) own well_formed) written.events written.schemas_are)
          (have_more was now writes (was_having tables number was now before after kept written.changed) ready.some written.events written.schemas_are)
          (λ name. changed_room tables number was now before after name (puts_in name (events_in writes)) written.changed (ap (puts_in name) written.events ∙ puts-append name was.events (events_in writes)) (ready.room name));
      own = own_after number was now before after written.changed ∙ written.events ∙ ap (λ (es : List RowEvent). es ++ events_in writes) (sym own);
      others = λ other differ. others_after number other was now before after written.changed differ;
    }

-- THE SESSION'S TRANSACTION IS THERE

pub opened_some : (number : ℕ) (before after : List OpenTxn) → txn_of number before ≡ None → IsOpened number before after → IsSome (txn_of number after)
opened_some number before after none opened =
    let one : OpenTxn = record { session = number; txn = opened.txn } in
    subst (λ (ts : List OpenTxn). IsSome (txn_of number ts)) (sym opened.after_is) (subst (λ (o : Option OpenTxn). IsSome o) (sym (opened_there number one before refl none)) refl)

pub reserved_some : (number : ℕ) (before after : List OpenTxn) → IsReserved number before after → IsSome (txn_of number after)
reserved_some number before after reserved =
    let changed = reserved.changed in
    subst (λ (ts : List OpenTxn). IsSome (txn_of number ts)) (sym changed.after_is) (subst (λ (o : Option OpenTxn). IsSome o) (sym (changed_there number reserved.now changed.found before changed.there)) refl)
