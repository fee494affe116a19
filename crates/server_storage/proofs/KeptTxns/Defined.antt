-- A table that is created, dropped or renamed keeps what is kept.
use Rattle.std.proofs.Common.{◌≡◌, ℕ, ◌+◌, ◌≤◌, Bool, true, false, not, ◌||◌, List, [], ◌∷◌, ◌++◌, cond, Ok, Err, refl, sym, ap, ◌∙◌, subst, arith}
use Rattle.std.specs.List.{AllByRecursion, list_any}
use Rattle.std.specs.Str.{bytes_eq}
use Rattle.std.proofs.lemmas.Bool.{true≢false}
use Rattle.std.proofs.lemmas.List.{map_push}
use Rattle.std.proofs.lemmas.List.Sums.{sum_by-cons}
use Rattle.base_values.specs.declared.value.Value.{Value}
use Rattle.base_values.specs.declared.gho_schema.schema.Schema.{Schema}
use Rattle.base_values.specs.declared.event.RowEvent.{RowEvent}
use Rattle.table_store.specs.Databases.{TableRows, StoredTable, Database, database, has_table, spare_in, spares, is_named, name_table, with_name, without_table, rename_tables, others}
use Rattle.table_store.specs.declared.renames.Pair.{Pair}
use Rattle.table_store.specs.declared.renames.NotRenamed.TheVariants as reasons
use Rattle.server_model.specs.States.{pair_names}
use Rattle.server_model.specs.LockedRows.Coverage.{IsWellFormedTable}
use Rattle.server_model.specs.LockedRows.Databases.{IsWellFormedDatabase}
use Rattle.server_model.proofs.LockedRows.Tests.{are_same, turned_bytes, nor_left, nor_right}
use Rattle.proof_journals.proofs.Moves.{create_moves, drop_moves, rename_moves}
use Rattle.server_transaction.specs.FittingEvents.{NoneOf}
use Rattle.server_transaction.specs.Premises.{IsOf}
use Rattle.server_transaction.specs.Rooms.{puts_of, puts_in}
use Rattle.server_storage.specs.KeptTxns.Transactions.{HasEvents}
use Rattle.server_storage.proofs.KeptTxns.Transactions.Moved.{outlasts_creations, outlasts_drops, outlasts_renames}
use Rattle.server_storage.specs.declared.open_txns.txns.OpenTxn.{OpenTxn}
use Rattle.server_storage.specs.OpenTxns.Open.{puts_open}
use Rattle.server_storage.specs.KeptTxns.Kept.{IsKept}
use Rattle.server_storage.specs.KeptTxns.Laws.{CreatingKeeps, DroppingKeeps, RenamingKeeps}
use Rattle.server_storage.proofs.KeptTxns.Each.{each_written}
use Rattle.server_storage.proofs.KeptTxns.Rooms.{spare_first, spare_left}

-- A TABLE IS CREATED

more_first : (b : Bool) (room before after was now : ℕ) → was ≡ cond b room before → now ≡ cond b room after → before ≤ after → was ≤ now
more_first true room before after was now was_is now_is more = omega (arith, was_is, now_is)
more_first false room before after was now was_is now_is more = omega (arith, was_is, now_is, more)

more_spare : (name : List ℕ) (tables : List StoredTable) (new : StoredTable) → spare_in name tables ≤ spare_in name (tables ++ new ∷ [])
more_spare name [] new = omega arith
more_spare name (first ∷ tables) new =
    more_first (is_named name first.table) first.spare (spare_in name tables) (spare_in name (tables ++ new ∷ [])) (spare_in name (first ∷ tables)) (spare_in name (first ∷ tables ++ new ∷ [])) (spare_first name first tables) (spare_first name first (tables ++ new ∷ [])) (more_spare name tables new)

abbrev as_table : Schema → List (List Value) → TableRows
as_table schema rows = record { schema = schema; rows = rows }

same_table : (table : TableRows) (schema : Schema) → table.schema ≡ schema → table.rows ≡ [] → table ≡ record { schema = schema; rows = [] }
same_table table schema is none = ap (λ (s : Schema). as_table s table.rows) is ∙ ap (as_table schema) none

-- the tables with the new one
pub created : (tables : List StoredTable) (schema : Schema) (new : StoredTable) → new.table.schema ≡ schema → new.table.rows ≡ [] → database (tables ++ new ∷ []) ≡ database tables ++ record { schema = schema; rows = [] } ∷ []
created tables schema new is none = map_push (λ (s : StoredTable). s.table) tables new ∙ ap (λ (t : TableRows). database tables ++ t ∷ []) (same_table new.table schema is none)

each_created : (tables : Database) (schema : Schema) (txns : List OpenTxn) → IsWellFormedDatabase tables → IsWellFormedTable (record { schema = schema; rows = [] }) → has_table schema.name tables ≡ false → AllByRecursion (λ one. IsOf tables one.txn) txns
    → AllByRecursion (λ one. IsOf (tables ++ record { schema = schema; rows = [] } ∷ []) one.txn) txns
each_created tables schema [] well_formed new absent of = tt
each_created tables schema (one ∷ txns) well_formed new absent of = (outlasts_creations tables schema one.txn well_formed of.0 new absent, each_created tables schema txns well_formed new absent of.1)

pub creating_keeps : CreatingKeeps
creating_keeps tables schema new txns kept well_formed absent is none =
    let after = created tables schema new is none in
    record {
      well_formed = subst IsWellFormedDatabase (sym after) ((create_moves schema (database tables) well_formed).well_formed kept.well_formed);
      one_each = kept.one_each;
      of = subst (λ (ts : Database). AllByRecursion (λ (o : OpenTxn). IsOf ts o.txn) txns) (sym after) (each_created (database tables) schema txns kept.well_formed well_formed absent kept.of);
      events = kept.events;
      room = λ name. let before = kept.room name in let more = more_spare name tables new in omega (arith, before, more);
    }

-- TABLES TO WHICH NONE WROTE

-- ... have no rows put into them
none_first : (name : List ℕ) (names : List (List ℕ)) (table : List ℕ) (n m : ℕ) (b : Bool) → bytes_eq table name ≡ b → list_any (bytes_eq name) names ≡ true → list_any (bytes_eq table) names ≡ false → m ≡ 0 → cond b (n + m) m ≡ 0
none_first name names table n m true is here off rest = absurd (true≢false (sym here ∙ ap (λ (k : List ℕ). list_any (bytes_eq k) names) (sym (are_same table name is)) ∙ off))
none_first name names table n m false is here off rest = rest

none_put : (name : List ℕ) (names : List (List ℕ)) (events : List RowEvent) → list_any (bytes_eq name) names ≡ true → NoneOf names events → puts_in name events ≡ 0
unfolding puts_in
none_put name names [] here none = refl
none_put name names (event ∷ events) here none = none_first name names event.table (puts_of event.change) (puts_in name events) (bytes_eq event.table name) refl here none.0 (none_put name names events here none.1)

none_open : (name : List ℕ) (names : List (List ℕ)) (txns : List OpenTxn) → list_any (bytes_eq name) names ≡ true → AllByRecursion (λ one. NoneOf names one.txn.events) txns → puts_open name txns ≡ 0
none_open name names [] here none = refl
none_open name names (one ∷ txns) here none =
    let all = sum_by-cons (λ (o : OpenTxn). puts_in name o.txn.events) one txns in
    let own = none_put name names one.txn.events here none.0 in
    let rest = none_open name names txns here none.1 in
    omega (arith, all, own, rest)

-- the room that is needed is there, where the others' tables have the room that they had
room_still : (names : List (List ℕ)) (was now : List StoredTable) (txns : List OpenTxn) → IsKept was txns → AllByRecursion (λ one. NoneOf names one.txn.events) txns → ((name : List ℕ) → list_any (bytes_eq name) names ≡ false → spare_in name now ≡ spare_in name was)
    → (name : List ℕ) → puts_open name txns ≤ spare_in name now
room_still names was now txns kept none same name = at (list_any (bytes_eq name) names) refl where
  at : (b : Bool) → list_any (bytes_eq name) names ≡ b → puts_open name txns ≤ spare_in name now
  at true here = let no = none_open name names txns here none in omega (arith, no)
  at false off = let room = kept.room name in let e = same name off in omega (arith, room, e)

-- A TABLE IS DROPPED

left_first : (b : Bool) (first : StoredTable) (rest : List StoredTable) (left : Database) → database rest ≡ left → database (cond (not b) (first ∷ rest) rest) ≡ cond (not b) (first.table ∷ left) left
left_first true first rest left is = is
left_first false first rest left is = ap (λ (ts : Database). first.table ∷ ts) is

-- the tables without the one of this name
pub dropped : (name : List ℕ) (tables : List StoredTable) → database (others name tables) ≡ without_table name (database tables)
dropped name [] = refl
dropped name (first ∷ tables) = left_first (is_named name first.table) first (others name tables) (without_table name (database tables)) (dropped name tables)

each_dropped : (tables : Database) (name : List ℕ) (txns : List OpenTxn) → IsWellFormedDatabase tables → AllByRecursion (λ one. NoneOf (name ∷ []) one.txn.events) txns → AllByRecursion (λ one. HasEvents one.txn) txns → AllByRecursion (λ one. IsOf tables one.txn) txns
    → AllByRecursion (λ one. IsOf (without_table name tables) one.txn) txns
each_dropped tables name [] well_formed none has of = tt
each_dropped tables name (one ∷ txns) well_formed none has of = (outlasts_drops tables name one.txn well_formed of.0 has.0 none.0, each_dropped tables name txns well_formed none.1 has.1 of.1)

pub dropping_keeps : DroppingKeeps
dropping_keeps tables name txns kept none =
    let each : AllByRecursion (λ (o : OpenTxn). NoneOf (name ∷ []) o.txn.events) txns = each_written (NoneOf (name ∷ [])) txns tt kept.one_each none in
    record {
      well_formed = subst IsWellFormedDatabase (sym (dropped name tables)) ((drop_moves name (database tables)).well_formed kept.well_formed);
      one_each = kept.one_each;
      of = subst (λ (ts : Database). AllByRecursion (λ (o : OpenTxn). IsOf ts o.txn) txns) (sym (dropped name tables)) (each_dropped (database tables) name txns kept.well_formed each kept.events kept.of);
      events = kept.events;
      room = room_still (name ∷ []) tables (others name tables) txns kept each (λ other off. spare_left name other tables (turned_bytes other name (nor_left (bytes_eq other name) false off)));
    }

-- TABLES ARE RENAMED

-- the room of the table of this name, by the places of the tables
abbrev room_at : List ℕ → Database → List ℕ → ℕ
room_at name [] rooms = 0
room_at name (table ∷ tables) [] = 0
room_at name (table ∷ tables) (room ∷ rooms) = cond (is_named name table) room (room_at name tables rooms)

spare_at : (name : List ℕ) (tables : List StoredTable) → spare_in name tables ≡ room_at name (database tables) (spares tables)
spare_at name [] = refl
spare_at name (first ∷ tables) = spare_first name first tables ∙ ap (cond (is_named name first.table) first.spare) (spare_at name tables)

-- a table that has another name was not, and is not, of a third one
still_named : (old new name : List ℕ) (table : TableRows) (b : Bool) → is_named old table ≡ b → bytes_eq name old ≡ false → bytes_eq name new ≡ false → is_named name (cond b (name_table new table) table) ≡ is_named name table
still_named old new name table true is one two =
    let off : bytes_eq table.schema.name name ≡ false = ap (λ (n : List ℕ). bytes_eq n name) (are_same table.schema.name old is) ∙ turned_bytes name old one in
    turned_bytes name new two ∙ sym off
still_named old new name table false is one two = refl

room_renamed : (old new name : List ℕ) (tables : Database) (rooms : List ℕ) → bytes_eq name old ≡ false → bytes_eq name new ≡ false → room_at name (with_name old new tables) rooms ≡ room_at name tables rooms
room_renamed old new name [] rooms one two = refl
room_renamed old new name (table ∷ tables) [] one two = refl
room_renamed old new name (table ∷ tables) (room ∷ rooms) one two =
    ap (λ (b : Bool). cond b room (room_at name (with_name old new tables) rooms)) (still_named old new name table (is_named old table) refl one two) ∙ ap (cond (is_named name table) room) (room_renamed old new name tables rooms one two)

rooms_renamed : (name : List ℕ) (pairs : List Pair) (tables after : Database) (rooms : List ℕ) → rename_tables pairs tables ≡ Ok after → list_any (bytes_eq name) (pair_names pairs) ≡ false → room_at name after rooms ≡ room_at name tables rooms
unfolding rename_tables
rooms_renamed name [] tables after rooms is off = let same : tables ≡ after = cc in ap (λ (ts : Database). room_at name ts rooms) (sym same)
rooms_renamed name (pair ∷ pairs) tables after rooms is off = at (has_table pair.new tables) (has_table pair.old tables) is (λ done off. rooms_renamed name pairs (with_name pair.old pair.new tables) after rooms done off) where
  at : (b c : Bool) → cond b (Err reasons.Exists) (cond c (rename_tables pairs (with_name pair.old pair.new tables)) (Err reasons.Missing)) ≡ Ok after
      → (rename_tables pairs (with_name pair.old pair.new tables) ≡ Ok after → list_any (bytes_eq name) (pair_names pairs) ≡ false → room_at name after rooms ≡ room_at name (with_name pair.old pair.new tables) rooms) → room_at name after rooms ≡ room_at name tables rooms
  at true c is rest = absurd (cc)
  at false false is rest = absurd (cc)
  at false true is rest =
      let one : bytes_eq name pair.old ≡ false = nor_left (bytes_eq name pair.old) (bytes_eq name pair.new || list_any (bytes_eq name) (pair_names pairs)) off in
      let more = nor_right (bytes_eq name pair.old) (bytes_eq name pair.new || list_any (bytes_eq name) (pair_names pairs)) off in
      let two : bytes_eq name pair.new ≡ false = nor_left (bytes_eq name pair.new) (list_any (bytes_eq name) (pair_names pairs)) more in
      rest is (nor_right (bytes_eq name pair.new) (list_any (bytes_eq name) (pair_names pairs)) more) ∙ room_renamed pair.old pair.new name tables rooms one two

spare_renamed : (name : List ℕ) (pairs : List Pair) (was now : List StoredTable) → rename_tables pairs (database was) ≡ Ok (database now) → spares now ≡ spares was → list_any (bytes_eq name) (pair_names pairs) ≡ false → spare_in name now ≡ spare_in name was
spare_renamed name pairs was now renamed same off =
    spare_at name now ∙ ap (room_at name (database now)) same ∙ rooms_renamed name pairs (database was) (database now) (spares was) renamed off ∙ sym (spare_at name was)

each_renamed : (pairs : List Pair) (tables after : Database) (txns : List OpenTxn) → IsWellFormedDatabase tables → rename_tables pairs tables ≡ Ok after → AllByRecursion (λ one. NoneOf (pair_names pairs) one.txn.events) txns → AllByRecursion (λ one. HasEvents one.txn) txns
    → AllByRecursion (λ one. IsOf tables one.txn) txns → AllByRecursion (λ one. IsOf after one.txn) txns
each_renamed pairs tables after [] well_formed renamed none has of = tt
each_renamed pairs tables after (one ∷ txns) well_formed renamed none has of = (outlasts_renames pairs tables after one.txn well_formed of.0 has.0 none.0 renamed, each_renamed pairs tables after txns well_formed renamed none.1 has.1 of.1)

pub renaming_keeps : RenamingKeeps
renaming_keeps pairs was now txns kept none renamed same =
    let each : AllByRecursion (λ (o : OpenTxn). NoneOf (pair_names pairs) o.txn.events) txns = each_written (NoneOf (pair_names pairs)) txns tt kept.one_each none in
    record {
      well_formed = (rename_moves pairs (database was) (database now) renamed).well_formed kept.well_formed;
      one_each = kept.one_each;
      of = each_renamed pairs (database was) (database now) txns kept.well_formed renamed each kept.events kept.of;
      events = kept.events;
      room = room_still (pair_names pairs) was now txns kept each (λ name off. spare_renamed name pairs was now renamed same off);
    }
