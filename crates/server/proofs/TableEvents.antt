-- What a session writes to tables of valid schemas are events of tables.
use Rattle.std.proofs.Common.{◌≡◌, ℕ, zero, suc, ◌+◌, ◌-◌, ◌*◌, ◌^◌, ◌<◌, ◌≤◌, Bool, true, false, ◌&&◌, cond, eqb, List, [], ◌∷◌, length, Option, Some, None, refl, sym, ap, ◌∙◌, subst, arith, lit<}
use Rattle.std.specs.Prelude.{ℤ, pos, negsuc, neg_ℤ, int_le, find, is_some, nat_le}
use Rattle.std.specs.List.{AllByRecursion}
use Rattle.std.proofs.lemmas.Bool.{and_from, and_parts, false≢true, leb-true, le-leb}
use Rattle.base_values.specs.declared.event.Change.{Change}
use Rattle.base_values.specs.declared.event.Change.TheVariants.{Write, Update, Delete}
use Rattle.base_values.specs.declared.event.RowEvent.{RowEvent}
use Rattle.base_values.specs.declared.gho_schema.schema.Column.{Column}
use Rattle.base_values.specs.declared.gho_schema.schema.Schema.{Schema}
use Rattle.base_values.specs.declared.kind.Kind.{Kind}
use Rattle.base_values.specs.declared.kind.Kind.TheVariants.{Int, VarChar, VarBinary}
use Rattle.base_values.specs.declared.value.Value.{Value}
use Rattle.base_values.specs.declared.value.Value.TheVariants.{Null, Num, Text, Blob}
use Rattle.base_values.specs.GhoSchema.Tables.{IsRow}
use Rattle.base_values.specs.SchemaRules.Valid.{is_kind, IsColumn}
use Rattle.base_values.specs.StoredValues.{character_count, fits, half, highest, lowest}
use Rattle.base_values.proofs.SchemaRules.Lists.{All-append}
use Rattle.base_values.proofs.StoredValues.{keeps}
use Rattle.table_store.specs.Databases.{TableRows, Database, find_table, is_named, with_change}
use Rattle.table_store.proofs.Orders.{Row}
use Rattle.server_log.specs.Encodings.{columns_of, is_number, values_of, RowsAlike}
use Rattle.server_log.specs.EventCosts.TableEvents.{IsStoredValue, IsTableEvent}
use Rattle.server_model.specs.declared.need.Need.{Need}
use Rattle.server_model.specs.Conditions.{IsNewSchema, IsTableName}
use Rattle.server_model.specs.Operations.{after_events, change_table}
use Rattle.server_model.specs.States.{State}
use Rattle.server_model.specs.LockedRows.Coverage.{IsWellFormedTable}
use Rattle.server_model.specs.LockedRows.Databases.{IsWellFormedDatabase, WhereFound}
use Rattle.server_model.proofs.LockedRows.Counters.{found_named}
use Rattle.proof_journals.specs.Ghost.Rows.Moments.{Fits}
use Rattle.proof_journals.specs.Ghost.FittingEvents.{EventsFit}
use Rattle.proof_journals.specs.Holdings.{Face, face_of}
use Rattle.proof_journals.specs.ServerFacts.Grants.{grown, GrowsWell}
use Rattle.proof_journals.specs.ServerFacts.Invariants.{AllExist}
use Rattle.proof_journals.proofs.Ghost.Fitting.{fitting_end, well_formed_event}
use Rattle.proof_journals.proofs.ServerFacts.Calls.{kept_in}
use Rattle.proof_journals.proofs.ServerFacts.Granted.{seen_well_formed}
use Rattle.proof_journals.proofs.ServerFacts.Kept.{Keeps}
use Rattle.server.specs.Parts.{state_of, GoTogether, HaveValidSchemas}
use Rattle.server.proofs.Fits.{fit_after, stand_after, stand_event, stand_seen}
use Rattle.server.proofs.ValidSchemas.{event_valid, events_valid}

-- NUMBERS

cond_most : (b : Bool) (x y most : ℕ) → x < most → y < most → cond b x y < most
cond_most true x y most one other = one
cond_most false x y most one other = other

half_few : (bytes : ℕ) → half bytes < 2 ^ 63 + 1
unfolding half
half_few bytes =
    cond_most (eqb bytes 1) (2 ^ 7) (cond (eqb bytes 2) (2 ^ 15) (cond (eqb bytes 3) (2 ^ 23) (cond (eqb bytes 4) (2 ^ 31) (2 ^ 63)))) (2 ^ 63 + 1) (lit< tt)
    (cond_most (eqb bytes 2) (2 ^ 15) (cond (eqb bytes 3) (2 ^ 23) (cond (eqb bytes 4) (2 ^ 31) (2 ^ 63))) (2 ^ 63 + 1) (lit< tt)
    (cond_most (eqb bytes 3) (2 ^ 23) (cond (eqb bytes 4) (2 ^ 31) (2 ^ 63)) (2 ^ 63 + 1) (lit< tt) (cond_most (eqb bytes 4) (2 ^ 31) (2 ^ 63) (2 ^ 63 + 1) (lit< tt) (lit< tt))))

within_twice : (n h a b : ℕ) → n ≤ 2 * h - 1 → h < a → 2 * a < b + 4 → n ≤ b
within_twice n h a b le lt most = omega arith

within_half : (n h a b : ℕ) → n ≤ h - 1 → h < a → a < b → n ≤ b
within_half n h a b le lt most = omega arith

below_half : (n h a b : ℕ) → n < h → h < a → a < b + 3 → n ≤ b
below_half n h a b lt most few = omega arith

above_lowest : (h n : ℕ) → int_le (neg_ℤ (pos h)) (negsuc n) ≡ true → n < h
above_lowest zero n e = absurd cc
above_lowest (suc k) n e = let le = leb-true n k e in omega (arith, le)

-- a number in an integer column's range
number_fits : (number : ℤ) (bytes : ℕ) (unsigned : Bool) → (int_le (lowest bytes unsigned) number && int_le number (highest bytes unsigned)) ≡ true → is_number number ≡ true
number_fits (pos n) bytes true e = le-leb n (2 ^ 64 - 1) (within_twice n (half bytes) (2 ^ 63 + 1) (2 ^ 64 - 1) (leb-true n (2 * half bytes - 1) ((and_parts _ _ e).1)) (half_few bytes) (lit< tt))
number_fits (pos n) bytes false e = le-leb n (2 ^ 64 - 1) (within_half n (half bytes) (2 ^ 63 + 1) (2 ^ 64 - 1) (leb-true n (half bytes - 1) ((and_parts _ _ e).1)) (half_few bytes) (lit< tt))
number_fits (negsuc n) bytes true e = absurd cc
number_fits (negsuc n) bytes false e =
    and_from (nat_le n (2 ^ 63 - 1)) true (le-leb n (2 ^ 63 - 1) (below_half n (half bytes) (2 ^ 63 + 1) (2 ^ 63 - 1) (above_lowest (half bytes) n ((and_parts _ _ e).0)) (half_few bytes) (lit< tt))) refl

-- ROWS

fits_stored : (value : Value) (kind : Kind) → is_kind kind ≡ true → fits value kind ≡ true → IsStoredValue value
unfolding fits
fits_stored Null kind is fit = tt
fits_stored (Num n) (Int bytes unsigned) is fit = number_fits n bytes unsigned fit
fits_stored (Num n) (VarChar limit) is fit = absurd cc
fits_stored (Num n) (VarBinary limit) is fit = absurd cc
fits_stored (Text text) (Int bytes unsigned) is fit = absurd cc
fits_stored (Text text) (VarChar limit) is fit =
    let few = leb-true (character_count text) limit fit in
    let most = leb-true limit 1000 (and_parts (nat_le 1 limit) (nat_le limit 1000) is).1 in
    omega (arith, few, most)
fits_stored (Text text) (VarBinary limit) is fit = absurd cc
fits_stored (Blob blob) (Int bytes unsigned) is fit = absurd cc
fits_stored (Blob blob) (VarChar limit) is fit = absurd cc
fits_stored (Blob blob) (VarBinary limit) is fit =
    let few = leb-true (length blob) limit fit in
    let most = leb-true limit 1000 (and_parts (nat_le 1 limit) (nat_le limit 1000) is).1 in
    omega (arith, few, most)

row_stored : (columns : List Column) (row : Row) → AllByRecursion IsColumn columns → IsRow columns row → AllByRecursion IsStoredValue row × (length row ≡ length columns)
row_stored [] [] valid is = (tt, refl)
row_stored [] (value ∷ row) valid is = absurd is
row_stored (column ∷ columns) [] valid is = absurd is
row_stored (column ∷ columns) (value ∷ row) valid is =
    let rest = row_stored columns row valid.1 is.1 in
    ((fits_stored value column.kind valid.0.kind (keeps value column.kind column.nullable value is.0).fit, rest.0), ap suc rest.1)

-- CHANGES

record IsOfColumns (columns : List Column) (change : Change) : Type 0 where
  pub count : columns_of change ≡ length columns
  pub alike : RowsAlike change
  pub values : AllByRecursion IsStoredValue (values_of change)

found_row : (P : Row → Type 0) (test : Row → Bool) (row : Row) (rows : List Row) → AllByRecursion P rows → find test rows ≡ Some row → P row
found_row P test row [] all is = absurd cc
found_row P test row (first ∷ rows) all is = by (test first) is (found_row P test row rows all.1) where
  by : (b : Bool) → cond b (Some first) (find test rows) ≡ Some row → (find test rows ≡ Some row → P row) → P row
  by true is rest = let same : first ≡ row = cc in subst P same all.0
  by false is rest = rest is

change_of_columns : (schema : Schema) (rows : List Row) (change : Change) → AllByRecursion IsColumn schema.columns → AllByRecursion (IsRow schema.columns) rows → Fits schema rows change → IsOfColumns schema.columns change
change_of_columns schema rows (Write row) valid are fits =
    let new = row_stored schema.columns row valid fits.0 in
    record { count = new.1; alike = tt; values = new.0 }
change_of_columns schema rows (Update before after) valid are fits =
    let old = row_stored schema.columns before valid (found_row (IsRow schema.columns) _ before rows are fits.0) in
    let new = row_stored schema.columns after valid fits.1 in
    record { count = old.1; alike = old.1 ∙ sym new.1; values = All-append IsStoredValue before after old.0 new.0 }
change_of_columns schema rows (Delete row) valid are fits =
    let old = row_stored schema.columns row valid (found_row (IsRow schema.columns) _ row rows are fits) in
    record { count = old.1; alike = tt; values = old.0 }

-- EVENTS

found_valid : (name : List ℕ) (tables : Database) (table : TableRows) → HaveValidSchemas tables → find_table name tables ≡ Some table → IsNewSchema table.schema
found_valid name [] table valid is = absurd cc
found_valid name (first ∷ tables) table valid is = by (is_named name first) is (found_valid name tables table valid.1) where
  by : (b : Bool) → cond b (Some first) (find_table name tables) ≡ Some table → (find_table name tables ≡ Some table → IsNewSchema table.schema) → IsNewSchema table.schema
  by true is rest = let same : first ≡ table = cc in subst (λ (t : TableRows). IsNewSchema t.schema) same valid.0
  by false is rest = rest is

event_is : (tables : Database) (event : RowEvent) (found : Option TableRows) → find_table event.table tables ≡ found → HaveValidSchemas tables → WhereFound IsWellFormedTable found → is_some found ≡ true → WhereFound (λ table. Fits table.schema table.rows event.change) found → IsTableEvent event
event_is tables event None is valid well stands fits = absurd (false≢true stands)
event_is tables event (Some table) is valid well stands fits =
    let new = found_valid event.table tables table valid is in
    let name : IsTableName event.table = subst IsTableName (found_named event.table tables table is) new.named in
    let change = change_of_columns table.schema table.rows event.change new.valid.columns well.is_table.rows_fit fits in
    let count = change.count in
    let some = new.valid.some in
    let few = new.valid.few in
    record {
      named = name.some;
      name = name.bytes;
      characters = name.characters;
      some = omega (arith, count, some);
      columns = omega (arith, count, few);
      alike = change.alike;
      values = change.values;
    }

events_are : (tables : Database) (events : List RowEvent) → HaveValidSchemas tables → IsWellFormedDatabase tables → AllExist tables events → EventsFit tables events → AllByRecursion IsTableEvent events
unfolding EventsFit
events_are tables [] valid is stand fits = tt
events_are tables (event ∷ events) valid is stand fits = (
  event_is tables event (find_table event.table tables) refl valid (is.each event.table) stand.0 fits.0,
  events_are (with_change event.table (change_table event.change) tables) events (event_valid tables event valid) (well_formed_event tables event is fits.0) (stand_event tables event events stand.1) fits.1,
)

-- *What a session writes are events of tables*
pub grown_events : (tables : Database) (written : ℕ → List RowEvent) (all_sessions : State) (number : ℕ) (need : Need) (events : List RowEvent) → GoTogether tables written all_sessions → GrowsWell tables (face_of all_sessions.sessions) number need events → AllByRecursion IsTableEvent events
grown_events tables written all_sessions number need events together well =
    let kept : Keeps tables (face_of all_sessions.sessions) = kept_in (state_of tables all_sessions) together.serves in
    let face : Face = face_of all_sessions.sessions number in
    let own : Face = grown face need events in
    events_are (after_events tables face.hold.writes) events (events_valid tables face.hold.writes together.valid) (seen_well_formed tables face kept.well_formed (kept.own number))
    (stand_seen tables face.hold.writes events (stand_after tables face.hold.writes events well.own.standing))
    (fit_after tables face.hold.writes events (fitting_end own.hold.names own.hold.locks own.hold.writes tables kept.well_formed well.own.fitting))
