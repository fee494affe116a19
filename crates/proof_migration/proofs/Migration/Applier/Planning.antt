-- What the applier plans is what is planned for the log's changes of the table.
use Rattle.std.proofs.Common.{◌≡◌, ℕ, zero, suc, ◌+◌, ◌<◌, Bool, true, false, cond, List, [], ◌∷◌, ◌++◌, length, drop, filter, Option, Some, None, refl, sym, ap, ◌∙◌, subst, arith}
use Rattle.std.specs.Prelude.{not}
use Rattle.std.specs.List.{AllByRecursion, flat_map, list_any, slice_get}
use Rattle.std.specs.Str.{bytes_eq}
use Rattle.std.specs.Ordering.{is_eq}
use Rattle.std.proofs.lemmas.Option.{slice_get_within}
use Rattle.base_values.specs.declared.value.Value.{Value}
use Rattle.base_values.specs.KeyOrder.{compare_keys}
use Rattle.base_values.specs.declared.gho_schema.schema.Column.{Column}
use Rattle.base_values.specs.declared.gho_schema.schema.Index.{Index}
use Rattle.base_values.specs.declared.gho_schema.schema.Schema.{Schema}
use Rattle.base_values.specs.GhoSchema.Rows.{key_of, key_places}
use Rattle.base_values.specs.GhoSchema.Tables.{IsRow, IsTable}
use Rattle.base_values.proofs.SchemaRules.Lists.{All-append, slice_get-map-some}
use Rattle.base_values.specs.declared.row_conversion.map.MapColumn.{MapColumn}
use Rattle.base_values.specs.RowConversion.ConvertedRows.{source}
use Rattle.base_values.specs.declared.event.Change.{Change}
use Rattle.base_values.specs.declared.event.Change.TheVariants.{Write, Update, Delete}
use Rattle.base_values.specs.declared.event.RowEvent.{RowEvent}
use Rattle.table_store.specs.RowLists.{is_at}
use Rattle.tool_program.specs.declared.event_applier.applier.Applier.{Applier}
use Rattle.tool_program.specs.declared.event_applier.applier.Part.{Part}
use Rattle.tool_program.specs.declared.event_applier.applier.Part.TheVariants.{Whole, Removal, Return}
use Rattle.tool_program.specs.EventApplier.Appliers.{Doing, given_values, in_part, row_done}
use Rattle.tool_program.specs.EventApplier.Appliers as appliers
use Rattle.tool_program.specs.EventApplier.Appliers.Doing.{Putting, Removing, Changing}
use Rattle.proof_journals.proofs.Ghost.Rows.Finding.{found_in}
use Rattle.proof_journals.proofs.Ghost.Rows.TimelineLaws.{each_table, step}
use Rattle.proof_journals.specs.Ghost.Rows.Moments.{Fits, LogFits, Row, rows_at}
use Rattle.proof_journals.specs.Ghost.Rows.Timelines.{EventAt, IsPlanned, Migration, changes_key, kept}
use Rattle.proof_journals.specs.Ghost.Doings.{changes_in, doings, own_change, planned}
use Rattle.proof_journals.specs.Ghost.OwnChanges.{own_changes}
use Rattle.proof_journals.proofs.Ghost.Tests.{HasOld, changes_given, tests_alike, values_at}
use Rattle.proof_migration.specs.Migration.Applier.ApplierPlace.{ChangesRows}
use Rattle.proof_migration.specs.Migration.Applier.FoundColumns.{FindsRows, IsFrom}
use Rattle.proof_migration.proofs.Migration.Applier.Keys.{value_of}

-- WHETHER A KEY CHANGES

abbrev HasGiven : List Value → ℕ → Type 0
HasGiven values place = (value : Value) × (slice_get values place ≡ Some value)

key_values : (values : List Value) (places : List ℕ) → AllByRecursion (HasGiven values) places → key_of places values ≡ values_at values places
unfolding key_of
key_values values [] all = refl
key_values values (place ∷ places) all = rw (all.0.1) (ap (λ (k : List Value). all.0.0 ∷ k) (key_values values places all.1))

module _ (m : Migration) (row : Row) (fits : IsRow m.schema.columns row) where
  given_has : (places : List ℕ) → AllByRecursion (IsFrom m) places → AllByRecursion (HasGiven (given_values m.columns row)) places
  given_has [] all = tt
  given_has (place ∷ places) all = ((_, slice_get-map-some (λ (c : MapColumn). source c.origin row) m.columns place _ all.0.mapped), given_has places all.1)

  has_old : (places : List ℕ) → AllByRecursion (IsFrom m) places → AllByRecursion (λ place. HasOld row (slice_get m.columns place)) places
  has_old [] all = tt
  has_old (place ∷ places) all =
      let from : IsFrom m place = all.0 in
      let there = value_of m.schema.columns row from.before from.source fits from.there in
      (subst (HasOld row) (sym from.mapped) (there.value, there.here), has_old places all.1)

  all_old : (uniques : List Index) → AllByRecursion (λ index. AllByRecursion (IsFrom m) index.places) uniques → AllByRecursion (λ index. AllByRecursion (λ place. HasOld row (slice_get m.columns place)) index.places) uniques
  all_old [] all = tt
  all_old (index ∷ uniques) all = (has_old index.places all.0, all_old uniques all.1)

module _ (m : Migration) (before after : Row) (one : IsRow m.schema.columns before) (two : IsRow m.schema.columns after) where
  code_given : (uniques : List Index) → AllByRecursion (λ index. AllByRecursion (IsFrom m) index.places) uniques
      → list_any (λ index. not (is_eq (compare_keys (key_of index.places (given_values m.columns before)) (key_of index.places (given_values m.columns after))))) uniques ≡ changes_given m.columns uniques before after
  unfolding changes_given
  code_given [] all = refl
  code_given (index ∷ uniques) all =
      rw (key_values (given_values m.columns before) index.places (given_has m before one index.places all.0), key_values (given_values m.columns after) index.places (given_has m after two index.places all.0), code_given uniques all.1) refl

  -- *The applier's test is that of the kept keys*
  changes_alike : FindsRows m → appliers.changes_key m.new (given_values m.columns before) (given_values m.columns after) ≡ changes_key (kept m) before after
  changes_alike finds = code_given m.new.uniques finds.keys ∙ tests_alike m.columns m.new.uniques before after (all_old m before one m.new.uniques finds.keys) (all_old m after two m.new.uniques finds.keys)

-- WHAT IS PLANNED

doings_alike : (m : Migration) → FindsRows m → (change : Change) → ChangesRows m.schema.columns change → appliers.doings m.new m.columns change ≡ doings m change
doings_alike m finds (Write row) are = refl
doings_alike m finds (Delete row) are = refl
doings_alike m finds (Update before after) are = rw (changes_alike m before after are.0 are.1 finds) refl

abbrev all_doings : Schema → List MapColumn → List ℕ → List RowEvent → List Doing
all_doings schema cs table events = flat_map (λ (event : RowEvent). appliers.doings schema cs event.change) (filter (λ (event : RowEvent). bytes_eq event.table table) events)

planned_more : (m : Migration) → FindsRows m → (events : List RowEvent) → AllByRecursion (ChangesRows m.schema.columns) (own_changes m.name events) → all_doings m.new m.columns m.name events ≡ planned m (own_changes m.name events)
unfolding planned own_changes
planned_more m finds [] are = refl
planned_more m finds (event ∷ events) are = by (bytes_eq event.table m.name) are (planned_more m finds events)
  where
    by : (b : Bool) → AllByRecursion (ChangesRows m.schema.columns) (cond b (event.change ∷ []) [] ++ own_changes m.name events) → (AllByRecursion (ChangesRows m.schema.columns) (own_changes m.name events) → all_doings m.new m.columns m.name events ≡ planned m (own_changes m.name events))
        → flat_map (λ (e : RowEvent). appliers.doings m.new m.columns e.change) (cond b (event ∷ filter (λ (e : RowEvent). bytes_eq e.table m.name) events) (filter (λ (e : RowEvent). bytes_eq e.table m.name) events)) ≡ planned m (cond b (event.change ∷ []) [] ++ own_changes m.name events)
    by true all rest = rw (doings_alike m finds event.change all.0, rest all.1) refl
    by false all rest = rest all

-- *What the applier plans*
pub planned_alike : (m : Migration) (applier : Applier) (events : List RowEvent) → FindsRows m → applier.table ≡ m.name → applier.new_schema ≡ m.new → applier.map ≡ m.columns → AllByRecursion (ChangesRows m.schema.columns) (own_changes m.name events) → appliers.planned applier events ≡ planned m (own_changes m.name events)
unfolding appliers.planned
planned_alike m applier events finds table schema cs are =
    ap (λ (s : Schema). all_doings s applier.map applier.table events) schema ∙ ap (λ (c : List MapColumn). all_doings m.new c applier.table events) cs ∙ ap (λ (t : List ℕ). all_doings m.new m.columns t events) table ∙ planned_more m finds events are

-- THE CHANGES OF A LOG ARE OF ROWS

fits_rows : (schema : Schema) (rows : List Row) (change : Change) → AllByRecursion (IsRow schema.columns) rows → Fits schema rows change → ChangesRows schema.columns change
fits_rows schema rows (Write row) all fits = fits.0
fits_rows schema rows (Update before after) all fits = (found_in (is_at (key_places schema) (key_of (key_places schema) before)) (IsRow schema.columns) rows before all fits.0, fits.1)
fits_rows schema rows (Delete row) all fits = found_in (is_at (key_places schema) (key_of (key_places schema) row)) (IsRow schema.columns) rows row all fits

module _ (m : Migration) (rows : List Row) (plan : IsPlanned m rows) (log : List RowEvent) (log_fits : LogFits m.name m.schema rows log) where
  event_rows : (i : ℕ) (event : RowEvent) → slice_get log i ≡ Some event → bytes_eq event.table m.name ≡ true → ChangesRows m.schema.columns event.change
  event_rows i event there named =
      let one : EventAt m.name m.schema rows log i = step m.name m.schema log rows i (slice_get_within log i event there) log_fits in
      let same : one.event ≡ event = (let both : Some one.event ≡ Some event = sym one.there ∙ there in cc) in
      let table : IsTable m.schema (rows_at m.name (key_places m.schema) rows log i) = each_table m.name m.schema plan.old_key log rows i plan.table log_fits in
      subst (λ (e : RowEvent). ChangesRows m.schema.columns e.change) same (fits_rows m.schema (rows_at m.name (key_places m.schema) rows log i) one.event.change table.rows_fit (one.fits (ap (λ (e : RowEvent). bytes_eq e.table m.name) same ∙ named)))

  own_rows : (found : Option RowEvent) (rest : List Change) → ((event : RowEvent) → found ≡ Some event → bytes_eq event.table m.name ≡ true → ChangesRows m.schema.columns event.change) → AllByRecursion (ChangesRows m.schema.columns) rest → AllByRecursion (ChangesRows m.schema.columns) (own_change m.name found ++ rest)
  own_rows None rest each all = all
  own_rows (Some event) rest each all = by (bytes_eq event.table m.name) refl
    where
      by : (b : Bool) → bytes_eq event.table m.name ≡ b → AllByRecursion (ChangesRows m.schema.columns) (cond b (event.change ∷ []) [] ++ rest)
      by true named = (each event refl named, all)
      by false other = all

  -- *The changes of the table are of its rows*
  pub changes_of_rows : (from steps : ℕ) → AllByRecursion (ChangesRows m.schema.columns) (changes_in m.name log from steps)
  unfolding changes_in
  changes_of_rows from zero = tt
  changes_of_rows from (suc steps) = own_rows (slice_get log from) (changes_in m.name log (from + 1) steps) (λ event is named. event_rows from event is named) (changes_of_rows (from + 1) steps)

-- WHAT IS DONE IS DONE WITH ROWS

abbrev pub DoesRows : List Column → Doing → Type 0
DoesRows columns (Putting row) = IsRow columns row
DoesRows columns (Removing row) = IsRow columns row
DoesRows columns (Changing before after) = IsRow columns before × IsRow columns after

doings_rows : (m : Migration) (change : Change) → ChangesRows m.schema.columns change → AllByRecursion (DoesRows m.schema.columns) (doings m change)
doings_rows m (Write row) are = (are, tt)
doings_rows m (Delete row) are = (are, tt)
doings_rows m (Update before after) are = by (changes_key (kept m) before after)
  where
    by : (b : Bool) → AllByRecursion (DoesRows m.schema.columns) (cond b (Removing before ∷ Putting after ∷ []) (Changing before after ∷ []))
    by true = (are.0, (are.1, tt))
    by false = (are, tt)

pub planned_rows : (m : Migration) (changes : List Change) → AllByRecursion (ChangesRows m.schema.columns) changes → AllByRecursion (DoesRows m.schema.columns) (planned m changes)
unfolding planned
planned_rows m [] are = tt
planned_rows m (change ∷ changes) are = All-append (DoesRows m.schema.columns) (doings m change) (planned m changes) (doings_rows m change are.0) (planned_rows m changes are.1)

-- ... in parts too
pub part_rows : (columns : List Column) (part : Part) (doing : Doing) → DoesRows columns doing → DoesRows columns (in_part part doing)
part_rows columns Whole doing fits = fits
part_rows columns Removal (Putting row) fits = fits
part_rows columns Removal (Removing row) fits = fits
part_rows columns Removal (Changing before after) fits = fits.0
part_rows columns Return (Putting row) fits = fits
part_rows columns Return (Removing row) fits = fits
part_rows columns Return (Changing before after) fits = fits.1

pub done_row : (columns : List Column) (doing : Doing) → DoesRows columns doing → IsRow columns (row_done (Some doing))
done_row columns (Putting row) fits = fits
done_row columns (Removing row) fits = fits
done_row columns (Changing before after) fits = fits.1

-- THE NEXT STATEMENT

-- what comes first of what is left
pub record NextDoing (all : List Doing) (done : ℕ) : Type 0 where
  pub doing : Doing
  pub there : slice_get all done ≡ Some doing
  pub is : drop done all ≡ doing ∷ drop (done + 1) all

pub next_doing : (all : List Doing) (done : ℕ) → done < length all → NextDoing all done
next_doing [] done less = absurd (let no : ⊥ = omega (arith, less) in no)
next_doing (doing ∷ all) zero less = record { doing = doing; there = refl; is = refl }
next_doing (doing ∷ all) (suc done) less =
    let later : NextDoing all done = next_doing all done (omega (arith, less)) in
    let e : suc done + 1 ≡ suc (done + 1) = omega arith in
    record { doing = later.doing; there = later.there; is = later.is ∙ ap (λ (n : ℕ). later.doing ∷ drop n (doing ∷ all)) (sym e) }

-- behind all of them nothing is left
pub none_left : (all : List Doing) (done : ℕ) → done ≡ length all → drop done all ≡ []
none_left [] zero is = refl
none_left [] (suc done) is = refl
none_left (doing ∷ all) zero is = absurd (omega (arith, is))
none_left (doing ∷ all) (suc done) is = none_left all done (omega (arith, is))
