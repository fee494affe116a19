-- A shard's converted rows follow what is done to the rows.
use Rattle.std.proofs.Common.{◌≡◌, ℕ, Bool, true, false, not, List, [], ◌∷◌, ◌++◌, map, append_assoc, find, filter, cond, Some, None, Result, Ok, Err, refl, sym, ap, ◌∙◌, subst}
use Rattle.std.proofs.lemmas.List.{append-nil}
use Rattle.std.specs.List.{AllByRecursion}
use Rattle.base_values.specs.declared.event.Change.{Change}
use Rattle.base_values.specs.declared.event.Change.TheVariants.{Write, Update, Delete}
use Rattle.base_values.specs.declared.row_conversion.map.MapColumn.{MapColumn}
use Rattle.base_values.specs.declared.row_conversion.conversion_fault.UnfitAt.{UnfitAt}
use Rattle.base_values.specs.RowConversion.ConvertedRows.{converted_row, converted_rows}
use Rattle.base_values.specs.GhoSchema.Rows.{key_of, key_places, with_row}
use Rattle.base_values.specs.GhoSchema.Tables.{Ascends}
use Rattle.base_values.proofs.GhoSchema.Orders.{all-with_row}
use Rattle.table_store.specs.RowLists.{is_at, without_key}
use Rattle.base_values.specs.declared.gho_schema.schema.Schema.{Schema}
use Rattle.table_store.specs.Databases.{TableRows, row_at_key}
use Rattle.table_store.proofs.Orders.{Row}
use Rattle.table_store.proofs.Ascending.{none_parts, all-filter, ascends-filter, ascends-with_row}
use Rattle.table_store.proofs.RowLaws.{gone, filter_in, filter_out, filters_commute}
use Rattle.table_store.proofs.PagedTables.RowPages.PutLast.{next_ascends, put_after, new_after}
use Rattle.server_model.specs.Rows.{same_row, stands, without_row, change_rows, change_all}
use Rattle.server_model.proofs.LockedRows.OneRow.{same_removal}
use Rattle.server_seen.specs.FittingChanges.{IsNewAmong, AllFit}
use Rattle.proof_rebuild.specs.Shards.{KeepsKey, KeepsAfter, first_unfit, only, row_after, unfit_at}
use Rattle.proof_rebuild.proofs.Conversions.{converted-with_row, converted-find, converted-without_key}
use Rattle.proof_rebuild.proofs.Following.{removed_elsewhere}
use Rattle.table_store.proofs.FoundRows.{none_to_remove}
use Rattle.run_rebuild.specs.Steps.{with_converted, written, deleted, followed}

kept_none : (test : Row → Bool) (row : Row) (rows : List Row) (b : Bool) → test row ≡ false → find test rows ≡ None → find test (cond b (row ∷ rows) rows) ≡ None
kept_none test row rows true fails none = rw fails none
kept_none test row rows false fails none = none

-- what isn't found among rows isn't found among some of them
pub find-filter : (test within : Row → Bool) (rows : List Row) → find test rows ≡ None → find test (filter within rows) ≡ None
find-filter test within [] none = refl
find-filter test within (row ∷ rows) none =
    let parts = none_parts (test row) row (find test rows) none in
    kept_none test row (filter within rows) (within row) parts.0 (find-filter test within rows parts.1)

module _ (within : Row → Bool) (old new : List ℕ) (columns : List MapColumn) where
  -- converted rows are those of the rows that are the shard's
  abbrev pub Has : List Row → List Row → Type 0
  Has rows made = converted_rows columns (filter within rows) ≡ Some made

  new_row : (row : Row) (rows made : List Row) → AllByRecursion (KeepsKey old new columns) rows → IsNewAmong old rows row → Has rows made → find (is_at new (key_of old row)) made ≡ None
  new_row row rows made all fits has =
      converted-find old new columns (key_of old row) (filter within rows) made (all-filter (KeepsKey old new columns) within rows all) has (find-filter (is_at old (key_of old row)) within rows fits)

  write_here : (place : ℕ) (row : Row) (rows made : List Row) (b : Bool) (m : Result Row UnfitAt) → within row ≡ b → converted_row columns row ≡ m → Ascends old rows → AllByRecursion (KeepsKey old new columns) rows → KeepsKey old new columns row → IsNewAmong old rows row → Has rows made
      → first_unfit columns place (cond b (Some row) None ∷ []) ≡ None → Has (with_row old row rows) (cond b (with_converted new m made) made)
  unfolding first_unfit
  write_here place row rows made true (Ok one) is m_is ascends all keeps fits has none =
      let no_row : find (is_at new (key_of new one)) made ≡ None = ap (λ (key : Row). find (is_at new key) made) (keeps one m_is) ∙ new_row row rows made all fits has in
      ap (converted_rows columns) (filter_in within old row rows ascends is) ∙ converted-with_row old new columns row one (filter within rows) made (all-filter (KeepsKey old new columns) within rows all) keeps m_is has
      ∙ ap (λ (rows : List Row). Some (with_row new one rows)) (sym (none_to_remove new (key_of new one) made no_row))
  write_here place row rows made true (Err at) is m_is ascends all keeps fits has none =
      let found : unfit_at place (Err at) None ≡ None = ap (λ (m : Result Row UnfitAt). unfit_at place m None) (sym m_is) ∙ none in
      absurd cc
  write_here place row rows made false m is m_is ascends all keeps fits has none = ap (converted_rows columns) (filter_out within old row rows is) ∙ has

  write_step : (place : ℕ) (row : Row) (rows made : List Row) → Ascends old rows → AllByRecursion (KeepsKey old new columns) rows → KeepsKey old new columns row → IsNewAmong old rows row → Has rows made → first_unfit columns place (only within (Some row) ∷ []) ≡ None
      → Has (with_row old row rows) (written within new columns row made)
  write_step place row rows made ascends all keeps fits has none = write_here place row rows made (within row) (converted_row columns row) refl refl ascends all keeps fits has none

  delete_here : (row : Row) (rows made : List Row) (b : Bool) → within row ≡ b → Ascends old rows → AllByRecursion (KeepsKey old new columns) rows → stands row rows ≡ true → Has rows made
      → Has (without_row row rows) (cond b (without_key new (key_of old row) made) made)
  delete_here row rows made true is ascends all stood has =
      ap (λ (rows : List Row). converted_rows columns (filter within rows)) (sym (same_removal old row rows ascends stood))
      ∙ ap (converted_rows columns) (filters_commute within (λ other. not (is_at old (key_of old row) other)) rows)
      ∙ converted-without_key old new columns (key_of old row) (filter within rows) made (all-filter (KeepsKey old new columns) within rows all) has
  delete_here row rows made false is ascends all stood has = ap (converted_rows columns) (removed_elsewhere within row rows is) ∙ has

  delete_step : (row : Row) (rows made : List Row) → Ascends old rows → AllByRecursion (KeepsKey old new columns) rows → stands row rows ≡ true → Has rows made → Has (without_row row rows) (deleted within old new row made)
  delete_step row rows made ascends all stood has = delete_here row rows made (within row) refl ascends all stood has

  -- *The shard follows*: these are the converted rows of its rows, as they are before the changes that are left; after these all
  -- rows are the last ones.
  pub record Follows (made : List Row) (changes : List Change) (last : List Row) : Type 0 where
    pub rows : List Row
    pub ascends : Ascends old rows
    pub fit : AllFit old changes rows
    pub row_keys : AllByRecursion (KeepsKey old new columns) rows
    pub keys : AllByRecursion (KeepsAfter old new columns) changes
    pub has : Has rows made
    pub last_is : change_all old changes rows ≡ last

  -- the change is followed
  pub one_followed : (place : ℕ) (made : List Row) (change : Change) (changes : List Change) (last : List Row) → Follows made (change ∷ changes) last → first_unfit columns place (only within (row_after change) ∷ []) ≡ None
      → Follows (followed within old new columns change made) changes last
  unfolding AllFit change_all change_rows
  one_followed place made (Write row) changes last is none = record {
    rows = with_row old row is.rows;
    ascends = ascends-with_row old row is.rows is.fit.0 is.ascends;
    fit = is.fit.1;
    row_keys = all-with_row (KeepsKey old new columns) old row is.rows is.keys.0 is.row_keys;
    keys = is.keys.1;
    has = write_step place row is.rows made is.ascends is.row_keys is.keys.0 is.fit.0 is.has none;
    last_is = is.last_is;
  }
  one_followed place made (Update before after) changes last is none =
      let less : List Row = without_row before is.rows in
      let ascends : Ascends old less = ascends-filter old (λ other. not (same_row before other)) is.rows is.ascends in
      let all : AllByRecursion (KeepsKey old new columns) less = all-filter (KeepsKey old new columns) (λ other. not (same_row before other)) is.rows is.row_keys in
      record {
        rows = with_row old after less;
        ascends = ascends-with_row old after less is.fit.0.1 ascends;
        fit = is.fit.1;
        row_keys = all-with_row (KeepsKey old new columns) old after less is.keys.0 all;
        keys = is.keys.1;
        has = write_step place after less (deleted within old new before made) ascends all is.keys.0 is.fit.0.1 (delete_step before is.rows made is.ascends is.row_keys is.fit.0.0 is.has) none;
        last_is = is.last_is;
      }
  one_followed place made (Delete row) changes last is none = record {
    rows = without_row row is.rows;
    ascends = ascends-filter old (λ other. not (same_row row other)) is.rows is.ascends;
    fit = is.fit.1;
    row_keys = all-filter (KeepsKey old new columns) (λ other. not (same_row row other)) is.rows is.row_keys;
    keys = is.keys.1;
    has = delete_step row is.rows made is.ascends is.row_keys is.fit.0 is.has;
    last_is = is.last_is;
  }

-- opening rows are written, one by one
pub opened : (old : List ℕ) (done rest : List Row) → Ascends old (done ++ rest) → AllFit old (map Write rest) done × (change_all old (map Write rest) done ≡ done ++ rest)
unfolding AllFit change_all change_rows
opened old done [] ascends = (tt, sym (append-nil done))
opened old done (row ∷ rest) ascends =
    let next : Ascends old (done ++ row ∷ []) = next_ascends old done rest (done ++ row ∷ rest) row ascends refl in
    let put : with_row old row done ≡ done ++ row ∷ [] = put_after old row done next in
    let others = opened old (done ++ row ∷ []) rest (subst (Ascends old) (sym (append_assoc done (row ∷ []) rest)) ascends) in
    ((new_after old row done next, subst (AllFit old (map Write rest)) (sym put) others.0), ap (change_all old (map Write rest)) put ∙ others.1 ∙ append_assoc done (row ∷ []) rest)

pub opening_keep : (old new : List ℕ) (columns : List MapColumn) (rows : List Row) → AllByRecursion (KeepsKey old new columns) rows → AllByRecursion (KeepsAfter old new columns) (map Write rows)
opening_keep old new columns [] all = tt
opening_keep old new columns (row ∷ rows) all = (all.0, opening_keep old new columns rows all.1)

-- a row whose key was removed is gone
pub gone_as : (old middle new : TableRows) (key row : Row) → middle ≡ old → new.schema ≡ middle.schema → new.rows ≡ without_key (key_places middle.schema) key middle.rows → key ≡ key_of (key_places old.schema) row → row_at_key new (key_of (key_places new.schema) row) ≡ None
gone_as old middle new key row before schema rows is =
    let places : List ℕ = key_places middle.schema in
    let own : key ≡ key_of places row = is ∙ ap (λ (table : TableRows). key_of (key_places table.schema) row) (sym before) in
    ap (λ (s : Schema). find (is_at (key_places s) (key_of (key_places s) row)) new.rows) schema
    ∙ ap (find (is_at places (key_of places row))) (rows ∙ ap (λ (k : Row). without_key places k middle.rows) own)
    ∙ gone places (key_of places row) middle.rows

-- before the first opening row is written
pub at_start : (within : Row → Bool) (old new : List ℕ) (columns : List MapColumn) (rows : List Row) → Ascends old rows → AllByRecursion (KeepsKey old new columns) rows → Follows within old new columns [] (map Write rows) rows
unfolding converted_rows
at_start within old new columns rows ascends all =
    let start = opened old [] rows ascends in
    record { rows = []; ascends = tt; fit = start.0; row_keys = tt; keys = opening_keep old new columns rows all; has = refl; last_is = start.1 }

-- one change on
pub moved_on : (within : Row → Bool) (old new : List ℕ) (columns : List MapColumn) (place : ℕ) (made next : List Row) (change : Change) (changes : List Change) (last : List Row) → Follows within old new columns made (change ∷ changes) last
    → first_unfit columns place (only within (row_after change) ∷ []) ≡ None → next ≡ followed within old new columns change made → Follows within old new columns next changes last
moved_on within old new columns place made next change changes last is none same =
    subst (λ (rows : List Row). Follows within old new columns rows changes last) (sym same) (one_followed within old new columns place made change changes last is none)

pub written_as : (within : Row → Bool) (old : List ℕ) (columns : List MapColumn) (row : Row) (own_schema schema : Schema) (made next : List Row) → own_schema ≡ schema → next ≡ written within (key_places own_schema) columns row made
    → next ≡ followed within old (key_places schema) columns (Write row) made
written_as within old columns row own_schema schema made next same is = is ∙ ap (λ (s : Schema). written within (key_places s) columns row made) same

pub followed_as : (within : Row → Bool) (old : List ℕ) (columns : List MapColumn) (change : Change) (own_schema schema : Schema) (made next : List Row) → own_schema ≡ schema → next ≡ followed within old (key_places own_schema) columns change made
    → next ≡ followed within old (key_places schema) columns change made
followed_as within old columns change own_schema schema made next same is = is ∙ ap (λ (s : Schema). followed within old (key_places s) columns change made) same

-- after the last change
pub none_follow : (within : Row → Bool) (old new : List ℕ) (columns : List MapColumn) (made : List Row) (changes : List Change) (last : List Row) → changes ≡ [] → Follows within old new columns made changes last → converted_rows columns (filter within last) ≡ Some made
unfolding change_all
none_follow within old new columns made changes last none is =
    let same : is.rows ≡ last = sym (ap (λ (cs : List Change). change_all old cs is.rows) none) ∙ is.last_is in
    ap (λ (rows : List Row). converted_rows columns (filter within rows)) (sym same) ∙ is.has
