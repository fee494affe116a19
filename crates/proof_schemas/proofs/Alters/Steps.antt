-- Each clause that is taken leaves the unique keys traced.
use Rattle.std.proofs.Common.{◌≡◌, ℕ, zero, suc, ◌+◌, ◌<◌, ◌≤◌, Bool, true, false, not, ◌&&◌, ◌||◌, cond, eqb, List, [], ◌∷◌, length, Option, Some, None, Ok, unwrap_or, refl, sym, ap, subst, ◌∙◌, arith, eqb-true, false-eqb, ◌≢◌}
use Rattle.std.specs.Prelude.{slice_set, is_some}
use Rattle.std.specs.List.{remove, slice_get, AllByRecursion}
use Rattle.std.proofs.lemmas.Bool.{or_parts}
use Rattle.std.proofs.lemmas.List.Edits.{length-remove}
use Rattle.base_values.specs.declared.unfit.Unfit.{Unfit}
use Rattle.base_values.specs.declared.kind.Kind.{Kind}
use Rattle.base_values.specs.declared.value.Value.{Value}
use Rattle.base_values.specs.GhoSchema.AutoIncrement.{is_widest}
use Rattle.base_values.specs.declared.gho_schema.schema.Column.{Column}
use Rattle.base_values.specs.declared.gho_schema.schema.Index.{Index}
use Rattle.base_values.specs.declared.gho_schema.schema.Schema.{Schema}
use Rattle.base_values.specs.declared.row_conversion.clause.Clause.{Clause}
use Rattle.base_values.specs.declared.row_conversion.clause.Clause.TheVariants.{Add, Drop, Rename, Change, AddIndex, DropIndex}
use Rattle.base_values.specs.declared.row_conversion.clause.NewColumn.{NewColumn}
use Rattle.base_values.specs.declared.row_conversion.clause.ColumnPosition.{ColumnPosition}
use Rattle.base_values.specs.SchemaRules.Results.{◌>>=◌}
use Rattle.base_values.specs.GhoSchema.ClusteredKey.{clustered_place}
use Rattle.base_values.specs.SchemaRules.Reasons.{first_reason}
use Rattle.base_values.specs.SchemaRules.Valid.{IsKey, IsValid}
use Rattle.base_values.specs.SchemaRules.Limits.{is_column_name}
use Rattle.sql_change.specs.declared.code.AlterCode.{AlterCode}
use Rattle.sql_change.specs.declared.code.AlterCode.TheVariants as codes
use Rattle.sql_change.specs.declared.so_far.AlteredSoFar.{AlteredSoFar}
use Rattle.sql_change.specs.AlteredSchema.{step, steps}
use Rattle.sql_change.specs.ClauseResults.{add_reasons, added, dropped_at, dropped, rename_reasons, with_name, renamed_in, renamed_at, renamed, change_reasons, changed_nullable, changed_in, is_unapproved, unless_unapproved, changed_column, changed_at, changed, breaks_counter}
use Rattle.sql_change.specs.Columns.{has_column, is_column_position, beside, found_at, column_named, is_in_keys, is_key_conversion, is_conversion, column_position_place, lacks_default, unless_lacking, column_of, fitting}
use Rattle.sql_change.specs.IndexClauses.{index_name, index_reasons, index_of, with_index, indexed_as, indexed, index_place, is_clustered, without_unique, without_index, unindexed_at, unindexed}
use Rattle.sql_change.specs.AlteredSoFar.{places_from, start, put_in, taken_out, origin_at, Stands}
use Rattle.base_values.proofs.SchemaRules.Lists.{All-remove}
use Rattle.base_values.proofs.SchemaRules.Steps.{bind_ok, unless_ok, none_first, ok_is, kept_out, some_is, default_is}
use Rattle.sql_change.proofs.Tables.{column_named-within, column_position_place-within, fitting-is, approved-is, step-stands, start-stands}
use Rattle.proof_schemas.proofs.Alters.Traces.{Counts, SamePlace, SamePlaces, Traced, AllTraced, put_in-traced, taken_out-traced, moved_to-traced, all-kept, same_sort}
use Rattle.base_values.specs.SchemaRules.Defaults.{stored_default, default_or}

-- ---- found columns

beside-here : (columns : List Column) (place : ℕ) (o : Option Column) (found : ℕ × Column) → slice_get columns place ≡ o → beside place o ≡ Some found → slice_get columns found.0 ≡ Some found.1
beside-here columns place (Some column) found at e = let is : (place, column) ≡ found = cc in subst (λ (f : ℕ × Column). slice_get columns f.0 ≡ Some f.1) is at
beside-here columns place None found at e = absurd cc

found_at-here : (columns : List Column) (o : Option ℕ) (found : ℕ × Column) → found_at columns o ≡ Some found → slice_get columns found.0 ≡ Some found.1
found_at-here columns (Some place) found e = beside-here columns place (slice_get columns place) found refl e
found_at-here columns None found e = absurd cc

pub column_named-here : (columns : List Column) (name : List ℕ) (found : ℕ × Column) → column_named columns name ≡ Some found → slice_get columns found.0 ≡ Some found.1
unfolding column_named
column_named-here columns name found e = found_at-here columns _ found e

-- ---- the clauses

added-traced : (old : Schema) (standing next : AlteredSoFar) (written : NewColumn) (column_position : ColumnPosition) → Stands standing → AllTraced old standing → added standing written column_position ≡ Ok next → AllTraced old next
unfolding added
added-traced old standing next written column_position stands all e =
    let columns = standing.schema.columns in
    let place = column_position_place columns column_position (length columns) in
    let let_in = unless_ok (first_reason (add_reasons columns written column_position)) (column_of None written (unwrap_or written.nullable true) >>= λ column. fitting (put_in standing place column)) next e in
    let made = bind_ok (column_of None written (unwrap_or written.nullable true)) (λ column. fitting (put_in standing place column)) next let_in.1 in
    subst (AllTraced old) (fitting-is (put_in standing place made.0) next made.2) (put_in-traced old standing place made.0 stands (column_position_place-within columns column_position (length columns) (omega arith)) all)

dropped_at-traced : (old : Schema) (standing next : AlteredSoFar) (found : Option (ℕ × Column)) → AllTraced old standing → dropped_at standing found ≡ Ok next → AllTraced old next
dropped_at-traced old standing next None all e = absurd cc
dropped_at-traced old standing next (Some found) all e =
    let k = kept_out (is_in_keys standing.schema.uniques found.0) (taken_out standing found.0) next codes.KeyColumnDropped e in
    subst (AllTraced old) k.1 (taken_out-traced old standing found.0 k.0 all)

-- ---- a column with another name

set-at : (xs : List Column) (i : ℕ) (c v : Column) → slice_get xs i ≡ Some c → slice_get (slice_set xs i v) i ≡ Some v
set-at [] i c v e = absurd cc
set-at (x ∷ xs) zero c v e = refl
set-at (x ∷ xs) (suc i) c v e = set-at xs i c v e

set-other : (xs : List Column) (i k : ℕ) (v : Column) → k ≢ i → slice_get (slice_set xs i v) k ≡ slice_get xs k
set-other [] i k v ne = refl
set-other (x ∷ xs) zero zero v ne = absurd (ne refl)
set-other (x ∷ xs) zero (suc k) v ne = refl
set-other (x ∷ xs) (suc i) zero v ne = refl
set-other (x ∷ xs) (suc i) (suc k) v ne = set-other xs i k v (λ e. ne (ap suc e))

module _ (old : Schema) (standing : AlteredSoFar) (at : ℕ) (found : Column) (name : List ℕ) (here : slice_get standing.schema.columns at ≡ Some found) where
  each-renamed-by : (place before : ℕ) (b : Bool) → eqb place at ≡ b → SamePlace old standing place before → SamePlace old (renamed_in standing at (with_name found name)) place before
  unfolding renamed_in
  each-renamed-by place before true e same =
      let is : place ≡ at = eqb-true place at e in
      let column : same.column ≡ found = some_is same.column found (sym same.here ∙ ap (slice_get standing.schema.columns) is ∙ here) in
      record {
        origin = same.origin;
        column = with_name found name;
        here = ap (slice_get (slice_set standing.schema.columns at (with_name found name))) is ∙ set-at standing.schema.columns at found (with_name found name) here;
        source = same.source;
        there = same.there;
        sort = subst (λ (c : Column). is_key_conversion same.source.kind c.kind ≡ true) column same.sort;
        auto = ap (λ (c : Column). c.auto) (sym column) ∙ same.auto;
        counts = λ on source. subst Counts column (same.counts on source);
      }
  each-renamed-by place before false e same = record {
    origin = same.origin;
    column = same.column;
    here = set-other standing.schema.columns at place (with_name found name) (false-eqb place at (sym e)) ∙ same.here;
    source = same.source;
    there = same.there;
    sort = same.sort;
    auto = same.auto;
    counts = same.counts;
  }

  renamed_in-traced : AllTraced old standing → AllTraced old (renamed_in standing at (with_name found name))
  unfolding renamed_in
  renamed_in-traced all = all-kept old standing (renamed_in standing at (with_name found name)) (λ place before same. each-renamed-by place before (eqb place at) refl same) standing.schema.uniques all

renamed_at-traced : (old : Schema) (approve : Bool) (standing next : AlteredSoFar) (new : List ℕ) (found : Option (ℕ × Column)) → ((f : ℕ × Column) → found ≡ Some f → slice_get standing.schema.columns f.0 ≡ Some f.1) → AllTraced old standing
    → renamed_at approve standing new found ≡ Ok next → AllTraced old next
renamed_at-traced old approve standing next new None here all e = absurd cc
renamed_at-traced old approve standing next new (Some found) here all e =
    let let_in = unless_ok (first_reason (rename_reasons approve standing.schema.columns found.0 found.1.name new)) (Ok (renamed_in standing found.0 (with_name found.1 new))) next e in
    subst (AllTraced old) (ok_is {C = AlterCode} (renamed_in standing found.0 (with_name found.1 new)) next let_in.1) (renamed_in-traced old standing found.0 found.1 new (here found refl) all)

-- ---- a changed column

pub lacking-is : (b : Bool) (column made : Column) → unless_lacking b column ≡ Ok made → column ≡ made
lacking-is true column made e = absurd cc
lacking-is false column made e = cc

-- what a column has of what is written
pub record IsWritten (written : NewColumn) (nullable : Bool) (column : Column) : Type 0 where
  pub kind : written.kind ≡ column.kind
  pub auto : written.auto ≡ column.auto
  pub nullable_is : nullable ≡ column.nullable
  pub default : stored_default written.kind nullable written.default ≡ Ok column.default

pub column_of-written : (origin : Option ℕ) (written : NewColumn) (nullable : Bool) (column : Column) → column_of origin written nullable ≡ Ok column → IsWritten written nullable column
unfolding column_of
column_of-written origin written nullable column e =
    let b = bind_ok (default_or codes.Default (stored_default written.kind nullable written.default)) (λ default. unless_lacking (lacks_default origin nullable default) (record { name = written.name; kind = written.kind; nullable = nullable; default = default; auto = written.auto })) column e in
    let same = lacking-is (lacks_default origin nullable b.0) (record { name = written.name; kind = written.kind; nullable = nullable; default = b.0; auto = written.auto }) column b.2 in
    record {
      kind = ap (λ (c : Column). c.kind) same;
      auto = ap (λ (c : Column). c.auto) same;
      nullable_is = ap (λ (c : Column). c.nullable) same;
      default = default_is codes.Default (stored_default written.kind nullable written.default) b.0 b.1 ∙ ap (λ (c : Column). Ok c.default) same;
    }

sort-kept : (schema : Schema) (place : ℕ) (column : Column) (written : NewColumn) (column_position : ColumnPosition) → first_reason (change_reasons schema place column written column_position) ≡ None → (is_in_keys schema.uniques place && not (is_key_conversion column.kind written.kind)) ≡ false
sort-kept schema place column written column_position none =
    let converted = is_in_keys schema.uniques place && not (is_key_conversion column.kind written.kind) in
    let scope = not (is_conversion column.kind written.kind) || not (is_column_name written.name) || breaks_counter column written in
    let second = none_first (not (is_column_position (remove schema.columns place) column_position)) codes.UnknownName ((has_column (remove schema.columns place) written.name, codes.RepeatedName) ∷ (converted, codes.KeyColumnConverted) ∷ (scope, codes.Scope) ∷ []) none in
    let third = none_first (has_column (remove schema.columns place) written.name) codes.RepeatedName ((converted, codes.KeyColumnConverted) ∷ (scope, codes.Scope) ∷ []) second.1 in
    (none_first converted codes.KeyColumnConverted ((scope, codes.Scope) ∷ []) third.1).0

-- the AUTO_INCREMENT column stays one
pub counter-kept : (schema : Schema) (place : ℕ) (column : Column) (written : NewColumn) (column_position : ColumnPosition) → first_reason (change_reasons schema place column written column_position) ≡ None → breaks_counter column written ≡ false
counter-kept schema place column written column_position none =
    let converted = is_in_keys schema.uniques place && not (is_key_conversion column.kind written.kind) in
    let scope = not (is_conversion column.kind written.kind) || not (is_column_name written.name) || breaks_counter column written in
    let second = none_first (not (is_column_position (remove schema.columns place) column_position)) codes.UnknownName ((has_column (remove schema.columns place) written.name, codes.RepeatedName) ∷ (converted, codes.KeyColumnConverted) ∷ (scope, codes.Scope) ∷ []) none in
    let third = none_first (has_column (remove schema.columns place) written.name) codes.RepeatedName ((converted, codes.KeyColumnConverted) ∷ (scope, codes.Scope) ∷ []) second.1 in
    let fourth = none_first converted codes.KeyColumnConverted ((scope, codes.Scope) ∷ []) third.1 in
    let last = none_first scope codes.Scope [] fourth.1 in
    (or_parts (not (is_conversion column.kind written.kind) || not (is_column_name written.name)) (breaks_counter column written) last.0).1

same-auto : (auto written wide some : Bool) → cond auto (not written || wide || some) written ≡ false → written ≡ auto
same-auto true true wide some e = refl
same-auto true false wide some e = absurd cc
same-auto false written wide some e = e

stays-counter : (written wide some : Bool) → (not written || wide || some) ≡ false → (wide ≡ false) × (some ≡ false)
stays-counter written wide some e =
    let outer = or_parts (not written || wide) some e in
    let inner = or_parts (not written) wide outer.0 in
    (inner.1, outer.1)

none-stored : (kind : Kind) (nullable : Bool) (written default : Option Value) → is_some written ≡ false → nullable ≡ false → stored_default kind nullable written ≡ Ok default → default ≡ None
none-stored kind true written default none strict e = absurd cc
none-stored kind false (Some value) default none strict e = absurd cc
none-stored kind false None default none strict e = sym (ok_is {C = Unfit} None default e)

pub changed-auto : (found : Column) (written : NewColumn) → breaks_counter found written ≡ false → written.auto ≡ found.auto
changed-auto found written e = same-auto found.auto written.auto (is_widest written.kind) (is_some written.default) e

counter-counts-by : (found : Column) (written : NewColumn) (nullable : Bool) (column : Column) (b : Bool) → found.auto ≡ b → cond b (not written.auto || is_widest written.kind || is_some written.default) written.auto ≡ false → b ≡ true → IsWritten written nullable column → Counts column
counter-counts-by found written nullable column true is e on made =
    let parts = stays-counter written.auto (is_widest written.kind) (is_some written.default) e in
    (ap is_widest (sym made.kind) ∙ parts.0, λ strict. none-stored written.kind nullable written.default column.default parts.1 (made.nullable_is ∙ strict) made.default)
counter-counts-by found written nullable column false is e on made = absurd cc

counter-counts : (found : Column) (written : NewColumn) (nullable : Bool) (column : Column) → breaks_counter found written ≡ false → found.auto ≡ true → IsWritten written nullable column → Counts column
counter-counts found written nullable column e on made = counter-counts-by found written nullable column found.auto refl e on made

changed_at-traced : (old : Schema) (approve : Bool) (standing next : AlteredSoFar) (written : NewColumn) (column_position : ColumnPosition) (found : Option (ℕ × Column)) → ((f : ℕ × Column) → found ≡ Some f → slice_get standing.schema.columns f.0 ≡ Some f.1)
    → ((f : ℕ × Column) → found ≡ Some f → f.0 < length standing.schema.columns) → Stands standing → AllTraced old standing → changed_at approve standing written column_position found ≡ Ok next → AllTraced old next
changed_at-traced old approve standing next written column_position None here within stands all e = absurd cc
changed_at-traced old approve standing next written column_position (Some found) here within stands all e =
    let place = found.0 in
    let lt = within found refl in
    let others = remove standing.schema.columns place in
    let to = column_position_place others column_position place in
    let fewer : length others + 1 ≡ length standing.schema.columns = length-remove standing.schema.columns place lt in
    let to_within : to ≤ length others = column_position_place-within others column_position place (omega arith) in
    let reasons = change_reasons standing.schema place found.1 written column_position in
    let let_in = unless_ok (first_reason reasons) (changed_column approve standing place found.1 written column_position) next e in
    let made = bind_ok (column_of (origin_at standing place) written (changed_nullable standing.schema place written)) (λ new. (fitting (changed_in standing place column_position new) >>= λ changed. unless_unapproved (is_unapproved approve found.1.name written.name) changed)) next let_in.1 in
    let fit = bind_ok (fitting (changed_in standing place column_position made.0)) (λ changed. unless_unapproved (is_unapproved approve found.1.name written.name) changed) next made.2 in
    let is = fitting-is (changed_in standing place column_position made.0) fit.0 fit.1 ∙ approved-is (is_unapproved approve found.1.name written.name) fit.0 next fit.2 in
    let is_written = column_of-written (origin_at standing place) written (changed_nullable standing.schema place written) made.0 made.1 in
    let kind = is_written.kind in
    let counter = counter-kept standing.schema place found.1 written column_position let_in.0 in
    let auto : made.0.auto ≡ found.1.auto = sym is_written.auto ∙ changed-auto found.1 written counter in
    let free : (is_in_keys standing.schema.uniques place && not (is_key_conversion found.1.kind made.0.kind)) ≡ false = subst (λ k. (is_in_keys standing.schema.uniques place && not (is_key_conversion found.1.kind k)) ≡ false) kind (sort-kept standing.schema place found.1 written column_position let_in.0) in
    subst (AllTraced old) is (moved_to-traced old standing place to found.1 made.0 stands lt (omega arith) (here found refl) auto (λ on. counter-counts found.1 written (changed_nullable standing.schema place written) made.0 counter on is_written) free all)

-- ---- indexes

indexed_as-traced : (old : Schema) (standing next : AlteredSoFar) (names : List (List ℕ)) (name : List ℕ) → AllTraced old standing → indexed_as standing names name ≡ Ok next → AllTraced old next
indexed_as-traced old standing next names name all e =
    let index = index_of standing.schema names name in
    let let_in = unless_ok (first_reason (index_reasons standing.schema names name)) (Ok (with_index standing index)) next e in
    subst (AllTraced old) (ok_is {C = AlterCode} (with_index standing index) next let_in.1) (all-kept old standing (with_index standing index) (λ place before same. record { origin = same.origin; column = same.column; here = same.here; source = same.source; there = same.there; sort = same.sort; auto = same.auto; counts = same.counts }) standing.schema.uniques all)

unindexed_at-traced : (old : Schema) (standing next : AlteredSoFar) (unique index : Option ℕ) → AllTraced old standing → unindexed_at standing unique index ≡ Ok next → AllTraced old next
unindexed_at-traced old standing next (Some place) index all e =
    subst (AllTraced old) (kept_out (is_clustered (clustered_place standing.schema) place) (without_unique standing place) next codes.ClusteredKeyChange e).1
    (all-kept old standing (without_unique standing place) (λ p before same. record { origin = same.origin; column = same.column; here = same.here; source = same.source; there = same.there; sort = same.sort; auto = same.auto; counts = same.counts }) (remove standing.schema.uniques place) (All-remove (Traced old standing) standing.schema.uniques place all))
unindexed_at-traced old standing next None (Some place) all e =
    subst (AllTraced old) (ok_is {C = AlterCode} (without_index standing place) next e)
    (all-kept old standing (without_index standing place) (λ p before same. record { origin = same.origin; column = same.column; here = same.here; source = same.source; there = same.there; sort = same.sort; auto = same.auto; counts = same.counts }) standing.schema.uniques all)
unindexed_at-traced old standing next None None all e = absurd cc

step-traced : (old : Schema) (approve : Bool) (standing next : AlteredSoFar) (clause : Clause) → Stands standing → AllTraced old standing → step approve standing clause ≡ Ok next → AllTraced old next
unfolding step dropped renamed changed indexed unindexed
step-traced old approve standing next (Add column column_position) stands all e = added-traced old standing next column column_position stands all e
step-traced old approve standing next (Drop name) stands all e = dropped_at-traced old standing next (column_named standing.schema.columns name) all e
step-traced old approve standing next (Rename before new) stands all e = renamed_at-traced old approve standing next new (column_named standing.schema.columns before) (column_named-here standing.schema.columns before) all e
step-traced old approve standing next (Change before column column_position) stands all e =
    changed_at-traced old approve standing next column column_position (column_named standing.schema.columns before) (column_named-here standing.schema.columns before) (column_named-within standing.schema.columns before) stands all e
step-traced old approve standing next (AddIndex name columns) stands all e = indexed_as-traced old standing next columns (index_name standing.schema columns name) all e
step-traced old approve standing next (DropIndex name) stands all e = unindexed_at-traced old standing next (index_place standing.schema.uniques name) (index_place standing.schema.indexes name) all e

-- a table that stands, whose unique keys were there
pub record Kept (old : Schema) (standing : AlteredSoFar) : Type 0 where
  pub stands : Stands standing
  pub traced : AllTraced old standing

pub steps-kept : (old : Schema) (approve : Bool) (standing next : AlteredSoFar) (clauses : List Clause) → Kept old standing → steps approve standing clauses ≡ Ok next → Kept old next
unfolding steps
steps-kept old approve standing next [] kept e = subst (Kept old) (ok_is {C = AlterCode} standing next e) kept
steps-kept old approve standing next (clause ∷ clauses) kept e =
    let b = bind_ok (step approve standing clause) (λ s. steps approve s clauses) next e in
    steps-kept old approve b.0 next clauses (record { stands = step-stands approve standing b.0 clause kept.stands b.1; traced = step-traced old approve standing b.0 clause kept.stands kept.traced b.1 }) b.2

-- ---- the start

place-from : (columns : List Column) (first place : ℕ) → place < length columns → slice_get (places_from first columns) place ≡ Some (Some (first + place))
unfolding places_from
place-from [] first place lt = absurd (omega arith)
place-from (c ∷ cs) first zero lt = let same : first ≡ first + 0 = omega arith in ap (λ (n : ℕ). Some (Some n)) same
place-from (c ∷ cs) first (suc place) lt = let same : first + 1 + place ≡ first + suc place = omega arith in place-from cs (first + 1) place (omega arith) ∙ ap (λ (n : ℕ). Some (Some n)) same

get-some : (columns : List Column) (place : ℕ) → place < length columns → (c : Column) × (slice_get columns place ≡ Some c)
get-some [] place lt = absurd (omega arith)
get-some (c ∷ cs) zero lt = (c, refl)
get-some (c ∷ cs) (suc place) lt = get-some cs place (omega arith)

start-same : (schema : Schema) (place : ℕ) → place < length schema.columns → SamePlace schema (start schema) place place
start-same schema place lt =
    let c = get-some schema.columns place lt in
    let zeroth : 0 + place ≡ place = omega arith in
    record { origin = place-from schema.columns 0 place lt ∙ ap (λ (n : ℕ). Some (Some n)) zeroth; column = c.0; here = c.1; source = c.0; there = c.1; sort = same_sort c.0.kind; auto = refl; counts = λ on source. source }

start-places : (schema : Schema) (places : List ℕ) → AllByRecursion (λ place. place < length schema.columns) places → SamePlaces schema (start schema) places places
start-places schema [] all = tt
start-places schema (p ∷ ps) all = (start-same schema p all.0, start-places schema ps all.1)

-- each key stands somewhere among the old ones
start-all : (schema : Schema) (front uniques : List Index) → ((k : ℕ) (index : Index) → slice_get uniques k ≡ Some index → (m : ℕ) × (slice_get schema.uniques m ≡ Some index)) → AllByRecursion (IsKey (length schema.columns)) uniques → AllByRecursion (Traced schema (start schema)) uniques
start-all schema front [] stand all = tt
start-all schema front (index ∷ uniques) stand all =
    let here = stand 0 index refl in
    (record { place = here.0; source = index; stands = here.1; name = refl; places = start-places schema index.places all.0.within }, start-all schema front uniques (λ k other e. stand (suc k) other e) all.1)

pub start-kept : (schema : Schema) → IsValid schema → Kept schema (start schema)
start-kept schema valid = record { stands = start-stands schema valid; traced = start-all schema [] schema.uniques (λ k index e. (k, e)) valid.uniques }
