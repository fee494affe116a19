-- The table of two halves of some shards, and the first unfit row of both.
use Rattle.std.proofs.Common.{◌≡◌, ℕ, ◌+◌, ◌++◌, length, map, ◌||◌, nat_lt, Bool, true, false, not, List, [], ◌∷◌, filter, cond, Option, Some, None, Result, Ok, Err, refl, sym, ap, ◌∙◌, subst, arith}
use Rattle.std.proofs.Math.Nat.{mod-lt}
use Rattle.std.proofs.lemmas.List.{length-map, map-append}
use Rattle.std.specs.List.{AllByRecursion}
use Rattle.base_values.specs.declared.event.Change.{Change}
use Rattle.base_values.specs.declared.event.Change.TheVariants.{Write, Update, Delete}
use Rattle.base_values.specs.declared.fault.Fault.{Fault}
use Rattle.base_values.specs.declared.fault.Fault.TheVariants.{Refused, Memory}
use Rattle.base_values.specs.declared.row_conversion.map.MapColumn.{MapColumn}
use Rattle.base_values.specs.RowConversion.ConvertedRows.{converted_rows}
use Rattle.base_values.specs.GhoSchema.Rows.{key_places, with_row}
use Rattle.base_values.specs.GhoSchema.Tables.{Ascends}
use Rattle.base_values.proofs.GhoSchema.Orders.{all-with_row}
use Rattle.base_values.specs.declared.gho_schema.schema.Schema.{Schema}
use Rattle.table_store.specs.Databases.{TableRows}
use Rattle.table_store.specs.PagedTables.RowPages.StoredRows.{PagedTable}
use Rattle.table_store.proofs.Orders.{Row}
use Rattle.table_store.proofs.Ascending.{all-filter}
use Rattle.server_model.specs.Rows.{same_row, without_row, change_rows, change_all}
use Rattle.server_seen.proofs.Gathered.{same_tests}
use Rattle.server_seen.proofs.SeenChanges.{changes_seen}
use Rattle.proof_rebuild.specs.Shards.{KeepsAfter, KeepsKey, UnfitRow, earlier, first_unfit, only, row_after, rows_seen, shard_sees}
use Rattle.proof_rebuild.proofs.Found.{both_find, found_before, none_before, sees_alike, sees_all}
use Rattle.run_rebuild.specs.declared.fault.UnfitRow.{UnfitRow as FoundRow}
use Rattle.run_rebuild.specs.declared.inputs.Inputs.{Inputs}
use Rattle.run_rebuild.specs.ShardNumbers.{AreShards, is_of, shard_number}
use Rattle.run_rebuild.specs.Steps.{replaced_all}
use Rattle.run_rebuild.specs.Rebuilds.{Finds, Fit, GoTogether, HasRows, Holds, IsRebuilt, IsSound, Rebuilds, Unites, between, changes_of, empty_table, home, own, rows_then, seen_of}
use Rattle.run_rebuild.proofs.Numbers.{nothing_added}
use Rattle.run_rebuild.proofs.Ranges.{all_are, halves_apart, halves_are, one_is}
use Rattle.run_rebuild.proofs.Unions.{none_replaced, union_is, union_new}

-- rows that followed changes keep their keys
kept : (old new : List ℕ) (columns : List MapColumn) (changes : List Change) (rows : List Row) → AllByRecursion (KeepsAfter old new columns) changes → AllByRecursion (KeepsKey old new columns) rows → AllByRecursion (KeepsKey old new columns) (change_all old changes rows)
unfolding change_all change_rows
kept old new columns [] rows keys all = all
kept old new columns (Write row ∷ changes) rows keys all = kept old new columns changes (with_row old row rows) keys.1 (all-with_row (KeepsKey old new columns) old row rows keys.0 all)
kept old new columns (Update before after ∷ changes) rows keys all =
    kept old new columns changes (with_row old after (without_row before rows)) keys.1
    (all-with_row (KeepsKey old new columns) old after (without_row before rows) keys.0 (all-filter (KeepsKey old new columns) (λ other. not (same_row before other)) rows all))
kept old new columns (Delete row ∷ changes) rows keys all = kept old new columns changes (without_row row rows) keys.1 (all-filter (KeepsKey old new columns) (λ other. not (same_row row other)) rows all)

then_kept : (inputs : Inputs) → IsSound inputs → AllByRecursion (KeepsKey inputs.places.now (key_places inputs.altered.now.schema) inputs.altered.now.map) (rows_then inputs)
then_kept inputs sound = kept inputs.places.now (key_places inputs.altered.now.schema) inputs.altered.now.map (changes_of inputs.events.now) inputs.opening.now sound.keys sound.opening_keys

then_ascends : (inputs : Inputs) → IsSound inputs → Ascends inputs.places.now (rows_then inputs)
then_ascends inputs sound = (changes_seen inputs.places.now (changes_of inputs.events.now) inputs.opening.now sound.ascends sound.fit).2

-- the same of tests that say the same
alike_rows : (p q : Row → Bool) (inputs : Inputs) (result : Result PagedTable (Fault FoundRow)) → ((row : Row) → p row ≡ q row) → HasRows p inputs result → HasRows q inputs result
alike_rows p q inputs (Ok table) same has = (has.0, λ sound. ap (converted_rows inputs.altered.now.map) (sym (same_tests p q (rows_then inputs) same)) ∙ has.1 sound)
alike_rows p q inputs (Err fault) same has = tt

alike : (p q : Row → Bool) (inputs : Inputs) (result : Result PagedTable (Fault FoundRow)) → ((row : Row) → p row ≡ q row) → Rebuilds p inputs result → Rebuilds q inputs result
alike p q inputs result same is = record {
  rows = alike_rows p q inputs result same is.rows;
  finds = subst (λ (rows : List (Option Row)). Finds result (first_unfit inputs.altered.now.map 0 rows)) (sees_alike p q (seen_of inputs) same) is.finds;
}

-- one shard
pub one_shard : (inputs : Inputs) (from count : ℕ) (result : Result PagedTable (Fault FoundRow)) → count ≡ 1 → Rebuilds (own inputs from) inputs result → Rebuilds (between inputs from count) inputs result
one_shard inputs from count result one is =
    subst (λ (n : ℕ). Rebuilds (between inputs from n) inputs result) (sym one) (alike (own inputs from) (between inputs from 1) inputs result (λ row. sym (one_is from (home inputs row))) is)

-- what both halves find
both : (inputs : Inputs) (from low high : ℕ)
    → first_unfit inputs.altered.now.map 0 (shard_sees (between inputs from (low + high)) (seen_of inputs)) ≡ earlier (first_unfit inputs.altered.now.map 0 (shard_sees (between inputs (from + low) high) (seen_of inputs))) (first_unfit inputs.altered.now.map 0 (shard_sees (between inputs from low) (seen_of inputs)))
both inputs from low high =
    ap (first_unfit inputs.altered.now.map 0) (sees_alike (between inputs from (low + high)) (λ row. between inputs (from + low) high row || between inputs from low row) (seen_of inputs) (λ row. halves_are from low high (home inputs row)))
    ∙ both_find (between inputs (from + low) high) (between inputs from low) inputs.altered.now.map 0 (seen_of inputs)

halves_rows : (inputs : Inputs) (from low high : ℕ) (made put : PagedTable) (rows : List Row) → HasRows (between inputs (from + low) high) inputs (Ok made) → HasRows (between inputs from low) inputs (Ok put) → Ascends (key_places made.table.schema) made.table.rows
    → rows ≡ replaced_all (key_places put.table.schema) made.table.rows put.table.rows → IsSound inputs → Holds (between inputs from (low + high)) inputs (rows_then inputs) rows
halves_rows inputs from low high made put rows is then ascends replaced sound =
    let old : List ℕ = inputs.places.now in
    let new : List ℕ = key_places inputs.altered.now.schema in
    let columns : List MapColumn = inputs.altered.now.map in
    let p : Row → Bool = λ key. is_of (from + low) high (shard_number inputs.workers key) in
    let q : Row → Bool = λ key. is_of from low (shard_number inputs.workers key) in
    let apart : (key : Row) → p key ≡ true → q key ≡ false = λ key own. halves_apart from low high (shard_number inputs.workers key) own in
    let all = then_kept inputs sound in
    let in_order : Ascends new made.table.rows = subst (λ (schema : _). Ascends (key_places schema) made.table.rows) is.0 ascends in
    let new_ones = union_new old new columns p q apart (rows_then inputs) made.table.rows put.table.rows all (is.1 sound) (then.1 sound) in
    ap (converted_rows columns) (same_tests (between inputs from (low + high)) (λ row. between inputs (from + low) high row || between inputs from low row) (rows_then inputs) (λ row. halves_are from low high (home inputs row)))
    ∙ union_is old new columns p q apart (rows_then inputs) made.table.rows put.table.rows (then_ascends inputs sound) all (is.1 sound) (then.1 sound)
    ∙ ap (λ (rows : List Row). Some rows) (sym (none_replaced new made.table.rows put.table.rows in_order new_ones))
    ∙ ap (λ (rows : List Row). Some rows) (ap (λ (schema : _). replaced_all (key_places schema) made.table.rows put.table.rows) (sym then.0) ∙ sym replaced)

-- both have a table
pub both_made : (inputs : Inputs) (from low high count up : ℕ) (made put table : PagedTable) → low + high ≡ count → from + low ≡ up → Rebuilds (between inputs up high) inputs (Ok made) → Rebuilds (between inputs from low) inputs (Ok put)
    → Ascends (key_places made.table.schema) made.table.rows → table.table.schema ≡ put.table.schema → table.table.rows ≡ replaced_all (key_places put.table.schema) made.table.rows put.table.rows → Rebuilds (between inputs from count) inputs (Ok table)
both_made inputs from low high count up made put table sum place is then ascends schema rows =
    let here : Rebuilds (between inputs (from + low) high) inputs (Ok made) = subst (λ (n : ℕ). Rebuilds (between inputs n high) inputs (Ok made)) (sym place) is in
    subst (λ (n : ℕ). Rebuilds (between inputs from n) inputs (Ok table)) sum (record {
      rows = (schema ∙ then.rows.0, λ sound. halves_rows inputs from low high made put table.table.rows here.rows then.rows ascends rows sound);
      finds = both inputs from low high ∙ ap (λ (row : Option UnfitRow). earlier row (first_unfit inputs.altered.now.map 0 (shard_sees (between inputs from low) (seen_of inputs)))) here.finds ∙ then.finds;
    })

-- a row as it is found
abbrev there_found : FoundRow → Option UnfitRow
there_found row = Some (record { place = row.place; at = row.at })

picked : (b : Bool) (one other : FoundRow) → cond b (Some (record { place = other.place; at = other.at })) (Some (record { place = one.place; at = one.at })) ≡ (let row : FoundRow = cond b other one in there_found row)
picked true one other = refl
picked false one other = refl

-- both have an unfit row
pub both_unfit : (inputs : Inputs) (from low high count up : ℕ) (one other found : FoundRow) → low + high ≡ count → from + low ≡ up → Rebuilds (between inputs up high) inputs (Err (Refused other)) → Rebuilds (between inputs from low) inputs (Err (Refused one))
    → found ≡ cond (nat_lt other.place one.place) other one → Rebuilds (between inputs from count) inputs (Err (Refused found))
both_unfit inputs from low high count up one other found sum place is then first =
    let here : Rebuilds (between inputs (from + low) high) inputs (Err (Refused other)) = subst (λ (n : ℕ). Rebuilds (between inputs n high) inputs (Err (Refused other))) (sym place) is in
    subst (λ (n : ℕ). Rebuilds (between inputs from n) inputs (Err (Refused found))) sum (record {
      rows = tt;
      finds = both inputs from low high
          ∙ ap (λ (row : Option UnfitRow). earlier row (first_unfit inputs.altered.now.map 0 (shard_sees (between inputs from low) (seen_of inputs)))) here.finds
          ∙ ap (earlier (Some (record { place = other.place; at = other.at }))) then.finds
          ∙ picked (nat_lt other.place one.place) one other
          ∙ ap there_found (sym first);
    })

-- one has an unfit row, or no memory
pub first_unfit_alone : (inputs : Inputs) (from low high count up : ℕ) (fault : Fault FoundRow) (made : PagedTable) → low + high ≡ count → from + low ≡ up → Rebuilds (between inputs up high) inputs (Ok made) → Rebuilds (between inputs from low) inputs (Err fault)
    → Rebuilds (between inputs from count) inputs (Err fault)
first_unfit_alone inputs from low high count up Memory made sum place is then = record { rows = tt; finds = tt }
first_unfit_alone inputs from low high count up (Refused found) made sum place is then =
    let here : Rebuilds (between inputs (from + low) high) inputs (Ok made) = subst (λ (n : ℕ). Rebuilds (between inputs n high) inputs (Ok made)) (sym place) is in
    subst (λ (n : ℕ). Rebuilds (between inputs from n) inputs (Err (Refused found))) sum (record {
      rows = tt;
      finds = both inputs from low high ∙ ap (λ (row : Option UnfitRow). earlier row (first_unfit inputs.altered.now.map 0 (shard_sees (between inputs from low) (seen_of inputs)))) here.finds ∙ then.finds;
    })

pub last_unfit_alone : (inputs : Inputs) (from low high count up : ℕ) (fault : Fault FoundRow) (put : PagedTable) → low + high ≡ count → from + low ≡ up → Rebuilds (between inputs up high) inputs (Err fault) → Rebuilds (between inputs from low) inputs (Ok put)
    → Rebuilds (between inputs from count) inputs (Err fault)
last_unfit_alone inputs from low high count up Memory put sum place is then = record { rows = tt; finds = tt }
last_unfit_alone inputs from low high count up (Refused found) put sum place is then =
    let here : Rebuilds (between inputs (from + low) high) inputs (Err (Refused found)) = subst (λ (n : ℕ). Rebuilds (between inputs n high) inputs (Err (Refused found))) (sym place) is in
    subst (λ (n : ℕ). Rebuilds (between inputs from n) inputs (Err (Refused found))) sum (record {
      rows = tt;
      finds = both inputs from low high
          ∙ ap (λ (row : Option UnfitRow). earlier row (first_unfit inputs.altered.now.map 0 (shard_sees (between inputs from low) (seen_of inputs)))) here.finds
          ∙ ap (earlier (Some (record { place = found.place; at = found.at }))) then.finds;
    })

-- all shards
kept_all : (p : Row → Bool) (rows : List Row) → ((row : Row) → p row ≡ true) → filter p rows ≡ rows
kept_all p [] all = refl
kept_all p (row ∷ rows) all = rw (all row) (ap (λ (rows : List Row). row ∷ rows) (kept_all p rows all))

every : (inputs : Inputs) → AreShards inputs.workers → (row : Row) → between inputs 0 inputs.workers row ≡ true
every inputs shards row = all_are inputs.workers (home inputs row) (mod-lt _ (omega (arith, shards.0)))

pub all_rows : (inputs : Inputs) (made : List Row) → AreShards inputs.workers → Holds (between inputs 0 inputs.workers) inputs (rows_then inputs) made → converted_rows inputs.altered.now.map (rows_then inputs) ≡ Some made
all_rows inputs made shards holds = ap (converted_rows inputs.altered.now.map) (sym (kept_all (between inputs 0 inputs.workers) (rows_then inputs) (every inputs shards))) ∙ holds

pub all_found : (inputs : Inputs) (result : Result PagedTable (Fault FoundRow)) → AreShards inputs.workers → Finds result (first_unfit inputs.altered.now.map 0 (shard_sees (between inputs 0 inputs.workers) (seen_of inputs))) → Finds result (first_unfit inputs.altered.now.map 0 (seen_of inputs))
all_found inputs result shards finds = subst (λ (rows : List (Option Row)). Finds result (first_unfit inputs.altered.now.map 0 rows)) (sees_all (between inputs 0 inputs.workers) (seen_of inputs) (every inputs shards)) finds

-- both halves
pub united : (inputs : Inputs) (from low high count up : ℕ) (one other result : Result PagedTable (Fault FoundRow)) → low + high ≡ count → from + low ≡ up → Rebuilds (between inputs from low) inputs one → Rebuilds (between inputs up high) inputs other → Unites one other result
    → Rebuilds (between inputs from count) inputs result
united inputs from low high count up one other (Err Memory) sum place is then unites = record { rows = tt; finds = tt }
united inputs from low high count up (Ok put) (Ok made) (Ok table) sum place is then unites = both_made inputs from low high count up made put table sum place then is unites.2 unites.0 unites.1
united inputs from low high count up (Ok put) (Ok made) (Err (Refused row)) sum place is then unites = absurd unites
united inputs from low high count up (Err (Refused one)) (Err (Refused other)) (Err (Refused row)) sum place is then unites = both_unfit inputs from low high count up one other row sum place then is unites
united inputs from low high count up (Err (Refused one)) (Ok made) (Err (Refused row)) sum place is then unites =
    subst (λ (found : FoundRow). Rebuilds (between inputs from count) inputs (Err (Refused found))) (sym unites) (first_unfit_alone inputs from low high count up (Refused one) made sum place then is)
united inputs from low high count up (Ok put) (Err (Refused other)) (Err (Refused row)) sum place is then unites =
    subst (λ (found : FoundRow). Rebuilds (between inputs from count) inputs (Err (Refused found))) (sym unites) (last_unfit_alone inputs from low high count up (Refused other) put sum place then is)
united inputs from low high count up (Err Memory) other (Ok table) sum place is then unites = absurd unites
united inputs from low high count up (Err Memory) other (Err (Refused row)) sum place is then unites = absurd unites
united inputs from low high count up (Err (Refused one)) (Err Memory) (Err (Refused row)) sum place is then unites = absurd unites
united inputs from low high count up (Err (Refused one)) other (Ok table) sum place is then unites = absurd unites
united inputs from low high count up (Ok put) (Err other) (Ok table) sum place is then unites = absurd unites
united inputs from low high count up (Ok put) (Err Memory) (Err (Refused row)) sum place is then unites = absurd unites

-- one shard's table, whose opening rows are put first
in_opening : (inputs : Inputs) (number : ℕ) → shard_sees (own inputs number) (seen_of inputs) ≡ shard_sees (own inputs number) (map (λ (row : Row). Some row) inputs.opening.now) ++ shard_sees (own inputs number) (map row_after (changes_of inputs.events.now))
in_opening inputs number = map-append (only (own inputs number)) (map (λ (row : Row). Some row) inputs.opening.now) (map row_after (changes_of inputs.events.now))

how_many : (inputs : Inputs) (number : ℕ) → 0 + length (shard_sees (own inputs number) (map (λ (row : Row). Some row) inputs.opening.now)) ≡ length inputs.opening.now
how_many inputs number = sym (nothing_added (length (shard_sees (own inputs number) (map (λ (row : Row). Some row) inputs.opening.now)))) ∙ length-map (map (λ (row : Row). Some row) inputs.opening.now) (only (own inputs number)) ∙ length-map inputs.opening.now (λ (row : Row). Some row)

pub left_opening : (inputs : Inputs) (number : ℕ) (fault : Fault FoundRow) → Finds {A = Unit {0}} (Err fault) (first_unfit inputs.altered.now.map 0 (shard_sees (own inputs number) (map (λ (row : Row). Some row) inputs.opening.now))) → Rebuilds (own inputs number) inputs (Err fault)
left_opening inputs number Memory finds = record { rows = tt; finds = tt }
left_opening inputs number (Refused found) finds = record {
  rows = tt;
  finds = ap (first_unfit inputs.altered.now.map 0) (in_opening inputs number)
      ∙ found_before inputs.altered.now.map 0 (shard_sees (own inputs number) (map (λ (row : Row). Some row) inputs.opening.now)) (shard_sees (own inputs number) (map row_after (changes_of inputs.events.now))) (record { place = found.place; at = found.at }) finds;
}

-- what is found after the opening rows
after_opening : (inputs : Inputs) (number : ℕ) → first_unfit inputs.altered.now.map 0 (shard_sees (own inputs number) (map (λ (row : Row). Some row) inputs.opening.now)) ≡ None
    → first_unfit inputs.altered.now.map 0 (shard_sees (own inputs number) (seen_of inputs)) ≡ first_unfit inputs.altered.now.map (length inputs.opening.now) (shard_sees (own inputs number) (map row_after (changes_of inputs.events.now)))
after_opening inputs number none =
    ap (first_unfit inputs.altered.now.map 0) (in_opening inputs number)
    ∙ none_before inputs.altered.now.map 0 (shard_sees (own inputs number) (map (λ (row : Row). Some row) inputs.opening.now)) (shard_sees (own inputs number) (map row_after (changes_of inputs.events.now))) none
    ∙ ap (λ (n : ℕ). first_unfit inputs.altered.now.map n (shard_sees (own inputs number) (map row_after (changes_of inputs.events.now)))) (how_many inputs number)

pub left_events : (inputs : Inputs) (number : ℕ) (fault : Fault FoundRow) → first_unfit inputs.altered.now.map 0 (shard_sees (own inputs number) (map (λ (row : Row). Some row) inputs.opening.now)) ≡ None
    → Finds {A = Unit {0}} (Err fault) (first_unfit inputs.altered.now.map (length inputs.opening.now) (shard_sees (own inputs number) (map row_after (changes_of inputs.events.now)))) → Rebuilds (own inputs number) inputs (Err fault)
left_events inputs number Memory none finds = record { rows = tt; finds = tt }
left_events inputs number (Refused found) none finds = record { rows = tt; finds = after_opening inputs number none ∙ finds }

pub all_followed : (inputs : Inputs) (number : ℕ) (empty : TableRows) (opened table : PagedTable) → empty.schema ≡ inputs.altered.now.schema → empty.rows ≡ [] → opened.table.schema ≡ empty.schema
    → (IsSound inputs → empty ≡ empty_table inputs → Holds (own inputs number) inputs inputs.opening.now opened.table.rows) → first_unfit inputs.altered.now.map 0 (shard_sees (own inputs number) (map (λ (row : Row). Some row) inputs.opening.now)) ≡ None
    → table.table.schema ≡ opened.table.schema → (IsSound inputs → opened.table.schema ≡ inputs.altered.now.schema → Holds (own inputs number) inputs inputs.opening.now opened.table.rows → Holds (own inputs number) inputs (rows_then inputs) table.table.rows)
    → first_unfit inputs.altered.now.map (length inputs.opening.now) (shard_sees (own inputs number) (map row_after (changes_of inputs.events.now))) ≡ None → Rebuilds (own inputs number) inputs (Ok table)
all_followed inputs number empty opened table schema none same rows found then last more = record {
  rows = (then ∙ same ∙ schema, λ sound. last sound (same ∙ schema) (rows sound (ap (λ (s : Schema). record { schema = s; rows = empty.rows }) schema ∙ ap (λ (rs : List Row). record { schema = inputs.altered.now.schema; rows = rs }) none)));
  finds = after_opening inputs number found ∙ more;
}

-- *The rebuilt table*
pub rebuilt : (inputs : Inputs) (table : TableRows) (result : Result PagedTable (Fault FoundRow)) → AreShards inputs.workers → inputs.places.now ≡ key_places table.schema → inputs.opening.now ≡ table.rows → Rebuilds (between inputs 0 inputs.workers) inputs result
    → GoTogether inputs.altered.now table (changes_of inputs.events.now) → IsRebuilt inputs.altered.now table (changes_of inputs.events.now) result
rebuilt inputs table (Ok made) shards places rows is together =
    let new : List ℕ = key_places inputs.altered.now.schema in
    let columns : List MapColumn = inputs.altered.now.map in
    let changes : List Change = changes_of inputs.events.now in
    let sound : IsSound inputs = subst (λ (ps : List ℕ). Fit ps new columns inputs.opening.now changes) (sym places) (subst (λ (rs : List Row). Fit (key_places table.schema) new columns rs changes) (sym rows) together) in
    (is.rows.0, ap (converted_rows columns) (ap (λ (ps : List ℕ). change_all ps changes table.rows) (sym places) ∙ ap (change_all inputs.places.now changes) (sym rows)) ∙ all_rows inputs made.table.rows shards (is.rows.1 sound))
rebuilt inputs table (Err fault) shards places rows is together = tt

pub rebuilt_found : (inputs : Inputs) (table : TableRows) (result : Result PagedTable (Fault FoundRow)) → AreShards inputs.workers → inputs.opening.now ≡ table.rows → Rebuilds (between inputs 0 inputs.workers) inputs result
    → Finds result (first_unfit inputs.altered.now.map 0 (rows_seen table.rows (changes_of inputs.events.now)))
rebuilt_found inputs table result shards rows is =
    subst (λ (rs : List Row). Finds result (first_unfit inputs.altered.now.map 0 (rows_seen rs (changes_of inputs.events.now)))) rows (all_found inputs result shards is.finds)
