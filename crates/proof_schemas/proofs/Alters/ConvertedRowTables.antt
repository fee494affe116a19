-- An altered table is a table.
use Rattle.std.proofs.Common.{◌≡◌, ℕ, Bool, true, false, not, eqb, List, [], ◌∷◌, length, Option, Some, None, Result, Ok, Err, refl, sym, subst, ◌∙◌}
use Rattle.std.specs.declared.cmp.Ordering.TheVariants.{Less}
use Rattle.std.specs.List.{AllByRecursion}
use Rattle.std.specs.Result.{result_ok}
use Rattle.base_values.specs.KeyOrder.{compare_keys}
use Rattle.base_values.specs.Laws.{StoresAgain}
use Rattle.base_values.specs.declared.value.Value.{Value}
use Rattle.base_values.specs.declared.gho_schema.schema.Index.{Index}
use Rattle.base_values.specs.declared.gho_schema.schema.Schema.{Schema}
use Rattle.base_values.specs.GhoSchema.Options.{◌>>=◌}
use Rattle.base_values.specs.GhoSchema.Rows.{key_of, places_of}
use Rattle.base_values.specs.GhoSchema.Tables.{IsRow, Ascends, Apart, clash}
use Rattle.base_values.specs.declared.row_conversion.conversion_fault.UnfitAt.{UnfitAt}
use Rattle.base_values.specs.declared.row_conversion.map.MapColumn.{MapColumn}
use Rattle.base_values.specs.RowConversion.ConvertedRows.{converted_row, converted_rows}
use Rattle.base_values.specs.GhoSchema.ClusteredKey.{clustered_key}
use Rattle.base_values.specs.SchemaRules.Reasons.{first_reason}
use Rattle.sql_change.specs.declared.code.AlterCode.TheVariants as codes
use Rattle.sql_change.specs.declared.so_far.AlteredSoFar.{AlteredSoFar}
use Rattle.sql_change.specs.AlteredSchema.{keeps_key, result_reasons}
use Rattle.base_values.proofs.SchemaRules.Steps.{none_first}
use Rattle.proof_schemas.specs.Alters.Laws.{Altered, KeepsKeys, ConvertedRowsKeepClusteredKeys, AlteredTablesAreTables}
use Rattle.proof_schemas.proofs.Alters.ConvertedRowRows.{converted_rows_are_rows}
use Rattle.proof_schemas.proofs.Alters.KeepingKeys.{ends, stay_apart, clustered_stay}
use Rattle.std.proofs.lemmas.Bool.{not-false}

-- ---- the image of each row

abbrev Rows : Type 0
Rows = List (List Value)

abbrev some_rows : Rows → Option Rows
some_rows rows = Some rows

rows-are : (a b : Rows) → some_rows a ≡ some_rows b → a ≡ b
rows-are a b e = cc

abbrev AllConvertedRows : List MapColumn → Rows → Rows → Type 0
AllConvertedRows map [] [] = Unit {0}
AllConvertedRows map (row ∷ rows) (made ∷ others) = (converted_row map row ≡ Ok made) × AllConvertedRows map rows others
AllConvertedRows map rows made = ⊥

front-converted_rows : (map : List MapColumn) (row : List Value) (rows made : Rows) (front : Result (List Value) UnfitAt) (rest : Option Rows) → converted_row map row ≡ front → ((others : Rows) → rest ≡ Some others → AllConvertedRows map rows others)
    → (result_ok front >>= λ first. rest >>= λ others. Some (first ∷ others)) ≡ Some made → AllConvertedRows map (row ∷ rows) made
front-converted_rows map row rows made (Ok first) (Some others) is all e = subst (AllConvertedRows map (row ∷ rows)) (rows-are (first ∷ others) made e) (is, all others refl)
front-converted_rows map row rows made (Ok first) None is all e = absurd cc
front-converted_rows map row rows made (Err unfit) rest is all e = absurd cc

all-converted_rows : (map : List MapColumn) (rows made : Rows) → converted_rows map rows ≡ Some made → AllConvertedRows map rows made
unfolding converted_rows
all-converted_rows map [] made e = subst (AllConvertedRows map []) (rows-are [] made e) tt
all-converted_rows map (row ∷ rows) made e = front-converted_rows map row rows made (converted_row map row) (converted_rows map rows) refl (all-converted_rows map rows) e

-- ---- rows by rows

module _ (map : List MapColumn) (P Q : List Value → Type 0) (each : (row made : List Value) → P row → converted_row map row ≡ Ok made → Q made) where
  converted_rows-all : (rows made : Rows) → AllConvertedRows map rows made → AllByRecursion P rows → AllByRecursion Q made
  converted_rows-all [] [] is all = tt
  converted_rows-all [] (m ∷ made) is all = absurd is
  converted_rows-all (r ∷ rows) [] is all = absurd is
  converted_rows-all (r ∷ rows) (m ∷ made) is all = (each r m all.0 is.0, converted_rows-all rows made is.1 all.1)

both-all : (P Q : List Value → Type 0) (rows : Rows) → AllByRecursion P rows → AllByRecursion Q rows → AllByRecursion (λ row. P row × Q row) rows
both-all P Q [] ps qs = tt
both-all P Q (r ∷ rows) ps qs = ((ps.0, qs.0), both-all P Q rows ps.1 qs.1)

abbrev IsAbove : List ℕ → List Value → List Value → Type 0
IsAbove places row other = compare_keys (key_of places row) (key_of places other) ≡ Less

ascend : (schema : Schema) (new : Altered) (old index : Index) (rows made : Rows) → KeepsKeys schema new old index → AllByRecursion (IsRow schema.columns) rows → AllConvertedRows new.1 rows made → Ascends old.places rows → Ascends index.places made
ascend schema new old index [] [] keeps fit is up = tt
ascend schema new old index [] (m ∷ made) keeps fit is up = absurd is
ascend schema new old index (r ∷ rows) [] keeps fit is up = absurd is
ascend schema new old index (r ∷ rows) (m ∷ made) keeps fit is up =
    let key = keeps r m fit.0 is.0 in
    let above : AllByRecursion (IsAbove index.places m) made =
    converted_rows-all new.1 (λ (other : List Value). IsRow schema.columns other × IsAbove old.places r other) (IsAbove index.places m)
    (λ other converted_row h here. subst (λ (k : List Value). compare_keys k (key_of index.places converted_row) ≡ Less) (sym key) (subst (λ (k : List Value). compare_keys (key_of old.places r) k ≡ Less) (sym (keeps other converted_row h.0 here)) h.1))
    rows made is.1 (both-all (IsRow schema.columns) (IsAbove old.places r) rows fit.1 up.0) in
    (above, ascend schema new old index rows made keeps fit.1 is.1 up.1)

-- what follows from a clash doesn't hold, so there is none
no_clash : (b c : Bool) → (b ≡ true → c ≡ true) → c ≡ false → b ≡ false
no_clash true c then none = sym (then refl) ∙ none
no_clash false c then none = refl

abbrev KeepsApart : Schema → Altered → Type 0
KeepsApart schema new = (a b made other : List Value) → IsRow schema.columns a → IsRow schema.columns b → converted_row new.1 a ≡ Ok made → converted_row new.1 b ≡ Ok other → clash new.0.uniques made other ≡ true → clash schema.uniques a b ≡ true

abbrev IsApart : List Index → List Value → List Value → Type 0
IsApart uniques row other = clash uniques row other ≡ false

stay : (schema : Schema) (new : Altered) (rows made : Rows) → KeepsApart schema new → AllByRecursion (IsRow schema.columns) rows → AllConvertedRows new.1 rows made → Apart schema.uniques rows → Apart new.0.uniques made
stay schema new [] [] keeps fit is apart = tt
stay schema new [] (m ∷ made) keeps fit is apart = absurd is
stay schema new (r ∷ rows) [] keeps fit is apart = absurd is
stay schema new (r ∷ rows) (m ∷ made) keeps fit is apart =
    let others : AllByRecursion (IsApart new.0.uniques m) made =
    converted_rows-all new.1 (λ (other : List Value). IsRow schema.columns other × IsApart schema.uniques r other) (IsApart new.0.uniques m)
    (λ other converted_row h here. no_clash (clash new.0.uniques m converted_row) (clash schema.uniques r other) (keeps r other m converted_row fit.0 h.0 is.0 here) h.1)
    rows made is.1 (both-all (IsRow schema.columns) (IsApart schema.uniques r) rows fit.1 apart.0) in
    (others, stay schema new rows made keeps fit.1 is.1 apart.1)

-- ---- both tables have a clustered key

pub record Both (a b : Option Index) : Type 0 where
  pub old : Index
  pub index : Index
  pub there : a ≡ Some old
  pub here : b ≡ Some index

both-there : (standing : AlteredSoFar) (a b : Option Index) → keeps_key standing a b ≡ true → Both a b
both-there standing (Some old) (Some index) e = record { old = old; index = index; there = refl; here = refl }
both-there standing (Some old) None e = absurd cc
both-there standing None b e = absurd cc

pub both-clustered : (schema : Schema) (standing : AlteredSoFar) → first_reason (result_reasons schema standing) ≡ None → Both (clustered_key schema) (clustered_key standing.schema)
both-clustered schema standing none =
    let changed = not (keeps_key standing (clustered_key schema) (clustered_key standing.schema)) in
    let first = none_first (eqb (length standing.schema.columns) 0) codes.AllColumnsDropped ((changed, codes.ClusteredKeyChange) ∷ []) none in
    let second = none_first changed codes.ClusteredKeyChange [] first.1 in
    both-there standing (clustered_key schema) (clustered_key standing.schema) (not-false _ second.0)

pub clustered_keys_kept : ConvertedRowsKeepClusteredKeys
clustered_keys_kept approve schema clauses new row made valid e is_row is =
    let end = ends approve schema clauses new valid e in
    let both = subst (λ (n : Altered). Both (clustered_key schema) (clustered_key n.0)) end.is (both-clustered schema end.standing end.reasons) in
    let keeps = clustered_stay approve schema clauses new both.old both.index valid e both.there both.here row made is_row is in
    subst (λ (o : Option Index). key_of (places_of (clustered_key new.0)) made ≡ key_of (places_of o) row) (sym both.there) (subst (λ (o : Option Index). key_of (places_of o) made ≡ key_of both.old.places row) (sym both.here) keeps)

pub altered_tables_are : StoresAgain → AlteredTablesAreTables
altered_tables_are again approve schema clauses new rows made valid e table is =
    let end = ends approve schema clauses new valid e in
    let both = subst (λ (n : Altered). Both (clustered_key schema) (clustered_key n.0)) end.is (both-clustered schema end.standing end.reasons) in
    let all = all-converted_rows new.1 rows made is in
    let keeps = clustered_stay approve schema clauses new both.old both.index valid e both.there both.here in
    let up = subst (λ (o : Option Index). Ascends (places_of o) rows) both.there table.ascends in
    record {
      rows_fit = converted_rows-all new.1 (IsRow schema.columns) (IsRow new.0.columns) (λ row converted_row fit here. converted_rows_are_rows again approve schema clauses new row converted_row valid e here) rows made all table.rows_fit;
      ascends = subst (λ (o : Option Index). Ascends (places_of o) made) (sym both.here) (ascend schema new both.old both.index rows made keeps table.rows_fit all up);
      apart = stay schema new rows made (λ a b first second. stay_apart approve schema clauses new a b first second valid e) table.rows_fit all table.apart;
    }
