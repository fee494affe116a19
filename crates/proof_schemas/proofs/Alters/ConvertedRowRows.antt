-- The image of a row is a row of the altered table.
use Rattle.std.proofs.Common.{◌≡◌, ℕ, suc, ◌+◌, List, [], ◌∷◌, length, Option, Ok, refl, sym, ap, subst, arith}
use Rattle.base_values.specs.Laws.{StoresAgain}
use Rattle.base_values.specs.StoredValues.{stores}
use Rattle.base_values.specs.declared.value.Value.{Value}
use Rattle.base_values.specs.declared.gho_schema.schema.Column.{Column}
use Rattle.base_values.specs.GhoSchema.Tables.{IsRow}
use Rattle.base_values.specs.RowConversion.ConvertedRows.{source, converted_row_from, converted_row}
use Rattle.sql_change.specs.AlteredSchema.{source_of, map_of}
use Rattle.proof_schemas.specs.Alters.Laws.{Altered, ConvertedRowsAreRows, MapsFit}
use Rattle.proof_schemas.proofs.Alters.ConvertedRows.{front-of, made-is}
use Rattle.proof_schemas.proofs.Alters.KeepingKeys.{ends}

module _ (again : StoresAgain) where
  made-row : (columns : List Column) (origins : List (Option ℕ)) (row made : List Value) (column : ℕ) → length origins ≡ length columns → converted_row_from column (map_of columns origins) row ≡ Ok made → IsRow columns made
  unfolding converted_row_from map_of
  made-row [] origins row made column same e = subst (IsRow []) (made-is [] made e) tt
  made-row (c ∷ columns) [] row made column same e = absurd (omega (arith, same))
  made-row (c ∷ columns) (o ∷ origins) row made column same e =
      let f = front-of column (stores (source (source_of o c.default) row) c.kind c.nullable) (converted_row_from (column + 1) (map_of columns origins) row) made e in
      let first = again (source (source_of o c.default) row) c.kind c.nullable f.first f.stores_first in
      subst (IsRow (c ∷ columns)) f.is (first, made-row columns origins row f.others (column + 1) (omega (arith, same)) f.rest)

map-length : (columns : List Column) (origins : List (Option ℕ)) → length origins ≡ length columns → length (map_of columns origins) ≡ length columns
unfolding map_of
map-length [] [] same = refl
map-length [] (o ∷ origins) same = refl
map-length (c ∷ columns) [] same = absurd (omega (arith, same))
map-length (c ∷ columns) (o ∷ origins) same = ap suc (map-length columns origins (omega (arith, same)))

pub converted_rows_are_rows : StoresAgain → ConvertedRowsAreRows
converted_rows_are_rows again approve schema clauses new row made valid e is =
    let end = ends approve schema clauses new valid e in
    let by : converted_row (map_of end.standing.schema.columns end.standing.origins) row ≡ Ok made = subst (λ (n : Altered). converted_row n.1 row ≡ Ok made) (sym end.is) is in
    subst (λ (n : Altered). IsRow n.0.columns made) end.is (made-row again end.standing.schema.columns end.standing.origins row made 0 end.kept.stands.origins by)

pub maps_fit : MapsFit
maps_fit approve schema clauses new valid e =
    let end = ends approve schema clauses new valid e in
    subst (λ (n : Altered). length n.1 ≡ length n.0.columns) end.is (map-length end.standing.schema.columns end.standing.origins end.kept.stands.origins)
