-- The converted rows of shards are the shards of the converted rows.
use Rattle.std.proofs.Common.{◌≡◌, ◌<◌, ℕ, ◌==◌, Bool, true, false, List, [], ◌∷◌, filter, cond, Option, Some, None, Result, Ok, Err, refl, sym, ap, ◌∙◌}
use Rattle.std.specs.Result.{result_ok}
use Rattle.std.specs.List.{AllByRecursion}
use Rattle.base_values.specs.declared.value.Value.{Value}
use Rattle.base_values.specs.declared.row_conversion.map.MapColumn.{MapColumn}
use Rattle.base_values.specs.declared.row_conversion.conversion_fault.UnfitAt.{UnfitAt}
use Rattle.base_values.specs.RowConversion.ConvertedRows.{converted_row, converted_rows}
use Rattle.base_values.specs.GhoSchema.Options.{◌>>=◌}
use Rattle.base_values.specs.GhoSchema.Rows.{key_of}
use Rattle.base_values.proofs.SchemaRules.Steps.{some_is}
use Rattle.table_store.proofs.Orders.{Row}
use Rattle.proof_rebuild.specs.Shards.{KeepsKey, shard_of}
use Rattle.proof_rebuild.specs.Laws.{ShardConversionsJoin}
use Rattle.proof_rebuild.proofs.Joining.{alike, joined}

-- what the converted rows are made of
pub record IsConverted (one : Result Row UnfitAt) (rest : Option (List Row)) (made : List Row) : Type 0 where
  pub first : Row
  pub others : List Row
  pub one_is : one ≡ Ok first
  pub rest_is : rest ≡ Some others
  pub made_is : made ≡ first ∷ others

pub converted_parts : (one : Result Row UnfitAt) (rest : Option (List Row)) (made : List Row) → (result_ok one >>= λ first. rest >>= λ others. Some (first ∷ others)) ≡ Some made → IsConverted one rest made
converted_parts (Err at) rest made is = absurd cc
converted_parts (Ok first) None made is = absurd cc
converted_parts (Ok first) (Some others) made is = record { first = first; others = others; one_is = refl; rest_is = refl; made_is = sym (some_is (first ∷ others) made is) }

converted_here : (map : List MapColumn) (row first : Row) (rows made : List Row) (b : Bool) → converted_row map row ≡ Ok first → converted_rows map rows ≡ Some made → converted_rows map (cond b (row ∷ rows) rows) ≡ Some (cond b (first ∷ made) made)
unfolding converted_rows
converted_here map row first rows made true one rest = rw (one, rest) refl
converted_here map row first rows made false one rest = rest

-- a test of rows and one of their converted rows have the same answer
abbrev pub Agrees : (Row → Bool) → (Row → Bool) → List MapColumn → Row → Type 0
Agrees p q map row = (one : Row) → converted_row map row ≡ Ok one → p row ≡ q one

pub converted_some : (p q : Row → Bool) (map : List MapColumn) (rows made : List Row) → AllByRecursion (Agrees p q map) rows → converted_rows map rows ≡ Some made → converted_rows map (filter p rows) ≡ Some (filter q made)
unfolding converted_rows
converted_some p q map [] made same is = ap (λ (rows : List Row). Some (filter q rows)) (some_is [] made is)
converted_some p q map (row ∷ rows) made same is =
    let parts : IsConverted (converted_row map row) (converted_rows map rows) made = converted_parts (converted_row map row) (converted_rows map rows) made is in
    let rest : converted_rows map (filter p rows) ≡ Some (filter q parts.others) = converted_some p q map rows parts.others same.1 parts.rest_is in
    converted_here map row parts.first (filter p rows) (filter q parts.others) (p row) parts.one_is rest
    ∙ ap (λ (b : Bool). Some (cond b (parts.first ∷ filter q parts.others) (filter q parts.others))) (same.0 parts.first parts.one_is)
    ∙ ap (λ (rows : List Row). Some (filter q rows)) (sym parts.made_is)

-- rows whose converted rows keep their keys are of the shards of these
agree : (home : List Value → ℕ) (old new : List ℕ) (map : List MapColumn) (shard : ℕ) (rows : List Row) → AllByRecursion (KeepsKey old new map) rows
    → AllByRecursion (Agrees (λ row. home (key_of old row) == shard) (λ one. home (key_of new one) == shard) map) rows
agree home old new map shard [] keeps = tt
agree home old new map shard (row ∷ rows) keeps = (λ one is. ap (λ (key : List Value). home key == shard) (sym (keeps.0 one is)), agree home old new map shard rows keeps.1)

all_home : (home : List Value → ℕ) (new : List ℕ) (count : ℕ) (rows : List Row) → ((key : List Value) → home key < count) → AllByRecursion (λ row. home (key_of new row) < count) rows
all_home home new count [] below = tt
all_home home new count (row ∷ rows) below = (below (key_of new row), all_home home new count rows below)

-- *Converted shards make the altered table*
pub shard_conversions_join : ShardConversionsJoin
shard_conversions_join home old new map count rows made shards below keeps ascends is given =
    let here : (shard : ℕ) → shard < count → shards shard ≡ shard_of (λ one. home (key_of new one)) shard made =
    λ shard less. some_is (shards shard) (shard_of (λ one. home (key_of new one)) shard made) (sym (given shard less) ∙ converted_some (λ row. home (key_of old row) == shard) (λ one. home (key_of new one) == shard) map rows made (agree home old new map shard rows keeps) is) in
    alike new shards (λ shard. shard_of (λ one. home (key_of new one)) shard made) count here
    ∙ joined (λ one. home (key_of new one)) new count made ascends (all_home home new count made below)
