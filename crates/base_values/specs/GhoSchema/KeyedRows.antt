-- What rows kept by their key stand for.
use Rattle.std.specs.Prelude.{ℕ, List, map, Option, Some, None}
use Rattle.base_values.specs.declared.value.Value.{Value}
use Rattle.base_values.specs.declared.gho_schema.keyed.PutFault.{PutFault}
use Rattle.base_values.specs.declared.gho_schema.keyed.PutFault.TheVariants.{Repeated, Memory}
use Rattle.base_values.specs.declared.mysql_errors.TheConstants.{ER_DUP_ENTRY}
use Rattle.base_values.specs.GhoSchema.Rows.{key_of}

-- rows in order of the key at these places
pub record Keyed : Type 0 where
  pub places : List ℕ
  pub rows : List (List Value)

-- each row beside its key
abbrev pub with_keys : List ℕ → List (List Value) → List (List Value × List Value)
with_keys places rows = map (λ row. (key_of places row, row)) rows

-- the rows of a map from keys to rows
abbrev pub rows_of : List (List Value × List Value) → List (List Value)
rows_of entries = map (λ entry. entry.1) entries

-- the number of a refusal (MySQL's manual, "Server Error Message Reference"); want of memory has none
abbrev pub put_number : PutFault → Option ℕ
put_number Repeated = Some ER_DUP_ENTRY
put_number Memory = None
