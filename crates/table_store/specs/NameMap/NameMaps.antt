-- What contracts see of values that are kept by name.
use Rattle.std.specs.Prelude.{ℕ, not, List, map, set, Bool, String}
use Rattle.std.specs.List.{list_any, prefix_len}
use Rattle.std.specs.Str.{bytes_eq}
use Rattle.std.specs.String.{string_bytes}
use Rattle.std.specs.Map.{keys_of, values_of}

-- the names and the values in order of adding, and for how many more there is room
pub record NamedValues (T : Type 0) : Type 0 where
  pub names : List (List ℕ)
  pub values : List T
  pub spare : ℕ

-- the names and the values of a map's entries
abbrev pub named_values : {A T : Type 0} → List (String A × T) → ℕ → NamedValues T
named_values entries spare = record { names = map string_bytes (keys_of entries); values = values_of entries; spare = spare }

-- how many names come before this one; where it isn't there, how many there are
abbrev pub names_before : List ℕ → List (List ℕ) → ℕ
names_before name names = prefix_len (λ other. not (bytes_eq other name)) names

-- whether the name is there
abbrev pub has_name : List ℕ → List (List ℕ) → Bool
has_name name names = list_any (λ other. bytes_eq other name) names

-- the same names, with this value at the place
abbrev pub with_value : {T : Type 0} → NamedValues T → ℕ → T → NamedValues T
with_value named place value = record named { values = set named.values place value }
