-- The names of a table's keys, in the order in which they are written.
use Rattle.std.specs.Prelude.{ℕ, List, [], ◌∷◌, ◌++◌, fold, Option, Some, None}
use Rattle.base_values.specs.SchemaRules.Names.{free_name, first_column}
use Rattle.sql_create.specs.declared.keys.NamedKeys.{NamedKeys}
use Rattle.sql_create.specs.declared.written.WrittenKey.{WrittenKey}

-- the name of a key of these columns, where those before it have these names
abbrev pub key_name : List (List ℕ) → List (List ℕ) → List (List ℕ) → Option (List ℕ) → List ℕ
key_name names taken columns (Some name) = name
key_name names taken columns None = free_name taken (first_column names columns)

abbrev pub no_keys : NamedKeys
no_keys = record { names = []; keys = [] }

abbrev pub with_name : NamedKeys → WrittenKey → List ℕ → NamedKeys
with_name before key name = record {
  names = before.names ++ name ∷ [];
  keys = before.keys ++ record { is_unique = key.is_unique; text = record { name = Some name; columns = key.text.columns } } ∷ [];
}

-- one key more, which has its name by those before it
abbrev pub with_key : List (List ℕ) → NamedKeys → WrittenKey → NamedKeys
with_key names before key = with_name before key (key_name names before.names key.text.columns key.text.name)

-- the keys, each with a name
unfoldable pub named_keys : List (List ℕ) → List WrittenKey → NamedKeys
named_keys names keys = fold (with_key names) no_keys keys
