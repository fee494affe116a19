-- How long names may be, and which names of tables are kept.
use Rattle.std.specs.Prelude.{ℕ, Bool, not, ◌&&◌, nat_le, if◌then◌else◌, List}
use Rattle.base_values.specs.StoredValues.{character_count}
use Rattle.base_values.specs.GhoSchema.Names.{is_kept}

-- the name has 1 to this many characters
unfoldable pub is_name_length : ℕ → List ℕ → Bool
is_name_length limit name = nat_le 1 (character_count name) && nat_le (character_count name) limit

-- A column's name has 1 to 64 characters ("Identifier Length Limits").
abbrev pub is_column_name : List ℕ → Bool
is_column_name name = is_name_length 64 name

-- A table's name has 1 to 59 characters, so that the names of the migration's own tables have 64 (this project's rule).
abbrev pub is_table_name : Bool → List ℕ → Bool
is_table_name is_tool name = is_name_length (if is_tool then 64 else 59) name

-- A name like those of the migration's own tables is kept for them (this project's rule).
abbrev pub is_reserved : Bool → List ℕ → Bool
is_reserved is_tool name = is_kept name && not is_tool
