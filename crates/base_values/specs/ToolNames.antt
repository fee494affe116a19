-- The names of the tool's tables, which are gh-ost's. (gh-ost, "Understanding output", "Cut-over".)
use Rattle.std.specs.Prelude.{codes, ℕ, Bool, List, ◌++◌, ◌||◌}
use Rattle.std.specs.Str.{bytes_eq}

-- the new table, until it takes the migrated table's name
unfoldable pub ghost_name : List ℕ → List ℕ
ghost_name table = codes "_" ++ table ++ codes "_gho"

-- the changelog
unfoldable pub log_name : List ℕ → List ℕ
log_name table = codes "_" ++ table ++ codes "_ghc"

-- the table from before, once the new one took its name; before that the sentry
unfoldable pub old_name : List ℕ → List ℕ
old_name table = codes "_" ++ table ++ codes "_del"

-- one of the tool's three names
abbrev pub is_tool_name : List ℕ → List ℕ → Bool
is_tool_name table name = bytes_eq name (ghost_name table) || bytes_eq name (log_name table) || bytes_eq name (old_name table)
