-- A table's columns and keys, sorted out of the items in which they are written.
use Rattle.std.specs.Prelude.{ℕ, true, if◌then◌else◌, List, [], ◌∷◌, ◌++◌, fold, None}
use Rattle.sql_create.specs.declared.parts.Parts.{Parts}
use Rattle.sql_create.specs.declared.written.Item.{Item}
use Rattle.sql_create.specs.declared.written.Item.TheVariants.{Column, Primary, Key}
use Rattle.sql_create.specs.declared.written.WrittenColumn.{WrittenColumn}
use Rattle.sql_create.specs.declared.written.WrittenKey.{WrittenKey}

abbrev pub no_parts : Parts
no_parts = record { columns = []; primaries = []; keys = [] }

-- PRIMARY KEY after a column is a PRIMARY KEY of that column.
abbrev pub own_primary : WrittenColumn → List (List (List ℕ))
own_primary column = if column.attributes.is_primary then (column.name ∷ []) ∷ [] else []

-- UNIQUE after a column is a key of that column, which is at the column's place.
abbrev pub own_key : WrittenColumn → List WrittenKey
own_key column = if column.attributes.is_unique then record { is_unique = true; text = record { name = None; columns = column.name ∷ [] } } ∷ [] else []

-- one item more
abbrev pub with_item : Parts → Item → Parts
with_item parts (Column column) = record { columns = parts.columns ++ column ∷ []; primaries = parts.primaries ++ own_primary column; keys = parts.keys ++ own_key column }
with_item parts (Primary columns) = record parts { primaries = parts.primaries ++ columns ∷ [] }
with_item parts (Key key) = record parts { keys = parts.keys ++ key ∷ [] }

-- the columns, the columns of each PRIMARY KEY, and the other keys, each in order
unfoldable pub parts_of : List Item → Parts
parts_of items = fold with_item no_parts items
