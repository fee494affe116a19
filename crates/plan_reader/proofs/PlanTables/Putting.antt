-- Putting the row of a text into a table, as the code does.
use Rattle.std.proofs.Common.{◌≡◌, false, is_some, List, Option, Some, None, refl}
use Rattle.base_values.specs.declared.value.Value.{Value}
use Rattle.base_values.specs.GhoSchema.Tables.{IsRow, IsTable}
use Rattle.table_store.specs.ClusteredKeys.{HasClusteredKey}
use Rattle.table_store.specs.Databases.{TableRows, clashing, IsNewIn}
use Rattle.table_store.specs.Laws.{PutKeepsTables}

none_there : (clash : Option (List Value)) → is_some clash ≡ false → clash ≡ None
none_there None none = refl
none_there (Some row) none = absurd (cc)

-- a row that clashes with none has a new key
pub is_new : PutKeepsTables → (table : TableRows) (row : List Value) → HasClusteredKey table.schema → IsTable table.schema table.rows → IsRow table.schema.columns row → is_some (clashing table row None) ≡ false → IsNewIn row table
is_new put table row keyed is_table fits none = (put table row keyed is_table fits (none_there (clashing table row None) none)).0
