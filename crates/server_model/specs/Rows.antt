-- Rows of a table: those that a condition reaches through a unique key, and what changes leave of them. (MySQL's manual,
-- "WHERE Clause Optimization"; that rows are found through one key is this project's rule.)
use Rattle.std.specs.Prelude.{ℕ, Bool, false, ◌&&◌, List, [], ◌∷◌, filter, not, Option, Some, None}
use Rattle.std.specs.Ordering.{is_eq}
use Rattle.std.specs.List.{list_any, slice_get}
use Rattle.base_values.specs.declared.value.Value.{Value}
use Rattle.base_values.specs.declared.span.Span.{Span}
use Rattle.base_values.specs.KeyOrder.{compare_keys}
use Rattle.base_values.specs.Spans.{has}
use Rattle.base_values.specs.declared.gho_schema.schema.Schema.{Schema}
use Rattle.base_values.specs.declared.gho_schema.schema.Index.{Index}
use Rattle.base_values.specs.GhoSchema.Rows.{key_of, with_row}
use Rattle.base_values.specs.GhoSchema.Tables.{no_null}
use Rattle.base_values.specs.declared.event.Change.{Change}
use Rattle.base_values.specs.declared.event.Change.TheVariants.{Write, Update, Delete}
use Rattle.server_model.specs.declared.work.Reach.{Reach}

-- The row lies under a span of a key: its value of the key is in the span, and no part of it is null. (No comparison
-- meets a null: MySQL's manual, "Working with NULL Values".)
unfoldable pub lies_under : Option Index → Span → List Value → Bool
lies_under None span row = false
lies_under (Some index) span row = no_null (key_of index.places row) && has span (key_of index.places row)

-- the row's value of the key is one of these
abbrev pub reaches : Schema → Reach → List Value → Bool
reaches schema reach row = lies_under (slice_get schema.uniques reach.key) reach.span row

-- the rows that are reached, in order
abbrev pub rows_met : Schema → Reach → List (List Value) → List (List Value)
rows_met schema reach rows = filter (reaches schema reach) rows

-- the two rows have equal values
abbrev pub same_row : List Value → List Value → Bool
same_row row other = is_eq (compare_keys row other)

-- the row is one of the rows
unfoldable pub stands : List Value → List (List Value) → Bool
stands row rows = list_any (same_row row) rows

-- the rows without this one
abbrev pub without_row : List Value → List (List Value) → List (List Value)
without_row row rows = filter (λ other. not (same_row row other)) rows

-- the rows after a change, in order of the key at these places
unfoldable pub change_rows : List ℕ → Change → List (List Value) → List (List Value)
change_rows places (Write row) rows = with_row places row rows
change_rows places (Update before after) rows = with_row places after (without_row before rows)
change_rows places (Delete row) rows = without_row row rows

-- the rows after changes, one by one
unfoldable pub change_all : List ℕ → List Change → List (List Value) → List (List Value)
change_all places [] rows = rows
change_all places (change ∷ changes) rows = change_all places changes (change_rows places change rows)
