-- The ghost's rows as each actor sees them, and the keys that are done.
use Rattle.std.specs.Prelude.{ℕ, Bool, false, not, ◌&&◌, ◌||◌, List, find, Option, Some, None}
use Rattle.std.specs.List.{list_any}
use Rattle.std.specs.Ordering.{is_eq}
use Rattle.base_values.specs.declared.span.Span.{Span}
use Rattle.base_values.specs.KeyOrder.{compare_keys}
use Rattle.base_values.specs.Spans.{has}
use Rattle.base_values.specs.GhoSchema.Rows.{key_places}
use Rattle.base_values.specs.declared.event.Change.{Change}
use Rattle.table_store.specs.RowLists.{is_at}
use Rattle.proof_journals.specs.Ghost.Relation.Views.{Views}
use Rattle.proof_journals.specs.Ghost.Rows.Moments.{Row, rows_after_all}
use Rattle.proof_journals.specs.Ghost.Rows.Timelines.{Migration}

-- the ghost's committed rows, and what the open batch and the open chunk wrote
pub record GhostRows : Type 0 where
  pub committed : List Row
  pub batch : List Change
  pub chunk : List Change

-- the rows of the ghost as the applier sees them, and as the copier does
abbrev pub view_of : Migration → GhostRows → List Row
view_of m ghost = rows_after_all (key_places m.new) ghost.batch ghost.committed

abbrev pub chunk_view : Migration → GhostRows → List Row
chunk_view m ghost = rows_after_all (key_places m.new) ghost.chunk ghost.committed

-- the row of the ghost with this key
abbrev pub ghost_row : Migration → List Row → Row → Option Row
ghost_row m rows key = find (is_at (key_places m.new) key) rows

-- the three views, by the ghost's clustered key
abbrev pub views_of : List ℕ → GhostRows → Views Row Row
views_of places ghost =
    record {
      committed = λ key. find (is_at places key) ghost.committed;
      applied = λ key. find (is_at places key) (rows_after_all places ghost.batch ghost.committed);
      copied = λ key. find (is_at places key) (rows_after_all places ghost.chunk ghost.committed);
    }

-- the two keys are equal
abbrev pub is_key : Row → Row → Bool
is_key key other = is_eq (compare_keys key other)

-- the key is one of these
unfoldable pub is_among : List Row → Row → Bool
is_among keys key = list_any (is_key key) keys

-- the key is left to copy, where this span of keys is
abbrev pub is_left : Option Span → Row → Bool
is_left None key = false
is_left (Some span) key = has span key

-- *Done*: the key is copied, or out of the range
abbrev pub is_done : Option Span → Row → Bool
is_done left key = not (is_left left key)

-- *Done in an open chunk*, which leaves this span after it and has these keys: also each key of the chunk's span at which no
-- row stood when it began
abbrev pub is_done_in : Option Span → Option Span → List Row → Row → Bool
is_done_in left following keys key = is_done left key || (is_done following key && not (is_among keys key))
