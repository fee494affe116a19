-- *What was written* to a table, and the rows that are seen through it: the rows of the table, but for those whose keys
-- were touched, and with them the rows that were written. (MySQL's manual, "Consistent Nonlocking Reads": a session sees
-- the changes of its own transaction.)
use Rattle.std.specs.Prelude.{ℕ, Bool, not, List, [], ◌∷◌, filter}
use Rattle.std.specs.Ordering.{match_ordering}
use Rattle.base_values.specs.declared.value.Value.{Value}
use Rattle.base_values.specs.KeyOrder.{compare_keys}
use Rattle.base_values.specs.GhoSchema.Rows.{key_of, with_row}
use Rattle.base_values.specs.declared.event.Change.{Change}
use Rattle.base_values.specs.declared.event.Change.TheVariants.{Write, Update, Delete}
use Rattle.table_store.specs.RowLists.{without_key}
use Rattle.server_model.specs.Rows.{stands}

-- What was written to a table: the new rows that exist, in order of the clustered key, and in order the clustered keys of all
-- rows that were written or removed.
pub record Written : Type 0 where
  pub rows : List (List Value)
  pub keys : List (List Value)

abbrev pub nothing : Written
nothing = record { rows = []; keys = [] }

-- keys in order with one more; one that is there already stays as it is
unfoldable pub with_key : List Value → List (List Value) → List (List Value)
with_key key [] = key ∷ []
with_key key (first ∷ keys) = match_ordering (compare_keys key first) (key ∷ first ∷ keys) (first ∷ keys) (first ∷ with_key key keys)

-- the row's key is one of these
abbrev pub is_touched : List ℕ → List (List Value) → List Value → Bool
is_touched places keys row = stands (key_of places row) keys

-- the rows whose keys are none of these
abbrev pub untouched : List ℕ → List (List Value) → List (List Value) → List (List Value)
untouched places keys rows = filter (λ row. not (is_touched places keys row)) rows

-- rows with more of them, each in its place in order of the key
abbrev pub put_all : List ℕ → List (List Value) → List (List Value) → List (List Value)
put_all places [] rows = rows
put_all places (row ∷ more) rows = with_row places row (put_all places more rows)

-- *The rows that are seen* of a table's rows
unfoldable pub seen : List ℕ → Written → List (List Value) → List (List Value)
seen places written rows = put_all places written.rows (untouched places written.keys rows)

-- the row of a key is taken out
abbrev pub removed : List ℕ → List Value → Written → Written
removed places key written = record { rows = without_key places key written.rows; keys = with_key key written.keys }

-- a row is put in, in place of that of its key
abbrev pub stored : List ℕ → List Value → Written → Written
stored places row written = record { rows = with_row places row (without_key places (key_of places row) written.rows); keys = with_key (key_of places row) written.keys }

-- what is written after a change, and after changes one by one
unfoldable pub wrote : List ℕ → Change → Written → Written
wrote places (Write row) written = stored places row written
wrote places (Update before after) written = stored places after (removed places (key_of places before) written)
wrote places (Delete row) written = removed places (key_of places row) written

unfoldable pub wrote_all : List ℕ → List Change → Written → Written
wrote_all places [] written = written
wrote_all places (change ∷ changes) written = wrote_all places changes (wrote places change written)
