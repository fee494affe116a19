-- Changes that fit the rows as they then are, and what is known of all that was written.
use Rattle.std.specs.Prelude.{◌≡◌, ℕ, true, List, [], ◌∷◌, find, None}
use Rattle.std.specs.declared.cmp.Ordering.TheVariants.{Less}
use Rattle.std.specs.List.{AllByRecursion}
use Rattle.base_values.specs.declared.value.Value.{Value}
use Rattle.base_values.specs.KeyOrder.{compare_keys}
use Rattle.base_values.specs.GhoSchema.Rows.{key_of}
use Rattle.base_values.specs.GhoSchema.Tables.{Ascends}
use Rattle.base_values.specs.declared.event.Change.{Change}
use Rattle.base_values.specs.declared.event.Change.TheVariants.{Write, Update, Delete}
use Rattle.table_store.specs.RowLists.{is_at}
use Rattle.server_model.specs.Rows.{stands, without_row, change_rows}
use Rattle.server_seen.specs.Written.{Written, is_touched}

-- no row has the key of this one
abbrev pub IsNewAmong : List ℕ → List (List Value) → List Value → Type 0
IsNewAmong places rows row = find (is_at places (key_of places row)) rows ≡ None

-- *A change fits the rows*: what it takes out is among them, and what it puts has a key that none of the others has.
abbrev pub FitsRows : List ℕ → List (List Value) → Change → Type 0
FitsRows places rows (Write row) = IsNewAmong places rows row
FitsRows places rows (Update before after) = (stands before rows ≡ true) × IsNewAmong places (without_row before rows) after
FitsRows places rows (Delete row) = stands row rows ≡ true

-- each of the changes fits the rows as they then are
unfoldable pub AllFit : List ℕ → List Change → List (List Value) → Type 0
AllFit places [] rows = Unit {0}
AllFit places (change ∷ changes) rows = FitsRows places rows change × AllFit places changes (change_rows places change rows)

-- the keys are in order, each once
abbrev pub KeysAscend : List (List Value) → Type 0
KeysAscend [] = Unit {0}
KeysAscend (key ∷ keys) = AllByRecursion (λ other. compare_keys key other ≡ Less) keys × KeysAscend keys

-- What was written: rows in order of the key, keys in order, each once, and the keys of the rows are among them.
pub record IsWritten (places : List ℕ) (written : Written) : Type 0 where
  pub rows_ascend : Ascends places written.rows
  pub keys_ascend : KeysAscend written.keys
  pub touched : AllByRecursion (λ row. is_touched places written.keys row ≡ true) written.rows
