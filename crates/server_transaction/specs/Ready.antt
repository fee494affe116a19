-- Changes made ready to be written to what was written to their table, and what they write.
use Rattle.std.specs.Prelude.{◌≡◌, ◌≤◌, ℕ, List, [], ◌∷◌, length, Option, Some, None, IfSome}
use Rattle.base_values.specs.declared.value.Value.{Value}
use Rattle.base_values.specs.GhoSchema.Rows.{key_of}
use Rattle.base_values.specs.declared.event.Change.{Change}
use Rattle.base_values.specs.declared.event.Change.TheVariants.{Write, Update, Delete}
use Rattle.server_seen.specs.declared.written.KeyedRow.{KeyedRow}
use Rattle.server_seen.specs.Written.{Written, removed, stored}
use Rattle.server_transaction.specs.declared.ready_changes.ReadyChange.{ReadyChange}

-- a row with its key at these places
abbrev pub keyed : List ℕ → List Value → KeyedRow
keyed places row = record { key = key_of places row; row = row }

-- a change with the key of the row that it takes out and with the row that it puts in
abbrev pub ready_change : List ℕ → Change → ReadyChange
ready_change places (Write row) = record { gone = None; out = None; new = Some (keyed places row) }
ready_change places (Update before after) = record { gone = Some (key_of places before); out = Some (key_of places before); new = Some (keyed places after) }
ready_change places (Delete row) = record { gone = Some (key_of places row); out = Some (key_of places row); new = None }

-- the row has its key
abbrev pub IsKeyed : List ℕ → KeyedRow → Type 0
IsKeyed places new = new.key ≡ key_of places new.row

-- the keys of what is made ready are keys at these places
pub record IsReady (places : List ℕ) (ready : ReadyChange) : Type 0 where
  pub out : IfSome ready.out (λ key. length key ≤ length places)
  pub new : IfSome ready.new (IsKeyed places)

-- what is written once the row of a key is taken out, and once a row is put in
abbrev pub taken_out : List ℕ → Option (List Value) → Written → Written
taken_out places None written = written
taken_out places (Some key) written = removed places key written

abbrev pub put_in : List ℕ → Option KeyedRow → Written → Written
put_in places None written = written
put_in places (Some new) written = stored places new.row written

-- what is written after a change that was made ready, and after such changes one by one
abbrev pub wrote_ready : List ℕ → ReadyChange → Written → Written
wrote_ready places ready written = put_in places ready.new (taken_out places ready.out written)

unfoldable pub wrote_each : List ℕ → List ReadyChange → Written → Written
wrote_each places [] written = written
wrote_each places (ready ∷ more) written = wrote_each places more (wrote_ready places ready written)
