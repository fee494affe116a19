-- What holds of all that is written to a table.
use Rattle.std.specs.Prelude.{◌≡◌, ℕ, Bool, List, filter}
use Rattle.base_values.specs.declared.value.Value.{Value}
use Rattle.base_values.specs.GhoSchema.Tables.{Ascends}
use Rattle.base_values.specs.declared.event.Change.{Change}
use Rattle.server_model.specs.Rows.{change_rows, change_all}
use Rattle.server_seen.specs.Written.{Written, nothing, untouched, put_all, seen, wrote, wrote_all}
use Rattle.server_seen.specs.FittingChanges.{FitsRows, AllFit, IsWritten}

-- *Seen rows change*: where a change fits the rows that are seen, it leaves them in order, and what is seen after it was
-- written are the changed rows.
abbrev pub SeenRowsChange : Type 0
SeenRowsChange =
    (places : List ℕ) (change : Change) (written : Written) (rows : List (List Value)) → IsWritten places written → Ascends places rows → FitsRows places (seen places written rows) change
    → IsWritten places (wrote places change written) × (seen places (wrote places change written) rows ≡ change_rows places change (seen places written rows)) × Ascends places (seen places written rows)

-- *Changes are seen*: through all changes, each of which fits, the changed rows are seen.
abbrev pub ChangesAreSeen : Type 0
ChangesAreSeen =
    (places : List ℕ) (changes : List Change) (rows : List (List Value)) → Ascends places rows → AllFit places changes rows
    → IsWritten places (wrote_all places changes nothing) × (seen places (wrote_all places changes nothing) rows ≡ change_all places changes rows) × Ascends places (change_all places changes rows)

-- *Seen rows pass a test* where the rows below and the written ones pass it.
abbrev pub SeenRowsPass : Type 0
SeenRowsPass =
    (test : List Value → Bool) (places : List ℕ) (written : Written) (rows : List (List Value)) → IsWritten places written → Ascends places rows
    → filter test (seen places written rows) ≡ put_all places (filter test written.rows) (untouched places written.keys (filter test rows))
