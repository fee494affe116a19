-- The changes that the applier's statements make of the ghost's rows, and the keys that changes name. (MySQL's manual,
-- "REPLACE Statement", "DELETE Statement", "UPDATE Statement".)
use Rattle.std.specs.Prelude.{◌≡◌, ℕ, Bool, true, false, List, [], ◌∷◌, ◌++◌, map, Option, Some, None}
use Rattle.std.specs.List.{AllByRecursion}
use Rattle.base_values.specs.declared.gho_schema.schema.Schema.{Schema}
use Rattle.base_values.specs.declared.gho_schema.schema.Index.{Index}
use Rattle.base_values.specs.GhoSchema.Rows.{key_of}
use Rattle.base_values.specs.GhoSchema.Tables.{clash}
use Rattle.base_values.specs.declared.event.Change.{Change}
use Rattle.base_values.specs.declared.event.Change.TheVariants.{Write, Update, Delete}
use Rattle.server_model.specs.StatementResults.{displaced}
use Rattle.proof_journals.specs.Ghost.Rows.Moments.{Row}

-- REPLACE: the rows that clash are removed, and the row is written
abbrev pub replacing : Schema → Row → List Row → List Change
replacing schema row rows = map Delete (displaced schema row rows) ++ (Write row ∷ [])

-- DELETE of the row at a key
abbrev pub deleting : Option Row → List Change
deleting None = []
deleting (Some row) = Delete row ∷ []

-- UPDATE of the row at a key, not refused
abbrev pub updating : Row → Option Row → List Change
updating new None = []
updating new (Some row) = Update row new ∷ []

-- the key of the row before a change, and of the row after it
abbrev pub old_key : List ℕ → Change → Row
old_key places (Write row) = key_of places row
old_key places (Update before after) = key_of places before
old_key places (Delete row) = key_of places row

abbrev pub new_key : List ℕ → Change → Row
new_key places (Write row) = key_of places row
new_key places (Update before after) = key_of places after
new_key places (Delete row) = key_of places row

-- the row that a change takes out, and the one that it leaves
abbrev pub removed_row : Change → Option Row
removed_row (Write row) = None
removed_row (Update before after) = Some before
removed_row (Delete row) = Some row

abbrev pub row_left : Change → Option Row
row_left (Write row) = Some row
row_left (Update before after) = Some after
row_left (Delete row) = None

-- each change names keys that are held
abbrev pub NamesHeld : List ℕ → (Row → Bool) → List Change → Type 0
NamesHeld places held changes = AllByRecursion (λ change. (held (old_key places change) ≡ true) × (held (new_key places change) ≡ true)) changes

-- no row that the changes take out clashes with the new one
abbrev pub NoneRemoved : List Index → Row → List Change → Type 0
NoneRemoved uniques row changes = AllByRecursion (λ change. (out : Row) → removed_row change ≡ Some out → clash uniques row out ≡ false) changes
