-- *AUTO_INCREMENT column*: the column whose values the server generates from the table's counter (MySQL's manual, "Using
-- AUTO_INCREMENT").
use Rattle.std.specs.Prelude.{◌≡◌, ◌==◌, ◌&&◌, ℕ, Bool, true, false, List, [], ◌∷◌, count_by, position, ◌≤◌, Option, Some, None}
use Rattle.std.specs.List.{slice_get, list_all}
use Rattle.base_values.specs.declared.kind.Kind.{Kind}
use Rattle.base_values.specs.declared.kind.Kind.TheVariants.{Int, VarChar, VarBinary}
use Rattle.base_values.specs.declared.gho_schema.schema.Schema.{Schema}
use Rattle.base_values.specs.declared.gho_schema.schema.Column.{Column}
use Rattle.base_values.specs.GhoSchema.Rows.{key_places}

-- the place of the AUTO_INCREMENT column, where there is one
abbrev pub auto_place : Schema → Option ℕ
auto_place schema = position (λ column. column.auto) schema.columns

-- the kind is BIGINT UNSIGNED
abbrev pub is_widest : Kind → Bool
is_widest (Int bytes unsigned) = bytes == 8 && unsigned
is_widest (VarChar limit) = false
is_widest (VarBinary limit) = false

-- an integer, but not BIGINT UNSIGNED: a counter has 64 bits with its sign (this project's rule)
abbrev pub MayCount : Kind → Type 0
MayCount (Int bytes unsigned) = is_widest (Int bytes unsigned) ≡ false
MayCount kind = ⊥

-- the column is an integer without a DEFAULT
abbrev pub IsCounter : Option Column → Type 0
IsCounter None = ⊥
IsCounter (Some column) = MayCount column.kind × (column.default ≡ None)

-- these places of a key are all the same one, as of PRIMARY KEY (id), or of PRIMARY KEY (id, id)
abbrev pub is_only : ℕ → List ℕ → Bool
is_only place [] = false
is_only place (own ∷ others) = own == place && list_all (λ other. other == place) others

-- where there is an AUTO_INCREMENT column, it is the one column of the clustered key (this project's rule; MySQL asks that it be
-- the first of a key)
abbrev pub CountsAt : Schema → Option ℕ → Type 0
CountsAt schema None = Unit {0}
CountsAt schema (Some place) = (is_only place (key_places schema) ≡ true) × IsCounter (slice_get schema.columns place)

-- *Counting*: one column at most has AUTO_INCREMENT, and it may have it.
pub record IsCounting (schema : Schema) : Type 0 where
  pub once : count_by (λ column. column.auto) schema.columns ≤ 1
  pub at : CountsAt schema (auto_place schema)
