-- Which column may have AUTO_INCREMENT, and where it starts ("Using AUTO_INCREMENT"; that it is the one column of the clustered
-- key, and no BIGINT UNSIGNED, is this project's rule).
use Rattle.std.specs.Prelude.{ℕ, nat_le, ℤ, pos, int_lt, nat_abs, Bool, true, false, not, ◌&&◌, ◌||◌, if◌then◌else◌, count_by, is_none, Option, Some, None, Result, Ok, Err}
use Rattle.std.specs.List.{slice_get}
use Rattle.base_values.specs.declared.kind.Kind.{Kind}
use Rattle.base_values.specs.declared.kind.Kind.TheVariants.{Int, VarChar, VarBinary}
use Rattle.base_values.specs.declared.gho_schema.schema.Column.{Column}
use Rattle.base_values.specs.declared.gho_schema.schema.Schema.{Schema}
use Rattle.base_values.specs.GhoSchema.AutoIncrement.{is_widest, is_only, auto_place}
use Rattle.base_values.specs.GhoSchema.Rows.{key_places}
use Rattle.base_values.specs.SchemaRules.Results.{◌>>=◌}
use Rattle.sql_grammar.specs.declared.code.SchemaCode.{SchemaCode}
use Rattle.sql_grammar.specs.declared.code.SchemaCode.TheVariants.{AutoColumn}

abbrev pub may_count : Kind → Bool
may_count (Int bytes unsigned) = not (is_widest (Int bytes unsigned))
may_count (VarChar limit) = false
may_count (VarBinary limit) = false

-- the column is an integer, but not BIGINT UNSIGNED, and has no DEFAULT
abbrev pub is_counter : Option Column → Bool
is_counter (Some column) = may_count column.kind && is_none column.default
is_counter None = false

-- where there is an AUTO_INCREMENT column, it is the one column of the clustered key
abbrev pub counts_at : Schema → Option ℕ → Bool
counts_at schema None = true
counts_at schema (Some place) = is_only place (key_places schema) && is_counter (slice_get schema.columns place)

-- one column at most has AUTO_INCREMENT, and it may have it
abbrev pub is_counting : Schema → Bool
is_counting schema = nat_le (count_by (λ column. column.auto) schema.columns) 1 && counts_at schema (auto_place schema)

-- The number at which the AUTO_INCREMENT column starts is from 1 to the greatest of a BIGINT. It is passed over where no column
-- has the attribute.
abbrev pub start_of : Option ℕ → Option ℤ → Result (Option ℕ) SchemaCode
start_of None written = Ok None
start_of (Some place) None = Ok None
start_of (Some place) (Some number) = if int_lt number (pos 1) || int_lt (pos 9223372036854775807) number then Err AutoColumn else Ok (Some (nat_abs number))

-- the schema with where it starts
abbrev pub started : Schema → Option ℕ → Schema
started schema start = record schema { start = start }

-- The schema, where its AUTO_INCREMENT column may be one and may start there.
abbrev pub counting : Option ℤ → Schema → Result Schema SchemaCode
counting written schema = if is_counting schema then (start_of (auto_place schema) written >>= λ start. Ok (started schema start)) else Err AutoColumn
