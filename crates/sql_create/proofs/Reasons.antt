-- What follows where no reason to refuse holds.
use Rattle.std.proofs.Common.{◌≡◌, ℕ, ◌+◌, ◌≤◌, Bool, true, false, not, ◌&&◌, ◌||◌, ltb, List, [], ◌∷◌, length, None, refl}
use Rattle.std.proofs.lemmas.Bool.{ltb-false}
use Rattle.std.specs.Prelude.{count_by}
use Rattle.std.specs.List.{list_all}
use Rattle.sql_grammar.specs.declared.code.SchemaCode.{SchemaCode}
use Rattle.sql_grammar.specs.declared.code.SchemaCode.TheVariants.{TooManyColumns, TooManyKeys, NameTooLong, ReservedName}
use Rattle.base_values.specs.SchemaRules.Limits.{is_column_name, is_table_name, is_reserved}
use Rattle.sql_create.specs.declared.parts.Parts.{Parts}
use Rattle.base_values.specs.SchemaRules.Reasons.{Reasons, first_reason}
use Rattle.base_values.specs.ToolNames.{is_tool_name}
use Rattle.sql_create.specs.DeclaredSchema.{size_reasons}

none_first : (holds : Bool) (code : SchemaCode) (others : Reasons SchemaCode) → first_reason ((holds, code) ∷ others) ≡ None → (holds ≡ false) × (first_reason others ≡ None)
none_first true code others e = absurd cc
none_first false code others e = (refl, e)

abbrev fourth : Parts → Reasons SchemaCode
fourth parts = (ltb 8 (length parts.primaries + count_by (λ key. key.is_unique) parts.keys) || ltb 8 (count_by (λ key. not key.is_unique) parts.keys), TooManyKeys) ∷ []

abbrev third : Parts → Reasons SchemaCode
third parts = (ltb 64 (length parts.columns), TooManyColumns) ∷ fourth parts

-- a table that isn't too large has at most 64 columns
-- a table that isn't too large has at most 64 columns
pub few_columns : (migrated name : List ℕ) (parts : Parts) → first_reason (size_reasons migrated name parts) ≡ None → length parts.columns ≤ 64
few_columns migrated name parts e =
    let second = none_first (not (is_table_name (is_tool_name migrated name) name && list_all (λ column. is_column_name column.name) parts.columns)) NameTooLong ((is_reserved (is_tool_name migrated name) name, ReservedName) ∷ third parts) e in
    let after_second = none_first (is_reserved (is_tool_name migrated name) name) ReservedName (third parts) second.1 in
    let here = none_first (ltb 64 (length parts.columns)) TooManyColumns (fourth parts) after_second.1 in
    ltb-false 64 (length parts.columns) here.0
