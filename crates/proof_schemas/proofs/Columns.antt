-- The columns that are declared.
use Rattle.std.proofs.Common.{◌≡◌, ℕ, zero, suc, Bool, true, false, cond, List, [], ◌∷◌, Option, Some, None, Result, Ok, Err, refl, sym, subst, map}
use Rattle.std.specs.List.{AllByRecursion, slice_get}
use Rattle.base_values.specs.declared.unfit.Unfit.{Unfit}
use Rattle.base_values.specs.declared.kind.Kind.{Kind}
use Rattle.base_values.specs.declared.value.Value.{Value}
use Rattle.base_values.specs.declared.value.Value.TheVariants.{Null}
use Rattle.base_values.specs.Laws.{StoresAgain}
use Rattle.base_values.specs.StoredValues.{stores}
use Rattle.base_values.specs.declared.gho_schema.schema.Column.{Column}
use Rattle.sql_grammar.specs.declared.code.SchemaCode.{SchemaCode}
use Rattle.base_values.specs.SchemaRules.Results.{◌>>=◌}
use Rattle.sql_create.specs.declared.written.WrittenColumn.{WrittenColumn}
use Rattle.sql_create.specs.DeclaredSchema.{nullable_of, declared_column, declared_columns}
use Rattle.base_values.specs.SchemaRules.Defaults.{stored, stored_default, default_or}
use Rattle.base_values.specs.SchemaRules.Valid.{StoresDefault, IsColumn}
use Rattle.proof_schemas.proofs.Parts.{IsWritten}
use Rattle.base_values.proofs.SchemaRules.Steps.{bind_ok, done, ok_is, default_is}
use Rattle.sql_grammar.specs.declared.code.SchemaCode.TheVariants.{BadDefault}

-- a column as it is declared
abbrev pub made : List ℕ → Kind → Bool → Option Value → Bool → Column
made name kind nullable default auto = record { name = name; kind = kind; nullable = nullable; default = default; auto = auto }

stored_is : (r : Result Value Unfit) (default : Option Value) → stored r ≡ Ok default → (value : Value) × (r ≡ Ok value) × (default ≡ Some value)
stored_is (Ok value) default e = let same : done (Option Value) Unfit (Some value) ≡ done (Option Value) Unfit default = e in (value, refl, sym (ok_is {C = Unfit} (Some value) default same))
stored_is (Err reason) default e = absurd cc

-- the default NULL of a column that may be null
null_default : (name : List ℕ) (kind : Kind) (nullable auto : Bool) → StoresDefault (made name kind nullable (cond nullable (Some Null) None) auto) (cond nullable (Some Null) None)
unfolding stores
null_default name kind true auto = refl
null_default name kind false auto = tt

pub default_stores : StoresAgain → (name : List ℕ) (kind : Kind) (nullable auto : Bool) (written default : Option Value) → stored_default kind nullable written ≡ Ok default → StoresDefault (made name kind nullable default auto) default
default_stores again name kind nullable auto (Some value) default e =
    let s = stored_is (stores value kind nullable) default e in
    rw s.2 (again value kind nullable s.0 s.1)
default_stores again name kind nullable auto None default e =
    subst (λ (d : Option Value). StoresDefault (made name kind nullable d auto) d) (ok_is {C = Unfit} (cond nullable (Some Null) None) default e) (null_default name kind nullable auto)

-- what a written column becomes
pub record Becomes (primaries : List (List (List ℕ))) (written : WrittenColumn) (column : Column) : Type 0 where
  pub name : column.name ≡ written.name
  pub nullable : column.nullable ≡ nullable_of primaries written
  pub is : IsColumn column

declared_column-becomes : StoresAgain → (primaries : List (List (List ℕ))) (written : WrittenColumn) (column : Column) → IsWritten written → declared_column primaries written ≡ Ok column → Becomes primaries written column
unfolding declared_column
declared_column-becomes again primaries written column is e =
    let nullable = nullable_of primaries written in
    let b = bind_ok (default_or BadDefault (stored_default written.kind nullable written.attributes.plain.default)) (λ default. Ok (made written.name written.kind nullable default written.attributes.plain.auto)) column e in
    let stores = default_stores again written.name written.kind nullable written.attributes.plain.auto written.attributes.plain.default b.0 (default_is BadDefault _ b.0 b.1) in
    subst (Becomes primaries written) (ok_is {C = SchemaCode} (made written.name written.kind nullable b.0 written.attributes.plain.auto) column b.2) (record { name = refl; nullable = refl; is = record { kind = is; default = stores } })

-- column by column
abbrev pub AllBecome : List (List (List ℕ)) → List WrittenColumn → List Column → Type 0
AllBecome primaries [] [] = Unit {0}
AllBecome primaries (written ∷ ws) (column ∷ columns) = Becomes primaries written column × AllBecome primaries ws columns
AllBecome primaries ws columns = ⊥

pub declared_columns-become : StoresAgain → (primaries : List (List (List ℕ))) (ws : List WrittenColumn) (columns : List Column) → AllByRecursion IsWritten ws → declared_columns primaries ws ≡ Ok columns → AllBecome primaries ws columns
unfolding declared_columns
declared_columns-become again primaries [] columns all e = subst (AllBecome primaries []) (ok_is {C = SchemaCode} [] columns e) tt
declared_columns-become again primaries (w ∷ ws) columns all e =
    let a = bind_ok (declared_column primaries w) (λ first. declared_columns primaries ws >>= λ others. Ok (first ∷ others)) columns e in
    let b = bind_ok (declared_columns primaries ws) (λ others. Ok (a.0 ∷ others)) columns a.2 in
    subst (AllBecome primaries (w ∷ ws)) (ok_is {C = SchemaCode} (a.0 ∷ b.0) columns b.2) (declared_column-becomes again primaries w a.0 all.0 a.1, declared_columns-become again primaries ws b.0 all.1 b.1)

pub names-become : (primaries : List (List (List ℕ))) (ws : List WrittenColumn) (columns : List Column) → AllBecome primaries ws columns → map (λ c. c.name) columns ≡ map (λ w. w.name) ws
names-become primaries [] [] all = refl
names-become primaries [] (c ∷ cs) all = absurd all
names-become primaries (w ∷ ws) [] all = absurd all
names-become primaries (w ∷ ws) (c ∷ cs) all = rw (all.0.name, names-become primaries ws cs all.1) refl

pub columns-are : (primaries : List (List (List ℕ))) (ws : List WrittenColumn) (columns : List Column) → AllBecome primaries ws columns → AllByRecursion IsColumn columns
columns-are primaries [] [] all = tt
columns-are primaries [] (c ∷ cs) all = absurd all
columns-are primaries (w ∷ ws) [] all = absurd all
columns-are primaries (w ∷ ws) (c ∷ cs) all = (all.0.is, columns-are primaries ws cs all.1)

-- the column at a place, by what was written there
pub column-at : (primaries : List (List (List ℕ))) (ws : List WrittenColumn) (columns : List Column) (place : ℕ) (w : WrittenColumn) → AllBecome primaries ws columns → slice_get ws place ≡ Some w → (c : Column) × (slice_get columns place ≡ Some c) × Becomes primaries w c
column-at primaries [] columns place w all e = absurd cc
column-at primaries (v ∷ ws) [] place w all e = absurd all
column-at primaries (v ∷ ws) (c ∷ cs) zero w all e = let same : v ≡ w = cc in (c, refl, subst (λ (x : WrittenColumn). Becomes primaries x c) same all.0)
column-at primaries (v ∷ ws) (c ∷ cs) (suc place) w all e = column-at primaries ws cs place w all.1 e
