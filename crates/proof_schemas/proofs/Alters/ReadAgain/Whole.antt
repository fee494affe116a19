-- What is printed of an altered schema is read as that schema.
use Rattle.std.proofs.Common.{◌≡◌, ℕ, ◌≤◌, Bool, true, false, List, [], ◌∷◌, Ok, refl, subst, arith}
use Rattle.std.specs.List.{AllByRecursion}
use Rattle.base_values.specs.Laws.{StoresAgain}
use Rattle.base_values.specs.declared.gho_schema.schema.Column.{Column}
use Rattle.base_values.specs.declared.gho_schema.schema.Schema.{Schema}
use Rattle.base_values.specs.declared.row_conversion.clause.Clause.{Clause}
use Rattle.base_values.specs.SchemaRules.Reasons.{first_reason}
use Rattle.sql_change.specs.declared.code.AlterCode.{AlterCode}
use Rattle.sql_change.specs.AlteredSchema.{steps, result_reasons, map_of, result_of, altered}
use Rattle.sql_change.specs.AlteredSoFar.{start}
use Rattle.base_values.proofs.SchemaRules.Steps.{bind_ok, unless_ok, ok_is}
use Rattle.proof_schemas.specs.Alters.Laws.{Altered, IsClause}
use Rattle.proof_schemas.proofs.Alters.Clauses.{read-clauses}
use Rattle.proof_schemas.proofs.Alters.KeepingLaws.{altered-valid}
use Rattle.sql_grammar.specs.Versions.{has_counters}
use Rattle.proof_schemas.specs.Printed.Laws.{CanPrint, MayCountIn}
use Rattle.proof_schemas.proofs.Autos.{count, none-on, plain-cons}
use Rattle.proof_schemas.proofs.ReadAgain.ReadDeclared.{read-declared}
use Rattle.proof_schemas.proofs.ReadAgain.Reread.{All-from-at, printed-again}
use Rattle.proof_schemas.proofs.ReadAgain.SoundSchemas.{read-prints, fits-version, read-fits}
use Rattle.proof_schemas.proofs.Valid.{read-valid}
use Rattle.proof_schemas.specs.Alters.ReadAgain.{AlteredSchemasAreReadAgain}
use Rattle.proof_schemas.proofs.Alters.ReadAgain.Clauses.{SoundClause, read-sound}
use Rattle.proof_schemas.proofs.Alters.Counting.{altered-declared}
use Rattle.proof_schemas.proofs.Alters.ReadAgain.Declared.{altered-held}
use Rattle.proof_schemas.proofs.Alters.ReadAgain.Prints.{steps-prints}

altered-prints : StoresAgain → (approve : Bool) (schema : Schema) (clauses : List Clause) (new : Altered) → AllByRecursion IsClause clauses → AllByRecursion SoundClause clauses → CanPrint schema → altered approve schema clauses ≡ Ok new → CanPrint new.0
unfolding altered
altered-prints again approve schema clauses new kinds sound can e =
    let b = bind_ok (steps approve (start schema) clauses) (result_of schema) new e in
    let made : Altered = (b.0.schema, map_of b.0.schema.columns b.0.origins) in
    let r = unless_ok (first_reason (result_reasons schema b.0)) (Ok made) new b.2 in
    subst (λ (n : Altered). CanPrint n.0) (ok_is {C = AlterCode} made new r.1) (steps-prints again approve (start schema) b.0 clauses kinds sound can b.1)

-- ---- the version

all-plain : (version : ℕ) (columns : List Column) → count columns ≡ 0 → AllByRecursion (λ column. MayCountIn version column.auto) columns
all-plain version columns none = All-from-at (λ (column : Column). MayCountIn version column.auto) columns (λ place column at on. absurd (none-on columns place column at on none))

all-any : (version : ℕ) (columns : List Column) → has_counters version ≡ true → AllByRecursion (λ column. MayCountIn version column.auto) columns
all-any version columns may = All-from-at (λ (column : Column). MayCountIn version column.auto) columns (λ place column at on. may)

-- a version without AUTO_INCREMENT has no such column
plain-count : (version : ℕ) (columns : List Column) → has_counters version ≡ false → AllByRecursion (λ column. MayCountIn version column.auto) columns → count columns ≡ 0
plain-count version [] none all = refl
plain-count version (column ∷ columns) none all = plain-cons version column columns column.auto refl none all.0 (plain-count version columns none all.1)

fits-by : (version : ℕ) (old new : List Column) (b : Bool) → has_counters version ≡ b → count new ≤ count old → AllByRecursion (λ column. MayCountIn version column.auto) old → AllByRecursion (λ column. MayCountIn version column.auto) new
fits-by version old new true is few all = all-any version new is
fits-by version old new false is few all =
    let zero_before = plain-count version old is all in
    all-plain version new (omega (arith, few, zero_before))

pub altered-again : StoresAgain → AlteredSchemasAreReadAgain
altered-again again version migrated table create alter approve schema clauses new creates alters read clauses_are e =
    let valid = read-valid again version migrated create schema read in
    let kinds = read-clauses version table alter clauses clauses_are in
    let declares = read-declared version migrated create schema read in
    let prints = altered-prints again approve schema clauses new kinds (read-sound version table alter clauses alters clauses_are) (read-prints again version migrated create schema creates read) e in
    let held = altered-held migrated approve schema clauses new declares.shaped e in
    let now = altered-declared migrated approve schema clauses new valid declares e in
    let columns = fits-by version schema.columns new.0.columns (has_counters version) refl held.few (read-fits version migrated create schema creates read).columns in
    printed-again version migrated new.0 prints (altered-valid again approve schema clauses new valid kinds e) now (fits-version version new.0 columns now.start)
