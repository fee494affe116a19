-- The values of a text are those that the columns store.
use Rattle.std.proofs.Common.{◌≡◌, codes, Bool, true, false, cond, not, ◌&&◌, List, [], ◌∷◌, Option, Some, None, Result, Ok, Err, IfOk, refl, ap, subst, ◌∙◌}
use Rattle.std.specs.Result.{result_ok}
use Rattle.base_values.specs.declared.unfit.Unfit.{Unfit}
use Rattle.base_values.specs.declared.value.Value.{Value}
use Rattle.base_values.specs.StoredValues.{stores}
use Rattle.base_values.specs.Laws.{StoresAgain}
use Rattle.base_values.specs.declared.gho_schema.schema.Column.{Column}
use Rattle.base_values.specs.GhoSchema.Options.{◌>>=◌}
use Rattle.base_values.specs.GhoSchema.Tables.{IsRow}
use Rattle.sql_grammar.specs.declared.token.Token.{Token}
use Rattle.sql_grammar.specs.declared.tokens.TextWords.{TextWords}
use Rattle.sql_grammar.specs.Pieces.{after_sign, literal_at}
use Rattle.base_values.proofs.SchemaRules.Steps.{some_is}
use Rattle.plan_reader.specs.declared.plan_tables.fault.RowFault.{RowFault}
use Rattle.plan_reader.specs.PlanTables.Refusals.{Finds}
use Rattle.plan_reader.specs.PlanTables.RowTexts.{value_at, mark, values_at, is_empty, row_of}

-- a value that was read, and what goes on with it
record Bound {A B : Type 0} (read : Option A) (goes : A → Option B) (made : B) : Type 0 where
  x : A
  read_is : read ≡ Some x
  goes_on : goes x ≡ Some made

bound : {A B : Type 0} (read : Option A) (goes : A → Option B) (made : B) → (read >>= goes) ≡ Some made → Bound read goes made
bound None goes made is = absurd (cc)
bound (Some x) goes made is = record { x = x; read_is = refl; goes_on = is }

stored : (r : Result Value Unfit) (value : Value) → result_ok r ≡ Some value → r ≡ Ok value
stored (Ok value') value is = cc
stored (Err unfit) value is = absurd (cc)

value_fits : StoresAgain → (column : Column) (words : List Token) (read : Value × List Token) → value_at column words ≡ Some read → stores read.0 column.kind column.nullable ≡ Ok read.0
unfolding value_at
value_fits again column words read is =
    let literal = bound (result_ok (literal_at words)) _ read is in
    let found = bound (result_ok (stores literal.x.0 column.kind column.nullable)) (λ v. Some (v, literal.x.1)) read literal.goes_on in
    let same : found.x ≡ read.0 = ap (λ (r : Value × List Token). r.0) (some_is (found.x, literal.x.1) read found.goes_on) in
    again literal.x.0 column.kind column.nullable read.0 (stored (stores literal.x.0 column.kind column.nullable) read.0 (found.read_is ∙ ap (λ (v : Value). Some v) same))

values_fit : StoresAgain → (columns : List Column) (sign : Bool) (words : List Token) (read : List Value × List Token) → values_at columns sign words ≡ Some read → IsRow columns read.0
unfolding values_at
values_fit again [] sign words read is = subst (IsRow []) (ap (λ (r : List Value × List Token). r.0) (some_is ([], words) read is)) tt
values_fit again (column ∷ columns) sign words read is =
    let rest = bound (after_sign (mark sign) words) _ read is in
    let value = bound (value_at column rest.x) _ read rest.goes_on in
    let others = bound (values_at columns false value.x.1) (λ o. Some (value.x.0 ∷ o.0, o.1)) read value.goes_on in
    subst (IsRow (column ∷ columns)) (ap (λ (r : List Value × List Token). r.0) (some_is (value.x.0 ∷ others.x.0, others.x.1) read others.goes_on))
    (value_fits again column rest.x value.x value.read_is, values_fit again columns false value.x.1 others.x others.read_is)

let_through : {A : Type 0} (b : Bool) (x y : A) → cond b (Some x) None ≡ Some y → x ≡ y
let_through true x y is = cc
let_through false x y is = absurd (cc)

pub row_fits : StoresAgain → (columns : List Column) (read : TextWords) (row : List Value) → row_of columns read ≡ Some row → IsRow columns row
unfolding row_of
row_fits again columns read row is =
    let values = bound (values_at columns true read.words) _ row is in
    let rest = bound (after_sign (codes ")") values.x.1) (λ r. cond (is_empty r && not read.is_faulty) (Some values.x.0) None) row values.goes_on in
    subst (IsRow columns) (let_through (is_empty rest.x && not read.is_faulty) values.x.0 row rest.goes_on) (values_fit again columns true read.words values.x values.read_is)

-- the row that the code found is one of the columns
pub found_fits : StoresAgain → (columns : List Column) (read : TextWords) (found : Result (List Value) RowFault) → Finds (λ (row : List Value). row) found (row_of columns read) → IfOk found (IsRow columns)
found_fits again columns read (Ok row) is = row_fits again columns read row is
found_fits again columns read (Err fault) is = tt
