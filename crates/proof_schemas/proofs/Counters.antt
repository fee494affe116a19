-- What the refusal of a column that may not have AUTO_INCREMENT leaves.
use Rattle.std.proofs.Common.{◌≡◌, ℕ, ◌≤◌, Bool, true, false, not, ◌&&◌, ◌||◌, leb, ltb, Option, Some, None, Result, Ok, Err, cond, refl, ap, subst, ◌∙◌}
use Rattle.std.specs.Prelude.{ℤ, pos, negsuc, int_lt, nat_abs, is_none, count_by}
use Rattle.std.specs.List.{slice_get}
use Rattle.std.proofs.lemmas.Bool.{leb-true, le-leb, le-ltb, ltb-false, and_parts, or_parts}
use Rattle.base_values.specs.declared.kind.Kind.{Kind}
use Rattle.base_values.specs.declared.kind.Kind.TheVariants.{Int, VarChar, VarBinary}
use Rattle.base_values.specs.declared.value.Value.{Value}
use Rattle.base_values.specs.declared.gho_schema.schema.Column.{Column}
use Rattle.base_values.specs.declared.gho_schema.schema.Schema.{Schema}
use Rattle.base_values.specs.GhoSchema.AutoIncrement.{is_widest, is_only, auto_place, MayCount, IsCounter, CountsAt, IsCounting}
use Rattle.base_values.specs.GhoSchema.Rows.{key_places}
use Rattle.base_values.specs.SchemaRules.Results.{◌>>=◌}
use Rattle.base_values.proofs.SchemaRules.Steps.{bind_ok, ok_is, kept_out}
use Rattle.sql_grammar.specs.declared.code.SchemaCode.{SchemaCode}
use Rattle.sql_grammar.specs.declared.code.SchemaCode.TheVariants.{AutoColumn}
use Rattle.sql_create.specs.AutoColumn.{may_count, is_counter, counts_at, is_counting, start_of, started, counting}
use Rattle.proof_schemas.specs.Printed.Laws.{start_read}
use Rattle.proof_schemas.specs.ReadAgain.{MayStart}

-- ---- the test is the definition

off : (b : Bool) → not b ≡ true → b ≡ false
off true e = absurd cc
off false e = refl

may-is : (kind : Kind) → may_count kind ≡ true → MayCount kind
may-is (Int bytes unsigned) e = off (is_widest (Int bytes unsigned)) e
may-is (VarChar limit) e = absurd cc
may-is (VarBinary limit) e = absurd cc

none-is : (default : Option Value) → is_none default ≡ true → default ≡ None
none-is None e = refl
none-is (Some value) e = absurd cc

counter-is : (o : Option Column) → is_counter o ≡ true → IsCounter o
counter-is None e = absurd cc
counter-is (Some column) e = let t = and_parts (may_count column.kind) (is_none column.default) e in (may-is column.kind t.0, none-is column.default t.1)

at-is : (schema : Schema) (place : Option ℕ) → counts_at schema place ≡ true → CountsAt schema place
at-is schema None e = tt
at-is schema (Some place) e =
    let t = and_parts (is_only place (key_places schema)) (is_counter (slice_get schema.columns place)) e in
    (t.0, counter-is (slice_get schema.columns place) t.1)

pub counts-is : (schema : Schema) → is_counting schema ≡ true → IsCounting schema
counts-is schema e =
    let t = and_parts (leb (count_by (λ column. column.auto) schema.columns) 1) (counts_at schema (auto_place schema)) e in
    record { once = leb-true (count_by (λ column. column.auto) schema.columns) 1 t.0; at = at-is schema (auto_place schema) t.1 }

-- ---- the definition is the test

both : (a b : Bool) → a ≡ true → b ≡ true → (a && b) ≡ true
both true b e f = f
both false b e f = absurd cc

on : (b : Bool) → b ≡ false → not b ≡ true
on true e = absurd cc
on false e = refl

may-tests : (kind : Kind) → MayCount kind → may_count kind ≡ true
may-tests (Int bytes unsigned) e = on (is_widest (Int bytes unsigned)) e
may-tests (VarChar limit) e = absurd e
may-tests (VarBinary limit) e = absurd e

counter-tests : (o : Option Column) → IsCounter o → is_counter o ≡ true
counter-tests None is = absurd is
counter-tests (Some column) is = both (may_count column.kind) (is_none column.default) (may-tests column.kind is.0) (ap is_none is.1)

at-tests : (schema : Schema) (place : Option ℕ) → CountsAt schema place → counts_at schema place ≡ true
at-tests schema None is = refl
at-tests schema (Some place) is = both (is_only place (key_places schema)) (is_counter (slice_get schema.columns place)) is.0 (counter-tests (slice_get schema.columns place) is.1)

pub counts-tests : (schema : Schema) → IsCounting schema → is_counting schema ≡ true
counts-tests schema is =
    both (leb (count_by (λ column. column.auto) schema.columns) 1) (counts_at schema (auto_place schema)) (le-leb (count_by (λ column. column.auto) schema.columns) 1 is.once) (at-tests schema (auto_place schema) is.at)

-- ---- what is left

-- the schema that is left, and where its column starts
pub record Counted (schema made : Schema) : Type 0 where
  pub counts : IsCounting schema
  pub start : Option ℕ
  pub may : MayStart (auto_place schema) start
  pub same : started schema start ≡ made

-- where its column starts doesn't matter
pub started-counting : (schema : Schema) (start : Option ℕ) → IsCounting schema → IsCounting (started schema start)
started-counting schema start is = record { once = is.once; at = is.at }

in-range : (number : ℤ) → (int_lt number (pos 1) || int_lt (pos 9223372036854775807) number) ≡ false → (1 ≤ nat_abs number) × (nat_abs number ≤ 9223372036854775807)
in-range (pos n) e = let t = or_parts (ltb n 1) (ltb 9223372036854775807 n) e in (ltb-false n 1 t.0, ltb-false 9223372036854775807 n t.1)
in-range (negsuc n) e = absurd cc

start-may : (place : Option ℕ) (written : Option ℤ) (start : Option ℕ) → start_of place written ≡ Ok start → MayStart place start
start-may None written start e = subst (MayStart None) (ok_is {C = SchemaCode} None start e) tt
start-may (Some place) None start e = subst (MayStart (Some place)) (ok_is {C = SchemaCode} None start e) tt
start-may (Some place) (Some number) start e =
    let t = kept_out (int_lt number (pos 1) || int_lt (pos 9223372036854775807) number) (Some (nat_abs number)) start AutoColumn e in
    subst (MayStart (Some place)) t.1 (in-range number t.0)

counted-by : (written : Option ℤ) (schema made : Schema) (b : Bool) → is_counting schema ≡ b → cond b (start_of (auto_place schema) written >>= λ start. Ok (started schema start)) (Err AutoColumn) ≡ Ok made → Counted schema made
counted-by written schema made true is e =
    let s = bind_ok (start_of (auto_place schema) written) (λ start. Ok (started schema start)) made e in
    record { counts = counts-is schema is; start = s.0; may = start-may (auto_place schema) written s.0 s.1; same = ok_is {C = SchemaCode} (started schema s.0) made s.2 }
counted-by written schema made false is e = absurd cc

pub counted : (written : Option ℤ) (schema made : Schema) → counting written schema ≡ Ok made → Counted schema made
counted written schema made e = counted-by written schema made (is_counting schema) refl e

-- a start that is printed is read
neither : (a b : Bool) → a ≡ false → b ≡ false → (a || b) ≡ false
neither true b e f = absurd cc
neither false b e f = f

range-tests : (n : ℕ) → 1 ≤ n → n ≤ 9223372036854775807 → (ltb n 1 || ltb 9223372036854775807 n) ≡ false
range-tests n low high = neither (ltb n 1) (ltb 9223372036854775807 n) (le-ltb n 1 low) (le-ltb 9223372036854775807 n high)

abbrev begun_or : ℕ → Bool → Result (Option ℕ) SchemaCode
begun_or start outside = cond outside (Err AutoColumn) (Ok (Some start))

start-again : (place start : Option ℕ) → MayStart place start → start_of place (start_read start) ≡ Ok start
start-again None None may = refl
start-again (Some place) None may = refl
start-again None (Some start) may = absurd may
start-again (Some place) (Some start) may = ap (begun_or start) (range-tests start may.0 may.1)

abbrev started_by : Schema → Result (Option ℕ) SchemaCode → Result Schema SchemaCode
started_by schema read = read >>= λ start. Ok (started schema start)

abbrev counted_or : Schema → Result (Option ℕ) SchemaCode → Bool → Result Schema SchemaCode
counted_or schema read counts = cond counts (started_by schema read) (Err AutoColumn)

pub counting-again : (schema : Schema) (start : Option ℕ) → IsCounting schema → MayStart (auto_place schema) start → counting (start_read start) schema ≡ Ok (started schema start)
counting-again schema start is may =
    ap (counted_or schema (start_of (auto_place schema) (start_read start))) (counts-tests schema is) ∙ ap (started_by schema) (start-again (auto_place schema) start may)
