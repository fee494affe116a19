-- A plan that is read has few rows, waits for short and takes few turns.
use Rattle.std.proofs.Common.{◌≡◌, ◌≤◌, ℕ, suc, ◌+◌, Bool, true, false, cond, ◌||◌, List, [], ◌∷◌, ◌++◌, length, Option, Some, None, Ok, refl, sym, ap, ◌∙◌, subst, arith}
use Rattle.std.specs.Prelude.{is_some, nat_lt}
use Rattle.std.specs.declared.cmp.Ordering.{Ordering}
use Rattle.std.specs.declared.cmp.Ordering.TheVariants.{Less, Equal, Greater}
use Rattle.std.specs.List.{AllByRecursion}
use Rattle.std.specs.Option.{option_and_then}
use Rattle.std.specs.Ordering.{match_ordering}
use Rattle.std.proofs.lemmas.Bool.{or_parts}
use Rattle.std.proofs.lemmas.Bool.Decides.{nat_tests}
use Rattle.std.proofs.lemmas.List.Sums.{sum_by-cons}
use Rattle.toml.specs.Data.{Members}
use Rattle.base_values.specs.declared.value.Value.{Value}
use Rattle.base_values.specs.GhoSchema.Rows.{key_of, key_places, with_row}
use Rattle.base_values.specs.KeyOrder.{compare_keys}
use Rattle.base_values.specs.SchemaRules.Results.{◌>>=◌}
use Rattle.base_values.proofs.SchemaRules.Lists.{All-append}
use Rattle.base_values.proofs.SchemaRules.Steps.{bind_ok, ok_is, kept_out}
use Rattle.table_store.specs.Databases.{TableRows, Database, clashing, has_table}
use Rattle.plan_data.specs.declared.plan.TheConstants.{CLIENT_LIMIT}
use Rattle.plan_data.specs.PlanData.{PlanData}
use Rattle.plan_keys.specs.declared.fault.KeyRefusal.TheVariants.{UnknownKey, MissingKey, TooMany}
use Rattle.plan_keys.specs.declared.limits.TheConstants.{TABLE_LIMIT, ROW_LIMIT, FAULT_LIMIT}
use Rattle.plan_keys.specs.Limits.{TableData, TextData, has_too_many, row_count}
use Rattle.plan_keys.specs.PlanKeys.{KeyData, typed_of, in_range, few, keys_of}
use Rattle.plan_reader.specs.declared.plan_tables.fault.TableRefusal.{TableRefusal}
use Rattle.plan_reader.specs.Plans.{read}
use Rattle.plan_reader.specs.PlanTables.Rows.{next_number, or_bad, put_text, put_texts, with_put}
use Rattle.plan_reader.specs.PlanTables.RowTexts.{row_at}
use Rattle.plan_reader.specs.PlanTables.Tables.{newly_named, of_schema, table_at, tables_from}
use Rattle.plan_reader.proofs.Opened.{opening_is}
use Rattle.plan_reader.proofs.PlanTables.Sound.{rows_were}
use Rattle.sql_create.specs.CreateText.{schema_at}
use Rattle.proof_plans.proofs.ReadPlans.Parts.{parts_of}
use Rattle.proof_plans.proofs.ReadPlans.Schemas.Accepted.{past}
use Rattle.proof_plans.proofs.ReadPlans.Numbers.{AreRanged, options_ranged}

-- ---- texts

abbrev AreFewTexts : List TableData → Type 0
AreFewTexts texts = AllByRecursion (λ one. length one.rows ≤ ROW_LIMIT) texts

each_few : (n : ℕ) (texts : List TableData) → row_count texts ≤ n → AllByRecursion (λ (one : TableData). length one.rows ≤ n) texts
each_few n [] less = tt
each_few n (one ∷ texts) less =
    let a = sum_by-cons (λ (table : TableData). length table.rows) one texts in (omega (arith, a, less), each_few n texts (omega (arith, a, less)))

few_rows : (texts : TextData) → has_too_many texts ≡ false → AreFewTexts texts.tables
few_rows texts off =
    let first = or_parts (nat_lt TABLE_LIMIT (length texts.tables) || nat_lt ROW_LIMIT (row_count texts.tables) || nat_lt CLIENT_LIMIT (length texts.clients)) (nat_lt FAULT_LIMIT (length texts.faults)) off in
    let second = or_parts (nat_lt TABLE_LIMIT (length texts.tables) || nat_lt ROW_LIMIT (row_count texts.tables)) (nat_lt CLIENT_LIMIT (length texts.clients)) first.0 in
    let third = or_parts (nat_lt TABLE_LIMIT (length texts.tables)) (nat_lt ROW_LIMIT (row_count texts.tables)) second.0 in
    each_few ROW_LIMIT texts.tables (grind (arith, nat_tests, third))

limited : (members : Members) (keys : KeyData) → keys_of members ≡ Ok keys → AreFewTexts keys.texts.tables
unfolding keys_of
limited members keys is =
    let known = past _ UnknownKey _ keys is in
    let there = past _ MissingKey _ keys known in
    let kept = bind_ok (typed_of members >>= in_range) few keys there in
    let same = kept_out (has_too_many kept.0.texts) kept.0 keys TooMany kept.2 in
    subst (λ (k : KeyData). AreFewTexts k.texts.tables) same.1 (few_rows kept.0.texts same.0)

-- ---- rows

with_long : (places : List ℕ) (row : List Value) (rows : List (List Value)) → length (with_row places row rows) ≡ length rows + 1
unfolding with_row
with_long places row [] = refl
with_long places row (first ∷ rows) = by (compare_keys (key_of places row) (key_of places first)) (with_long places row rows) where
  by : (o : Ordering) → length (with_row places row rows) ≡ length rows + 1 → length (match_ordering o (row ∷ first ∷ rows) (row ∷ first ∷ rows) (first ∷ with_row places row rows)) ≡ suc (length rows) + 1
  by Less rest = omega arith
  by Equal rest = omega arith
  by Greater rest = omega (arith, rest)

put_long : (table made : TableRows) (row : List Value) → with_put table row ≡ Some made → length made.rows ≡ length table.rows + 1
put_long table made row is = by (is_some (clashing table row None)) is where
  by : (b : Bool) → cond b None (Some (record { schema = table.schema; rows = with_row (key_places table.schema) row table.rows })) ≡ Some made → length made.rows ≡ length table.rows + 1
  by true is = absurd cc
  by false is =
      let same : record { schema = table.schema; rows = with_row (key_places table.schema) row table.rows } ≡ made = cc in
      sym (ap (λ (t : TableRows). length t.rows) same) ∙ with_long (key_places table.schema) row table.rows

text_long : (table made : TableRows) (text : List ℕ) → put_text table text ≡ Some made → length made.rows ≡ length table.rows + 1
unfolding put_text
text_long table made text is = by (row_at table.schema.columns text) is where
  by : (row : Option (List Value)) → option_and_then (with_put table) row ≡ Some made → length made.rows ≡ length table.rows + 1
  by None is = absurd cc
  by (Some row) is = put_long table made row is

was_good : (row : ℕ) (found : Option TableRows) (table : TableRows) → or_bad row found ≡ Ok table → found ≡ Some table
was_good row (Some found) table is = cc
was_good row None table is = absurd cc

texts_long : (number : ℕ) (table made : TableRows) (texts : List (List ℕ)) → put_texts number table texts ≡ Ok made → length made.rows ≡ length table.rows + length texts
unfolding put_texts
texts_long number table made [] is = let same = ok_is {C = ℕ} table made is in let a = ap (λ (t : TableRows). length t.rows) same in omega (arith, a)
texts_long number table made (text ∷ texts) is =
    let next = bind_ok (or_bad number (put_text table text)) (λ table. put_texts (next_number number) table texts) made is in
    let a = text_long table next.0 text (was_good number (put_text table text) next.0 next.1) in
    let b = texts_long (next_number number) next.0 made texts next.2 in
    omega (arith, a, b)

table_long : (version : ℕ) (migrated : List ℕ) (number : ℕ) (tables : Database) (texts : TableData) (table : TableRows) → table_at version migrated number tables texts ≡ Ok table → length table.rows ≡ length texts.rows
unfolding table_at
table_long version migrated number tables texts table is =
    let schema = bind_ok (of_schema number (schema_at version migrated texts.create)) _ table is in
    let empty = bind_ok (newly_named number tables schema.0) _ table schema.2 in
    let bare : TableRows = record { schema = schema.0; rows = [] } in
    let parts = kept_out (has_table schema.0.name tables) bare empty.0 _ empty.1 in
    let put : put_texts 1 bare texts.rows ≡ Ok table = subst (λ (t : TableRows). put_texts 1 t texts.rows ≡ Ok table) (sym parts.1) (rows_were number (put_texts 1 empty.0 texts.rows) table empty.2) in
    let long = texts_long 1 bare table texts.rows put in omega (arith, long)

abbrev AreFew : ℕ → Database → Type 0
AreFew n tables = AllByRecursion (λ table. length table.rows ≤ n) tables

tables_few : (n version : ℕ) (migrated : List ℕ) (number : ℕ) (tables : Database) (texts : List TableData) (made : Database) → AllByRecursion (λ (one : TableData). length one.rows ≤ n) texts → AreFew n tables → tables_from version migrated number tables texts ≡ Ok made → AreFew n made
unfolding tables_from
tables_few n version migrated number tables [] made all few is = subst (AreFew n) (ok_is {C = TableRefusal} tables made is) few
tables_few n version migrated number tables (first ∷ texts) made all few is =
    let table = bind_ok (table_at version migrated number tables first) (λ table. tables_from version migrated (next_number number) (tables ++ (table ∷ [])) texts) made is in
    let a = table_long version migrated number tables first table.0 table.1 in
    let b = all.0 in
    tables_few n version migrated (next_number number) (tables ++ (table.0 ∷ [])) texts made all.1 (All-append (λ (t : TableRows). length t.rows ≤ n) tables (table.0 ∷ []) few (omega (arith, a, b), tt)) table.2

-- *Read plans are small*
pub record IsSmallPlan (plan : PlanData) : Type 0 where
  pub options : AreRanged plan.options
  pub rows : AllByRecursion (λ table. length table.rows ≤ ROW_LIMIT) plan.tables

pub small_plan : (bytes : List ℕ) (plan : PlanData) → read bytes ≡ Ok plan → IsSmallPlan plan
small_plan bytes plan is =
    let parts = parts_of bytes plan is in
    let opened = opening_is parts.keys parts.opening parts.opened in
    subst IsSmallPlan parts.same (record {
      options = options_ranged parts.members parts.keys parts.said;
      rows = tables_few ROW_LIMIT parts.keys.version parts.keys.texts.table 1 [] parts.keys.texts.tables parts.opening.tables (limited parts.members parts.keys parts.said) tt opened.tables;
    })
