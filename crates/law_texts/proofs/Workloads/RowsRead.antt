-- The texts of a workload's rows are read as its rows.
use Rattle.std.proofs.Common.{◌≡◌, ◌∙◌, ℕ, ◌-◌, ◌<◌, ◌≤◌, ◌^◌, true, false, nat_le, List, [], ◌∷◌, length, Some, None, Ok, refl, ap, codes, arith}
use Rattle.std.specs.Prelude.{pos}
use Rattle.std.proofs.lemmas.Bool.{le-leb}
use Rattle.std.proofs.lemmas.List.Sums.{count_by-le-length}
use Rattle.std.specs.Fmt.{decimal}
use Rattle.base_values.specs.declared.kind.Kind.TheVariants.{Int, VarChar}
use Rattle.base_values.specs.declared.value.Value.{Value}
use Rattle.base_values.specs.declared.value.Value.TheVariants.{Null, Num, Text}
use Rattle.base_values.specs.StoredValues.{half, character_count, in_range, text_within, stores}
use Rattle.base_values.specs.declared.gho_schema.schema.Column.{Column}
use Rattle.sql_grammar.specs.declared.token.Token.{Token}
use Rattle.sql_grammar.specs.Pieces.{after_sign, literal_of}
use Rattle.sql_grammar.specs.Tokens.{same_sign}
use Rattle.proof_schemas.specs.Printed.Words.{sign_word, number_word}
use Rattle.plan_reader.specs.PlanTables.RowTexts.{value_at, values_at, row_of, row_at}
use Rattle.law_texts.specs.Workloads.Rows.{table_schema, row_values}
use Rattle.law_texts.proofs.Workloads.Lexed.{text_word, values_words, values_have_words}
use Rattle.law_texts.proofs.Workloads.Literals.{number_literal, text_literal, literal_then}
use Rattle.law_texts.proofs.Workloads.Document.Digits.{few_digits}
use Rattle.law_texts.specs.Workloads.Document.Texts.{row_sql}
use Rattle.law_texts.proofs.Workloads.Document.Texts.{text_is}

-- ---- what the columns store

key_stores : (n : ℕ) → n < 2 ^ 63 → stores (Num (pos n)) (Int 8 false) false ≡ Ok (Num (pos n))
unfolding stores in_range half
key_stores n few = let within : nat_le n (2 ^ 63 - 1) ≡ true = le-leb n (2 ^ 63 - 1) (omega arith) in rw within refl

value_stores : (n : ℕ) → n < 2 ^ 31 → stores (Num (pos n)) (Int 4 false) true ≡ Ok (Num (pos n))
unfolding stores in_range half
value_stores n few = let within : nat_le n (2 ^ 31 - 1) ≡ true = le-leb n (2 ^ 31 - 1) (omega arith) in rw within refl

few_characters : (text : List ℕ) → character_count text ≤ length text
unfolding character_count
few_characters text = count_by-le-length _ text

text_stores : (text : List ℕ) → length text ≤ 24 → stores (Text text) (VarChar 24) true ≡ Ok (Text text)
unfolding stores text_within
text_stores text few = let within : nat_le (character_count text) 24 ≡ true = le-leb (character_count text) 24 (omega (arith, few_characters text)) in rw within refl

-- ---- a row

value_then : (column : Column) (word : Token) (value : Value) (rest : List Token) → literal_of word ≡ Some value → stores value column.kind column.nullable ≡ Ok value → value_at column (word ∷ rest) ≡ Some (value, rest)
unfolding value_at
value_then column word value rest is fits = rw (literal_then word value rest is, fits) refl

abbrev id_column : Column
id_column = record { name = codes "id"; kind = Int 8 false; nullable = false; default = None; auto = false }

abbrev u_column : Column
u_column = record { name = codes "u"; kind = VarChar 24; nullable = true; default = Some Null; auto = false }

abbrev v_column : Column
v_column = record { name = codes "v"; kind = Int 4 false; nullable = true; default = Some Null; auto = false }

values_read : (key value : ℕ) → key < 2 ^ 63 → value < 2 ^ 31 → row_of table_schema.columns (record { words = values_words 117 key value; is_faulty = false }) ≡ Some (row_values key value)
unfolding row_of values_at after_sign same_sign
values_read key value few small =
    let name : List ℕ = 117 ∷ decimal key in
    let third : List Token = sign_word (codes ")") ∷ [] in
    let second : List Token = sign_word (codes ",") ∷ number_word (decimal value) ∷ third in
    let first : List Token = sign_word (codes ",") ∷ text_word name ∷ second in
    let wide : key < 2 ^ 64 = omega arith in
    rw (
      value_then id_column (number_word (decimal key)) (Num (pos key)) first (number_literal key wide) (key_stores key few),
      value_then u_column (text_word name) (Text name) second (text_literal name) (text_stores name (omega (arith, few_digits key wide))),
      value_then v_column (number_word (decimal value)) (Num (pos value)) third (number_literal value (omega arith)) (value_stores value small),
    ) refl

pub row_read : (key value : ℕ) → key < 2 ^ 63 → value < 2 ^ 31 → row_at table_schema.columns (row_sql key value) ≡ Some (row_values key value)
row_read key value few small =
    ap (row_at table_schema.columns) (text_is key value) ∙ ap (row_of table_schema.columns) (values_have_words 117 key value refl (omega arith) (omega arith)) ∙ values_read key value few small
