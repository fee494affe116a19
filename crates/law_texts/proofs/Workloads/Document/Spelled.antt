-- How a workload's rows and scripts are spelled in its text.
use Rattle.std.proofs.Common.{◌≡◌, ◌∙◌, ℕ, ◌<◌, ◌^◌, Bool, true, List, [], ◌∷◌, ◌++◌, Some, refl, sym, ap, arith, append_assoc}
use Rattle.std.specs.Fmt.{decimal}
use Rattle.std.specs.List.{flat_map, list_all, range_with_len}
use Rattle.toml_parser.specs.Strings.{is_plain}
use Rattle.toml.specs.Data.{string}
use Rattle.toml.specs.Parse.{val}
use Rattle.top_workload.specs.Workloads.{row_count, row_line, row_text, client_line, client_text, client_at}
use Rattle.law_texts.specs.Workloads.Document.Texts.{row_sql, row_key, row_value, script_text, client_state}
use Rattle.std.proofs.lemmas.Bool.{and_from}
use Rattle.law_texts.proofs.Workloads.Document.ArraysRead.{IsSpelled, all_places}
use Rattle.law_texts.proofs.Workloads.Document.Bytes.{is_inner, inner_row, inner_line, inner_pass}
use Rattle.law_texts.proofs.Workloads.Document.Digits.{both_pass, pieces_pass}
use Rattle.law_texts.proofs.Workloads.Document.Texts.{rows_counted, values_text, text_is, IsRowCount, line_sql, line_is}
use Rattle.law_texts.proofs.Workloads.Document.StringsRead.{one_value, many_value, plain_many}

-- ---- rows

pub row_is : (key value : ℕ) → row_line key value ≡ 34 ∷ ((values_text 117 key value ++ 34 ∷ []) ++ 44 ∷ 10 ∷ [])
unfolding row_line
row_is key value = simp append_assoc refl

row_value_read : (depth key value : ℕ) (rest : List ℕ) → key < 2 ^ 64 → value < 2 ^ 64 → val depth (34 ∷ ((values_text 117 key value ++ 34 ∷ []) ++ (44 ∷ rest))) ≡ Some (string (row_sql key value), 44 ∷ rest)
row_value_read depth key value rest wide also =
    let text = values_text 117 key value in
    let following : List ℕ = decimal key ++ (44 ∷ 32 ∷ 39 ∷ 117 ∷ (decimal key ++ (39 ∷ 44 ∷ 32 ∷ (decimal value ++ 41 ∷ [])))) in
    ap (λ (bytes : List ℕ). val depth (34 ∷ bytes)) (append_assoc text (34 ∷ []) (44 ∷ rest)) ∙ one_value depth 40 following (44 ∷ rest) refl (inner_row key value wide also)
    ∙ ap (λ (bytes : List ℕ). Some (string bytes, 44 ∷ rest)) (sym (text_is key value))

abbrev pub row_spelled : ℕ → ℕ → List ℕ
row_spelled number place = values_text 117 (row_key place) (row_value number place) ++ 34 ∷ []

pub spelled_row : (depth number place : ℕ) → row_key place < 2 ^ 64 → IsSpelled depth (row_text number place) (row_spelled number place) (row_sql (row_key place) (row_value number place))
spelled_row depth number place wide = record {
  spelled_is = row_is (row_key place) (row_value number place);
  read = λ rest. row_value_read depth (row_key place) (row_value number place) rest wide (omega arith);
}

-- ---- scripts

-- a test that inner bytes and line feeds pass is passed by a client's lines
pub lines_pass : (test : ℕ → Bool) → ((byte : ℕ) → is_inner byte ≡ true → test byte ≡ true) → test 10 ≡ true → (rows state : ℕ) → IsRowCount rows → list_all test (script_text rows state) ≡ true
unfolding script_text
lines_pass test each feed rows state is =
    pieces_pass test (client_line rows state) (range_with_len 0 30) (all_places _ 0 30 (λ place less.
    let line = line_sql rows state place in
    ap (list_all test) (line_is rows state place) ∙ both_pass test line (10 ∷ []) (inner_pass test each line (inner_line rows state place is)) (and_from _ _ feed refl)))

abbrev pub script_spelled : ℕ → ℕ → List ℕ
script_spelled rows state = 34 ∷ 34 ∷ 10 ∷ (script_text rows state ++ 34 ∷ 34 ∷ 34 ∷ [])

pub script_is : (rows state : ℕ) → client_text rows state ≡ 34 ∷ (script_spelled rows state ++ 44 ∷ 10 ∷ [])
unfolding client_text script_text
script_is rows state = simp append_assoc refl

script_value_read : (depth rows state : ℕ) (rest : List ℕ) → IsRowCount rows → val depth (34 ∷ (script_spelled rows state ++ (44 ∷ rest))) ≡ Some (string (script_text rows state), 44 ∷ rest)
unfolding script_text
script_value_read depth rows state rest is =
    let text : List ℕ = flat_map (client_line rows state) (range_with_len 0 30) in
    ap (λ (bytes : List ℕ). val depth (34 ∷ 34 ∷ 34 ∷ 10 ∷ bytes)) (append_assoc text (34 ∷ 34 ∷ 34 ∷ []) (44 ∷ rest)) ∙ many_value depth text rest (lines_pass (is_plain 34 true) plain_many refl rows state is)

pub spelled_script : (depth number client : ℕ) → IsSpelled depth (client_at number client) (script_spelled (row_count number) (client_state number client)) (script_text (row_count number) (client_state number client))
spelled_script depth number client = record {
  spelled_is = script_is (row_count number) (client_state number client);
  read = λ rest. script_value_read depth (row_count number) (client_state number client) rest (rows_counted number);
}
