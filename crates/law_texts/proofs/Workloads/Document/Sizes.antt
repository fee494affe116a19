-- A workload's text is short, and each of its bytes is ASCII.
use Rattle.std.proofs.Common.{◌≡◌, ◌∙◌, ℕ, zero, suc, ◌+◌, ◌*◌, ◌%◌, ◌<◌, ◌≤◌, ◌^◌, ◌==◌, Bool, true, false, nat_lt, List, [], ◌∷◌, ◌++◌, length, refl, ap, arith, length-append}
use Rattle.std.proofs.Math.Nat.{suc-mul}
use Rattle.std.proofs.lemmas.Bool.{and_parts}
use Rattle.std.proofs.lemmas.Bool.Decides.{nat_tests}
use Rattle.std.proofs.lemmas.List.FromFn.{length-range_with_len}
use Rattle.std.proofs.lemmas.Str.{IsUtf8-from_ascii, is_utf8-from_IsUtf8}
use Rattle.std.specs.Fmt.{decimal}
use Rattle.std.specs.List.{AllByRecursion, flat_map, list_all, range_with_len}
use Rattle.std.specs.Str.{IsAscii, is_utf8}
use Rattle.top_workload.specs.Draws.{drawn, state_after}
use Rattle.top_workload.specs.Workloads.{row_count, client_count, row_text, rows_text, client_line, client_at, clients_text, head_text, options_text, table_text, workload}
use Rattle.law_texts.specs.Workloads.Document.Texts.{row_key, row_value, client_state, script_text}
use Rattle.law_texts.proofs.Workloads.Document.ArraysRead.{all_places}
use Rattle.law_texts.proofs.Workloads.Document.Bytes.{is_inner, inner_row, inner_pass}
use Rattle.law_texts.proofs.Workloads.Document.Digits.{few_digits, both_pass, pieces_pass}
use Rattle.law_texts.proofs.Workloads.Document.Texts.{rows_counted, values_text, where_sql, set_sql, chosen_sql, IsRowCount, line_sql, line_is, small_key, asked_key}
use Rattle.law_texts.proofs.Workloads.Document.Spelled.{row_is, script_is, script_spelled, lines_pass}

-- ---- ASCII

abbrev is_low : ℕ → Bool
is_low byte = nat_lt byte 128

low_inner : (byte : ℕ) → is_inner byte ≡ true → is_low byte ≡ true
low_inner byte inner = grind (arith, nat_tests)

low_bytes : (bytes : List ℕ) → list_all is_low bytes ≡ true → IsAscii bytes
low_bytes [] all i = omega arith
low_bytes (byte ∷ bytes) all zero = let here = (and_parts (is_low byte) (list_all is_low bytes) all).0 in grind (arith, nat_tests)
low_bytes (byte ∷ bytes) all (suc i) = low_bytes bytes (and_parts (is_low byte) (list_all is_low bytes) all).1 i

low_row : (number place : ℕ) → row_key place < 2 ^ 64 → list_all is_low (row_text number place) ≡ true
low_row number place wide =
    let key = row_key place in
    let value = row_value number place in
    let text = values_text 117 key value in
    let inner = inner_pass is_low low_inner text (inner_row key value wide (omega arith)) in
    ap (list_all is_low) (row_is key value) ∙ both_pass is_low (text ++ 34 ∷ []) (44 ∷ 10 ∷ []) (both_pass is_low text (34 ∷ []) inner refl) refl

low_client : (number client : ℕ) → list_all is_low (client_at number client) ≡ true
low_client number client =
    let rows = row_count number in
    let state = client_state number client in
    let text = script_text rows state in
    let inner = lines_pass is_low low_inner refl rows state (rows_counted number) in
    ap (list_all is_low) (script_is rows state) ∙ both_pass is_low (script_spelled rows state) (44 ∷ 10 ∷ []) (both_pass is_low text (34 ∷ 34 ∷ 34 ∷ []) inner refl) refl

low_clients : (number : ℕ) → list_all is_low (clients_text number) ≡ true
unfolding clients_text
low_clients number = pieces_pass is_low (client_at number) (range_with_len 0 (client_count number)) (all_places _ 0 (client_count number) (λ client less. low_client number client))

low_rows : (number : ℕ) → list_all is_low (rows_text number) ≡ true
unfolding rows_text
low_rows number = pieces_pass is_low (row_text number) (range_with_len 0 (row_count number)) (all_places _ 0 (row_count number) (λ place less. low_row number place (omega (arith, less))))

low_head : list_all is_low head_text ≡ true
unfolding head_text
low_head = refl

low_options : list_all is_low options_text ≡ true
unfolding options_text
low_options = refl

low_table : list_all is_low table_text ≡ true
unfolding table_text
low_table = refl

low_all : (number : ℕ) → list_all is_low (workload number) ≡ true
unfolding workload
low_all number =
    let one = both_pass is_low head_text (clients_text number) low_head (low_clients number) in
    let two = both_pass is_low (head_text ++ clients_text number) options_text one low_options in
    let three = both_pass is_low (head_text ++ clients_text number ++ options_text) table_text two low_table in
    let four = both_pass is_low (head_text ++ clients_text number ++ options_text ++ table_text) (rows_text number) three (low_rows number) in
    both_pass is_low (head_text ++ clients_text number ++ options_text ++ table_text ++ rows_text number) (93 ∷ 10 ∷ []) four refl

pub text_is_utf8 : (number : ℕ) → is_utf8 (workload number) ≡ true
text_is_utf8 number = is_utf8-from_IsUtf8 (workload number) (IsUtf8-from_ascii (workload number) (low_bytes (workload number) (low_all number)))

-- ---- sizes

pieces_size : {X : Type 0} (piece : X → List ℕ) (most : ℕ) (xs : List X) → AllByRecursion (λ x. length (piece x) ≤ most) xs → length (flat_map piece xs) ≤ length xs * most
pieces_size piece most [] all = omega arith
pieces_size piece most (x ∷ xs) all =
    let more = pieces_size piece most xs all.1 in
    let product = suc-mul (length xs) most in
    omega (arith, all.0, more, product, length-append (piece x) (flat_map piece xs))

range_size : (piece : ℕ → List ℕ) (most count : ℕ) → ((place : ℕ) → place < 0 + count → length (piece place) ≤ most) → length (flat_map piece (range_with_len 0 count)) ≤ count * most
range_size piece most count each =
    let all = pieces_size piece most (range_with_len 0 count) (all_places _ 0 count each) in
    let size : length (range_with_len 0 count) * most ≡ count * most = ap (λ (n : ℕ). n * most) (length-range_with_len 0 count) in
    omega (arith, all, size)

values_size : (letter key value : ℕ) → key < 2 ^ 64 → value < 2 ^ 64 → length (values_text letter key value) ≤ 69
values_size letter key value wide also =
    let third : List ℕ = decimal value ++ 41 ∷ [] in
    let second : List ℕ = decimal key ++ (39 ∷ 44 ∷ 32 ∷ third) in
    omega (arith, few_digits key wide, few_digits value also, length-append (decimal value) (41 ∷ []), length-append (decimal key) (39 ∷ 44 ∷ 32 ∷ third), length-append (decimal key) (44 ∷ 32 ∷ 39 ∷ letter ∷ second))

set_size : (value key : ℕ) → value < 2 ^ 64 → key < 2 ^ 64 → length (set_sql value key) ≤ 60
set_size value key wide also = omega (arith, few_digits value wide, few_digits key also, length-append (decimal value) (where_sql key))

chosen_size : (inserts deletes changes : Bool) (key value : ℕ) → key + 1 < 2 ^ 64 → value < 2 ^ 64 → length (chosen_sql inserts deletes changes key value) ≤ 110
chosen_size true deletes changes key value wide also = let size = values_size 110 key value (omega arith) also in omega (arith, size)
chosen_size false true changes key value wide also = omega (arith, few_digits key (omega arith))
chosen_size false false true key value wide also = let size = set_size value key also (omega arith) in omega (arith, size)
chosen_size false false false key value wide also = let size = set_size (key + 1) key wide (omega arith) in omega (arith, size)

line_size : (rows state line : ℕ) → IsRowCount rows → length (client_line rows state line) ≤ 111
line_size rows state line is =
    let start = state_after state (2 * line) in
    let what = drawn start in
    let size = chosen_size (what % 4 == 0) (what % 4 == 1) (what % 4 == 2) (asked_key rows start) (what % 1000) (small_key rows start is) (omega arith) in
    omega (arith, size, ap length (line_is rows state line), length-append (line_sql rows state line) (10 ∷ []))

script_size : (rows state : ℕ) → IsRowCount rows → length (script_text rows state) ≤ 3330
unfolding script_text
script_size rows state is = let size = range_size (client_line rows state) 111 30 (λ line less. line_size rows state line is) in omega (arith, size)

client_size : (number client : ℕ) → length (client_at number client) ≤ 3340
client_size number client =
    let rows = row_count number in
    let state = client_state number client in
    let size = script_size rows state (rows_counted number) in
    omega (arith, size, ap length (script_is rows state), length-append (script_spelled rows state) (44 ∷ 10 ∷ []), length-append (script_text rows state) (34 ∷ 34 ∷ 34 ∷ []))

row_size : (number place : ℕ) → row_key place < 2 ^ 64 → length (row_text number place) ≤ 80
row_size number place wide =
    let text = values_text 117 (row_key place) (row_value number place) in
    let size = values_size 117 (row_key place) (row_value number place) wide (omega arith) in
    omega (arith, size, ap length (row_is (row_key place) (row_value number place)), length-append (text ++ 34 ∷ []) (44 ∷ 10 ∷ []), length-append text (34 ∷ []))

clients_size : (number : ℕ) → length (clients_text number) ≤ 106880
unfolding clients_text
clients_size number = let size = range_size (client_at number) 3340 (client_count number) (λ client less. client_size number client) in omega (arith, size)

rows_size : (number : ℕ) → length (rows_text number) ≤ 1600000
unfolding rows_text
rows_size number = let size = range_size (row_text number) 80 (row_count number) (λ place less. row_size number place (omega (arith, less))) in omega (arith, size)

head_size : length head_text ≤ 200
unfolding head_text
head_size = omega arith

options_size : length options_text ≤ 200
unfolding options_text
options_size = omega arith

table_size : length table_text ≤ 200
unfolding table_text
table_size = omega arith

pub text_is_short : (number : ℕ) → length (workload number) ≤ 2000000
unfolding workload
text_is_short number =
    let one = head_text ++ clients_text number in
    let two = one ++ options_text in
    let three = two ++ table_text in
    let four = three ++ rows_text number in
    omega (arith, head_size, options_size, table_size, clients_size number, rows_size number, length-append head_text (clients_text number), length-append one options_text, length-append two table_text, length-append three (rows_text number), length-append four (93 ∷ 10 ∷ []))
