-- The bytes of a workload's statements and rows: none of them ends a line or a text of the plan.
use Rattle.std.proofs.Common.{◌≡◌, ℕ, ◌+◌, ◌*◌, ◌%◌, ◌<◌, ◌^◌, ◌==◌, Bool, true, false, not, ◌&&◌, nat_le, List, [], ◌∷◌, ◌++◌, refl, arith}
use Rattle.std.proofs.lemmas.Bool.{and_from, and_parts}
use Rattle.std.proofs.lemmas.Bool.Decides.{nat_tests}
use Rattle.std.specs.Char.{is_ascii_digit}
use Rattle.std.specs.Fmt.{decimal}
use Rattle.std.specs.List.{list_all}
use Rattle.top_workload.specs.Draws.{drawn, state_after}
use Rattle.law_texts.proofs.Workloads.Document.Digits.{number_passes, both_pass}
use Rattle.law_texts.proofs.Workloads.Document.Texts.{values_text, where_sql, set_sql, chosen_sql, asked_sql, asked_key, line_sql, IsRowCount, small_key}

-- a character of ASCII that is printed, and neither the quote nor the escape of a plan's texts
abbrev pub is_inner : ℕ → Bool
is_inner byte = (nat_le 32 byte && nat_le byte 126) && (not (byte == 34) && not (byte == 92))

inner_digit : (digit : ℕ) → is_ascii_digit digit ≡ true → is_inner digit ≡ true
inner_digit digit is = grind (arith, nat_tests)

number : (n : ℕ) → n < 2 ^ 64 → list_all is_inner (decimal n) ≡ true
number n wide = number_passes is_inner inner_digit n wide

number_then : (n : ℕ) (rest : List ℕ) → n < 2 ^ 64 → list_all is_inner rest ≡ true → list_all is_inner (decimal n ++ rest) ≡ true
number_then n rest wide inner = both_pass is_inner (decimal n) rest (number n wide) inner

inner_insert_values : (key value : ℕ) → key < 2 ^ 64 → value < 2 ^ 64 → list_all is_inner (values_text 110 key value) ≡ true
inner_insert_values key value wide also =
    number_then key (44 ∷ 32 ∷ 39 ∷ 110 ∷ (decimal key ++ (39 ∷ 44 ∷ 32 ∷ (decimal value ++ 41 ∷ [])))) wide (number_then key (39 ∷ 44 ∷ 32 ∷ (decimal value ++ 41 ∷ [])) wide (number_then value (41 ∷ []) also refl))

pub inner_row : (key value : ℕ) → key < 2 ^ 64 → value < 2 ^ 64 → list_all is_inner (values_text 117 key value) ≡ true
inner_row key value wide also =
    number_then key (44 ∷ 32 ∷ 39 ∷ 117 ∷ (decimal key ++ (39 ∷ 44 ∷ 32 ∷ (decimal value ++ 41 ∷ [])))) wide (number_then key (39 ∷ 44 ∷ 32 ∷ (decimal value ++ 41 ∷ [])) wide (number_then value (41 ∷ []) also refl))

inner_set : (value key : ℕ) → value < 2 ^ 64 → key < 2 ^ 64 → list_all is_inner (set_sql value key) ≡ true
inner_set value key wide also = number_then value (where_sql key) wide (number key also)

inner_chosen : (inserts deletes changes : Bool) (key value : ℕ) → key + 1 < 2 ^ 64 → value < 2 ^ 64 → list_all is_inner (chosen_sql inserts deletes changes key value) ≡ true
inner_chosen true deletes changes key value wide also = inner_insert_values key value (omega arith) also
inner_chosen false true changes key value wide also = number key (omega arith)
inner_chosen false false true key value wide also = inner_set value key also (omega arith)
inner_chosen false false false key value wide also = inner_set (key + 1) key wide (omega arith)

pub inner_asked : (what key : ℕ) → key + 1 < 2 ^ 64 → list_all is_inner (asked_sql what key) ≡ true
inner_asked what key wide = inner_chosen (what % 4 == 0) (what % 4 == 1) (what % 4 == 2) key (what % 1000) wide (omega arith)

pub inner_line : (rows state line : ℕ) → IsRowCount rows → list_all is_inner (line_sql rows state line) ≡ true
inner_line rows state line is = inner_asked (drawn (state_after state (2 * line))) (asked_key rows (state_after state (2 * line))) (small_key rows (state_after state (2 * line)) is)

-- what inner bytes pass, each of them passes
pub inner_pass : (test : ℕ → Bool) → ((byte : ℕ) → is_inner byte ≡ true → test byte ≡ true) → (bytes : List ℕ) → list_all is_inner bytes ≡ true → list_all test bytes ≡ true
inner_pass test each [] inner = refl
inner_pass test each (byte ∷ bytes) inner =
    let parts = and_parts (is_inner byte) (list_all is_inner bytes) inner in
    and_from _ _ (each byte parts.0) (inner_pass test each bytes parts.1)
