-- The texts of a workload's scripts are read as its scripts.
use Rattle.std.proofs.Common.{◌≡◌, ◌∙◌, ℕ, zero, suc, ◌+◌, ◌-◌, ◌*◌, ◌%◌, ◌<◌, ◌^◌, ◌==◌, Bool, true, false, cond, get_or, List, [], ◌∷◌, ◌++◌, length, map, Some, Ok, refl, ap, arith, append_assoc}
use Rattle.std.proofs.lemmas.Bool.{and_parts}
use Rattle.std.proofs.lemmas.Bool.Decides.{nat_tests}
use Rattle.std.proofs.lemmas.List.Splits.{length-slice_split}
use Rattle.std.specs.List.{flat_map, list_all, list_any, onto_first, range_with_len, slice_split}
use Rattle.std.specs.Str.{bytes_eq}
use Rattle.std.specs.Str.Lines.{lines, lines_of_parts, strip_carriage_return}
use Rattle.base_script.specs.declared.script.ScriptLine.{ScriptLine}
use Rattle.base_script.specs.declared.script.ScriptWord.TheVariants.{Do}
use Rattle.base_script.specs.declared.statement.Statement.{Statement}
use Rattle.sql_grammar.specs.Tokens.{text_words}
use Rattle.sql_statement.specs.Lines.{line_of}
use Rattle.sql_statement.specs.Scripts.{table_of, fitting, fitting_line, next_line, lines_from, script_of}
use Rattle.top_workload.specs.Draws.{drawn, state_after}
use Rattle.top_workload.specs.Workloads.{client_line}
use Rattle.law_texts.specs.Workloads.Scripts.{insert_of, delete_of, change_of, move_of, asked_of, asked_at, script}
use Rattle.law_texts.proofs.Workloads.Document.Bytes.{is_inner, inner_line}
use Rattle.law_texts.proofs.Workloads.StatementsRead.{asked_line}
use Rattle.law_texts.specs.Workloads.Document.Texts.{table_name, script_text}
use Rattle.law_texts.proofs.Workloads.Document.Texts.{asked_key, line_sql, line_is, IsRowCount, small_key}

-- ---- a text of lines

abbrev is_feed : ℕ → Bool
is_feed byte = byte == 10

no_feed : (byte : ℕ) → is_inner byte ≡ true → is_feed byte ≡ false
no_feed byte inner = grind (arith, nat_tests)

first_part : (line rest : List ℕ) → list_all is_inner line ≡ true → slice_split is_feed (line ++ 10 ∷ rest) ≡ line ∷ slice_split is_feed rest
first_part [] rest inner = refl
first_part (byte ∷ line) rest inner =
    let parts = and_parts (is_inner byte) (list_all is_inner line) inner in
    rw (no_feed byte parts.0) (ap (onto_first byte) (first_part line rest parts.1))

no_return : (line : List ℕ) (i : ℕ) → list_all is_inner line ≡ true → (get_or line i 0 == 13) ≡ false
no_return [] i inner = refl
no_return (byte ∷ line) zero inner = let here = (and_parts (is_inner byte) (list_all is_inner line) inner).0 in grind (arith, nat_tests)
no_return (byte ∷ line) (suc i) inner = no_return line i (and_parts (is_inner byte) (list_all is_inner line) inner).1

kept : (line : List ℕ) → list_all is_inner line ≡ true → strip_carriage_return line ≡ line
kept line inner = rw (no_return line (length line - 1) inner) refl

more_parts : (line : List ℕ) (parts : List (List ℕ)) → 0 < length parts → lines_of_parts (line ∷ parts) ≡ strip_carriage_return line ∷ lines_of_parts parts
more_parts line [] some = absurd (omega arith)
more_parts line (part ∷ parts) some = refl

line_then : (line rest : List ℕ) → list_all is_inner line ≡ true → lines (line ++ 10 ∷ rest) ≡ line ∷ lines rest
line_then line rest inner =
    ap lines_of_parts (first_part line rest inner) ∙ more_parts line (slice_split is_feed rest) (omega (arith, length-slice_split is_feed rest)) ∙ ap (λ (first : List ℕ). first ∷ lines rest) (kept line inner)

-- ---- the lines of a client's text

lines_are : (rows state : ℕ) (places : List ℕ) → IsRowCount rows → lines (flat_map (client_line rows state) places) ≡ map (line_sql rows state) places
lines_are rows state [] is = refl
lines_are rows state (place ∷ places) is =
    let others : List ℕ = flat_map (client_line rows state) places in
    let first : client_line rows state place ++ others ≡ line_sql rows state place ++ (10 ∷ others) = ap (λ (text : List ℕ). text ++ others) (line_is rows state place) ∙ append_assoc (line_sql rows state place) (10 ∷ []) others in
    ap lines first ∙ line_then (line_sql rows state place) others (inner_line rows state place is) ∙ ap (λ (texts : List (List ℕ)). line_sql rows state place ∷ texts) (lines_are rows state places is)

-- ---- and what they are read as

-- none of the tables is the workload's
abbrev pub AreOther : List (List ℕ) → Type 0
AreOther tables = list_any (λ table. bytes_eq table table_name) tables ≡ false

chosen_table : (inserts deletes changes : Bool) (key value : ℕ) → table_of (cond inserts (insert_of key value) (cond deletes (delete_of key) (cond changes (change_of key value) (move_of key)))) ≡ table_name
chosen_table true deletes changes key value = refl
chosen_table false true changes key value = refl
chosen_table false false true key value = refl
chosen_table false false false key value = refl

its_table : (what key : ℕ) → table_of (asked_of what key) ≡ table_name
unfolding asked_of
its_table what key = chosen_table (what % 4 == 0) (what % 4 == 1) (what % 4 == 2) key (what % 1000)

abbrev numbered : (ℕ → Statement) → ℕ → ScriptLine
numbered asked line = record { line = line + 1; word = Do (asked line) }

module _ (tools : List (List ℕ)) (other : AreOther tools) (asked : ℕ → Statement) (sql : ℕ → List ℕ) (reads : (line : ℕ) → line_of (text_words (sql line)) ≡ Ok (Some (Do (asked line)))) (its : (line : ℕ) → table_of (asked line) ≡ table_name) where
  not_tool : (line : ℕ) → list_any (λ table. bytes_eq table (table_of (asked line))) tools ≡ false
  not_tool line = ap (λ (name : List ℕ). list_any (λ table. bytes_eq table name) tools) (its line) ∙ other

  lines_read : (line count : ℕ) → line + count < 2 ^ 32 - 1 → lines_from tools false (line + 1) (map sql (range_with_len line count)) ≡ Ok (map (numbered asked) (range_with_len line count))
  unfolding lines_from fitting fitting_line
  lines_read line zero few = refl
  lines_read line (suc count) few =
      let next : next_line (line + 1) ≡ (line + 1) + 1 = omega arith in
      rw (reads line, not_tool line, next, lines_read (line + 1) count (omega (arith, few))) refl

pub script_read : (tools : List (List ℕ)) (rows state : ℕ) → AreOther tools → IsRowCount rows → script_of tools (script_text rows state) ≡ Ok (script rows state)
unfolding script script_text
script_read tools rows state other is =
    ap (lines_from tools false 1) (lines_are rows state (range_with_len 0 30) is)
    ∙ lines_read tools other (asked_at rows state) (line_sql rows state) (λ line. asked_line (drawn (state_after state (2 * line))) (asked_key rows (state_after state (2 * line))) (small_key rows (state_after state (2 * line)) is))
    (λ line. its_table (drawn (state_after state (2 * line))) (asked_key rows (state_after state (2 * line)))) 0 30 (omega arith)
