-- The words of a workload's statements are read as its statements.
use Rattle.std.proofs.Common.{◌≡◌, ◌∙◌, ℕ, ◌+◌, ◌<◌, ◌^◌, ◌%◌, ◌==◌, Bool, true, false, cond, List, [], ◌∷◌, Some, Ok, refl, ap, codes, arith}
use Rattle.std.specs.Prelude.{pos}
use Rattle.std.specs.Fmt.{decimal}
use Rattle.base_values.specs.declared.value.Value.TheVariants.{Num, Text}
use Rattle.base_values.specs.GhoSchema.Names.{same_name}
use Rattle.sql_grammar.specs.declared.token.Token.{Token}
use Rattle.sql_grammar.specs.Keys as keys
use Rattle.sql_grammar.specs.Listed.{listed, gathered}
use Rattle.sql_grammar.specs.Pieces as pieces
use Rattle.sql_grammar.specs.Tokens.{is_keyword, same_sign, text_words}
use Rattle.proof_schemas.specs.Printed.Words.{sign_word, number_word}
use Rattle.base_script.specs.declared.script.ScriptWord.TheVariants.{Do}
use Rattle.sql_statement.specs.Conditions.{equality_at, and_equality_at, more_equalities_at, equalities_at, form_at, condition_at}
use Rattle.sql_statement.specs.Lines.{line_of}
use Rattle.sql_statement.specs.Pieces.{operand_at}
use Rattle.sql_statement.specs.Rows.{literals_at, set_at, sets_at, columns_at, values_at, row_at}
use Rattle.sql_statement.specs.Scope.{begins_statement, bounds_transaction, is_left_out, has_next_row, after_values, is_out_of_scope}
use Rattle.sql_statement.specs.Statements.{insert_at, delete_at, update_at, asked_at, statement_of}
use Rattle.law_texts.specs.Workloads.Scripts.{insert_of, delete_of, change_of, move_of, asked_of}
use Rattle.law_texts.proofs.Workloads.Lexed.{text_word, where_words, delete_words, update_words, insert_words, insert_has_words, delete_has_words, change_has_words, move_has_words}
use Rattle.law_texts.proofs.Workloads.Literals.{number_literal, text_literal, literal_then}
use Rattle.law_texts.proofs.Workloads.Document.Texts.{delete_sql, change_sql, move_sql, insert_sql, chosen_sql, asked_sql}

delete_read : (key : ℕ) → key < 2 ^ 64 → statement_of (delete_words key) ≡ Ok (Do (delete_of key))
unfolding statement_of is_out_of_scope begins_statement bounds_transaction is_left_out has_next_row after_values asked_at delete_at condition_at form_at equalities_at equality_at more_equalities_at and_equality_at gathered pieces.keyword_at pieces.sign_at pieces.name_at pieces.after_name pieces.after_keyword pieces.after_sign operand_at is_keyword same_sign same_name
delete_read key wide = rw (literal_then (number_word (decimal key)) (Num (pos key)) [] (number_literal key wide)) refl

change_read : (key value : ℕ) → value < 2 ^ 64 → key < 2 ^ 64 → statement_of (update_words (codes "v") value key) ≡ Ok (Do (change_of key value))
unfolding statement_of is_out_of_scope begins_statement bounds_transaction is_left_out has_next_row after_values asked_at update_at sets_at set_at listed condition_at form_at equalities_at equality_at more_equalities_at and_equality_at gathered pieces.keyword_at pieces.sign_at pieces.name_at pieces.after_name pieces.after_keyword pieces.after_sign operand_at is_keyword same_sign same_name
change_read key value wide also =
    rw (literal_then (number_word (decimal value)) (Num (pos value)) (where_words key) (number_literal value wide), literal_then (number_word (decimal key)) (Num (pos key)) [] (number_literal key also)) refl

move_read : (key : ℕ) → key + 1 < 2 ^ 64 → statement_of (update_words (codes "id") (key + 1) key) ≡ Ok (Do (move_of key))
unfolding statement_of is_out_of_scope begins_statement bounds_transaction is_left_out has_next_row after_values asked_at update_at sets_at set_at listed condition_at form_at equalities_at equality_at more_equalities_at and_equality_at gathered pieces.keyword_at pieces.sign_at pieces.name_at pieces.after_name pieces.after_keyword pieces.after_sign operand_at is_keyword same_sign same_name
move_read key wide =
    rw (literal_then (number_word (decimal (key + 1))) (Num (pos (key + 1))) (where_words key) (number_literal (key + 1) wide), literal_then (number_word (decimal key)) (Num (pos key)) [] (number_literal key (omega arith))) refl

insert_read : (key value : ℕ) → key < 2 ^ 64 → value < 2 ^ 64 → statement_of (insert_words key value) ≡ Ok (Do (insert_of key value))
unfolding statement_of is_out_of_scope begins_statement bounds_transaction is_left_out has_next_row after_values asked_at insert_at row_at columns_at values_at literals_at listed keys.names_at pieces.keyword_at pieces.sign_at pieces.name_at pieces.after_name pieces.after_keyword pieces.after_sign is_keyword same_sign same_name
insert_read key value wide also =
    let name : List ℕ = 110 ∷ decimal key in
    let third : List Token = sign_word (codes ")") ∷ [] in
    let second : List Token = sign_word (codes ",") ∷ number_word (decimal value) ∷ third in
    let first : List Token = sign_word (codes ",") ∷ text_word name ∷ second in
    rw (
      literal_then (number_word (decimal key)) (Num (pos key)) first (number_literal key wide),
      literal_then (text_word name) (Text name) second (text_literal name),
      literal_then (number_word (decimal value)) (Num (pos value)) third (number_literal value also),
    ) refl

-- ---- lines

insert_line : (key value : ℕ) → key < 2 ^ 64 → value < 2 ^ 64 → line_of (text_words (insert_sql key value)) ≡ Ok (Some (Do (insert_of key value)))
insert_line key value wide also = ap line_of (insert_has_words key value wide also) ∙ rw (insert_read key value wide also) refl

delete_line : (key : ℕ) → key < 2 ^ 64 → line_of (text_words (delete_sql key)) ≡ Ok (Some (Do (delete_of key)))
delete_line key wide = ap line_of (delete_has_words key wide) ∙ rw (delete_read key wide) refl

change_line : (key value : ℕ) → value < 2 ^ 64 → key < 2 ^ 64 → line_of (text_words (change_sql key value)) ≡ Ok (Some (Do (change_of key value)))
change_line key value wide also = ap line_of (change_has_words key value wide also) ∙ rw (change_read key value wide also) refl

move_line : (key : ℕ) → key + 1 < 2 ^ 64 → line_of (text_words (move_sql key)) ≡ Ok (Some (Do (move_of key)))
move_line key wide = ap line_of (move_has_words key wide) ∙ rw (move_read key wide) refl

chosen_line : (inserts deletes changes : Bool) (key value : ℕ) → key + 1 < 2 ^ 64 → value < 2 ^ 64
    → line_of (text_words (chosen_sql inserts deletes changes key value)) ≡ Ok (Some (Do (cond inserts (insert_of key value) (cond deletes (delete_of key) (cond changes (change_of key value) (move_of key))))))
chosen_line true deletes changes key value wide also = insert_line key value (omega arith) also
chosen_line false true changes key value wide also = delete_line key (omega arith)
chosen_line false false true key value wide also = change_line key value also (omega arith)
chosen_line false false false key value wide also = move_line key wide

pub asked_line : (what key : ℕ) → key + 1 < 2 ^ 64 → line_of (text_words (asked_sql what key)) ≡ Ok (Some (Do (asked_of what key)))
unfolding asked_of
asked_line what key wide = chosen_line (what % 4 == 0) (what % 4 == 1) (what % 4 == 2) key (what % 1000) wide (omega arith)
