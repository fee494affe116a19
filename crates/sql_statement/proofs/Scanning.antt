-- Looking through words from the front on, as a loop does.
use Rattle.std.proofs.Common.{◌≡◌, ℕ, ◌+◌, ◌-◌, ◌<◌, ◌≤◌, true, false, codes, List, [], ◌∷◌, length, take, drop, get_or, refl, sym, ◌∙◌, arith}
use Rattle.std.proofs.lemmas.List.{drop_more, drop_all, take_rest}
use Rattle.sql_grammar.specs.declared.token.Token.{Token}
use Rattle.sql_grammar.specs.Tokens.{is_keyword}
use Rattle.sql_statement.specs.Scope.{begins_row, has_next_row, after_values}

pub values_found : (words all : List Token) (i : ℕ) (default : Token) → i < length words → is_keyword (get_or words i default) (codes "VALUES") ≡ true
    → after_values (drop i words) ≡ after_values all → take (length words - (i + 1)) (drop (i + 1) words) ≡ after_values all
unfolding after_values
values_found words all i default lt is so_far =
    let here : after_values (drop i words) ≡ drop (i + 1) words = rw (drop_more words i default lt, is) refl in
    take_rest words (i + 1) ∙ sym here ∙ so_far

pub values_passed : (words all : List Token) (i : ℕ) (default : Token) → i < length words → is_keyword (get_or words i default) (codes "VALUES") ≡ false
    → after_values (drop i words) ≡ after_values all → after_values (drop (i + 1) words) ≡ after_values all
unfolding after_values
values_passed words all i default lt not so_far =
    let here : after_values (drop i words) ≡ after_values (drop (i + 1) words) = rw (drop_more words i default lt, not) refl in
    sym here ∙ so_far

pub values_over : (words all : List Token) (i : ℕ) → length words ≤ i → after_values (drop i words) ≡ after_values all → take (length words - length words) (drop (length words) words) ≡ after_values all
unfolding after_values
values_over words all i le so_far =
    let here : after_values (drop i words) ≡ [] = rw (drop_all i words le) refl in
    take_rest words (length words) ∙ drop_all (length words) words (omega arith) ∙ sym here ∙ so_far

row_found_at : (words all : List Token) (i : ℕ) (default : Token) → i < length words → begins_row (take (length words - i) (drop i words)) ≡ true
    → has_next_row (drop i words) ≡ has_next_row all → true ≡ has_next_row all
unfolding has_next_row
row_found_at words all i default lt is so_far =
    let begins : begins_row (drop i words) ≡ true = rw (take_rest words i) at is in
    let begins_here : begins_row (get_or words i default ∷ drop (i + 1) words) ≡ true = rw (drop_more words i default lt) at begins in
    let here : has_next_row (drop i words) ≡ true = rw (drop_more words i default lt, begins_here) refl in
    sym here ∙ so_far

row_passed_at : (words all : List Token) (i : ℕ) (default : Token) → i < length words → begins_row (take (length words - i) (drop i words)) ≡ false
    → has_next_row (drop i words) ≡ has_next_row all → has_next_row (drop (i + 1) words) ≡ has_next_row all
unfolding has_next_row
row_passed_at words all i default lt not so_far =
    let begins : begins_row (drop i words) ≡ false = rw (take_rest words i) at not in
    let begins_here : begins_row (get_or words i default ∷ drop (i + 1) words) ≡ false = rw (drop_more words i default lt) at begins in
    let here : has_next_row (drop i words) ≡ has_next_row (drop (i + 1) words) = rw (drop_more words i default lt, begins_here) refl in
    sym here ∙ so_far

pub row_found : (words all : List Token) (i : ℕ) → i < length words → begins_row (take (length words - i) (drop i words)) ≡ true
    → has_next_row (drop i words) ≡ has_next_row all → true ≡ has_next_row all
row_found [] all i lt is so_far = absurd (omega arith)
row_found (word ∷ rest) all i lt is so_far = row_found_at (word ∷ rest) all i word lt is so_far

pub row_passed : (words all : List Token) (i : ℕ) → i < length words → begins_row (take (length words - i) (drop i words)) ≡ false
    → has_next_row (drop i words) ≡ has_next_row all → has_next_row (drop (i + 1) words) ≡ has_next_row all
row_passed [] all i lt not so_far = absurd (omega arith)
row_passed (word ∷ rest) all i lt not so_far = row_passed_at (word ∷ rest) all i word lt not so_far

pub row_over : (words all : List Token) (i : ℕ) → length words ≤ i → has_next_row (drop i words) ≡ has_next_row all → false ≡ has_next_row all
unfolding has_next_row
row_over words all i le so_far =
    let here : has_next_row (drop i words) ≡ false = rw (drop_all i words le) refl in
    sym here ∙ so_far
