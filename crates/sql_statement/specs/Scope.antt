-- Lines of SQL that this program knows and doesn't take (this project's rule).
use Rattle.std.specs.Prelude.{codes, Bool, false, not, ◌&&◌, ◌||◌, if◌then◌else◌, List, [], ◌∷◌}
use Rattle.std.specs.List.{list_any}
use Rattle.sql_grammar.specs.declared.token.Token.{Token}
use Rattle.sql_grammar.specs.Tokens.{is_keyword, same_sign}

-- the words that a statement may begin with
unfoldable pub begins_statement : Token → Bool
begins_statement word = is_keyword word (codes "INSERT") || is_keyword word (codes "REPLACE") || is_keyword word (codes "DELETE") || is_keyword word (codes "UPDATE") || is_keyword word (codes "SELECT")

-- those where a transaction begins or ends
unfoldable pub bounds_transaction : Token → Bool
bounds_transaction word = is_keyword word (codes "BEGIN") || is_keyword word (codes "START") || is_keyword word (codes "COMMIT") || is_keyword word (codes "ROLLBACK")

-- a word without quotes of what is left out, wherever it is
unfoldable pub is_left_out : Token → Bool
is_left_out word = is_keyword word (codes "JOIN") || is_keyword word (codes "ORDER") || is_keyword word (codes "LIMIT") || is_keyword word (codes "ON") || is_keyword word (codes "DEFAULT")

-- `)`, `,` and `(` are at the front
abbrev pub begins_row : List Token → Bool
begins_row [] = false
begins_row (closing ∷ []) = false
begins_row (closing ∷ (comma ∷ [])) = false
begins_row (closing ∷ (comma ∷ (opening ∷ rest))) = same_sign closing (codes ")") && same_sign comma (codes ",") && same_sign opening (codes "(")

-- they are somewhere
unfoldable pub has_next_row : List Token → Bool
has_next_row [] = false
has_next_row (word ∷ rest) = begins_row (word ∷ rest) || has_next_row rest

-- what follows the first VALUES; nothing where there is none
unfoldable pub after_values : List Token → List Token
after_values [] = []
after_values (word ∷ rest) = if is_keyword word (codes "VALUES") then rest else after_values rest

-- INSERT or REPLACE of more than one row
abbrev pub inserts_rows : Token → List Token → Bool
inserts_rows word rest = (is_keyword word (codes "INSERT") || is_keyword word (codes "REPLACE")) && has_next_row (after_values rest)

-- The line begins with another word than those above, has a word of what is left out, or inserts a second row.
unfoldable pub is_out_of_scope : List Token → Bool
is_out_of_scope [] = false
is_out_of_scope (word ∷ rest) = not (begins_statement word || bounds_transaction word) || list_any is_left_out (word ∷ rest) || inserts_rows word rest
