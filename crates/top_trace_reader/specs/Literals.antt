-- *Printed row*: which lines are rows, as a report prints them. This project's rule.
use Rattle.std.specs.Prelude.{◌==◌, ℕ, ◌^◌, pos, Bool, not, ◌&&◌, nat_lt, if◌then◌else◌, List, [], ◌∷◌, length, option_to_list, Option, Some, None}
use Rattle.std.specs.List.{flat_map}
use Rattle.std.specs.Str.{bytes_eq}
use Rattle.base_values.specs.declared.value.Value.{Value}
use Rattle.base_values.specs.declared.value.Value.TheVariants.{Num}
use Rattle.base_values.specs.Literals.{printed_row}
use Rattle.sql_grammar.specs.declared.token.Token.{Token}
use Rattle.sql_grammar.specs.Pieces.{literal_of}
use Rattle.sql_grammar.specs.Tokens.{text_words}

-- the values of the literals among words; other words are passed over
unfoldable pub literals_in : List Token → List Value
literals_in words = flat_map (λ word. option_to_list (literal_of word)) words

-- the number from 0 on and below 2^64 that a value is
abbrev pub number_in : Value → Option ℕ
number_in (Num (pos number)) = if nat_lt number (2 ^ 64) then Some number else None
number_in value = None

-- the numbers among values
unfoldable pub numbers_in : List Value → List ℕ
numbers_in values = flat_map (λ value. option_to_list (number_in value)) values

-- the first item, and those after it
abbrev pub first_in : {A : Type 0} → List A → Option (A × List A)
first_in [] = None
first_in (item ∷ items) = Some (item, items)

-- there is no value
abbrev pub has_none : List Value → Bool
has_none values = length values == 0

abbrev pub row_printed_so : List ℕ → List Value → Option (List Value)
row_printed_so line row = if bytes_eq (printed_row row) line && not (has_none row) then Some row else None

-- *Printed row*: `(1, 'a', NULL)`. The literals of the line, where they are printed as it.
unfoldable pub row_in : List ℕ → Option (List Value)
row_in line = row_printed_so line (literals_in (text_words line).words)
