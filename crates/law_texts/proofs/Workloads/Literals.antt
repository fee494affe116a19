-- What the words of numbers and texts stand for.
use Rattle.std.proofs.Common.{◌≡◌, ℕ, ◌<◌, ◌^◌, List, ◌∷◌, Option, Some, Ok, ap}
use Rattle.std.specs.Prelude.{pos}
use Rattle.std.specs.Fmt.{decimal}
use Rattle.std.specs.Option.{option_map}
use Rattle.base_values.specs.declared.value.Value.{Value}
use Rattle.base_values.specs.declared.value.Value.TheVariants.{Num, Text}
use Rattle.sql_words.proofs.Reprinted.{text_value-printed_text}
use Rattle.sql_grammar.specs.declared.token.Token.{Token}
use Rattle.sql_grammar.specs.Pieces.{found_at, with_rest, literal_of, literal_at}
use Rattle.sql_grammar.specs.Tokens.{is_keyword}
use Rattle.proof_schemas.specs.Printed.Words.{number_word}
use Rattle.proof_schemas.proofs.Printed.Numbers.{number_value-decimal}
use Rattle.law_texts.proofs.Workloads.Lexed.{short, text_word}

pub number_literal : (n : ℕ) → n < 2 ^ 64 → literal_of (number_word (decimal n)) ≡ Some (Num (pos n))
unfolding is_keyword
number_literal n wide = ap (option_map Num) (number_value-decimal n (short n wide))

pub text_literal : (value : List ℕ) → literal_of (text_word value) ≡ Some (Text value)
unfolding is_keyword
text_literal value = ap (option_map Text) (text_value-printed_text value)

pub literal_then : (word : Token) (value : Value) (rest : List Token) → literal_of word ≡ Some value → literal_at (word ∷ rest) ≡ Ok (value, rest)
unfolding literal_at
literal_then word value rest is = ap (λ (o : Option Value). found_at (word ∷ rest) (with_rest rest o)) is
