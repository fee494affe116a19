use Rattle.sql_words.proofs.NumberWords.{front_at-number_value, words_of-number, number_value-unsigned, number_value-plus, number_value-minus}
use Rattle.sql_words.proofs.laws.numbers_are_read.Goals as goal

pub returns : goal.returns
returns c = record { front = front_at-number_value; word = words_of-number; unsigned = number_value-unsigned; after_plus = number_value-plus; after_minus = number_value-minus }
