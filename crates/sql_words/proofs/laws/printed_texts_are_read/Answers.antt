use Rattle.sql_words.proofs.Reprinted.{front_at-printed_text, words_of-printed_text, text_value-printed_text}
use Rattle.sql_words.proofs.laws.printed_texts_are_read.Goals as goal

pub returns : goal.returns
returns c = record { front = front_at-printed_text; word = words_of-printed_text; value = text_value-printed_text }
