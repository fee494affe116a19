use Rattle.sql_words.proofs.Reprinted.{front_at-printed_bytes, words_of-printed_bytes, bytes_value-printed_bytes}
use Rattle.sql_words.proofs.laws.printed_bytes_are_read.Goals as goal

pub returns : goal.returns
returns c = record { front = front_at-printed_bytes; word = words_of-printed_bytes; value = bytes_value-printed_bytes }
