use Rattle.sql_words.proofs.Reprinted.{words_after-append}
use Rattle.sql_words.proofs.laws.words_follow_one_another.Goals as goal

pub returns : goal.returns
returns c = words_after-append
