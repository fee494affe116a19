use Rattle.std.proofs.Common.{length}
use Rattle.sql_words.specs.Readings.{views}
use Rattle.sql_words.proofs.Following.{Along}
use Rattle.sql_words.proofs.reader.words_in.Given as goal

abbrev pub invariant-loop-rest : goal.invariant-loop-rest
invariant-loop-rest l = Along l.text (views l.found.items) l.rest

abbrev pub decreases-loop-rest : goal.decreases-loop-rest
decreases-loop-rest l = length l.rest
