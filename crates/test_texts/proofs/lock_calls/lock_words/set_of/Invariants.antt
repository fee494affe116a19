use Rattle.std.proofs.Common.{length}
use Rattle.test_texts.proofs.lock_calls.lock_words.set_of.Given as goal

abbrev pub decreases-loop-rest : goal.decreases-loop-rest
decreases-loop-rest l = length l.rest
