use Rattle.std.proofs.Common.{length}
use Rattle.test_texts.proofs.text_calls.values.is_rising.Given as goal

abbrev pub decreases-loop-rest : goal.decreases-loop-rest
decreases-loop-rest l = length l.rest
