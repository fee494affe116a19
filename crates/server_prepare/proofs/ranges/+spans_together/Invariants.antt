use Rattle.std.proofs.Common.{length}
use Rattle.server_prepare.proofs.ranges.+spans_together.Given as goal

abbrev pub decreases-spans_together : goal.decreases-spans_together
decreases-spans_together l = length l.comparisons.now
