use Rattle.std.proofs.Common.{◌+◌, ◌*◌}
use Rattle.run_rebuild.proofs.union.+shards.Given as goal

-- each half has fewer shards
abbrev pub decreases-shards : goal.decreases-shards
decreases-shards g l = 2 * l.count

abbrev pub decreases-front : goal.decreases-front
decreases-front g l = 2 * l.low + 1

abbrev pub decreases-back : goal.decreases-back
decreases-back g l = 2 * l.high + 1
