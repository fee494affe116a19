use Rattle.std.proofs.Common.{◌≡◌, ◌<◌, ◌+◌, ◌%◌, drop}
use Rattle.base_values.specs.GhoSchema.Rows.{key_of}
use Rattle.run_rebuild.specs.ShardNumbers.{spelled_sum}
use Rattle.run_rebuild.proofs.shard_number.shard.Given as goal

-- the sum so far, and that of the values at the places that are left, come to all
abbrev pub invariant-loop-place : goal.invariant-loop-place
invariant-loop-place l = record {
  sum : (l.total + spelled_sum (key_of (drop l.place-index l.places) l.row)) % l.workers ≡ spelled_sum (key_of l.places l.row) % l.workers;
  below : l.total < l.workers;
}
