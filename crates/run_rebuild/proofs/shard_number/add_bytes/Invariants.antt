use Rattle.std.proofs.Common.{◌≡◌, ◌<◌, ◌+◌, ◌%◌, drop}
use Rattle.std.specs.Prelude.{sum}
use Rattle.run_rebuild.proofs.shard_number.add_bytes.Given as goal

-- the sum so far, and the bytes that are left, come to all
abbrev pub invariant-loop-byte : goal.invariant-loop-byte
invariant-loop-byte l = record {
  sum : (l.added + sum (drop l.byte-index l.bytes)) % l.workers ≡ (l.total + sum l.bytes) % l.workers;
  below : l.added < l.workers;
}
