use Rattle.std.proofs.Common.{◌≡◌, ◌+◌, length, drop, map}
use Rattle.base_values.specs.GhoSchema.Rows.{key_places}
use Rattle.proof_rebuild.specs.Shards.{first_unfit, row_after, shard_sees}
use Rattle.run_rebuild.specs.Rebuilds.{Holds, IsSound, changes_of, own, rows_then}
use Rattle.run_rebuild.proofs.Following.{Follows}
use Rattle.run_rebuild.proofs.shard_table.follow_events.Given as goal

-- the events that are left are still to be followed, and the first unfit row is among those after them
abbrev pub invariant-loop-n : goal.invariant-loop-n
invariant-loop-n l = record {
  schema : l.table.table.schema ≡ l.fn.table.table.schema;
  follows : IsSound l.inputs → l.fn.table.table.schema ≡ l.inputs.altered.now.schema → Holds (own l.inputs l.number) l.inputs l.inputs.opening.now l.fn.table.table.rows
      → Follows (own l.inputs l.number) l.inputs.places.now (key_places l.inputs.altered.now.schema) l.inputs.altered.now.map l.table.table.rows (changes_of (drop l.n l.inputs.events.now)) (rows_then l.inputs);
  finds : first_unfit l.inputs.altered.now.map (length l.inputs.opening.now + l.n) (shard_sees (own l.inputs l.number) (map row_after (changes_of (drop l.n l.inputs.events.now))))
      ≡ first_unfit l.inputs.altered.now.map (length l.inputs.opening.now) (shard_sees (own l.inputs l.number) (map row_after (changes_of l.inputs.events.now)));
}
