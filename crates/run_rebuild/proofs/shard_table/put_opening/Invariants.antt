use Rattle.std.proofs.Common.{◌≡◌, drop, map, Some}
use Rattle.base_values.specs.declared.event.Change.TheVariants.{Write}
use Rattle.base_values.specs.GhoSchema.Rows.{key_places}
use Rattle.proof_rebuild.specs.Shards.{first_unfit, shard_sees}
use Rattle.run_rebuild.specs.Rebuilds.{IsSound, empty_table, own}
use Rattle.run_rebuild.proofs.Following.{Follows}
use Rattle.run_rebuild.proofs.shard_table.put_opening.Given as goal

-- the rows that are left are still to be written, and the first unfit row is among them
abbrev pub invariant-loop-place : goal.invariant-loop-place
invariant-loop-place l = record {
  schema : l.table.table.schema ≡ l.fn.table.table.schema;
  follows : IsSound l.inputs → l.fn.table.table ≡ empty_table l.inputs → Follows (own l.inputs l.number) l.inputs.places.now (key_places l.inputs.altered.now.schema) l.inputs.altered.now.map l.table.table.rows (map Write (drop l.place l.inputs.opening.now)) l.inputs.opening.now;
  finds : first_unfit l.inputs.altered.now.map l.place (shard_sees (own l.inputs l.number) (map (λ row. Some row) (drop l.place l.inputs.opening.now))) ≡ first_unfit l.inputs.altered.now.map 0 (shard_sees (own l.inputs l.number) (map (λ row. Some row) l.inputs.opening.now));
}
