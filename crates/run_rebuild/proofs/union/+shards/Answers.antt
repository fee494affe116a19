use Rattle.std.proofs.Common.{arith}
use Rattle.run_rebuild.proofs.Halves.{one_shard, united}
use Rattle.run_rebuild.proofs.union.+shards.Goals as goal

pub returns-then-count-eq1 : goal.returns-then-count-eq1
returns-then-count-eq1 g t c = one_shard c.args.inputs.now c.args.from c.args.count c.shard_table.result c.if-count-eq1.true c.shard_table.ensures

pub returns : goal.returns
returns g t c =
    united c.args.inputs.now c.args.from _ _ c.args.count _ _ _ c.union.result (omega arith) (omega arith) c.join-one.ensures.first c.join-one.ensures.second c.union.ensures
