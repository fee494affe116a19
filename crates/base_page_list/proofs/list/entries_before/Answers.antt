use Rattle.std.proofs.Common.{rules, sym, ◌∙◌}
use Rattle.std.proofs.lemmas.List.Sorted.{IsPartitionPoint-from_clause}
use Rattle.base_page_list.proofs.Tested.{all_pass, partitioned, point_is}
use Rattle.base_page_list.proofs.list.entries_before.Goals as goal

pub returns-clause-count : goal.returns-clause-count
returns-clause-count g c =
    let on = g.T.Test.on c.args.test.now in
    let parted = partitioned on c.args.entries.now c.requires in
    point_is on c.args.entries.now _ c.partition_point.ensures.bound (IsPartitionPoint-from_clause on _ _ c.partition_point.ensures.partitioned parted (λ a r q k. search rules))

pub returns-then-passes-clause-count : goal.returns-then-passes-clause-count
returns-then-passes-clause-count g c = all_pass (g.T.Test.on c.args.test.now) c.args.entries.now c.in-Some.last.now c.requires (sym c.in-Some.ensures.value) (sym c.passes.ensures ∙ c.if-passes.true)
