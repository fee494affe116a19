use Rattle.std.proofs.Common.{rules, sym, ◌∙◌}
use Rattle.std.proofs.lemmas.List.Sorted.{IsPartitionPoint-from_clause}
use Rattle.base_page_list.specs.Pages.{first_passes}
use Rattle.base_page_list.proofs.Tested.{all_pass, partitioned, point_is}
use Rattle.base_page_list.proofs.PagePlaces.{firsts_fail_on}
use Rattle.base_page_list.proofs.list.pages_before.Goals as goal

pub returns-then-starts : goal.returns-then-starts
returns-then-starts g c =
    let on = first_passes (g.T.Test.on c.args.test.now) in
    all_pass on c.args.pages.now c.in-Some.last.now (firsts_fail_on (g.T.Test.on c.args.test.now) c.args.pages.now c.requires.are c.requires.fails) (sym c.in-Some.ensures.value) (sym c.starts.ensures ∙ c.if-starts.true)

pub returns : goal.returns
returns g c =
    let on = first_passes (g.T.Test.on c.args.test.now) in
    let parted = partitioned on c.args.pages.now (firsts_fail_on (g.T.Test.on c.args.test.now) c.args.pages.now c.requires.are c.requires.fails) in
    point_is on c.args.pages.now _ c.partition_point.ensures.bound (IsPartitionPoint-from_clause on _ _ c.partition_point.ensures.partitioned parted (λ a r q k. search rules))
