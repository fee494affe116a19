use Rattle.std.proofs.Common.{◌∙◌, ◌∷◌, Option, List, find, sym, ap, subst, rules}
use Rattle.std.specs.Option.{option_copied}
use Rattle.std.specs.List.{AllByRecursion}
use Rattle.base_page_list.specs.Pages.{flat}
use Rattle.table_store.proofs.Orders.{Row}
use Rattle.table_store.specs.PagedTables.RowPages.RowOrders.{rows_of}
use Rattle.table_store.specs.PagedTables.RowPages.Indexes.{IsOwnListed}
use Rattle.table_store.specs.PagedTables.RowPages.Clashes.{by_key, earlier, earliest, clashes_at}
use Rattle.table_store.specs.declared.paged_tables.row_pages.indexes.KeyIndex.{KeyIndex}
use Rattle.table_store.proofs.paged_tables.row_pages.clashes.+first_clash.Goals as goal

pub clash_in-here-requires : goal.clash_in-here-requires
clash_in-here-requires t c =
    let all : AllByRecursion (IsOwnListed c.args.clustered.now c.args.rows.now) (c.in-Some.index.now ∷ c.in-Some.others.now) = subst (λ (is : List KeyIndex). AllByRecursion (IsOwnListed c.args.clustered.now c.args.rows.now) is) c.in-Some.ensures.cases.0 c.requires in
    rw c.as_slice-places.ensures all.0

pub first_clash-following-requires : goal.first_clash-following-requires
first_clash-following-requires t c =
    let all : AllByRecursion (IsOwnListed c.args.clustered.now c.args.rows.now) (c.in-Some.index.now ∷ c.in-Some.others.now) = subst (λ (is : List KeyIndex). AllByRecursion (IsOwnListed c.args.clustered.now c.args.rows.now) is) c.in-Some.ensures.cases.0 c.requires in
    (search rules, all.1)

pub returns : goal.returns
returns t c =
    let clustered = c.args.clustered.now in
    let besides = option_copied c.args.besides in
    let here = rw c.as_slice-places.ensures at c.clash_in-here.ensures in
    c.earlier.ensures
    ∙ ap (λ (o : Option Row). earlier (by_key clustered) o (option_copied c.first_clash-following.result)) here
    ∙ ap (λ (o : Option Row). earlier (by_key clustered) (find (clashes_at clustered c.in-Some.index.now.places c.args.new.now besides) (rows_of c.args.rows.now (flat c.in-Some.index.now.entries.pages))) o) c.first_clash-following.ensures
    ∙ sym (ap (λ (is : List KeyIndex). earliest clustered c.args.new.now besides c.args.rows.now is) c.in-Some.ensures.cases.0)
