use Rattle.std.proofs.Common.{◌≡◌, ◌+◌, ap, arith}
use Rattle.std.proofs.lemmas.Result.{on_ok_weaker}
use Rattle.slab.specs.Slab.{slab_len}
use Rattle.base_page_list.specs.Pages.{flat}
use Rattle.table_store.proofs.PagedTables.RowPages.Reserving.{prepared, widened, roomy, no_less, enough, keys_kept}
use Rattle.table_store.proofs.paged_tables.row_pages.table.Table.reserve.Goals as goal

pub invariant_of-self-in_err-reserve_all : goal.invariant_of-self-in_err-reserve_all
invariant_of-self-in_err-reserve_all c =
    let ready = prepared c.self.inside.schema c.self.inside.rows (flat c.self.inside.order.pages) c.self.inside.indexes.items c.make_indexes.new.indexes.items c.self.inside.order.spare c.self.invariant c.make_indexes.ensures.kept c.in_ok-make_indexes.ensures.keys c.in_ok-make_indexes.ensures.empty in
    widened c.self.inside.schema c.self.inside.rows (flat c.self.inside.order.pages) c.make_indexes.new.indexes.items c.reserve_all.new.indexes.items ready.stored c.reserve_all.ensures.same

pub returns-in_err-reserve_all-clause-spare : goal.returns-in_err-reserve_all-clause-spare
returns-in_err-reserve_all-clause-spare c =
    let ready = prepared c.self.inside.schema c.self.inside.rows (flat c.self.inside.order.pages) c.self.inside.indexes.items c.make_indexes.new.indexes.items c.self.inside.order.spare c.self.invariant c.make_indexes.ensures.kept c.in_ok-make_indexes.ensures.keys c.in_ok-make_indexes.ensures.empty in
    rw (← c.self.view_is)
    (no_less c.self.inside.schema c.self.inside.rows c.self.inside.rows (flat c.self.inside.order.pages) c.self.inside.indexes.items c.make_indexes.new.indexes.items c.reserve_all.new.indexes.items c.self.inside.order.spare c.self.inside.order.spare ready
    c.reserve_all.ensures.same (omega arith) (omega arith) (omega arith))

pub invariant_of-self-in_err-reserve : goal.invariant_of-self-in_err-reserve
invariant_of-self-in_err-reserve c =
    let ready = prepared c.self.inside.schema c.self.inside.rows (flat c.self.inside.order.pages) c.self.inside.indexes.items c.make_indexes.new.indexes.items c.self.inside.order.spare c.self.invariant c.make_indexes.ensures.kept c.in_ok-make_indexes.ensures.keys c.in_ok-make_indexes.ensures.empty in
    rw c.reserve.ensures.pages
    (widened c.self.inside.schema c.self.inside.rows (flat c.self.inside.order.pages) c.make_indexes.new.indexes.items c.reserve_all.new.indexes.items ready.stored c.reserve_all.ensures.same)

pub returns-in_err-reserve-clause-spare : goal.returns-in_err-reserve-clause-spare
returns-in_err-reserve-clause-spare c =
    let ready = prepared c.self.inside.schema c.self.inside.rows (flat c.self.inside.order.pages) c.self.inside.indexes.items c.make_indexes.new.indexes.items c.self.inside.order.spare c.self.invariant c.make_indexes.ensures.kept c.in_ok-make_indexes.ensures.keys c.in_ok-make_indexes.ensures.empty in
    rw (← c.self.view_is)
    (no_less c.self.inside.schema c.self.inside.rows c.self.inside.rows (flat c.self.inside.order.pages) c.self.inside.indexes.items c.make_indexes.new.indexes.items c.reserve_all.new.indexes.items c.self.inside.order.spare c.reserve.new.self.spare ready
    c.reserve_all.ensures.same (omega arith) (omega arith) c.reserve.ensures.spare)

pub invariant_of-self-2 : goal.invariant_of-self-2
invariant_of-self-2 c =
    let ready = prepared c.self.inside.schema c.self.inside.rows (flat c.self.inside.order.pages) c.self.inside.indexes.items c.make_indexes.new.indexes.items c.self.inside.order.spare c.self.invariant c.make_indexes.ensures.kept c.in_ok-make_indexes.ensures.keys c.in_ok-make_indexes.ensures.empty in
    rw c.reserve.ensures.pages
    (roomy c.self.inside.schema c.self.inside.rows c.reserve-2.new.self (flat c.self.inside.order.pages) c.reserve_all.new.indexes.items
    (widened c.self.inside.schema c.self.inside.rows (flat c.self.inside.order.pages) c.make_indexes.new.indexes.items c.reserve_all.new.indexes.items ready.stored c.reserve_all.ensures.same)
    (keys_kept c.self.inside.schema c.make_indexes.new.indexes.items c.reserve_all.new.indexes.items ready.keys c.reserve_all.ensures.same) c.reserve-2.ensures.rest_kept c.reserve-2.ensures.capacity)

pub returns-clause-ok : goal.returns-clause-ok
returns-clause-ok c =
    let ready = prepared c.self.inside.schema c.self.inside.rows (flat c.self.inside.order.pages) c.self.inside.indexes.items c.make_indexes.new.indexes.items c.self.inside.order.spare c.self.invariant c.make_indexes.ensures.kept c.in_ok-make_indexes.ensures.keys c.in_ok-make_indexes.ensures.empty in
    let total_is : c.in-Some.total ≡ slab_len c.self.inside.rows + c.args.n = omega (arith, c.in-Some.ensures, c.len.ensures) in
    let same : slab_len c.reserve-2.new.self ≡ slab_len c.self.inside.rows = ap slab_len c.reserve-2.ensures.rest_kept in
    let wide = rw c.reserve.ensures.pages at c.in_ok-reserve.ensures.ok in
    on_ok_weaker c.reserve-2.result
    (enough c.self.inside.schema c.self.inside.rows c.reserve-2.new.self (flat c.self.inside.order.pages) c.self.inside.indexes.items c.make_indexes.new.indexes.items c.reserve_all.new.indexes.items c.self.inside.order.spare c.reserve.new.self.spare
    c.args.n c.in-Some.total ready c.in_ok-reserve_all.ensures.ok total_is same wide)
    c.reserve-2.ensures.room

pub returns-clause-spare : goal.returns-clause-spare
returns-clause-spare c =
    let ready = prepared c.self.inside.schema c.self.inside.rows (flat c.self.inside.order.pages) c.self.inside.indexes.items c.make_indexes.new.indexes.items c.self.inside.order.spare c.self.invariant c.make_indexes.ensures.kept c.in_ok-make_indexes.ensures.keys c.in_ok-make_indexes.ensures.empty in
    let same : slab_len c.reserve-2.new.self ≡ slab_len c.self.inside.rows = ap slab_len c.reserve-2.ensures.rest_kept in
    rw (← c.self.view_is)
    (no_less c.self.inside.schema c.self.inside.rows c.reserve-2.new.self (flat c.self.inside.order.pages) c.self.inside.indexes.items c.make_indexes.new.indexes.items c.reserve_all.new.indexes.items c.self.inside.order.spare c.reserve.new.self.spare ready
    c.reserve_all.ensures.same c.reserve-2.ensures.capacity same c.reserve.ensures.spare)
