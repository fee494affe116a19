use Rattle.std.proofs.Common.{◌∙◌, Some, ℕ, sym, ap, arith}
use Rattle.table_store.proofs.PagedTables.RowPages.ByKeys.{key_alone, key_before, key_after, key_own}
use Rattle.table_store.proofs.paged_tables.row_pages.by_key.index_number.Goals as goal

pub returns-in_default : goal.returns-in_default
returns-in_default c = key_alone c.args.schema.now c.args.n (sym c.in_default.ensures.place) c.requires

pub returns-then-n-clustered : goal.returns-then-n-clustered
returns-then-n-clustered c = key_before c.args.schema.now c.in-Some.clustered c.args.n (sym c.in-Some.ensures.place) c.requires c.if-n-clustered.true

pub returns-then-n-clustered-2 : goal.returns-then-n-clustered-2
returns-then-n-clustered-2 c = key_own c.args.schema.now c.args.n (sym c.in-Some.ensures.place ∙ ap (λ (k : ℕ). Some k) (sym c.if-n-clustered-2.true))

pub returns : goal.returns
returns c =
    let over = c.if-n-clustered.false in
    let other = c.if-n-clustered-2.false in
    key_after c.args.schema.now c.in-Some.clustered c.args.n (sym c.in-Some.ensures.place) c.requires (omega (arith, over, other))
