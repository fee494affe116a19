use Rattle.std.proofs.Common.{◌≡◌, ◌<◌, ◌+◌, ◌∙◌, List, ℕ, length, sym, ap, arith}
use Rattle.base_page_list.proofs.PageLists.{joined_last, join_kept, join_made, read_is}
use Rattle.base_page_list.proofs.page_edits.join.Goals as goal

pub returns-then-n-len-clause-items : goal.returns-then-n-len-clause-items
returns-then-n-len-clause-items c = sym (joined_last c.args.n c.args.pages.now.items (omega arith))

pub returns-then-together-le32-clause-items : goal.returns-then-together-le32-clause-items
returns-then-together-le32-clause-items c =
    let lt : c.args.n + 1 < length c.args.pages.now.items = omega arith in
    let next_is = read_is (c.args.n + 1) c.args.pages.now.items c.remove-next.result lt c.remove-next.ensures.value in
    let seen_is = read_is (c.args.n + 1) c.args.pages.now.items c.index-2.result.now lt c.index-2.ensures in
    let same : length c.remove-next.result ≡ length c.index-2.result.now = ap (λ (xs : List ℕ). length xs) (next_is ∙ sym seen_is) in
    rw c.append.ensures
    (join_made c.args.n c.args.pages.now.items c.remove-next.new.self.items c.index.result.now c.index_mut-page.result.now c.remove-next.result c.remove-next.ensures.items lt c.index.ensures c.index_mut-page.ensures.value c.remove-next.ensures.value
    (omega (arith, same)))

pub returns-else-together-le32-clause-items : goal.returns-else-together-le32-clause-items
returns-else-together-le32-clause-items c = join_kept c.args.n c.args.pages.now.items c.index.result.now c.index-2.result.now (omega arith) c.index.ensures c.index-2.ensures (omega arith)
