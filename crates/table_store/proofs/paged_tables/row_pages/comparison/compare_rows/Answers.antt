use Rattle.std.proofs.Common.{◌≡◌, refl}
use Rattle.std.proofs.lemmas.Iterator.Consumers.{YieldsList-from_first}
use Rattle.std.proofs.lemmas.Iterator.Search.{cmp_from_yields_List}
use Rattle.base_values.specs.KeyOrder.{compare_values}
use Rattle.table_store.proofs.paged_tables.row_pages.comparison.compare_rows.Goals as goal

pub returns : goal.returns
returns c =
    cmp_from_yields_List (λ x y. y ≡ x) _ compare_values _ c.cmp.ensures.ran (YieldsList-from_first (λ x. x.now) (λ left. left) _ cc)
    (λ it e. YieldsList-from_first (λ x. x.now) (λ left. left) _ cc) (λ x y. refl)
