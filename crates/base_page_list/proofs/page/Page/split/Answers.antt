use Rattle.std.proofs.Common.{◌∙◌, List, ℕ, drop, ap}
use Rattle.std.proofs.lemmas.List.{take_rest}
use Rattle.base_page_list.proofs.page.Page.split.Goals as goal

pub returns-clause-taken : goal.returns-clause-taken
returns-clause-taken c =
    let ok = rw c.new-taken.ensures at c.in-Ok.ensures.ok in
    rw (← c.self.view_is) (ok ∙ take_rest c.as_slice.result.now 33 ∙ ap (λ (xs : List ℕ). drop 33 xs) c.as_slice.ensures.value)
