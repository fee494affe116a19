use Rattle.proof_order.proofs.Orders.{orders_kept}
use Rattle.law_journals.proofs.order.kept_journals_keep_order.Goals as goal

pub returns : goal.returns
returns c = orders_kept c.inspectors_wait_to_set.ensures
