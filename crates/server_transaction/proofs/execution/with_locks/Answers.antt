use Rattle.std.proofs.Common.{◌≡◌, Some, refl, sym, ap, ◌∙◌, subst}
use Rattle.server_model.specs.Needs.{needs}
use Rattle.server_execute.specs.FoundWork.{made_by, met_by}
use Rattle.server_execute.specs.declared.found_work.FoundWork.{FoundWork}
use Rattle.server_transaction.proofs.execution.with_locks.Goals as goal

pub needs-requires-clause-met : goal.needs-requires-clause-met
needs-requires-clause-met c = subst (λ (f : FoundWork). f.met ≡ met_by c.args.seen.now.schema c.args.seen.now.rows f.work) (sym c.in_ok-found.ensures) refl

pub needs-requires-clause-made : goal.needs-requires-clause-made
needs-requires-clause-made c = subst (λ (f : FoundWork). f.made ≡ made_by f.work f.met) (sym c.in_ok-found.ensures) refl

pub returns-clause-work : goal.returns-clause-work
returns-clause-work c = ap Some c.in_ok-found.ensures

pub returns-clause-locks : goal.returns-clause-locks
returns-clause-locks c = c.in_ok-locks.ensures ∙ ap (λ (f : FoundWork). needs c.args.seen.now.schema c.args.seen.now.rows f.work) c.in_ok-found.ensures
