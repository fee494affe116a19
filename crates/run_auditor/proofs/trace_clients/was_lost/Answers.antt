use Rattle.std.proofs.Common.{sym, ap, ◌∙◌}
use Rattle.run_audit.specs.Rules.{was_lost}
use Rattle.run_auditor.specs.AllClients.{is_of_plan}
use Rattle.run_auditor.proofs.PlacedClients.{lost_of}
use Rattle.run_auditor.proofs.trace_clients.was_lost.Goals as goal

pub returns-in-Client : goal.returns-in-Client
returns-in-Client c = λ before followed.
    lost_of c.args.plan.now before c.in-Client.number c.args.clients.now.items c.index.result.now (ap (is_of_plan c.args.plan.now) (sym c.in-Client.is) ∙ c.requires.known) c.requires.count followed c.index.ensures ∙ ap (was_lost c.args.plan.now before) (sym c.in-Client.is)
