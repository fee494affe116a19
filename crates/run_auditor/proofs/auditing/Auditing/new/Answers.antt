use Rattle.std.proofs.Common.{sym, subst}
use Rattle.run_auditor.specs.Judging.{IsPlanned}
use Rattle.run_auditor.proofs.AuditedTurns.{begins_auditing}
use Rattle.run_auditor.proofs.auditing.Auditing.new.Goals as goal

pub new-judge-requires : goal.new-judge-requires
new-judge-requires c = c.in_ok-tables.ensures.formed c.requires

pub returns-clause-auditing : goal.returns-clause-auditing
returns-clause-auditing c =
    begins_auditing c.args.plan.now _ c.new-seen.ensures c.in_ok-clients.ensures (c.new-judge.ensures.judging c.args.plan.now c.in_ok-tables.ensures.tables) c.new-judge.ensures.sound
    (subst (IsPlanned c.args.plan.now) (sym c.new-judge.ensures.tables) c.in_ok-tables.ensures.planned)
