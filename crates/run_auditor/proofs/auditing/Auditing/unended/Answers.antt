use Rattle.std.proofs.Common.{List, ◌+◌, length, ap}
use Rattle.run_audit.specs.declared.line.TraceLine.{TraceLine}
use Rattle.run_auditor.proofs.AuditedTurns.{unended_if}
use Rattle.run_auditor.proofs.auditing.Auditing.unended.Goals as goal

pub returns : goal.returns
returns c = λ so. unended_if c.args.plan.now c.args.trace.now c.is_unended-is_unended.result _ c.turn_if.result (c.is_unended-is_unended.ensures so) (ap (λ (lines : List TraceLine). length lines + 1) c.as_slice.ensures) c.turn_if.ensures
