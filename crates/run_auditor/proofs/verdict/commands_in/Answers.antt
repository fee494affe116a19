use Rattle.std.proofs.Common.{ap, ◌∙◌, arith}
use Rattle.std.proofs.lemmas.List.{take_all}
use Rattle.run_audit.specs.Rules.{commands_in}
use Rattle.run_auditor.proofs.VerdictTurns.{commands_next}
use Rattle.run_auditor.proofs.verdict.commands_in.Goals as goal

pub loop-line-preserved : goal.loop-line-preserved
loop-line-preserved c =
    c.commands_after-count.ensures ∙ commands_next c.args.lines.now c.loop-line.line-index c.line-item.result c.loop-line.count (omega arith) (omega arith) c.line-item.is c.loop-line.invariant

pub returns : goal.returns
returns c = c.loop-line.invariant ∙ ap commands_in (take_all c.loop-line.line-index c.args.lines.now (omega arith))
