use Rattle.std.proofs.Common.{refl, sym, subst}
use Rattle.std.proofs.lemmas.Result.{on_ok_weaker}
use Rattle.run_judge.specs.TurnsSeen.{IsSeen}
use Rattle.run_auditor.proofs.AuditedTurns.{taken}
use Rattle.run_auditor.proofs.auditing.Auditing.take.Goals as goal

pub returns-clause-auditing : goal.returns-clause-auditing
returns-clause-auditing c = λ before is goes.
    on_ok_weaker c.take.result
    (λ seen. taken c.args.plan.now before c.args.line.now c.args.self.now c.judge_turn.new.self (record c.judge_turn.new.self { seen = c.take.new.self }) is goes (c.in_ok-judge_turn.ensures.judged before is goes) c.judge_turn.ensures.seen (λ was. seen) refl refl)
    (c.take.ensures before (subst (IsSeen before) (sym c.judge_turn.ensures.seen) is.seen))
