use Rattle.std.proofs.Common.{refl, ◌∙◌}
use Rattle.run_auditor.proofs.JudgedItems.{none_judged}
use Rattle.run_auditor.proofs.judge.Judge.new.Goals as goal

pub returns-clause-judging : goal.returns-clause-judging
returns-clause-judging c = λ plan is. none_judged plan _ refl (c.new.ensures.committed ∙ is) refl
