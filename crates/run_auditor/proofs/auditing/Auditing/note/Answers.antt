use Rattle.std.proofs.Common.{ℕ, ◌+◌, ap, ◌∙◌}
use Rattle.run_auditor.proofs.AuditedTurns.{noted_after}
use Rattle.run_auditor.proofs.auditing.Auditing.note.Goals as goal

pub returns-clause-noted : goal.returns-clause-noted
returns-clause-noted c = λ before is so_far.
    noted_after c.args.plan.now before c.args.line.now _ c.next_turn.result c.args.self.now.noted _ (c.in_ok-is_noted.ensures before is) (c.next_turn.ensures ∙ ap (λ (n : ℕ). n + 1) is.seen.turns) so_far c.least_noted-self.ensures
