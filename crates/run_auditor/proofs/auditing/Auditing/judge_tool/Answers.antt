use Rattle.std.proofs.Common.{ℕ, ◌+◌, refl, sym, ap, ◌∙◌}
use Rattle.run_auditor.proofs.AuditedTurns.{tool_alters, tool_rests}
use Rattle.run_auditor.proofs.auditing.Auditing.judge_tool.Goals as goal

pub alter-requires-clause-planned : goal.alter-requires-clause-planned
alter-requires-clause-planned c = c.requires.ready.planned (c.alters_first.ensures.first c.if-not-alters_first.false)

pub returns-then-not-alters_first-clause-judged : goal.returns-then-not-alters_first-clause-judged
returns-then-not-alters_first-clause-judged c = λ before is.
    tool_rests c.args.plan.now before c.args.line.now c.args.self.now _ refl is c.requires.tool (sym (c.alters_first.ensures.alters before is.seen) ∙ c.if-not-alters_first.true)

pub returns-clause-judged : goal.returns-clause-judged
returns-clause-judged c = λ before is.
    tool_alters c.args.plan.now before c.args.line.now c.next_turn-turn.result c.args.self.now _ refl is c.requires.tool (sym (c.alters_first.ensures.alters before is.seen) ∙ c.if-not-alters_first.false) (c.next_turn-turn.ensures ∙ ap (λ (n : ℕ). n + 1) is.seen.turns)
    c.in_ok-alter.ensures.judging c.in_ok-alter.ensures.sound
