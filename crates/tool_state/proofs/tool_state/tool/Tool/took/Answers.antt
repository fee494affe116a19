use Rattle.std.proofs.Common.{rules, ℕ, ◌+◌, sym, subst, ◌∙◌}
use Rattle.tool_state.specs.ToolState.Sound.{IsSoundAt}
use Rattle.tool_state.proofs.TryTurns.{tries_counted, tries_drained}
use Rattle.tool_state.proofs.tool_state.tool.Tool.took.Goals as goal

pub returns-then-matches-clause-sound : goal.returns-then-matches-clause-sound
returns-then-matches-clause-sound c =
    subst (λ (turns : ℕ). IsSoundAt c.args.plan.now (turns + 1) c.drain.new.self) (sym (c.drain.ensures.turns ∙ c.actor_took-in-All-Call.ensures.turns))
    (c.drain.ensures.sound (c.args.self.now.turns + 1 + 1) c.actor_took-in-All-Call.ensures.sound)

pub returns-then-matches-clause-tries : goal.returns-then-matches-clause-tries
returns-then-matches-clause-tries c =
    tries_counted c.args.self.now (c.args.self.now.turns + 1) c.drain.new.self
    (tries_drained (record c.args.self.now { turns = c.args.self.now.turns + 1 }) c.actor_took-in-All-Call.new.self c.drain.new.self c.actor_took-in-All-Call.ensures.tries (c.actor_took-in-All-Call.ensures.attempts (search rules)) c.drain.ensures.tries)
