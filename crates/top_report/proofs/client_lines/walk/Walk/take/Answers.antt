use Rattle.std.proofs.Common.{◌+◌, ◌∙◌, cond, sym, ap}
use Rattle.top_report.specs.ClientLines.Walks.{Walk, is_marked, number_in, walk_after}
use Rattle.top_report.proofs.ClientLines.Stepping.{is_after, kept_if, none_if, still_kept}
use Rattle.top_report.proofs.client_lines.walk.Walk.take.Goals as goal
use Rattle.top_report.proofs.client_lines.walk.Walk.take.Goals.{then-state, else-state}

pub invariant_of-self : goal.invariant_of-self
invariant_of-self c =
    still_kept c.self.inside.script.now c.self.inside.state c.becomes.new.self c.self.inside.begun c.self.inside.lines c.args.outcome c.self.invariant c.becomes.ensures c.numbers_after-begun.result.0 c.if-state.self
    (c.numbers_after-begun.ensures.transaction ∙ ap (λ (walk : Walk). cond (is_marked c.args.outcome walk.left) (number_in walk) walk.begun) (sym c.self.view_is))
    (elim c.if-state.branch [
      | then-state w ↦ kept_if c.becomes.new.self.is_inside c.if-state.self _ w.if-state.true (w.self-is ∙ c.numbers_after-begun.ensures.line ∙ ap (λ (walk : Walk). cond (is_marked c.args.outcome walk.left) (walk.lines + 1) walk.lines) (sym c.self.view_is))
      | else-state w ↦ none_if c.becomes.new.self.is_inside c.if-state.self _ w.if-state.false w.self-is
    ])

pub returns : goal.returns
returns c =
    is_after c.self.inside.script.now c.self.inside.state c.becomes.new.self c.self.inside.begun c.self.inside.lines c.args.outcome c.self.invariant c.becomes.ensures c.numbers_after-begun.result.0 c.if-state.self
    (c.numbers_after-begun.ensures.transaction ∙ ap (λ (walk : Walk). cond (is_marked c.args.outcome walk.left) (number_in walk) walk.begun) (sym c.self.view_is))
    (elim c.if-state.branch [
      | then-state w ↦ kept_if c.becomes.new.self.is_inside c.if-state.self _ w.if-state.true (w.self-is ∙ c.numbers_after-begun.ensures.line ∙ ap (λ (walk : Walk). cond (is_marked c.args.outcome walk.left) (walk.lines + 1) walk.lines) (sym c.self.view_is))
      | else-state w ↦ none_if c.becomes.new.self.is_inside c.if-state.self _ w.if-state.false w.self-is
    ])
    ∙ ap (walk_after c.args.outcome) c.self.view_is
