use Rattle.std.proofs.Common.{◌∙◌}
use Rattle.run_judge.proofs.SeenTurns.{losses_kept}
use Rattle.run_judge.proofs.turns_seen.TurnsSeen.is_struck.Goals as goal

pub returns : goal.returns
returns c = λ before is.
    c.is_struck.ensures ∙ losses_kept c.args.plan.now before c.args.line.now c.args.self.now c.next_turn.result c.saturating_add-own.result c.cut_among-cut.result c.struck_among-side.result is c.requires (cc) (cc) (cc) (cc)
