use Rattle.std.proofs.Common.{◌++◌, sym, subst}
use Rattle.run_audit.specs.Audits.{judged_of, reply_turn}
use Rattle.run_audit.specs.Rules.{became_by, client_after_line}
use Rattle.tool_program.specs.JournalWords.Clients.{with_draw}
use Rattle.tool_program.specs.JournalWords.Histories.{client_ends}
use Rattle.run_judge.specs.declared.trace_client.TraceClient.{TraceClient}
use Rattle.run_judge.specs.TraceClients.{AreJudged, IsFollowed}
use Rattle.run_judge.proofs.FollowedClients.{turned}
use Rattle.run_judge.proofs.trace_client.TraceClient.follow.Goals as goal

pub returns-clause-followed : goal.returns-clause-followed
returns-clause-followed c = λ client turns old asks.
    subst (λ (kept : TraceClient). IsFollowed c.args.script.now kept (client_after_line (became_by client c.args.line.now) (with_draw c.args.line.now.drawn client)) (turns ++ reply_turn c.args.turn (became_by client c.args.line.now))) (sym c.take_ended.ensures.kept)
    (turned c.args.script.now c.left.result.now c.args.self.now client turns c.args.turn c.args.line.now.drawn c.or-drawn.result c.drawn_after-self.result c.args.line.now.asked c.args.line.now.answer c.outcome_of-outcome.result c.push_line.new.self c.push_reply.new.self c.step.new.state old asks
    c.or-drawn.ensures c.outcome_of-outcome.ensures c.left.ensures c.in_ok-push_line.ensures.lines c.push_line.ensures.replies c.push_reply.ensures.lines c.in_ok-push_reply.ensures.replies c.in_ok-push_reply.ensures.turns c.step.ensures c.drawn_after-self.ensures).followed

pub returns-clause-judged : goal.returns-clause-judged
returns-clause-judged c = λ number client turns old asks.
    subst (AreJudged (judged_of (turns ++ reply_turn c.args.turn (became_by client c.args.line.now)) (client_ends number (with_draw c.args.line.now.drawn client) (became_by client c.args.line.now)))) (sym c.take_ended.ensures.ended)
    ((turned c.args.script.now c.left.result.now c.args.self.now client turns c.args.turn c.args.line.now.drawn c.or-drawn.result c.drawn_after-self.result c.args.line.now.asked c.args.line.now.answer c.outcome_of-outcome.result c.push_line.new.self c.push_reply.new.self c.step.new.state old asks
    c.or-drawn.ensures c.outcome_of-outcome.ensures c.left.ensures c.in_ok-push_line.ensures.lines c.push_line.ensures.replies c.push_reply.ensures.lines c.in_ok-push_reply.ensures.replies c.in_ok-push_reply.ensures.turns c.step.ensures c.drawn_after-self.ensures).judged number)
