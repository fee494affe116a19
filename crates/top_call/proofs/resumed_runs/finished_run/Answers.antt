use Rattle.std.proofs.Common.{◌≡◌, ◌≤◌, true, List, length, drop, vec_capacity, IfSome, sym, ap, subst, ◌∙◌}
use Rattle.server_model.specs.declared.entry.Entry.{Entry}
use Rattle.plan_data.specs.PlanData.{PlanData}
use Rattle.tool_finish.specs.Finishes.{finish_verdict, stage_behind}
use Rattle.tool_finish.specs.Finishes as finishes
use Rattle.tool_program.specs.JournalWords.Journals.{state_at}
use Rattle.top_call.proofs.ResumedRuns.{finish_told, finishes_run, none_taken, of_left, over_told, server_left}
use Rattle.top_call.proofs.resumed_runs.finished_run.Goals as goal

pub take_turns-is_over-requires-clause-capacity : goal.take_turns-is_over-requires-clause-capacity
take_turns-is_over-requires-clause-capacity g c =
    subst (λ (all : List Entry). length all ≤ vec_capacity c.args.room.now) (sym (none_taken c.args.finish.run c.args.finish.turns c.requires.fresh)) c.requires.capacity

pub take_turns-is_over-requires-clause-server : goal.take_turns-is_over-requires-clause-server
take_turns-is_over-requires-clause-server g c = c.requires.server ∙ ap (state_at c.args.finish.plan) (sym (none_taken c.args.finish.run c.args.finish.turns c.requires.fresh))

pub returns-clause-finish : goal.returns-clause-finish
returns-clause-finish g c =
    finishes_run c.args.finish.plan c.args.finish.run c.stop-server.result.1 c.take_turns-is_over.new.finish c.take_turns-is_over.ensures.plan c.take_turns-is_over.ensures.run c.stop-server.ensures.turns c.stop-server.ensures.finish c.stop-server.ensures.faithful c.stop-server.ensures.sessions

pub returns-clause-end : goal.returns-clause-end
returns-clause-end g c =
    let left = c.take_turns-is_over.new.finish in
    finish_told c.end_with.result (λ end. end.verdict) (λ end. g.V.Serve.state end.server) (λ end. end.sessions) c.finish_verdict-verdict.result
    (finish_verdict c.args.finish.plan c.args.finish.run (drop (length c.args.finish.run) c.stop-server.result.1)) (g.V.Serve.state c.stop-server.result.0) left.server (state_at c.args.finish.plan c.stop-server.result.1) c.sessions-sessions.result c.take_turns-is_over.result
    (of_left c.args.finish.plan c.args.finish.run c.stop-server.result.1 left c.take_turns-is_over.ensures.plan c.take_turns-is_over.ensures.run c.stop-server.ensures.turns (λ (p : PlanData) (run turns : List Entry). IfSome c.finish_verdict-verdict.result (λ verdict. verdict ≡ finish_verdict p run turns)) c.finish_verdict-verdict.ensures.verdict)
    c.finish_verdict-verdict.ensures.over c.stop-server.ensures.server
    (λ over. server_left c.args.finish.plan c.args.finish.run c.stop-server.result.1 left c.take_turns-is_over.ensures.plan c.take_turns-is_over.ensures.run c.stop-server.ensures.turns (c.take_turns-is_over.ensures.server over))
    c.sessions-sessions.ensures c.end_with.ensures.end

pub returns-clause-over : goal.returns-clause-over
returns-clause-over g c =
    let left = c.take_turns-is_over.new.finish in
    over_told c.end_with.result (λ end. end.verdict) (λ end. g.V.Serve.state end.server) (λ end. end.sessions) c.finish_verdict-verdict.result (g.V.Serve.state c.stop-server.result.0) c.sessions-sessions.result c.take_turns-is_over.result
    (finishes.is_over (stage_behind c.args.finish.plan c.args.finish.run (drop (length c.args.finish.run) c.stop-server.result.1)) ≡ true) c.finish_verdict-verdict.ensures.over
    (λ over. of_left c.args.finish.plan c.args.finish.run c.stop-server.result.1 left c.take_turns-is_over.ensures.plan c.take_turns-is_over.ensures.run c.stop-server.ensures.turns (λ (p : PlanData) (run turns : List Entry). finishes.is_over (stage_behind p run turns) ≡ true) (c.take_turns-is_over.ensures.over over))
    c.end_with.ensures.end

pub returns-clause-capacity : goal.returns-clause-capacity
returns-clause-capacity g c = subst (λ (all : List Entry). length all ≤ vec_capacity c.take_turns-is_over.new.room) (sym c.stop-server.ensures.turns) c.take_turns-is_over.ensures.capacity
