use denote.Exit.{no}
use denote.Param.{param}
use denote.Param.Send.{AllSend, IsSend, arg_send, param_send, recorded_send, sendable, struct_send}
use denote.RattleType.{RattleType}
use denote.Ref.{NamedLft}
use denote.Struct.Declared as Structs
use mir.Syntax.{named}
use Rattle.std.proofs.Crossing.{crosses}
use Rattle.run_turns.specs.contracts.feed_run.FeedRun as FeedRun
use Rattle.run_turns.specs.contracts.run.Run as Run
use Rattle.run_workers.specs.contracts.worker_run.worked.Worked as Worked
use Rattle.base_values.proofs.name.Name.TheSendSync as name
use Rattle.base_values.proofs.sequence.Sequence.TheSendSync as sequence
use Rattle.server_model.proofs.request.Request.TheSendSync as request
use Rattle.std.proofs.Common.{◌≤◌, ap, ◌∙◌, subst}
use Rattle.std.specs.Prelude.{vec_capacity}
use Rattle.plan_data.specs.PlanData.{PlanData}
use Rattle.run_workers.specs.declared.worker_run.worked.Opening.{Opening}
use Rattle.run_workers.specs.WorkerRun.WorkedRuns.{WorkedView}
use Rattle.run_workers.proofs.Ordering.{ran_ordered, ran_over, ran_stopped, ran_stands}
use Rattle.run_workers.proofs.Passing.{by_passes}
use Rattle.run_workers.proofs.Sending.{run_state_fields_send}
use Rattle.run_workers.proofs.runs.run_by_workers.Goals as goal

pub returns-clause-order : goal.returns-clause-order
returns-clause-order g c =
    ran_ordered c.in_ok-done.done.shared_state c.args.feed.run.plan c.args.workers c.stop-run.result.0.journal c.stop-run.result.1.items c.stop-run.ensures.worked (ap (λ (o : Opening). o.plan) c.in_ok-done.ensures.opening ∙ ap (λ (v : WorkedView). v.plan) c.in_ok-worked.ensures)
    (ap (λ (o : Opening). o.workers) c.in_ok-done.ensures.opening ∙ ap (λ (v : WorkedView). v.workers) c.in_ok-worked.ensures) c.in_ok-done.ensures.below c.stop-run.ensures.journal c.stop-run.ensures.turns

pub returns-clause-passes : goal.returns-clause-passes
returns-clause-passes g c =
    by_passes c.in_ok-done.done.shared_state.list c.in_ok-done.done.passes.value.items c.args.workers c.stop-run.result.0.journal c.stop-run.result.1.items c.in_ok-done.ensures.count c.in_ok-done.ensures.numbers c.in_ok-done.ensures.list c.stop-run.ensures.list

pub returns-clause-over : goal.returns-clause-over
returns-clause-over g c = λ over.
    ran_over c.in_ok-done.done.shared_state c.args.feed.run.plan c.stop-run.result.0.journal c.stop-run.ensures.worked (ap (λ (o : Opening). o.plan) c.in_ok-done.ensures.opening ∙ ap (λ (v : WorkedView). v.plan) c.in_ok-worked.ensures) c.stop-run.ensures.journal
    (c.in_ok-done.ensures.over over)

pub returns-clause-stops : goal.returns-clause-stops
returns-clause-stops g c =
    ran_stopped c.in_ok-done.done.shared_state c.args.feed.run.plan c.stop-run.result.0.journal c.stop-run.ensures.worked (ap (λ (o : Opening). o.plan) c.in_ok-done.ensures.opening ∙ ap (λ (v : WorkedView). v.plan) c.in_ok-worked.ensures) c.stop-run.ensures.journal

pub returns-clause-server : goal.returns-clause-server
returns-clause-server g c = λ over.
    let plan_is = ap (λ (o : Opening). o.plan) c.in_ok-done.ensures.opening ∙ ap (λ (v : WorkedView). v.plan) c.in_ok-worked.ensures in
    ran_stands c.stop-run.result.0 c.args.feed.run.plan (c.stop-run.ensures.plan ∙ plan_is) c.stop-run.ensures.server
    (ran_over c.in_ok-done.done.shared_state c.args.feed.run.plan c.stop-run.result.0.journal c.stop-run.ensures.worked plan_is c.stop-run.ensures.journal (c.in_ok-done.ensures.over over))

pub returns-clause-room : goal.returns-clause-room
returns-clause-room g c =
    subst (λ (plan : PlanData). plan.options.turn_limit ≤ vec_capacity c.stop-run.result.1) (c.stop-run.ensures.plan ∙ ap (λ (o : Opening). o.plan) c.in_ok-done.ensures.opening ∙ ap (λ (v : WorkedView). v.plan) c.in_ok-worked.ensures) c.stop-run.ensures.room

pub take_turns-requires-send-B : goal.take_turns-requires-send-B
take_turns-requires-send-B g c κs within =
    let κ : NamedLft = record { mir = named 7; lft = κs.1.1.1.1.1.1.1.0 } in
    let V : RattleType = param 0 g.row.V in
    let server : IsSend V = c.type_bounds.send-V in
    let run_fields : AllSend (Structs.shape (Run.TheInside.the_type κ V g.V.Serve)).fields = (search (sendable, crosses) depth 20, (run_state_fields_send κ, (search (request.the_send, sendable, crosses) depth 60 fits 20000, (search (server, sendable) depth 20, (search sendable, tt))))) in
    let run_inside : IsSend (Run.TheInside.the_row κ V g.V.Serve) = recorded_send _ _ _ (Run.TheInside.the_type κ V g.V.Serve).to_one (struct_send (Structs.shape (Run.TheInside.the_type κ V g.V.Serve)) run_fields) in
    let run : IsSend (Run.the_row κ V g.V.Serve) = search (run_inside, sendable) depth 20 in
    let feed_fields : AllSend (Structs.shape (FeedRun.TheInside.the_type κ V g.V.Serve)).fields = (search (run, sendable) depth 20, (search (name.the_send, sequence.the_send, sendable, crosses) depth 60 fits 20000, tt)) in
    let feed_inside : IsSend (FeedRun.TheInside.the_row κ V g.V.Serve) = recorded_send _ _ _ (FeedRun.TheInside.the_type κ V g.V.Serve).to_one (struct_send (Structs.shape (FeedRun.TheInside.the_type κ V g.V.Serve)) feed_fields) in
    let feed : IsSend (FeedRun.the_row κ V g.V.Serve) = search (feed_inside, sendable) depth 20 in
    let worked_fields : AllSend (Structs.shape (Worked.TheInside.the_type κ V g.V.Serve)).fields = (search (feed, sendable) depth 20, (search sendable, (search (sendable, crosses) depth 60 fits 20000, (search (sendable, crosses) depth 60 fits 20000, (search sendable, tt))))) in
    let worked_inside : IsSend (Worked.TheInside.the_row κ V g.V.Serve) = recorded_send _ _ _ (Worked.TheInside.the_type κ V g.V.Serve).to_one (struct_send (Structs.shape (Worked.TheInside.the_type κ V g.V.Serve)) worked_fields) in
    let worked : IsSend (Worked.the_row κ V g.V.Serve) = search (worked_inside, sendable) depth 20 in
    param_send _ _ (arg_send _ no _ worked)
