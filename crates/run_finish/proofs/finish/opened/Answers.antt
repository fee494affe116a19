use Rattle.std.proofs.Common.{List, false, length, sym, subst}
use Rattle.server_model.specs.declared.entry.Entry.{Entry}
use Rattle.plan_data.specs.PlanData.{PlanData}
use Rattle.run_finish.specs.declared.finish_state.FinishState.{FinishState}
use Rattle.run_finish.specs.Sessions.{first_stage}
use Rattle.run_finish.specs.Invariants.{IsGoing, IsFinishState}
use Rattle.run_finish.proofs.Beginnings.{begins}
use Rattle.run_finish.proofs.finish.opened.Goals as goal

pub invariant_of-result : goal.invariant_of-result
invariant_of-result g c =
    let parts = c.into_parts-run_state.result in
    let server = g.V.Serve.state parts.server in
    let kept = parts.run_state in
    subst (λ (x : FinishState). IsFinishState x server) (sym c.begun.ensures)
    (subst (λ (plan : PlanData). IsGoing plan (length kept.journal.items) kept.journal.items kept.names c.args.sessions.items (record { load = kept.load; busy = kept.busy }) parts.sessions (first_stage c.args.sessions.items) false server) (sym c.into_parts-run_state.ensures.plan)
    (subst (λ (all : List Entry). IsGoing c.args.run.plan (length all) all kept.names c.args.sessions.items (record { load = kept.load; busy = kept.busy }) parts.sessions (first_stage c.args.sessions.items) false server) (sym c.into_parts-run_state.ensures.journal)
    (begins c.args.run.plan c.args.run.journal kept parts.sessions server c.args.sessions.items c.into_parts-run_state.ensures.run c.requires.finishable c.requires.sessions)))
