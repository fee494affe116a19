use Rattle.std.proofs.Common.{List, sym, subst}
use Rattle.server_model.specs.declared.entry.Entry.{Entry}
use Rattle.plan_data.specs.PlanData.{PlanData}
use Rattle.run_turns.specs.InHand.{HasRenames}
use Rattle.run_turns.specs.RunTurns.Invariants.{IsRun}
use Rattle.run_turns.proofs.InHand.{has_first}
use Rattle.run_turns.proofs.RunTurns.Served.{run_begin}
use Rattle.run_turns.proofs.run.Run.open.Goals as goal

pub invariant_of-result : goal.invariant_of-result
invariant_of-result g c =
    let kept = c.in_ok-run_state.run_state in
    let server = g.V.Serve.state c.args.server in
    subst (λ (plan : PlanData). IsRun plan kept.journal.items kept 0 server × HasRenames plan kept.journal.items c.in_ok-renames.renames.items) (sym c.in_ok-run_state.ensures.plan)
    (subst (λ (journal : List Entry). IsRun c.args.plan.now journal kept 0 server × HasRenames c.args.plan.now journal c.in_ok-renames.renames.items) (sym c.in_ok-run_state.ensures.journal)
    (run_begin c.args.plan.now kept server c.requires.runs c.requires.server c.in_ok-run_state.ensures.run_state c.in_ok-run_state.ensures.room, has_first c.args.plan.now c.in_ok-renames.renames.items c.in_ok-renames.ensures))
