use Rattle.std.proofs.Common.{List, sym, ap, ◌∙◌}
use Rattle.server_model.specs.declared.entry.Entry.{Entry}
use Rattle.plan_data.specs.PlanData.{PlanData}
use Rattle.tool_finish.specs.Finishes.{next}
use Rattle.run_finish.proofs.States.{none_over}
use Rattle.run_finish.proofs.finish_state.FinishState.next_turn.Goals as goal

pub returns-in-None-clause-none : goal.returns-in-None-clause-none
returns-in-None-clause-none g c =
    let self = c.args.self.now in
    λ none. none_over self (g.V.Serve.state c.args.server.now) c.requires.state c.requires.taken
    (ap (λ (plan : PlanData). next plan self.journal.items self.stage) (sym c.view.ensures.plan)
    ∙ ap (λ (journal : List Entry). next c.view.result.plan.now journal self.stage) (sym c.view.ensures.journal)
    ∙ sym c.in_ok-actor.ensures ∙ c.in-None.is)
