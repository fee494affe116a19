use Rattle.std.proofs.Common.{◌-◌, List, length, sym, ap, ◌∙◌, subst}
use Rattle.std.specs.List.{slice_get}
use Rattle.std.proofs.lemmas.Result.{on_ok_weaker}
use Rattle.server_model.specs.declared.entry.Entry.{Entry}
use Rattle.server_model.specs.States.{State}
use Rattle.plan_data.specs.PlanData.{PlanData}
use Rattle.tool_finish.specs.Finishes.{took}
use Rattle.tool_finish.specs.Stages.{FitsStage}
use Rattle.run_finish.proofs.Staging.{fits_at, taken_at}
use Rattle.run_finish.proofs.finish_state.FinishState.take_last.Goals as goal

pub took-requires-clause-fits : goal.took-requires-clause-fits
took-requires-clause-fits g c =
    let self = c.args.self.now in
    subst (λ (all : List Entry). FitsStage (length all - 1) c.args.stage.now) (sym c.view-view.ensures.journal) (fits_at self.plan.now self.run_turns self.journal.items c.args.stage.now c.requires.answered)

pub returns-clause-ok : goal.returns-clause-ok
returns-clause-ok g c =
    let self = c.args.self.now in
    let state = g.V.Serve.state c.args.server.now in
    let answer = c.last_entry-entry.result.now.answer in
    on_ok_weaker c.took.result
    (λ is.
    is ∙ ap (λ (plan : PlanData). took plan c.view-view.result.journal.now (g.V.Serve.state c.view-view.result.server.now) answer c.args.stage.now) c.view-view.ensures.plan
    ∙ ap (λ (all : List Entry). took self.plan.now all (g.V.Serve.state c.view-view.result.server.now) answer c.args.stage.now) c.view-view.ensures.journal
    ∙ ap (λ (s : State). took self.plan.now self.journal.items s answer c.args.stage.now) c.view-view.ensures.server
    ∙ taken_at self.plan.now self.run_turns self.journal.items c.args.stage.now c.requires.answered state c.last_entry-entry.result.now c.requires.following
    (ap (λ (all : List Entry). slice_get all (length all - 1)) (sym c.as_slice.ensures.value) ∙ c.last_entry-entry.ensures))
    c.took.ensures.stage
