use Rattle.std.proofs.Common.{Bool, List, sym, ap, ◌∙◌, subst}
use Rattle.std.proofs.lemmas.List.{take-append-drop}
use Rattle.server_model.specs.declared.entry.Entry.{Entry}
use Rattle.tool_finish.specs.Finishes.{verdict_in}
use Rattle.tool_finish.specs.Stages.{verdict_behind}
use Rattle.run_finish.specs.Invariants.{run_of, turns_in, IsStageAt}
use Rattle.run_finish.proofs.Staging.{verdict_is, verdict_now}
use Rattle.run_finish.proofs.finish_state.FinishState.verdict.Goals as goal

pub returns-then-self : goal.returns-then-self
returns-then-self c =
    let self = c.args.self.now in
    c.verdict_behind.ensures
    ∙ ap (λ (all : List Entry). verdict_behind self.plan.now all self.stage) (c.as_slice-journal.ensures.value ∙ sym (take-append-drop self.run_turns self.journal.items))
    ∙ verdict_is self.plan.now (run_of self) (turns_in self) self.stage (subst (λ (b : Bool). IsStageAt self.plan.now (run_of self) (turns_in self) b self.stage) c.if-self.true c.requires.stage)

pub returns-else-self : goal.returns-else-self
returns-else-self c =
    let self = c.args.self.now in
    c.verdict.ensures
    ∙ ap (λ (all : List Entry). verdict_in self.plan.now all self.stage) (c.as_slice-journal.ensures.value ∙ sym (take-append-drop self.run_turns self.journal.items))
    ∙ verdict_now self.plan.now (run_of self) (turns_in self) self.stage (subst (λ (b : Bool). IsStageAt self.plan.now (run_of self) (turns_in self) b self.stage) c.if-self.false c.requires.stage)
