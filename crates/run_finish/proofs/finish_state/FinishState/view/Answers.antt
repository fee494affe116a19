use Rattle.std.proofs.Common.{sym, ap, ◌∙◌}
use Rattle.tool_finish.specs.Finishes.{first_live}
use Rattle.run_finish.specs.Sessions.{first_actor}
use Rattle.run_finish.proofs.LiveOnes.{first_is}
use Rattle.run_finish.proofs.finish_state.FinishState.view.Goals as goal

pub returns-clause-seen : goal.returns-clause-seen
returns-clause-seen g c =
    let self = c.args.self.now in
    record {
      live = c.first_actor.ensures ∙ ap first_actor (c.as_slice-2.ensures.value ∙ c.requires.sessions) ∙ first_is self.plan.now self.journal.items ∙ ap (first_live self.plan.now) (sym c.as_slice.ensures.value);
      names = c.requires.names;
    }
