use Rattle.std.proofs.Common.{sym, ◌∙◌, subst}
use Rattle.run_turns.specs.declared.run.Stepped.TheVariants.{Took}
use Rattle.run_turns.specs.Runs.{Steps}
use Rattle.run_turns.specs.FeedRuns.{FeedView}
use Rattle.run_turns.proofs.FeedRuns.{steps_on}
use Rattle.run_turns.proofs.feed_run.FeedRun.step.Goals as goal

pub returns-in-Took-clause-run : goal.returns-in-Took-clause-run
returns-in-Took-clause-run g c =
    steps_on c.args.self.now.run c.args.actor c.args.self.now.held c.requires.caught Took c.step.new.self (sym c.is_held_back.ensures ∙ c.if-is_held_back.false)
    (subst (λ (feed : FeedView). Steps feed.run c.args.actor Took c.step.new.self) c.self.view_is c.in-Took.ensures)
