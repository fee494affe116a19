use Rattle.std.proofs.Common.{sym, ap, ◌∙◌}
use Rattle.std.specs.Prelude.{is_some}
use Rattle.tool_program.specs.JournalWords.KeptPlans.{cut_due}
use Rattle.run_turns.specs.declared.run.Stepped.TheVariants.{Took, Idle}
use Rattle.run_turns.specs.Runs.{RunView}
use Rattle.run_replay.proofs.WholeReplay.Passing.{pass_turn}
use Rattle.run_replay.proofs.whole_replay.replays.pass.Goals as goal

pub returns-in-Took : goal.returns-in-Took
returns-in-Took g c =
    pass_turn c.args.feed.now.run c.choose.new.self.run c.args.place.now c.choose.ensures.run c.requires c.in-Some.next Took c.step-2.new.self.run
    (ap (λ (r : RunView). is_some (cut_due r.plan r.journal)) (sym c.run-2.ensures) ∙ sym c.is_cut_due.ensures ∙ c.if-is_cut_due.false) c.in-Some.ensures c.in-Took.ensures.run

pub returns-in-Idle : goal.returns-in-Idle
returns-in-Idle g c =
    pass_turn c.args.feed.now.run c.choose.new.self.run c.args.place.now c.choose.ensures.run c.requires c.in-Some.next Idle c.step-2.new.self.run
    (ap (λ (r : RunView). is_some (cut_due r.plan r.journal)) (sym c.run-2.ensures) ∙ sym c.is_cut_due.ensures ∙ c.if-is_cut_due.false) c.in-Some.ensures c.in-Idle.ensures.run
