use Rattle.std.proofs.Common.{◌≡◌, ◌+◌, ◌≤◌, ℕ, None, refl, sym, ap, ◌∙◌, arith}
use Rattle.server_model.specs.States.{State, has_work, passed}
use Rattle.run_turns.specs.DueTurns.MigrationRun.ServerTurns.{counts_of}
use Rattle.run_turns.proofs.DueTurns.MigrationRun.Counted.{entry_leaves, passed_entry, passes}
use Rattle.run_turns.proofs.due_turns.migration_run.turns.pass_turn.Goals as goal

pub returns-clause-entry : goal.returns-clause-entry
returns-clause-entry g c =
    passed_entry (g.V.Serve.state c.args.server.now) ((g.V.Serve.state c.args.server.now).made + 1) c.args.turn c.entry_of.result c.requires.lost c.entry_of.ensures.actor (c.entry_of.ensures.session ∙ c.pass-number.ensures.number) c.entry_of.ensures.asked c.entry_of.ensures.side
    (c.entry_of.ensures.answer ∙ c.lost_at_once-heard.ensures.answer) (c.entry_of.ensures.missed ∙ c.lost_at_once-heard.ensures.missed) (c.entry_of.ensures.draw ∙ c.lost_at_once-heard.ensures.draw)

pub returns-clause-work : goal.returns-clause-work
returns-clause-work g c =
    c.has_work-had_work.ensures
    ∙ ap (λ (s : State). has_work s c.pass-number.result) c.pass-number.ensures.passed
    ∙ ap (λ (n : ℕ). has_work (passed (g.V.Serve.state c.args.server.now)) n) c.pass-number.ensures.number

pub returns-clause-counts : goal.returns-clause-counts
returns-clause-counts g c = c.requires.counts ∙ sym (ap counts_of c.pass-number.ensures.passed)

pub returns-clause-state : goal.returns-clause-state
returns-clause-state g c =
    c.pass-number.ensures.passed
    ∙ passes (g.V.Serve.state c.args.server.now) None c.args.turn c.requires.may refl c.requires.lost
    ∙ sym (entry_leaves (g.V.Serve.state c.args.server.now) None c.args.turn c.requires.may)
