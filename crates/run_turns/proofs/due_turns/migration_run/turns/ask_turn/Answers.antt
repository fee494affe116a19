use Rattle.std.proofs.Common.{◌≡◌, false, ap, ◌∙◌}
use Rattle.tool_program.specs.JournalWords.Journals.{heard, missed}
use Rattle.proof_journals.specs.Run.Counts.{IsAfter}
use Rattle.run_turns.proofs.DueTurns.MigrationRun.Counted.{given_reported, draw_reported, leaves_reported, kind_reported, work_reported, open_reported, busy_reported, open_part, busy_part, gone_reported, stays_reported, made_reported, counts_reported, err_after, err_made, entry_same}
use Rattle.run_turns.specs.DueTurns.MigrationRun.FreeTurns.{is_free_turn}
use Rattle.run_turns.proofs.DueTurns.MigrationRun.Costs.{opens_one, asks_so, not_passed}
use Rattle.run_turns.proofs.DueTurns.MigrationRun.Results.{on_err}
use Rattle.run_turns.proofs.due_turns.migration_run.turns.ask_turn.Goals as goal

pub share_of-before-requires : goal.share_of-before-requires
share_of-before-requires g c = kind_reported (g.V.Serve.state c.args.server.now) c.args.session c.args.turn c.requires.may (g.V.Serve.state c.open_session.new.server) c.in_ok-number.number (c.in_ok-number.ensures.opened c.requires.may.own) c.in_ok-number.ensures.next

pub share_after-after-requires-clause-lost : goal.share_after-after-requires-clause-lost
share_after-after-requires-clause-lost g c =
    gone_reported (g.V.Serve.state c.args.server.now) c.args.session c.args.turn c.requires.may (g.V.Serve.state c.open_session.new.server) c.in_ok-number.number (c.in_ok-number.ensures.opened c.requires.may.own) c.in_ok-number.ensures.next (g.V.Serve.state c.ask_in.new.server) c.in_ok-heard.ensures.ok

pub share_after-after-requires-clause-left : goal.share_after-after-requires-clause-left
share_after-after-requires-clause-left g c =
    stays_reported (g.V.Serve.state c.args.server.now) c.args.session c.args.turn c.requires.may (g.V.Serve.state c.open_session.new.server) c.in_ok-number.number (c.in_ok-number.ensures.opened c.requires.may.own) c.in_ok-number.ensures.next (g.V.Serve.state c.ask_in.new.server) c.in_ok-heard.ensures.ok

pub following-requires-clause-open : goal.following-requires-clause-open
following-requires-clause-open g c =
    rw
    (c.share_of-before.ensures.open, c.requires.counts, open_reported (g.V.Serve.state c.args.server.now) c.args.session c.args.turn c.requires.may (g.V.Serve.state c.open_session.new.server) c.in_ok-number.number (c.in_ok-number.ensures.opened c.requires.may.own) c.in_ok-number.ensures.next)
    (open_part (g.V.Serve.state c.args.server.now) c.args.session c.args.turn c.requires.may)

pub following-requires-clause-busy : goal.following-requires-clause-busy
following-requires-clause-busy g c =
    rw
    (c.share_of-before.ensures.busy, c.requires.counts, busy_reported (g.V.Serve.state c.args.server.now) c.args.session c.args.turn c.requires.may (g.V.Serve.state c.open_session.new.server) c.in_ok-number.number (c.in_ok-number.ensures.opened c.requires.may.own) c.in_ok-number.ensures.next)
    (busy_part (g.V.Serve.state c.args.server.now) c.args.session c.args.turn c.requires.may)

pub returns-clause-entry : goal.returns-clause-entry
returns-clause-entry g c =
    let given = given_reported (g.V.Serve.state c.args.server.now) c.args.session c.args.turn c.requires.may (g.V.Serve.state c.open_session.new.server) c.in_ok-number.number (c.in_ok-number.ensures.opened c.requires.may.own) c.in_ok-number.ensures.next in
    entry_same (g.V.Serve.state c.args.server.now) _ c.args.turn c.entry_of.result c.entry_of.ensures.actor (c.entry_of.ensures.session ∙ c.in_ok-number.ensures.next) c.entry_of.ensures.asked c.entry_of.ensures.side
    (c.entry_of.ensures.answer ∙ c.in_ok-heard.ensures.answer ∙ ap (heard c.args.turn.side) given) (c.entry_of.ensures.missed ∙ c.in_ok-heard.ensures.missed ∙ ap (missed c.args.turn.side) given)
    (c.entry_of.ensures.draw ∙ c.in_ok-heard.ensures.draw ∙ draw_reported (g.V.Serve.state c.args.server.now) c.args.session c.args.turn c.requires.may (g.V.Serve.state c.open_session.new.server) c.in_ok-number.number (c.in_ok-number.ensures.opened c.requires.may.own) c.in_ok-number.ensures.next)

pub returns-clause-work : goal.returns-clause-work
returns-clause-work g c =
    c.has_work-had_work.ensures
    ∙ work_reported (g.V.Serve.state c.args.server.now) c.args.session c.args.turn c.requires.may (g.V.Serve.state c.open_session.new.server) c.in_ok-number.number (c.in_ok-number.ensures.opened c.requires.may.own) c.in_ok-number.ensures.next

pub returns-clause-counts : goal.returns-clause-counts
returns-clause-counts g c =
    counts_reported (g.V.Serve.state c.args.server.now) c.args.session c.args.turn c.requires.may (g.V.Serve.state c.open_session.new.server) c.in_ok-number.number (c.in_ok-number.ensures.opened c.requires.may.own) c.in_ok-number.ensures.next (g.V.Serve.state c.ask_in.new.server) c.in_ok-heard.ensures.ok
    c.args.counts c.share_of-before.result.open c.share_after-after.result.open c.share_of-before.result.busy c.share_after-after.result.busy c.following.result c.requires.counts
    c.share_of-before.ensures.open c.share_after-after.ensures.open c.share_of-before.ensures.busy c.share_after-after.ensures.busy c.following.ensures.load c.following.ensures.busy

pub returns-clause-ok : goal.returns-clause-ok
returns-clause-ok g c =
    c.in_ok-heard.ensures.ok
    ∙ leaves_reported (g.V.Serve.state c.args.server.now) c.args.session c.args.turn c.requires.may (g.V.Serve.state c.open_session.new.server) c.in_ok-number.number (c.in_ok-number.ensures.opened c.requires.may.own) c.in_ok-number.ensures.next

pub returns-clause-made : goal.returns-clause-made
returns-clause-made g c =
    made_reported (g.V.Serve.state c.args.server.now) c.args.session c.args.turn c.requires.may (g.V.Serve.state c.open_session.new.server) c.in_ok-number.number (c.in_ok-number.ensures.opened c.requires.may.own) c.in_ok-number.ensures.next (g.V.Serve.state c.ask_in.new.server) c.in_ok-heard.ensures.ok

pub returns-in_err-heard-clause-err : goal.returns-in_err-heard-clause-err
returns-in_err-heard-clause-err g c =
    on_err c.from_residual-in_err-heard.result (IsAfter (g.V.Serve.state c.args.server.now) (g.V.Serve.state c.ask_in.new.server))
    (err_after (g.V.Serve.state c.args.server.now) c.args.session c.args.turn c.requires.may (g.V.Serve.state c.open_session.new.server) c.in_ok-number.number (c.in_ok-number.ensures.opened c.requires.may.own) c.in_ok-number.ensures.next (g.V.Serve.state c.ask_in.new.server)
    c.in_err-heard.ensures.own c.in_err-heard.ensures.new c.in_err-heard.ensures.made)

pub returns-in_err-heard-clause-made : goal.returns-in_err-heard-clause-made
returns-in_err-heard-clause-made g c =
    err_made (g.V.Serve.state c.args.server.now) c.args.session c.args.turn c.requires.may (g.V.Serve.state c.open_session.new.server) c.in_ok-number.number (c.in_ok-number.ensures.opened c.requires.may.own) c.in_ok-number.ensures.next (g.V.Serve.state c.ask_in.new.server)
    c.in_err-heard.ensures.own c.in_err-heard.ensures.new c.in_err-heard.ensures.made

pub returns-in_err-number-clause-costs : goal.returns-in_err-number-clause-costs
returns-in_err-number-clause-costs g c =
    on_err c.from_residual.result (is_free_turn (g.V.Serve.state c.args.server.now) c.args.session c.args.turn ≡ false)
    (opens_one (g.V.Serve.state c.args.server.now) c.args.session c.args.turn c.requires.may.called c.in_err-number.ensures.costs (not_passed (g.V.Serve.state c.args.server.now) c.args.turn (c.requires.asks c.in_err-number.ensures.costs)))

pub returns-in_err-heard-clause-costs : goal.returns-in_err-heard-clause-costs
returns-in_err-heard-clause-costs g c =
    on_err c.from_residual-in_err-heard.result (is_free_turn (g.V.Serve.state c.args.server.now) c.args.session c.args.turn ≡ false)
    (asks_so (g.V.Serve.state c.args.server.now) (g.V.Serve.state c.open_session.new.server) c.args.session c.in_ok-number.number c.args.turn c.requires.may.called c.requires.asks c.in_ok-number.ensures.own c.open_session.ensures.same c.in_err-heard.ensures.costs)
