use Rattle.std.proofs.Common.{rules, ◌≡◌, ◌<◌, ◌≤◌, ℕ, Option, true, false, refl, sym, ap, ◌∙◌, subst}
use Rattle.std.proofs.lemmas.Result.{IfOk-weaker, on_ok_weaker, on_err_weaker}
use Rattle.server_model.specs.Entries.{is_command}
use Rattle.server_model.specs.States.{has_work}
use Rattle.tool_program.specs.JournalWords.Journals.{after_entry}
use Rattle.tool_program.specs.JournalWords.Sessions.{live_session}
use Rattle.run_turns.specs.declared.due_turns.migration_run.turns.Taken.{Taken}
use Rattle.run_turns.specs.DueTurns.MigrationRun.ServerTurns.{session_for, entry_on}
use Rattle.run_turns.specs.DueTurns.Due.{session_at, next_entry}
use Rattle.run_turns.specs.DueTurns.MigrationRun.FreeTurns.{is_free_turn}
use Rattle.run_turns.proofs.DueTurns.MigrationRun.Costs.{opens_one, none_left}
use Rattle.run_turns.proofs.RunTurns.Served.{session_is, command_session, command_still, command_side, run_state_counts, may_turn, entry_of_command, entry_of_session, session_of_entry}
use Rattle.run_turns.proofs.run_turns.answers.serve_turn.Goals as goal

pub command_turn-requires-clause-side : goal.command_turn-requires-clause-side
command_turn-requires-clause-side g c = command_side c.args.run_state.now.plan.now c.args.run_state.now.journal.items c.args.turn c.requires.due (sym c.is_command.ensures ∙ c.if-is_command.true)

pub command_turn-requires-clause-counts : goal.command_turn-requires-clause-counts
command_turn-requires-clause-counts g c =
    run_state_counts c.args.run_state.now.plan.now c.args.run_state.now.journal.items c.args.run_state.now c.args.sessions.now (g.V.Serve.state c.args.server.now) (record { load = c.args.run_state.now.load; busy = c.args.run_state.now.busy }) c.requires.run refl refl

pub returns-then-is_command-clause-work : goal.returns-then-is_command-clause-work
returns-then-is_command-clause-work g c =
    let command : is_command c.args.turn.asked ≡ true = sym c.is_command.ensures ∙ c.if-is_command.true in
    let own = live_session c.args.run_state.now.journal.items c.args.turn.actor in
    let made = (g.V.Serve.state c.args.server.now).made in
    c.command_turn.ensures.work
    ∙ ap (has_work (g.V.Serve.state c.args.server.now)) (sym (session_of_entry (g.V.Serve.state c.args.server.now) (session_at c.args.turn.asked own made) c.args.turn ∙ command_session c.args.turn.asked own made command))

pub returns-then-is_command-clause-ok : goal.returns-then-is_command-clause-ok
returns-then-is_command-clause-ok g c =
    let command : is_command c.args.turn.asked ≡ true = sym c.is_command.ensures ∙ c.if-is_command.true in
    sym
    (ap (after_entry (g.V.Serve.state c.args.server.now)) (sym (entry_of_command c.args.run_state.now.journal.items (g.V.Serve.state c.args.server.now) c.args.turn command))
    ∙ command_still (g.V.Serve.state c.args.server.now) c.args.turn command (command_side c.args.run_state.now.plan.now c.args.run_state.now.journal.items c.args.turn c.requires.due command))

pub take_turn-requires-clause-may : goal.take_turn-requires-clause-may
take_turn-requires-clause-may g c =
    let few : c.made-made.result ≤ 4294967295 = search rules in
    rw c.session-session.ensures
    (may_turn c.args.run_state.now.plan.now c.args.run_state.now.journal.items c.args.run_state.now c.args.sessions.now (g.V.Serve.state c.args.server.now) c.args.turn c.requires.run c.requires.due (sym c.is_command.ensures ∙ c.if-is_command.false)
    (subst (λ (n : ℕ). n ≤ 4294967295) c.made-made.ensures few)
    (λ none. subst (λ (n : ℕ). n < 4294967295) c.made-made.ensures (c.is_last.ensures.left c.if-is_last.false (c.session-session.ensures ∙ none))))

pub take_turn-requires-clause-counts : goal.take_turn-requires-clause-counts
take_turn-requires-clause-counts g c =
    run_state_counts c.args.run_state.now.plan.now c.args.run_state.now.journal.items c.args.run_state.now c.args.sessions.now (g.V.Serve.state c.args.server.now) (record { load = c.args.run_state.now.load; busy = c.args.run_state.now.busy }) c.requires.run refl refl

pub returns-clause-work : goal.returns-clause-work
returns-clause-work g c =
    let called : is_command c.args.turn.asked ≡ false = sym c.is_command.ensures ∙ c.if-is_command.false in
    let state = g.V.Serve.state c.args.server.now in
    let own = live_session c.args.run_state.now.journal.items c.args.turn.actor in
    IfOk-weaker c.take_turn.result (λ (taken : Taken). taken.had_work ≡ has_work state (session_for c.session-session.result state.made)) (λ (taken : Taken). taken.had_work ≡ has_work state (next_entry c.args.run_state.now.journal.items state c.args.turn).session)
    (λ taken is.
    is ∙ ap (λ (session : Option ℕ). has_work state (session_for session state.made)) c.session-session.ensures
    ∙ ap (has_work state) (sym (session_of_entry state (session_at c.args.turn.asked own state.made) c.args.turn ∙ session_is c.args.turn.asked own state.made called)))
    c.take_turn.ensures.work

pub returns-clause-ok : goal.returns-clause-ok
returns-clause-ok g c =
    let called : is_command c.args.turn.asked ≡ false = sym c.is_command.ensures ∙ c.if-is_command.false in
    let state = g.V.Serve.state c.args.server.now in
    on_ok_weaker c.take_turn.result
    (λ is.
    is ∙ ap (λ (session : Option ℕ). after_entry state (entry_on state (session_for session state.made) c.args.turn)) c.session-session.ensures
    ∙ ap (after_entry state) (entry_of_session c.args.run_state.now.journal.items state c.args.turn called))
    c.take_turn.ensures.ok

pub returns-then-is_last-clause-costs : goal.returns-then-is_last-clause-costs
returns-then-is_last-clause-costs g c =
    opens_one (g.V.Serve.state c.args.server.now) (live_session c.args.run_state.now.journal.items c.args.turn.actor) c.args.turn (sym c.is_command.ensures ∙ c.if-is_command.false) (sym c.session-session.ensures ∙ c.is_last.ensures.new c.if-is_last.true)
    (none_left (g.V.Serve.state c.args.server.now) c.args.turn (sym c.made-made.ensures ∙ c.is_last.ensures.last c.if-is_last.true))

pub returns-clause-costs : goal.returns-clause-costs
returns-clause-costs g c =
    on_err_weaker c.take_turn.result (λ costs. sym (ap (λ (session : Option ℕ). is_free_turn (g.V.Serve.state c.args.server.now) session c.args.turn) c.session-session.ensures) ∙ costs) c.take_turn.ensures.costs
