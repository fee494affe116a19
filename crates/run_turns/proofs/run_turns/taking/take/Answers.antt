use Rattle.std.proofs.Common.{◌≡◌, List, [], ◌∷◌, ◌++◌, true, false, sym, ap, ◌∙◌, subst}
use Rattle.table_store.specs.Databases.{database}
use Rattle.server_model.specs.declared.entry.Entry.{Entry}
use Rattle.server_model.specs.States.{has_work, load}
use Rattle.tool_program.specs.JournalWords.Journals.{after_entry}
use Rattle.tool_program.specs.JournalWords.Sessions.{live_session}
use Rattle.tool_program.specs.Tools.{moment}
use Rattle.plan_data.specs.PlanData.{PlanData}
use Rattle.proof_journals.specs.Run.Counts.{busy_count}
use Rattle.run_actors.specs.ClientTurns.ActorStates.{DrawsAtMark}
use Rattle.run_state.specs.Books.{is_planned, HasRoomFor, IsRunState}
use Rattle.run_turns.specs.DueTurns.MigrationRun.FreeTurns.{is_free_turn}
use Rattle.run_turns.specs.DueTurns.DueCalls.Ranges.{IsReadAhead}
use Rattle.run_turns.specs.RunTurns.Invariants.{IsRun}
use Rattle.run_turns.proofs.DueTurns.MigrationRun.Results.{on_err}
use Rattle.run_turns.proofs.RunTurns.Costs.{reading_costs}
use Rattle.run_turns.proofs.RunTurns.Served.{planned_entry, draws_marked, reported_ahead, work_reported, load_reported, busy_reported, run_more}
use Rattle.run_turns.proofs.run_turns.taking.take.Goals as goal

pub keep-requires-clause-planned : goal.keep-requires-clause-planned
keep-requires-clause-planned g c = subst (λ (one : Entry). is_planned c.args.run_state.now.plan.now one.actor ≡ true) (sym c.in_ok-taken.ensures.entry) (planned_entry c.args.run_state.now.plan.now c.args.run_state.now.journal.items c.args.run_state.now c.args.sessions.now (g.V.Serve.state c.args.server.now) c.args.turn c.requires.run c.requires.due)

pub keep-requires-clause-draws : goal.keep-requires-clause-draws
keep-requires-clause-draws g c = subst DrawsAtMark (sym c.in_ok-taken.ensures.entry) (draws_marked c.args.run_state.now.plan.now c.args.run_state.now.journal.items c.args.run_state.now c.args.sessions.now (g.V.Serve.state c.args.server.now) c.args.turn c.requires.run c.requires.due)

pub keep-requires-clause-reported : goal.keep-requires-clause-reported
keep-requires-clause-reported g c =
    subst (λ (one : Entry). IsReadAhead c.args.run_state.now.tool.setup c.in_ok-ahead.ahead one.answer) (sym c.in_ok-taken.ensures.entry)
    (reported_ahead c.args.run_state.now.plan.now c.args.run_state.now.journal.items c.args.run_state.now c.args.sessions.now (g.V.Serve.state c.args.server.now) c.args.turn c.requires.run c.requires.due c.args.run_state.now.tool.setup c.in_ok-ahead.ahead (database c.tables.result.now) c.tables.ensures c.in_ok-ahead.ensures.range)

pub keep-requires-clause-work : goal.keep-requires-clause-work
keep-requires-clause-work g c =
    subst (λ (one : Entry). c.in_ok-taken.taken.had_work ≡ has_work (moment c.args.run_state.now.plan.now c.args.run_state.now.journal.items).server one.session) (sym c.in_ok-taken.ensures.entry)
    (work_reported c.args.run_state.now.plan.now c.args.run_state.now.journal.items c.args.run_state.now c.args.sessions.now (g.V.Serve.state c.args.server.now) c.args.turn c.requires.run c.requires.due c.in_ok-taken.taken.had_work c.in_ok-taken.ensures.work)

pub keep-requires-clause-load : goal.keep-requires-clause-load
keep-requires-clause-load g c =
    subst (λ (one : Entry). c.in_ok-taken.taken.counts.load ≡ load (after_entry (moment c.args.run_state.now.plan.now c.args.run_state.now.journal.items).server one)) (sym c.in_ok-taken.ensures.entry)
    (load_reported c.args.run_state.now.plan.now c.args.run_state.now.journal.items c.args.run_state.now c.args.sessions.now (g.V.Serve.state c.args.server.now) c.args.turn c.requires.run c.requires.due c.in_ok-taken.taken.counts (g.V.Serve.state c.serve_turn.new.server) c.in_ok-taken.ensures.counts c.in_ok-taken.ensures.ok)

pub keep-requires-clause-busy : goal.keep-requires-clause-busy
keep-requires-clause-busy g c =
    subst (λ (one : Entry). c.in_ok-taken.taken.counts.busy ≡ busy_count (after_entry (moment c.args.run_state.now.plan.now c.args.run_state.now.journal.items).server one)) (sym c.in_ok-taken.ensures.entry)
    (busy_reported c.args.run_state.now.plan.now c.args.run_state.now.journal.items c.args.run_state.now c.args.sessions.now (g.V.Serve.state c.args.server.now) c.args.turn c.requires.run c.requires.due c.in_ok-taken.taken.counts (g.V.Serve.state c.serve_turn.new.server) c.in_ok-taken.ensures.counts c.in_ok-taken.ensures.ok)

pub returns-clause-run : goal.returns-clause-run
returns-clause-run g c =
    let kept = c.keep.ensures.journal ∙ ap (λ (one : Entry). c.args.run_state.now.journal.items ++ one ∷ []) c.in_ok-taken.ensures.entry in
    subst (λ (p : PlanData). IsRun p c.keep.new.run_state.journal.items c.keep.new.run_state c.serve_turn.new.sessions (g.V.Serve.state c.serve_turn.new.server)) (sym c.keep.ensures.plan)
    (subst (λ (j : List Entry). IsRun c.args.run_state.now.plan.now j c.keep.new.run_state c.serve_turn.new.sessions (g.V.Serve.state c.serve_turn.new.server)) (sym kept)
    (run_more c.args.run_state.now.plan.now c.args.run_state.now.journal.items c.args.run_state.now c.args.sessions.now (g.V.Serve.state c.args.server.now) c.args.turn c.requires.run c.requires.due c.keep.new.run_state c.serve_turn.new.sessions (g.V.Serve.state c.serve_turn.new.server) c.requires.room
    (subst (λ (one : Entry). IsRunState c.args.run_state.now.plan.now (c.args.run_state.now.journal.items ++ one ∷ []) c.keep.new.run_state) c.in_ok-taken.ensures.entry c.keep.ensures.run_state)
    (subst (λ (one : Entry). HasRoomFor c.args.run_state.now.plan.now (c.args.run_state.now.journal.items ++ one ∷ []) c.keep.new.run_state) c.in_ok-taken.ensures.entry c.keep.ensures.room)
    c.in_ok-taken.ensures.ok c.in_ok-taken.ensures.made))

pub returns-in_err-ahead-clause-costs : goal.returns-in_err-ahead-clause-costs
returns-in_err-ahead-clause-costs g c =
    on_err c.from_residual.result (is_free_turn (g.V.Serve.state c.args.server.now) (live_session c.args.run_state.now.journal.items c.args.turn.actor) c.args.turn ≡ false)
    (reading_costs c.args.run_state.now.plan.now c.args.run_state.now.journal.items c.args.run_state.now c.args.sessions.now (g.V.Serve.state c.args.server.now) c.args.turn c.requires.run c.requires.due c.in_err-ahead.ensures.costs)
