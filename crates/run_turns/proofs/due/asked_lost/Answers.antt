use Rattle.std.proofs.Common.{◌≡◌, false, sym, ap, ◌∙◌}
use Rattle.std.proofs.lemmas.Bool.{and_parts}
use Rattle.server_model.specs.Entries.{is_cut}
use Rattle.server_model.specs.declared.entry.Asked.TheVariants.{Call}
use Rattle.tool_program.specs.JournalWords.Sessions.{live_session}
use Rattle.run_state.specs.NextAsked.{asked_of}
use Rattle.run_turns.specs.DueTurns.Due.{own_turn}
use Rattle.run_turns.specs.DueTurns.MigrationRun.FreeTurns.{is_free_turn, is_numbered}
use Rattle.run_turns.specs.InHand.{is_exchange}
use Rattle.run_turns.proofs.DueTurns.MigrationRun.Results.{on_err}
use Rattle.run_turns.proofs.InHand.{exchange_asks, one_is, one_left, some_left, unhanded}
use Rattle.run_turns.proofs.RunTurns.Costs.{freely_lost, lost_costs}
use Rattle.run_turns.proofs.due.asked_lost.Goals as goal

pub take_rename-requires : goal.take_rename-requires
take_rename-requires g c =
    let one = c.args.run_state.now in
    let both = and_parts (is_exchange c.args.next) (is_numbered (g.V.Serve.state c.args.server.now) (live_session one.journal.items c.args.actor)) (sym c.is_in_hand.ensures ∙ c.if-is_in_hand.true) in
    some_left one.plan.now one.journal.items c.args.actor (asked_of one c.args.next) c.args.renames.now.items c.requires.renames c.requires.lost (ap is_cut (exchange_asks one c.args.next c.requires.run_state both.0))

pub returns-then-is_in_hand-clause-asked : goal.returns-then-is_in_hand-clause-asked
returns-then-is_in_hand-clause-asked g c =
    let one = c.args.run_state.now in
    let both = and_parts (is_exchange c.args.next) (is_numbered (g.V.Serve.state c.args.server.now) (live_session one.journal.items c.args.actor)) (sym c.is_in_hand.ensures ∙ c.if-is_in_hand.true) in
    c.all.ensures ∙ ap Call (one_is one.plan.now one.journal.items c.args.renames.now.items c.take_rename.new.renames.items c.take_rename.result c.requires.renames c.take_rename.ensures) ∙ sym (exchange_asks one c.args.next c.requires.run_state both.0)

pub returns-then-is_in_hand-clause-left : goal.returns-then-is_in_hand-clause-left
returns-then-is_in_hand-clause-left g c =
    let one = c.args.run_state.now in
    let server = g.V.Serve.state c.args.server.now in
    let live = live_session one.journal.items c.args.actor in
    let turn = own_turn one.plan.now one.journal.items c.args.actor (asked_of one c.args.next) in
    let both = and_parts (is_exchange c.args.next) (is_numbered server live) (sym c.is_in_hand.ensures ∙ c.if-is_in_hand.true) in
    one_left one.plan.now one.journal.items server turn c.args.renames.now.items c.take_rename.new.renames.items c.take_rename.result c.requires.renames c.take_rename.ensures c.requires.lost
    (ap is_cut (exchange_asks one c.args.next c.requires.run_state both.0)) (freely_lost server live turn c.requires.lost both.1)

pub returns-in_err-asked-in-None-clause-costs : goal.returns-in_err-asked-in-None-clause-costs
returns-in_err-asked-in-None-clause-costs g c =
    let one = c.args.run_state.now in
    let server = g.V.Serve.state c.args.server.now in
    let live = live_session one.journal.items c.args.actor in
    let turn = own_turn one.plan.now one.journal.items c.args.actor (asked_of one c.args.next) in
    on_err c.from_residual.result (is_free_turn server live turn ≡ false)
    (lost_costs server live turn c.requires.lost c.in_err-asked-in-None.ensures.costs (unhanded one c.args.next (is_numbered server live) (sym c.lost.ensures ∙ c.in-None.is) c.in_err-asked-in-None.ensures.costs (sym c.is_in_hand.ensures ∙ c.if-is_in_hand.false)))
