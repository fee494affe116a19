use Rattle.std.proofs.Common.{◌≡◌, Bool, sym, ap, ◌∙◌}
use Rattle.tool_program.specs.JournalWords.Clients.{became, became_in}
use Rattle.run_actors.specs.ClientTurns.ActorStates.{line_outcome_as}
use Rattle.run_actors.proofs.ClientTurns.Drawn.{turn_numbered}
use Rattle.run_actors.proofs.client_turns.actor_state.ClientState.took.Goals as goal

pub returns : goal.returns
returns c = λ client reached.
    let entry = c.args.entry.now in
    turn_numbered c.args.script.now c.becomes.new.self client entry.draw (became client entry) (c.requires.draws client.waits)
    (c.becomes.ensures client (became client entry) (c.line_outcome_of-outcome.ensures ∙ ap (λ (waits : Bool). line_outcome_as (became_in waits entry.asked entry.side entry.answer entry.missed)) (sym reached.waits)) reached)
