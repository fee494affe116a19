use Rattle.std.proofs.Common.{rules, ◌≡◌, ◌-◌, ◌<◌, length, Some, sym, ap, ◌∙◌}
use Rattle.std.specs.List.{slice_get}
use Rattle.std.proofs.lemmas.Option.{slice_get-get_or}
use Rattle.tool_program.specs.JournalWords.Clients.{script_of, client_at}
use Rattle.run_state.proofs.Clients.{actor_state_within, client_reached, client_turned}
use Rattle.run_state.proofs.run_state_turns.additions.client_took.Goals as goal

pub returns-clause-clients : goal.returns-clause-clients
returns-clause-clients c =
    let has : script_of c.args.client c.args.run_state.now.plan.now ≡ Some c.in-Some.script.now = search rules in
    let within : c.args.client - 1 < length c.args.run_state.now.clients.items =
    actor_state_within c.args.run_state.now.plan.now c.args.run_state.now.journal.items c.args.client c.in-Some.script.now c.args.run_state.now.clients.items has c.requires.clients in
    let at : slice_get c.args.run_state.now.clients.items (c.args.client - 1) ≡ Some c.index_mut.result.now =
    slice_get-get_or c.args.run_state.now.clients.items (c.args.client - 1) c.index_mut.result.now within ∙ ap Some (sym c.index_mut.ensures.value) in
    client_turned c.args.run_state.now.plan.now c.args.run_state.now.journal.items c.args.entry.now c.args.client c.in-Some.script.now c.args.run_state.now.clients.items c.took.new.self c.requires.actor has c.requires.clients
    (c.took.ensures (client_at c.args.run_state.now.plan.now c.args.run_state.now.journal.items c.args.client)
    (client_reached c.args.run_state.now.plan.now c.args.run_state.now.journal.items c.args.client c.in-Some.script.now c.args.run_state.now.clients.items c.index_mut.result.now has c.requires.clients at))
