use Rattle.std.proofs.Common.{rules, ◌≡◌, ◌-◌, ◌<◌, length, Some, sym, ap, ◌∙◌}
use Rattle.std.specs.List.{slice_get}
use Rattle.std.proofs.lemmas.Option.{slice_get-get_or}
use Rattle.tool_program.specs.JournalWords.Clients.{script_of, client_at}
use Rattle.run_state.proofs.Clients.{actor_state_within, client_reached, asks_is}
use Rattle.run_state.proofs.run_state.RunState.client_call.Goals as goal

pub returns-in-Some : goal.returns-in-Some
returns-in-Some c =
    let has : script_of c.args.client c.args.self.now.plan.now ≡ Some c.in-Some.script.now = search rules in
    let within : c.args.client - 1 < length c.args.self.now.clients.items =
    actor_state_within c.args.self.now.plan.now c.args.self.now.journal.items c.args.client c.in-Some.script.now c.args.self.now.clients.items has c.requires.clients in
    let at : slice_get c.args.self.now.clients.items (c.args.client - 1) ≡ Some c.index.result.now =
    slice_get-get_or c.args.self.now.clients.items (c.args.client - 1) c.index.result.now within ∙ ap Some (sym c.index.ensures) in
    c.next_call.ensures (client_at c.args.self.now.plan.now c.args.self.now.journal.items c.args.client)
    (client_reached c.args.self.now.plan.now c.args.self.now.journal.items c.args.client c.in-Some.script.now c.args.self.now.clients.items c.index.result.now has c.requires.clients at)
    ∙ sym (asks_is c.args.self.now.plan.now c.args.self.now.journal.items c.args.client)
