use Rattle.std.proofs.Common.{rules, ◌≡◌, Some, sym, ap, ◌∙◌}
use Rattle.run_audit.specs.Rules.{client_reached, is_astray}
use Rattle.tool_program.specs.JournalWords.Clients.{script_of}
use Rattle.run_auditor.proofs.PlacedClients.{followed_of}
use Rattle.run_auditor.proofs.trace_clients.is_astray.Goals as goal

pub returns-in-Some : goal.returns-in-Some
returns-in-Some c = λ before followed.
    let has : script_of c.in-Client.number c.args.plan.now ≡ Some c.in-Some.script.now = search rules in
    c.is_astray.ensures (client_reached c.args.plan.now before c.in-Client.number) (followed_of c.args.plan.now before c.in-Client.number c.in-Some.script.now c.args.clients.now.items c.index.result.now has c.requires.count followed c.index.ensures).reached
    ∙ ap (is_astray c.args.plan.now before c.args.line.now.asked) (sym c.in-Client.is)
