use Rattle.std.proofs.Common.{rules, ◌≡◌, Bool, Some, sym, ap, ◌∙◌}
use Rattle.std.proofs.lemmas.Result.{IfOk-weaker}
use Rattle.table_store.specs.Databases.{Database, database}
use Rattle.run_audit.specs.Audits.{first_draws, may_draw, reply_turns}
use Rattle.run_audit.specs.Rules.{client_reached}
use Rattle.tool_program.specs.JournalWords.Clients.{script_of}
use Rattle.run_auditor.proofs.PlacedClients.{followed_of}
use Rattle.run_auditor.proofs.trace_clients.may_draw.Goals as goal

pub returns-in-Some : goal.returns-in-Some
returns-in-Some c = λ before followed tables.
    let has : script_of c.in-Client.number c.args.plan.now ≡ Some c.in-Some.script.now = search rules in
    IfOk-weaker c.draws_next.result (λ (draws : Bool). draws ≡ first_draws (database c.args.tables.now) (client_reached c.args.plan.now before c.in-Client.number).left) (λ (draws : Bool). draws ≡ may_draw c.args.plan.now before c.args.actor)
    (λ draws is.
    is ∙ ap (λ (reached : Database). first_draws reached (client_reached c.args.plan.now before c.in-Client.number).left) tables ∙ ap (may_draw c.args.plan.now before) (sym c.in-Client.is))
    (c.draws_next.ensures (client_reached c.args.plan.now before c.in-Client.number) (reply_turns c.args.plan.now before c.in-Client.number)
    (followed_of c.args.plan.now before c.in-Client.number c.in-Some.script.now c.args.clients.now.items c.index.result.now has c.requires.count followed c.index.ensures))
