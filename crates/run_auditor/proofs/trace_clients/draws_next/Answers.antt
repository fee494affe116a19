use Rattle.std.proofs.Common.{◌≡◌, Bool, List, ap, ◌∙◌}
use Rattle.std.proofs.lemmas.Result.{IfOk-weaker}
use Rattle.base_script.specs.declared.script.ScriptLine.{ScriptLine}
use Rattle.table_store.specs.Databases.{database}
use Rattle.run_audit.specs.Audits.{first_draws}
use Rattle.run_judge.proofs.DrawnClients.{draws_undrawn}
use Rattle.run_auditor.proofs.trace_clients.draws_next.Goals as goal

pub returns : goal.returns
returns c = λ reached turns followed.
    IfOk-weaker c.first_draws.result (λ (draws : Bool). draws ≡ first_draws (database c.args.tables.now) c.left.result.now) (λ (draws : Bool). draws ≡ first_draws (database c.args.tables.now) reached.left)
    (λ draws is.
    is ∙ ap (λ (lines : List ScriptLine). first_draws (database c.args.tables.now) lines) c.left.ensures
    ∙ draws_undrawn c.args.script.now c.args.client.now.drawn c.args.client.now.state reached (database c.args.tables.now) followed.reached)
    c.first_draws.ensures
