use Rattle.std.proofs.Common.{◌≡◌, Bool, true, not, ◌&&◌, sym, ap, ◌∙◌}
use Rattle.run_audit.specs.Rules.{client_asks_next}
use Rattle.run_judge.proofs.DrawnClients.{asks_undrawn, is_reached, undrawn}
use Rattle.run_judge.proofs.trace_client.TraceClient.is_astray.Goals as goal

pub returns-then-not-self : goal.returns-then-not-self
returns-then-not-self c = λ client reached.
    let state = c.args.self.now.state in
    let asks : c.asks_next.result ≡ client_asks_next client c.args.asked =
    c.asks_next.ensures (undrawn c.args.script.now state client) (is_reached c.args.script.now c.args.self.now.drawn state client reached) ∙ asks_undrawn c.args.script.now c.args.self.now.drawn state client c.args.asked reached in
    let lives : not client.is_lost ≡ true = ap not (reached.lost ∙ c.if-not-self.true) in
    ap not asks ∙ sym (ap (λ (b : Bool). b && not (client_asks_next client c.args.asked)) lives)
