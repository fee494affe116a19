use Rattle.std.proofs.Common.{◌≡◌, ℕ, refl, ap, ◌∙◌}
use Rattle.std.specs.Prelude.{nat_lt}
use Rattle.server_model.specs.States.{State, unread}
use Rattle.plan_data.specs.declared.options.Options.{Options}
use Rattle.plan_data.specs.PlanData.{PlanData}
use Rattle.tool_program.specs.Feeds.{lag}
use Rattle.tool_program.specs.JournalWords.Journals.{state_at}
use Rattle.run_turns.proofs.Replicas.{lag_is}
use Rattle.run_turns.proofs.replica.Replica.lags.Goals as goal

pub returns : goal.returns
returns g c =
    let most : c.options.result.max_lag ≡ c.args.run.now.plan.options.max_lag = ap (λ (o : Options). o.max_lag) c.options.ensures ∙ ap (λ (p : PlanData). p.options.max_lag) c.plan.ensures in
    let behind : c.unread.result ≡ lag c.args.run.now.plan (state_at c.args.run.now.plan c.args.run.now.journal) c.args.self.now.held =
    c.unread.ensures ∙ ap (λ (s : State). unread s c.args.self.now.held c.args.self.now.log) c.server.ensures.server
    ∙ lag_is c.args.run.now.plan (state_at c.args.run.now.plan c.args.run.now.journal) c.args.run.now.server c.args.self.now.held c.args.self.now.log c.args.self.now c.requires refl c.server.ensures.following in
    ap (λ (n : ℕ). nat_lt n c.unread.result) (c.from.ensures ∙ most) ∙ ap (nat_lt c.args.run.now.plan.options.max_lag) behind
