use Rattle.std.proofs.Common.{◌≡◌, ℕ, ◌+◌, false, refl, sym, ap, ◌∙◌}
use Rattle.base_script.specs.declared.actor.Actor.TheVariants.{Client}
use Rattle.run_audit.specs.Rules.{is_astray, next_turn}
use Rattle.run_auditor.proofs.AuditedTurns.{client_ended, client_goes}
use Rattle.run_auditor.proofs.auditing.Auditing.judge_client.Goals as goal

pub returns-in-None-clause-judged : goal.returns-in-None-clause-judged
returns-in-None-clause-judged c = λ before is goes.
    let straight : is_astray c.args.plan.now before c.args.line.now.asked (Client c.args.number) ≡ false = ap (is_astray c.args.plan.now before c.args.line.now.asked) (sym c.requires.actor) ∙ goes in
    let turn : c.next_turn-turn.result ≡ next_turn before = c.next_turn-turn.ensures ∙ ap (λ (n : ℕ). n + 1) is.seen.turns in
    let ends = rw c.in-None.is at (c.in_ok-txn.ensures.judged before is.clients c.requires.actor straight turn) in
    client_goes c.args.plan.now before c.args.line.now c.args.number c.args.self.now _ is c.requires.actor (c.in_ok-txn.ensures.followed before is.clients c.requires.actor straight turn) ends refl

pub returns-in_ok-end-in-Some-clause-judged : goal.returns-in_ok-end-in-Some-clause-judged
returns-in_ok-end-in-Some-clause-judged c = λ before is goes.
    let straight : is_astray c.args.plan.now before c.args.line.now.asked (Client c.args.number) ≡ false = ap (is_astray c.args.plan.now before c.args.line.now.asked) (sym c.requires.actor) ∙ goes in
    let turn : c.next_turn-turn.result ≡ next_turn before = c.next_turn-turn.ensures ∙ ap (λ (n : ℕ). n + 1) is.seen.turns in
    let ends = rw c.in-Some.is at (c.in_ok-txn.ensures.judged before is.clients c.requires.actor straight turn) in
    client_ended c.args.plan.now before c.args.line.now c.args.number _ c.args.self.now _ is c.requires.actor (c.in_ok-txn.ensures.followed before is.clients c.requires.actor straight turn) ends c.in_ok-end-in-Some.ensures.judging c.in_ok-end-in-Some.ensures.sound c.in_ok-end-in-Some.ensures.planned
