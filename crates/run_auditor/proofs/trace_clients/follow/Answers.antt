use Rattle.std.proofs.Common.{rules, ◌≡◌, ℕ, List, Some, false, sym, ap, ◌∙◌, subst}
use Rattle.std.specs.Prelude.{IfOk}
use Rattle.std.proofs.lemmas.Result.{on_ok_weaker}
use Rattle.server_model.specs.Entries.{same_actor}
use Rattle.server_model.proofs.LockedRows.Tests.{same_number}
use Rattle.base_script.specs.declared.actor.Actor.{Actor}
use Rattle.base_script.specs.declared.actor.Actor.TheVariants.{Client}
use Rattle.run_audit.specs.Audits.{Judged, reply_turns}
use Rattle.run_audit.specs.Rules.{client_reached}
use Rattle.tool_program.specs.JournalWords.Clients.{script_of}
use Rattle.run_judge.specs.TraceClients.{AreJudged}
use Rattle.run_auditor.proofs.AuditedTurns.{OwnFollowed, OwnJudged, lost_judged, own_judged}
use Rattle.run_auditor.proofs.PlacedClients.{asks_next_of, followed_of, lost_all, lost_of, own_all}
use Rattle.run_auditor.proofs.trace_clients.follow.Goals as goal

pub returns-then-index-clause-followed : goal.returns-then-index-clause-followed
returns-then-index-clause-followed c = λ before followed actor goes turn.
    lost_all c.args.plan.now before c.args.line.now c.args.number c.args.clients.now.items actor (sym (lost_of c.args.plan.now before c.args.number c.args.clients.now.items c.index.result.now c.requires.known c.requires.count followed c.index.ensures) ∙ c.if-index.true) followed

pub returns-then-index-clause-judged : goal.returns-then-index-clause-judged
returns-then-index-clause-judged c = λ before followed actor goes turn.
    lost_judged c.args.plan.now before c.args.line.now c.args.number (sym (lost_of c.args.plan.now before c.args.number c.args.clients.now.items c.index.result.now c.requires.known c.requires.count followed c.index.ensures) ∙ c.if-index.true)

pub returns-clause-followed : goal.returns-clause-followed
returns-clause-followed c = λ before followed actor goes turn.
    let has : script_of c.args.number c.args.plan.now ≡ Some c.in-Some.script.now = search rules in
    let lives : (client_reached c.args.plan.now before c.args.number).is_lost ≡ false =
    sym (lost_of c.args.plan.now before c.args.number c.args.clients.now.items c.index.result.now c.requires.known c.requires.count followed c.index.ensures) ∙ c.if-index.false in
    on_ok_weaker c.follow.result
    (λ new. own_all c.args.plan.now before c.args.line.now c.args.number c.in-Some.script.now c.args.clients.now.items c.follow.new.self actor has lives new followed)
    (subst (λ (n : ℕ). OwnFollowed c.args.plan.now before c.args.line.now c.args.number c.in-Some.script.now c.follow.new.self c.follow.result n) turn
    (c.follow.ensures.followed (client_reached c.args.plan.now before c.args.number) (reply_turns c.args.plan.now before c.args.number) (followed_of c.args.plan.now before c.args.number c.in-Some.script.now c.args.clients.now.items c.index_mut.result.now has c.requires.count followed c.index_mut.ensures.value)
    (asks_next_of c.args.plan.now before c.args.line.now c.args.number goes lives)))

pub returns-clause-judged : goal.returns-clause-judged
returns-clause-judged c = λ before followed actor goes turn.
    let has : script_of c.args.number c.args.plan.now ≡ Some c.in-Some.script.now = search rules in
    let lives : (client_reached c.args.plan.now before c.args.number).is_lost ≡ false =
    sym (lost_of c.args.plan.now before c.args.number c.args.clients.now.items c.index.result.now c.requires.known c.requires.count followed c.index.ensures) ∙ c.if-index.false in
    subst (λ (items : List Judged). IfOk c.follow.result (AreJudged items))
    (own_judged c.args.plan.now before c.args.line.now c.args.number (ap (λ (one : Actor). same_actor one (Client c.args.number)) actor ∙ same_number c.args.number) lives)
    (subst (λ (n : ℕ). OwnJudged c.args.plan.now before c.args.line.now c.args.number c.follow.result n) turn
    (c.follow.ensures.judged c.args.number (client_reached c.args.plan.now before c.args.number) (reply_turns c.args.plan.now before c.args.number)
    (followed_of c.args.plan.now before c.args.number c.in-Some.script.now c.args.clients.now.items c.index_mut.result.now has c.requires.count followed c.index_mut.ensures.value) (asks_next_of c.args.plan.now before c.args.line.now c.args.number goes lives)))
