use Rattle.std.proofs.Common.{◌≡◌, get_or, ap, sym, ◌∙◌, is_some, arith}
use Rattle.std.proofs.lemmas.List.{get_or_default}
use Rattle.server_locks.specs.declared.metadata_locks.request.Waiter.{Waiter}
use Rattle.server_locks.proofs.MetadataLocks.Places.{found, missing}
use Rattle.server_locks.proofs.metadata_locks.waits.place_of.Goals as goal

pub returns-then-waiter-session-clause-place : goal.returns-then-waiter-session-clause-place
returns-then-waiter-session-clause-place c =
    let here : (get_or c.args.waiting.now c.loop-i.i c.index-waiting-i.result).session ≡ c.args.session = ap (λ (w : Waiter). w.session) (sym c.index-waiting-i.is) ∙ c.if-waiter-session.true in
    record {
      within = omega arith;
      own = λ past. ap (λ (w : Waiter). w.session) (get_or_default c.args.waiting.now c.loop-i.i past c.index-waiting-i.result (omega arith)) ∙ here;
      place = λ past. found c.args.session c.args.waiting.now c.loop-i.i past c.index-waiting-i.result (omega arith) here c.loop-i.invariant;
    }

pub returns-clause-place : goal.returns-clause-place
returns-clause-place c = missing c.args.session c.args.waiting.now (λ k d below. c.loop-i.invariant k d (omega arith))

pub returns-then-waiter-session-clause-variant : goal.returns-then-waiter-session-clause-variant
returns-then-waiter-session-clause-variant c =
    let here : (get_or c.args.waiting.now c.loop-i.i c.index-waiting-i.result).session ≡ c.args.session = ap (λ (w : Waiter). w.session) (sym c.index-waiting-i.is) ∙ c.if-waiter-session.true in
    ap is_some (sym (found c.args.session c.args.waiting.now c.loop-i.i c.index-waiting-i.result c.index-waiting-i.result (omega arith) here c.loop-i.invariant))

pub returns-clause-variant : goal.returns-clause-variant
returns-clause-variant c = ap is_some (sym (missing c.args.session c.args.waiting.now (λ k d below. c.loop-i.invariant k d (omega arith))))
