use Rattle.std.proofs.Common.{Bool, sym, ◌+◌, ◌∙◌, subst}
use Rattle.run_turns.proofs.Holding.{Seeks, one_goes, one_is_held, one_is_idle}
use Rattle.run_turns.proofs.Replicas.{asks_ready}
use Rattle.run_turns.proofs.replica.Replica.is_caught.Goals.{then-is_some+else-not-holds, else-is_some}
use Rattle.run_turns.proofs.replica.Replica.is_caught.Goals as goal

pub returns-then-not-holds : goal.returns-then-not-holds
returns-then-not-holds g c =
    one_goes c.args.run.now.plan c.args.run.now.journal c.args.self.now.held c.loop-place.place c.loop-place.is_someone_ready c.loop-place.invariant c.actor_at.result c.actor_at.ensures
    (sym (asks_ready c.args.run.now.plan c.args.run.now.journal c.actor_at.result c.feed_call-call.result c.feed_call-call.ensures) ∙ sym c.is_some.ensures ∙ c.if-is_some.true)
    (sym (c.holds.ensures c.actor_at.result c.feed_call-call.ensures) ∙ c.if-not-holds.true)

pub loop-place-preserved : goal.loop-place-preserved
loop-place-preserved g c =
    elim c.if-is_some.branch [
      | then-is_some+else-not-holds w ↦ subst (λ (b : Bool). Seeks c.args.run.now.plan c.args.run.now.journal c.args.self.now.held (c.loop-place.place + 1) b) (sym w.is_someone_ready-is)
          (one_is_held c.args.run.now.plan c.args.run.now.journal c.args.self.now.held c.loop-place.place c.loop-place.is_someone_ready c.loop-place.invariant c.actor_at.result c.actor_at.ensures
          (sym (asks_ready c.args.run.now.plan c.args.run.now.journal c.actor_at.result c.feed_call-call.result c.feed_call-call.ensures) ∙ sym c.is_some.ensures ∙ w.if-is_some.true)
          (sym (w.holds.ensures c.actor_at.result c.feed_call-call.ensures) ∙ w.if-not-holds.false))
      | else-is_some w ↦ subst (λ (b : Bool). Seeks c.args.run.now.plan c.args.run.now.journal c.args.self.now.held (c.loop-place.place + 1) b) (sym w.is_someone_ready-is)
          (one_is_idle c.args.run.now.plan c.args.run.now.journal c.args.self.now.held c.loop-place.place c.loop-place.is_someone_ready c.loop-place.invariant c.actor_at.result c.actor_at.ensures
          (sym (asks_ready c.args.run.now.plan c.args.run.now.journal c.actor_at.result c.feed_call-call.result c.feed_call-call.ensures) ∙ sym c.is_some.ensures ∙ w.if-is_some.false))
    ]
