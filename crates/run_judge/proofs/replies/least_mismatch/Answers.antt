use Rattle.std.proofs.Common.{sym, ◌∙◌, arith}
use Rattle.run_judge.proofs.ComparedReplies.{reply_agrees, reply_worse}
use Rattle.run_judge.proofs.replies.least_mismatch.Goals as goal
use Rattle.run_judge.proofs.replies.least_mismatch.Goals.{then-not-is_reply_at, else-not-is_reply_at}

pub loop-place-preserved : goal.loop-place-preserved
loop-place-preserved c =
    elim c.if-not-is_reply_at.branch [
      | then-not-is_reply_at w ↦
          reply_worse c.args.given.now c.args.replies.now c.loop-place.place c.index-given-place.result c.loop-place.least c.if-not-is_reply_at.least c.args.worst (omega arith) c.index-given-place.is (sym c.is_reply_at.ensures ∙ w.if-not-is_reply_at.true)
          (w.least-is ∙ w.least_with-least.ensures) c.loop-place.invariant
      | else-not-is_reply_at w ↦
          reply_agrees c.args.given.now c.args.replies.now c.loop-place.place c.index-given-place.result c.loop-place.least c.if-not-is_reply_at.least c.args.worst (omega arith) c.index-given-place.is (sym c.is_reply_at.ensures ∙ w.if-not-is_reply_at.false)
          w.least-is c.loop-place.invariant
    ]
