use Rattle.std.proofs.Common.{◌∙◌, ◌-◌, sym, ap, inl, inr, arith}
use Rattle.std.specs.List.{slice_set}
use Rattle.run_actors.specs.declared.client_turns.outcome.LineOutcome.{LineOutcome}
use Rattle.top_report.specs.ClientLines.Walks.{walk_after}
use Rattle.top_report.proofs.ClientLines.Passing.{one_passes, others_stay}
use Rattle.top_report.proofs.client_lines.pasts.pass_client.Goals as goal
use Rattle.top_report.proofs.client_lines.pasts.pass_client.Goals.{else-place-ne0-via-then-place-ne0+else-place-len, else-place-ne0-via-else-place-ne0}

pub returns-then-place-len : goal.returns-then-place-len
returns-then-place-len c =
    let walks = c.args.walks.now.items in
    let walk = c.index_mut-walk.result.now in
    ap (slice_set walks (c.args.client - 1)) (c.take.ensures ∙ ap (λ (outcome : LineOutcome). walk_after outcome walk) c.outcome-outcome.ensures)
    ∙ one_passes walks 1 c.args.client (c.args.client - 1) c.args.entry.now walk c.requires (omega (arith, c.if-place-ne0.true)) (omega (arith, c.if-place-ne0.true, c.if-place-len.true, c.len.ensures)) c.index_mut-walk.ensures.value

pub returns-else-place-ne0 : goal.returns-else-place-ne0
returns-else-place-ne0 c = elim c.else-place-ne0.branch [
  | else-place-ne0-via-then-place-ne0+else-place-len w ↦ sym (others_stay c.args.walks.now.items 1 c.args.client c.args.entry.now c.requires (inr (omega (arith, w.if-place-len.false, w.len.ensures))))
  | else-place-ne0-via-else-place-ne0 w ↦ sym (others_stay c.args.walks.now.items 1 c.args.client c.args.entry.now c.requires (inl (omega (arith, w.if-place-ne0.false))))
]
