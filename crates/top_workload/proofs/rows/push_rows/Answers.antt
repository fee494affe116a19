use Rattle.std.proofs.Common.{◌≡◌, ◌+◌, ◌*◌, ◌%◌, ◌++◌, refl, sym, ap, ◌∙◌, append-nil, arith}
use Rattle.std.specs.List.{flat_map, range_with_len}
use Rattle.top_workload.specs.Draws.{next_state, drawn, state_after}
use Rattle.top_workload.specs.Workloads.{row_count, row_line, row_text, rows_text}
use Rattle.top_workload.proofs.States.{one_more}
use Rattle.top_workload.proofs.Lines.{text_more}
use Rattle.top_workload.proofs.rows.push_rows.Goals as goal

pub loop-place-init : goal.loop-place-init
unfolding state_after
loop-place-init c = record { text_is = sym (append-nil c.args.into.now); state_is = refl }

pub loop-place-preserved : goal.loop-place-preserved
loop-place-preserved c = record {
  text_is = text_more (row_text c.args.number) c.args.into.now c.loop-place.into c.push_row.new.into c.loop-place.place c.loop-place.invariant.text_is
      (c.in_ok-push_row.ensures ∙ ap (λ d. c.loop-place.into ++ row_line (2 * (c.loop-place.place + 1)) (d % 1000)) (c.draw.ensures.drawn ∙ ap drawn c.loop-place.invariant.state_is));
  state_is = c.draw.ensures.state ∙ ap next_state c.loop-place.invariant.state_is ∙ sym (one_more c.args.number c.loop-place.place);
}

pub returns : goal.returns
unfolding rows_text
returns c =
    let over : c.loop-place.place ≡ row_count c.args.number = omega (arith, c.loop-place-test.false, c.loop-place.auto.place-end, c.row_count-place-end.ensures) in
    c.loop-place.invariant.text_is ∙ ap (λ n. c.args.into.now ++ flat_map (row_text c.args.number) (range_with_len 0 n)) over
