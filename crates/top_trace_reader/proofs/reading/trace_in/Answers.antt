use Rattle.std.proofs.Common.{Result, arith, ℕ, subst, sym}
use Rattle.std.proofs.lemmas.Result.{err_from_is_err_and}
use Rattle.base_values.specs.Faults.{Answers}
use Rattle.run_audit.specs.declared.trace.Trace.{Trace}
use Rattle.top_trace_reader.proofs.ReadLines.{goes_on, fails, over}
use Rattle.top_trace_reader.proofs.reading.trace_in.Goals as goal

pub returns-in_err-next : goal.returns-in_err-next
returns-in_err-next c =
    let p = err_from_is_err_and c.from_residual.result c.from_residual.ensures.1 in
    rw (p.1, p.2) (fails c.args.clients c.loop-line.number c.loop-line.reading c.args.lines.now c.loop-line.line-index _ _ c.loop-line-test.true c.in_err-next.field-0.0 c.in_err-next.ensures c.loop-line.invariant.reads)

pub loop-line-preserved : goal.loop-line-preserved
loop-line-preserved c = record {
  reads = goes_on c.args.clients c.loop-line.number c.loop-line.reading c.args.lines.now c.loop-line.line-index _ _ c.loop-line-test.true c.in_ok-next.next c.in_ok-next.ensures c.loop-line.invariant.reads;
  number = omega (arith, c.loop-line.invariant.number);
}

pub returns : goal.returns
returns c =
    subst (λ (said : Result Trace ℕ). Answers (λ (trace : Trace). trace) c.whole.result said)
    (sym (over c.args.clients c.loop-line.number c.loop-line.reading c.args.lines.now c.loop-line.line-index _ c.loop-line-test.false c.loop-line.invariant.reads)) c.whole.ensures
