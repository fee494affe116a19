use Rattle.std.proofs.Common.{◌≡◌, ◌+◌, ◌*◌, ◌++◌, codes, refl, sym, ap, ◌∙◌, append-nil, arith}
use Rattle.std.proofs.lemmas.Result.{on_ok_weaker}
use Rattle.top_workload.specs.Draws.{state_after}
use Rattle.top_workload.specs.Workloads.{statement_text, client_line}
use Rattle.top_workload.proofs.States.{following}
use Rattle.top_workload.proofs.Lines.{text_more, client_all}
use Rattle.top_workload.proofs.clients.push_client.Goals as goal

pub loop-line-init : goal.loop-line-init
unfolding state_after
loop-line-init c = record { text_is = c.in_ok-push_str.ensures.ok ∙ sym (append-nil (c.args.into.now ++ codes "\"\"\"\n")); state_is = refl }

pub loop-line-preserved : goal.loop-line-preserved
loop-line-preserved c =
    let next : 2 * c.loop-line._line + 2 ≡ 2 * (c.loop-line._line + 1) = omega arith in
    record {
      text_is = text_more (client_line c.args.rows c.args.draws.now.state) (c.args.into.now ++ codes "\"\"\"\n") c.loop-line.into c.push_drawn.new.into c.loop-line._line c.loop-line.invariant.text_is
          (c.in_ok-push_drawn.ensures.text ∙ ap (λ s. c.loop-line.into ++ statement_text c.args.rows s) c.loop-line.invariant.state_is);
      state_is = c.in_ok-push_drawn.ensures.state ∙ ap (λ s. state_after s 2) c.loop-line.invariant.state_is ∙ following c.args.draws.now.state (2 * c.loop-line._line) 2 ∙ ap (λ n. state_after c.args.draws.now.state n) next;
    }

pub returns-clause-text : goal.returns-clause-text
returns-clause-text c =
    let over : c.loop-line._line ≡ 30 = omega (arith, c.loop-line-test.false, c.loop-line.auto._line-end) in
    on_ok_weaker c.push_str-2.result
    (client_all c.args.rows c.args.draws.now.state c.loop-line._line c.args.into.now c.loop-line.into c.push_str-2.new.self over c.loop-line.invariant.text_is)
    c.push_str-2.ensures.ok
