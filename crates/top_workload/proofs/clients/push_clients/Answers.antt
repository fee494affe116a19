use Rattle.std.proofs.Common.{◌≡◌, ◌+◌, ◌*◌, ◌++◌, ap, ◌∙◌, arith}
use Rattle.std.specs.List.{flat_map, range_with_len}
use Rattle.top_workload.specs.Draws.{state_after}
use Rattle.top_workload.specs.Workloads.{row_count, client_count, client_text, client_at, clients_text}
use Rattle.top_workload.proofs.States.{following}
use Rattle.top_workload.proofs.Lines.{text_more}
use Rattle.top_workload.proofs.clients.push_clients.Goals as goal

pub loop-client-preserved : goal.loop-client-preserved
loop-client-preserved c =
    let next : row_count c.args.number + 60 * c.loop-client._client + 60 ≡ row_count c.args.number + 60 * (c.loop-client._client + 1) = omega arith in
    record {
      text_is = text_more (client_at c.args.number) c.args.into.now c.loop-client.into c.push_client.new.into c.loop-client._client c.loop-client.invariant.text_is
          (c.in_ok-push_client.ensures.text ∙ ap (λ r. c.loop-client.into ++ client_text r c.loop-client.draws.state) c.row_count-rows.ensures
          ∙ ap (λ s. c.loop-client.into ++ client_text (row_count c.args.number) s) c.loop-client.invariant.state_is);
      state_is = c.in_ok-push_client.ensures.state ∙ ap (λ s. state_after s 60) c.loop-client.invariant.state_is
          ∙ following c.args.number (row_count c.args.number + 60 * c.loop-client._client) 60 ∙ ap (λ n. state_after c.args.number n) next;
    }

pub returns : goal.returns
unfolding clients_text
returns c =
    let over : c.loop-client._client ≡ client_count c.args.number = omega (arith, c.loop-client-test.false, c.loop-client.auto._client-end, c.client_count-client-end.ensures) in
    c.loop-client.invariant.text_is ∙ ap (λ n. c.args.into.now ++ flat_map (client_at c.args.number) (range_with_len 0 n)) over
