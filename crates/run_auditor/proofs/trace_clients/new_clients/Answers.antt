use Rattle.std.proofs.Common.{◌≡◌, List, length, sym, ap, subst, arith}
use Rattle.std.specs.List.{AllByRecursion}
use Rattle.std.proofs.lemmas.Bool.Decides.{nat_tests}
use Rattle.base_script.specs.declared.script.ScriptLine.{ScriptLine}
use Rattle.run_auditor.proofs.PlacedClients.{IsNew, count_more, new_all, new_more}
use Rattle.run_auditor.proofs.trace_clients.new_clients.Goals as goal

pub loop-place-preserved : goal.loop-place-preserved
loop-place-preserved c = record {
  count = count_more c.loop-place.clients.items _ _ c.loop-place._place c.in_ok-push.ensures.items c.loop-place.invariant.count;
  new = subst (AllByRecursion IsNew) (sym c.in_ok-push.ensures.items) (new_more _ _ c.loop-place.invariant.new c.new.ensures);
}

pub returns : goal.returns
returns c =
    let scripts : length c.clients.result.now ≡ length c.args.plan.now.clients = ap (λ (all : List (List ScriptLine)). length all) c.clients.ensures.clients in
    new_all c.args.plan.now _ (grind (arith, nat_tests, scripts, c.loop-place.invariant.count, c.loop-place-test.false)) c.loop-place.invariant.new
