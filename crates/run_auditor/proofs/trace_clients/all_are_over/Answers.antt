use Rattle.std.proofs.Common.{◌≡◌, ◌+◌, true, false, sym, ◌∙◌, arith}
use Rattle.run_audit.specs.Audits.{reply_turns}
use Rattle.run_audit.specs.Rules.{client_reached}
use Rattle.tool_program.specs.JournalWords.Clients.{client_over}
use Rattle.run_auditor.proofs.PlacedClients.{over_end, over_goes, over_stops, placed}
use Rattle.run_auditor.proofs.trace_clients.all_are_over.Goals as goal

pub returns-then-not-is_over : goal.returns-then-not-is_over
returns-then-not-is_over c = λ before followed.
    let within = rw (c.as_slice-scripts.ensures, c.clients.ensures.clients) at c.loop-place-test.true in
    let script = rw (c.as_slice-scripts.ensures, c.clients.ensures.clients) at c.index-scripts-place.is in
    let over : client_over (client_reached c.args.plan.now before (c.loop-place.place + 1)) ≡ false =
    sym (c.is_over.ensures (client_reached c.args.plan.now before (c.loop-place.place + 1)) (reply_turns c.args.plan.now before (c.loop-place.place + 1))
    (placed c.args.plan.now before c.loop-place.place c.index-scripts-place.result c.args.clients.now.items c.index.result.now followed (omega (arith, within)) script c.index.ensures))
    ∙ c.if-not-is_over.true in
    sym (over_stops c.args.plan.now before c.loop-place.place c.index-scripts-place.result (omega (arith, within)) script over) ∙ c.loop-place.invariant before followed

pub loop-place-preserved : goal.loop-place-preserved
loop-place-preserved c = λ before followed.
    let within = rw (c.as_slice-scripts.ensures, c.clients.ensures.clients) at c.loop-place-test.true in
    let script = rw (c.as_slice-scripts.ensures, c.clients.ensures.clients) at c.index-scripts-place.is in
    let over : client_over (client_reached c.args.plan.now before (c.loop-place.place + 1)) ≡ true =
    sym (c.is_over.ensures (client_reached c.args.plan.now before (c.loop-place.place + 1)) (reply_turns c.args.plan.now before (c.loop-place.place + 1))
    (placed c.args.plan.now before c.loop-place.place c.index-scripts-place.result c.args.clients.now.items c.index.result.now followed (omega (arith, within)) script c.index.ensures))
    ∙ c.if-not-is_over.false in
    sym (over_goes c.args.plan.now before c.loop-place.place c.index-scripts-place.result (omega (arith, within)) script over) ∙ c.loop-place.invariant before followed

pub returns : goal.returns
returns c = λ before followed.
    let past = rw (c.as_slice-scripts.ensures, c.clients.ensures.clients) at c.loop-place-test.false in
    sym (over_end c.args.plan.now before c.loop-place.place (omega (arith, past))) ∙ c.loop-place.invariant before followed
