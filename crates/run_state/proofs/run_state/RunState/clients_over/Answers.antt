use Rattle.std.proofs.Common.{rules, ◌≡◌, ◌+◌, ◌<◌, List, length, Some, true, false, sym, ap, ◌∙◌, subst, arith}
use Rattle.std.specs.List.{slice_get}
use Rattle.std.proofs.lemmas.Option.{slice_get-get_or}
use Rattle.base_script.specs.declared.script.ScriptLine.{ScriptLine}
use Rattle.tool_program.specs.JournalWords.Clients.{client_at, client_over}
use Rattle.run_actors.specs.ClientTurns.ActorStates.{IsReached}
use Rattle.run_state.proofs.Clients.{same_count, reached_here, over_stops, over_goes}
use Rattle.run_state.proofs.run_state.RunState.clients_over.Goals as goal

pub returns-then-not-is_over : goal.returns-then-not-is_over
returns-then-not-is_over c =
    let inside : c.loop-index.index < length c.args.self.now.plan.now.clients = search (rules, arith) in
    let is : slice_get c.args.self.now.plan.now.clients c.loop-index.index ≡ Some c.index-scripts-index.result =
    subst (λ (scripts : List (List ScriptLine)). slice_get scripts c.loop-index.index ≡ Some c.index-scripts-index.result) (c.as_slice-scripts.ensures ∙ c.clients.ensures.clients)
    (slice_get-get_or c.as_slice-scripts.result.now c.loop-index.index c.index-scripts-index.result (search (rules, arith)) ∙ ap Some (sym c.index-scripts-index.is)) in
    let count : length c.args.self.now.clients.items ≡ length c.args.self.now.plan.now.clients = same_count c.args.self.now.plan.now c.args.self.now.journal.items 1 c.args.self.now.plan.now.clients c.args.self.now.clients.items c.requires.clients in
    let at : slice_get c.args.self.now.clients.items c.loop-index.index ≡ Some c.index.result.now =
    slice_get-get_or c.args.self.now.clients.items c.loop-index.index c.index.result.now (omega (arith, count, inside)) ∙ ap Some (sym c.index.ensures) in
    let reached : IsReached c.index-scripts-index.result c.index.result.now (client_at c.args.self.now.plan.now c.args.self.now.journal.items (c.loop-index.index + 1)) =
    reached_here c.args.self.now.plan.now c.args.self.now.journal.items c.loop-index.index c.args.self.now.clients.items c.index-scripts-index.result c.index.result.now c.requires.clients is at in
    let over : client_over (client_at c.args.self.now.plan.now c.args.self.now.journal.items (c.loop-index.index + 1)) ≡ false =
    sym (c.is_over.ensures.over (client_at c.args.self.now.plan.now c.args.self.now.journal.items (c.loop-index.index + 1)) reached) ∙ c.if-not-is_over.true in
    sym (over_stops c.args.self.now.plan.now c.args.self.now.journal.items c.loop-index.index c.index-scripts-index.result is over) ∙ c.loop-index.invariant

pub loop-index-preserved : goal.loop-index-preserved
loop-index-preserved c =
    let inside : c.loop-index.index < length c.args.self.now.plan.now.clients = search (rules, arith) in
    let is : slice_get c.args.self.now.plan.now.clients c.loop-index.index ≡ Some c.index-scripts-index.result =
    subst (λ (scripts : List (List ScriptLine)). slice_get scripts c.loop-index.index ≡ Some c.index-scripts-index.result) (c.as_slice-scripts.ensures ∙ c.clients.ensures.clients)
    (slice_get-get_or c.as_slice-scripts.result.now c.loop-index.index c.index-scripts-index.result (search (rules, arith)) ∙ ap Some (sym c.index-scripts-index.is)) in
    let count : length c.args.self.now.clients.items ≡ length c.args.self.now.plan.now.clients = same_count c.args.self.now.plan.now c.args.self.now.journal.items 1 c.args.self.now.plan.now.clients c.args.self.now.clients.items c.requires.clients in
    let at : slice_get c.args.self.now.clients.items c.loop-index.index ≡ Some c.index.result.now =
    slice_get-get_or c.args.self.now.clients.items c.loop-index.index c.index.result.now (omega (arith, count, inside)) ∙ ap Some (sym c.index.ensures) in
    let reached : IsReached c.index-scripts-index.result c.index.result.now (client_at c.args.self.now.plan.now c.args.self.now.journal.items (c.loop-index.index + 1)) =
    reached_here c.args.self.now.plan.now c.args.self.now.journal.items c.loop-index.index c.args.self.now.clients.items c.index-scripts-index.result c.index.result.now c.requires.clients is at in
    let over : client_over (client_at c.args.self.now.plan.now c.args.self.now.journal.items (c.loop-index.index + 1)) ≡ true =
    sym (c.is_over.ensures.over (client_at c.args.self.now.plan.now c.args.self.now.journal.items (c.loop-index.index + 1)) reached) ∙ c.if-not-is_over.false in
    sym (over_goes c.args.self.now.plan.now c.args.self.now.journal.items c.loop-index.index c.index-scripts-index.result is over) ∙ c.loop-index.invariant
