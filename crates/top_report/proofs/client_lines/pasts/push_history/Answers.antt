use Rattle.std.proofs.Common.{ℕ, List, ◌++◌, map, ap, ◌∙◌}
use Rattle.base_script.specs.declared.script.ScriptLine.{ScriptLine}
use Rattle.run_actors.specs.Renamings.{renaming_after}
use Rattle.top_report.specs.ClientLines.Walks.{Walk, client_added, new_walk, walk_at}
use Rattle.top_report.proofs.ClientLines.Ending.{begins, next}
use Rattle.top_report.proofs.client_lines.pasts.push_history.Goals as goal

pub loop-entry-init : goal.loop-entry-init
loop-entry-init c =
    begins c.args.plan.now c.in_ok-walks.walks.items c.nobody-renaming.result c.args.into.now
    (c.in_ok-walks.ensures ∙ ap (λ (scripts : List (List ScriptLine)). map new_walk scripts) (c.as_slice.ensures ∙ c.clients.ensures.clients)) c.nobody-renaming.ensures

pub loop-entry-preserved : goal.loop-entry-preserved
loop-entry-preserved c =
    next c.args.plan.now c.args.journal.now c.loop-entry.entry-index c.entry-item.result c.loop-entry.walks.items c.pass.new.walks.items c.loop-entry.renaming c.pass-in-loop-entry.new.self c.args.into.now c.loop-entry.into c.push_added.new.into
    c.loop-entry-test.true c.entry-item.is
    (λ number is. c.in_ok-push_added.ensures.client number is ∙ ap (λ (walks : List Walk). c.loop-entry.into ++ client_added number (walk_at number walks) c.entry-item.result) c.as_slice-in-loop-entry.ensures.value)
    c.in_ok-push_added.ensures.tool c.pass.ensures
    (c.pass-in-loop-entry.ensures ∙ ap (λ (table : List ℕ). renaming_after table c.entry-item.result c.loop-entry.renaming) c.table.ensures) c.loop-entry.invariant
