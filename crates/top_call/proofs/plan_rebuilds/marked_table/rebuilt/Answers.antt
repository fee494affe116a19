use Rattle.std.proofs.Common.{◌≡◌, ℕ, List, take, ap, ◌∙◌}
use Rattle.table_store.specs.Databases.{database}
use Rattle.tool_program.specs.EventApplier.Appliers.{events_of}
use Rattle.top_call.specs.Rebuilds.{count_read}
use Rattle.top_call.proofs.MarkedRuns.{found_by, marked_texts, ok_holds}
use Rattle.top_call.proofs.plan_rebuilds.marked_table.rebuilt.Goals as goal

pub returns-in-Ok : goal.returns-in-Ok
returns-in-Ok g c =
    marked_texts c.accepted_marks_are_rebuilt.ensures c.finished_marks_are_rebuilt.ensures c.args.plan.now c.args.logged c.in_ok-count.count (g.V.Serve.state c.args.server) c.in_ok-opening.opening.now.table c.altered.result.now c.in-Ok.events c.rebuilt_table.result
    (found_by (λ table. table.now.table) c.find.result c.in_ok-opening.opening c.table.result.now c.args.plan.now.table (database c.tables.result.now) c.args.plan.now.tables c.find.ensures.table c.in_ok-opening.was c.table.ensures c.tables.ensures) c.altered.ensures
    (ok_holds c.events_at_mark.result (λ count. count_read c.args.plan.now.table c.args.logged (g.V.Serve.state c.args.server) ≡ count) c.in_ok-count.count c.in_ok-count.ensures.value c.events_at_mark.ensures)
    (c.in-Ok.ensures ∙ ap (λ (name : List ℕ). take c.in_ok-count.count (events_of name (g.V.Serve.state c.args.server).log)) c.table-2.ensures) c.rebuilt_table.ensures
