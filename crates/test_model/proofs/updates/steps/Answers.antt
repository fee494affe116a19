use Rattle.std.proofs.Common.{◌≡◌, drop, List, [], subst}
use Rattle.std.proofs.lemmas.List.{at_drop_all}
use Rattle.table_store.proofs.Orders.{Row}
use Rattle.server_model.specs.StatementResults.{updates}
use Rattle.test_model.specs.RowUpdates.{changes_after}
use Rattle.test_model.proofs.updates.steps.Goals as goal

pub returns : goal.returns
returns c =
    let schema = c.args.schema.now in
    let sets = c.args.sets.now in
    let end : drop c.loop-old.old-index c.args.met.now ≡ [] = at_drop_all (λ (rows : List Row). rows) c.args.met.now c.loop-old.old-index c.loop-old-test.false in
    subst (λ (left : List Row). changes_after c.loop-old.going.changes (updates schema sets left c.loop-old.going.rows) ≡ changes_after c.args.going.now.changes (updates schema sets c.args.met.now c.args.going.now.rows)) end c.loop-old.invariant
