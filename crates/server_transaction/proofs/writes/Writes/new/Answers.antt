use Rattle.std.proofs.Common.{List, map, ap, ◌∙◌}
use Rattle.base_values.specs.declared.event.Change.{Change}
use Rattle.server_transaction.specs.Ready.{ready_change}
use Rattle.server_transaction.proofs.MadeWrites.{changes_are, made}
use Rattle.server_transaction.proofs.writes.Writes.new.Goals as goal

pub invariant_of-result : goal.invariant_of-result
invariant_of-result c =
    made c.args.schema.now c.in_ok-copy.copy c.args.changes c.key_places.result.now c.in_ok-events.events.items c.in_ok-ready.ready.items c.in_ok-copy.ensures c.key_places.ensures c.in_ok-events.ensures
    (c.in_ok-ready.ensures ∙ ap (λ (cs : List Change). map (ready_change c.key_places.result.now) cs) c.as_slice.ensures)

pub returns-clause-changes : goal.returns-clause-changes
returns-clause-changes c = changes_are c.args.schema.now.name c.args.changes c.in_ok-events.events.items c.in_ok-events.ensures
