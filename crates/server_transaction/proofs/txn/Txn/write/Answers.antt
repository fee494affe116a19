use Rattle.std.proofs.Common.{◌-◌, ◌+◌, ◌++◌, ℕ, List, map, sym, ap, ◌∙◌, subst, arith}
use Rattle.std.specs.Prelude.{vec_len, vec_capacity}
use Rattle.std.proofs.lemmas.List.{length-map}
use Rattle.base_values.specs.GhoSchema.Rows.{key_places}
use Rattle.base_values.specs.declared.event.RowEvent.{RowEvent}
use Rattle.server_transaction.specs.Shown.{find_writes}
use Rattle.server_transaction.specs.Stored.{HasRoomFor}
use Rattle.server_transaction.proofs.ReadyChanges.{all_ready}
use Rattle.server_transaction.proofs.WrittenTxns.{as_many, written_txn}
use Rattle.server_transaction.proofs.txn.Txn.write.Goals as goal

pub write_to-requires : goal.write_to-requires
write_to-requires c =
    let changes = map (λ (event : RowEvent). event.change) c.writes.inside.events.items in
    let many = as_many c.writes.inside.schema changes c.writes.inside.ready.items c.writes.invariant.ready_are in
    let room = rw (← c.writes.view_is, ← c.self.view_is) at c.requires.room.table in
    let events = rw (← c.writes.view_is, ← c.self.view_is) at c.requires.room.events in
    record {
      ready = all_ready (key_places c.writes.inside.schema) changes c.writes.inside.ready.items c.writes.invariant.ready_are;
      schema = rw (← c.writes.view_is, ← c.self.view_is) at c.requires.schema;
      room = subst (λ (n : ℕ). HasRoomFor (n + n) c.writes.inside.schema (find_writes c.writes.inside.schema.name c.self.inside.tables.items) c.self.inside.fresh (vec_capacity c.self.inside.tables - vec_len c.self.inside.tables)) (sym many) room;
      key_room = omega (arith, events, many);
    }

pub append-requires : goal.append-requires
append-requires c =
    let has = rw (← c.writes.view_is, ← c.self.view_is) at c.requires.room.events in
    let same = length-map c.writes.inside.events.items (λ (event : RowEvent). event.change) in
    omega (arith, has, same)

pub invariant_of-self : goal.invariant_of-self
invariant_of-self c =
    written_txn c.writes.inside.schema c.writes.inside.ready.items c.self.inside.tables.items c.write_to.new.tables.items c.self.inside.events.items c.writes.inside.events.items c.append.new.items.items c.self.inside.gone.items c.write_to.new.keys.items
    (map (λ (event : RowEvent). event.change) c.writes.inside.events.items) c.self.invariant c.write_to.ensures.tables c.writes.invariant.events_are c.writes.invariant.ready_are c.append.ensures c.write_to.ensures.keys (rw (← c.writes.view_is, ← c.self.view_is) at c.requires.schema)

pub returns-clause-events : goal.returns-clause-events
returns-clause-events c = rw (← c.self.view_is, ← c.writes.view_is) (c.append.ensures ∙ ap (λ (es : List RowEvent). c.self.inside.events.items ++ es) c.writes.invariant.events_are)

pub returns-clause-schemas : goal.returns-clause-schemas
returns-clause-schemas c = rw (← c.self.view_is, ← c.writes.view_is) c.write_to.ensures.tables.schemas_are
