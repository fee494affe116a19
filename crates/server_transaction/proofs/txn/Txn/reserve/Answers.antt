use Rattle.std.proofs.Common.{◌-◌, ◌+◌, ℕ, length, refl, subst, arith}
use Rattle.std.specs.Prelude.{vec_len, vec_capacity}
use Rattle.std.proofs.lemmas.Result.{on_ok_weaker}
use Rattle.base_values.specs.declared.gho_schema.schema.Schema.{Schema}
use Rattle.server_transaction.specs.Shown.{find_writes}
use Rattle.server_transaction.specs.Stored.{HasRoomFor}
use Rattle.server_transaction.proofs.WrittenTxns.{alike_txn, alike_schemas}
use Rattle.server_transaction.proofs.txn.Txn.reserve.Goals as goal

pub invariant_of-self : goal.invariant_of-self
invariant_of-self c = alike_txn c.self.inside.tables.items c.self.inside.tables.items c.self.inside.events.items c.make_room.new.items.items c.self.inside.gone.items c.self.inside.gone.items refl c.make_room.ensures.items refl c.self.invariant

pub invariant_of-self-in_err-make_room-2 : goal.invariant_of-self-in_err-make_room-2
invariant_of-self-in_err-make_room-2 c =
    alike_txn c.self.inside.tables.items c.self.inside.tables.items c.self.inside.events.items c.make_room.new.items.items c.self.inside.gone.items c.make_room-2.new.items.items refl c.make_room.ensures.items c.make_room-2.ensures.items c.self.invariant

pub invariant_of-self-in_default : goal.invariant_of-self-in_default
invariant_of-self-in_default c =
    alike_txn c.self.inside.tables.items c.self.inside.tables.items c.self.inside.events.items c.make_room.new.items.items c.self.inside.gone.items c.make_room-2.new.items.items refl c.make_room.ensures.items c.make_room-2.ensures.items c.self.invariant

pub invariant_of-self-2 : goal.invariant_of-self-2
invariant_of-self-2 c =
    alike_txn c.self.inside.tables.items c.reserve_for.new.tables.items c.self.inside.events.items c.make_room.new.items.items c.self.inside.gone.items c.make_room-2.new.items.items c.reserve_for.ensures.plain c.make_room.ensures.items c.make_room-2.ensures.items c.self.invariant

pub returns-clause-schemas : goal.returns-clause-schemas
returns-clause-schemas c = rw (← c.self.view_is) (alike_schemas c.self.inside.tables.items c.reserve_for.new.tables.items c.reserve_for.ensures.plain)

pub returns-clause-room : goal.returns-clause-room
returns-clause-room c =
    let room = vec_capacity c.reserve_for.new.tables - vec_len c.reserve_for.new.tables in
    on_ok_weaker c.reserve_for.result
    (λ has. record {
      events = omega (arith, c.in_ok-make_room.ensures.room, c.in_ok-make_room-2.ensures.room, c.len.ensures, c.len-2.ensures);
      table = subst (λ (s : Schema). HasRoomFor (length c.args.writes.now.changes + length c.args.writes.now.changes) s (find_writes s.name c.reserve_for.new.tables.items) c.reserve_for.new.fresh room) c.schema.ensures
          (subst (λ (n : ℕ). HasRoomFor n c.schema.result.now (find_writes c.schema.result.now.name c.reserve_for.new.tables.items) c.reserve_for.new.fresh room) c.in-Some.ensures has);
    }) c.reserve_for.ensures.room
