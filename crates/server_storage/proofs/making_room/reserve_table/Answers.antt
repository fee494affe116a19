use Rattle.std.proofs.Common.{◌≤◌, ◌+◌, length, sym, subst, arith}
use Rattle.std.proofs.lemmas.Result.{on_ok_weaker}
use Rattle.table_store.specs.Databases.{Database, spare_in}
use Rattle.server_transaction.specs.Premises.{HasSchema}
use Rattle.server_storage.specs.KeptTxns.Kept.{IsKept}
use Rattle.server_storage.proofs.KeptTxns.Grown.{making_room_keeps, room_makes_ready}
use Rattle.server_storage.proofs.making_room.reserve_table.Goals as goal

pub returns-clause-ready : goal.returns-clause-ready
returns-clause-ready c =
    let kept : IsKept c.reserve_in.new.self c.args.txns.now = making_room_keeps c.table.result.now c.args.tables.now c.reserve_in.new.self c.args.txns.now c.requires.kept c.reserve_in.ensures.tables c.reserve_in.ensures.spare c.reserve_in.ensures.others in
    let has = subst (λ (db : Database). HasSchema db c.args.writes.now.schema) (sym c.reserve_in.ensures.tables) c.requires.has in
    on_ok_weaker c.reserve_in.result
    (λ room number some own.
    let here = rw c.table.ensures at room in
    let enough : c.in-Some.open + length c.args.writes.now.changes ≤ spare_in c.args.writes.now.schema.name c.reserve_in.new.self = omega (arith, here, c.in-Some-checked_add.ensures, c.len.ensures) in
    room_makes_ready c.reserve_in.new.self c.args.txns.now number c.in-Some.open c.args.writes.now kept some own has c.requires.some c.in-Some.ensures enough) c.reserve_in.ensures.ok

pub returns-clause-kept : goal.returns-clause-kept
returns-clause-kept c =
    making_room_keeps c.table.result.now c.args.tables.now c.reserve_in.new.self c.args.txns.now c.requires.kept c.reserve_in.ensures.tables c.reserve_in.ensures.spare c.reserve_in.ensures.others
