use Rattle.std.proofs.Common.{◌≡◌, ◌<◌, ◌≤◌, ◌-◌, List, length, sym, ap, ◌∙◌, arith}
use Rattle.std.specs.Prelude.{vec_len, vec_capacity}
use Rattle.std.specs.List.{position_or_len}
use Rattle.server_seen.specs.Stored.{StoredWrites}
use Rattle.server_transaction.proofs.WrittenTables.{named, plain_there, room_there, room_one}
use Rattle.server_transaction.proofs.tables.reserve_for.Goals as goal

pub returns-then-place-len-clause-plain : goal.returns-then-place-len-clause-plain
returns-then-place-len-clause-plain c =
    plain_there c.args.tables.now.items c.place_of-place.result c.index_mut-table.result.now c.reserve.new.self c.index_mut-table.ensures.value c.reserve.ensures.schema c.reserve.ensures.written

pub returns-then-place-len-clause-room : goal.returns-then-place-len-clause-room
returns-then-place-len-clause-room c =
    let place_is : c.place_of-place.result ≡ position_or_len (named c.args.schema.now.name) c.args.tables.now.items =
    c.place_of-place.ensures ∙ ap (λ (ts : List StoredWrites). position_or_len (named c.args.schema.now.name) ts) c.as_slice.ensures.value in
    let many : length c.args.tables.now.items ≡ vec_len c.args.tables.now = ap length (sym c.as_slice.ensures.value) ∙ c.as_slice.ensures.len in
    let within : c.place_of-place.result < length c.args.tables.now.items = omega (arith, many, c.len.ensures, c.if-place-len.true) in
    room_there c.reserve.result c.args.schema.now c.args.tables.now.items c.args.fresh.now c.args.n _ c.place_of-place.result c.index_mut-table.result.now c.reserve.new.self place_is within c.index_mut-table.ensures.value c.reserve.ensures.schema c.reserve.ensures.ok

pub returns-in_ok-rows-clause-room : goal.returns-in_ok-rows-clause-room
returns-in_ok-rows-clause-room c =
    let place_is : c.place_of-place.result ≡ position_or_len (named c.args.schema.now.name) c.args.tables.now.items =
    c.place_of-place.ensures ∙ ap (λ (ts : List StoredWrites). position_or_len (named c.args.schema.now.name) ts) c.as_slice.ensures.value in
    let many : length c.args.tables.now.items ≡ vec_len c.args.tables.now = ap length (sym c.as_slice.ensures.value) ∙ c.as_slice.ensures.len in
    let following : length c.args.tables.now.items ≤ c.place_of-place.result = omega (arith, many, c.len.ensures, c.if-place-len.false) in
    room_one c.reserve_one.result c.args.schema.now c.args.tables.now.items c.reserve_one.new.tables.items c.in_ok-rows.rows c.args.n (vec_capacity c.reserve_one.new.tables - vec_len c.reserve_one.new.tables) c.place_of-place.result place_is following c.reserve_one.ensures.items c.in_ok-rows.ensures c.reserve_one.ensures.room
