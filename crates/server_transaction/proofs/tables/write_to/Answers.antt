use Rattle.std.proofs.Common.{◌≡◌, ◌<◌, ◌≤◌, ◌+◌, ◌-◌, List, length, sym, ap, ◌∙◌, subst, arith}
use Rattle.std.specs.Prelude.{vec_len, vec_capacity}
use Rattle.std.specs.List.{AllByRecursion, position_or_len}
use Rattle.base_values.specs.declared.gho_schema.schema.Schema.{Schema}
use Rattle.base_values.specs.GhoSchema.Rows.{key_places}
use Rattle.server_seen.specs.Stored.{StoredWrites}
use Rattle.server_transaction.specs.Ready.{IsReady}
use Rattle.server_transaction.specs.Stored.{HasFresh, IsFresh}
use Rattle.server_transaction.proofs.WrittenTables.{named, IsRoomy, roomy, wrote_there, fresh_after, wrote_after}
use Rattle.server_transaction.proofs.tables.write_to.Goals as goal

pub write_each-requires : goal.write_each-requires
write_each-requires c =
    let place_is : c.place_of-place.result ≡ position_or_len (named c.args.schema.now.name) c.args.tables.now.items =
    c.place_of-place.ensures ∙ ap (λ (ts : List StoredWrites). position_or_len (named c.args.schema.now.name) ts) c.as_slice.ensures.value in
    let many : length c.args.tables.now.items ≡ vec_len c.args.tables.now = ap length (sym c.as_slice.ensures.value) ∙ c.as_slice.ensures.len in
    let within : c.place_of-place.result < length c.args.tables.now.items = omega (arith, many, c.len.ensures, c.if-place-len.true) in
    let roomy_is : IsRoomy (length c.args.ready.items + length c.args.ready.items) c.args.schema.now c.index_mut-table.result.now =
    roomy (length c.args.ready.items + length c.args.ready.items) c.args.schema.now c.args.tables.now.items c.args.fresh.now (vec_capacity c.args.tables.now - vec_len c.args.tables.now) c.place_of-place.result c.index_mut-table.result.now place_is within c.index_mut-table.ensures.value c.requires.schema c.requires.room in
    record {
      ready = subst (λ (s : Schema). AllByRecursion (IsReady (key_places s)) c.args.ready.items) (sym roomy_is.same) c.requires.ready;
      room = roomy_is.room;
      key_room = c.requires.key_room;
    }

pub returns-then-place-len-clause-tables : goal.returns-then-place-len-clause-tables
returns-then-place-len-clause-tables c =
    let place_is : c.place_of-place.result ≡ position_or_len (named c.args.schema.now.name) c.args.tables.now.items =
    c.place_of-place.ensures ∙ ap (λ (ts : List StoredWrites). position_or_len (named c.args.schema.now.name) ts) c.as_slice.ensures.value in
    let many : length c.args.tables.now.items ≡ vec_len c.args.tables.now = ap length (sym c.as_slice.ensures.value) ∙ c.as_slice.ensures.len in
    let within : c.place_of-place.result < length c.args.tables.now.items = omega (arith, many, c.len.ensures, c.if-place-len.true) in
    let roomy_is : IsRoomy (length c.args.ready.items + length c.args.ready.items) c.args.schema.now c.index_mut-table.result.now =
    roomy (length c.args.ready.items + length c.args.ready.items) c.args.schema.now c.args.tables.now.items c.args.fresh.now (vec_capacity c.args.tables.now - vec_len c.args.tables.now) c.place_of-place.result c.index_mut-table.result.now place_is within c.index_mut-table.ensures.value c.requires.schema c.requires.room in
    wrote_there c.args.schema.now c.args.ready.items c.args.tables.now.items c.place_of-place.result c.index_mut-table.result.now c.write_each.new.written place_is within c.index_mut-table.ensures.value roomy_is.same c.write_each.ensures.schema c.write_each.ensures.written

pub write_each-requires-in-Some : goal.write_each-requires-in-Some
write_each-requires-in-Some c =
    let place_is : c.place_of-place.result ≡ position_or_len (named c.args.schema.now.name) c.args.tables.now.items =
    c.place_of-place.ensures ∙ ap (λ (ts : List StoredWrites). position_or_len (named c.args.schema.now.name) ts) c.as_slice.ensures.value in
    let many : length c.args.tables.now.items ≡ vec_len c.args.tables.now = ap length (sym c.as_slice.ensures.value) ∙ c.as_slice.ensures.len in
    let following : length c.args.tables.now.items ≤ c.place_of-place.result = omega (arith, many, c.len.ensures, c.if-place-len.false) in
    let has : (1 ≤ vec_capacity c.args.tables.now - vec_len c.args.tables.now) × HasFresh (length c.args.ready.items + length c.args.ready.items) c.args.schema.now c.args.fresh.now =
    fresh_after (length c.args.ready.items + length c.args.ready.items) c.args.schema.now c.args.tables.now.items c.args.fresh.now (vec_capacity c.args.tables.now - vec_len c.args.tables.now) c.place_of-place.result place_is following c.requires.room in
    let fresh : IsFresh (length c.args.ready.items + length c.args.ready.items) c.args.schema.now c.in-Some.table = subst (HasFresh (length c.args.ready.items + length c.args.ready.items) c.args.schema.now) (sym c.take-taken.ensures.value ∙ c.in-Some.is) has.1 in
    record {
      ready = subst (λ (s : Schema). AllByRecursion (IsReady (key_places s)) c.args.ready.items) (sym fresh.same) c.requires.ready;
      room = fresh.room;
      key_room = c.requires.key_room;
    }

pub push_reserved-requires : goal.push_reserved-requires
push_reserved-requires c =
    let place_is : c.place_of-place.result ≡ position_or_len (named c.args.schema.now.name) c.args.tables.now.items =
    c.place_of-place.ensures ∙ ap (λ (ts : List StoredWrites). position_or_len (named c.args.schema.now.name) ts) c.as_slice.ensures.value in
    let many : length c.args.tables.now.items ≡ vec_len c.args.tables.now = ap length (sym c.as_slice.ensures.value) ∙ c.as_slice.ensures.len in
    let following : length c.args.tables.now.items ≤ c.place_of-place.result = omega (arith, many, c.len.ensures, c.if-place-len.false) in
    let has : (1 ≤ vec_capacity c.args.tables.now - vec_len c.args.tables.now) × HasFresh (length c.args.ready.items + length c.args.ready.items) c.args.schema.now c.args.fresh.now =
    fresh_after (length c.args.ready.items + length c.args.ready.items) c.args.schema.now c.args.tables.now.items c.args.fresh.now (vec_capacity c.args.tables.now - vec_len c.args.tables.now) c.place_of-place.result place_is following c.requires.room in
    let room : 1 ≤ vec_capacity c.args.tables.now - vec_len c.args.tables.now = has.0 in
    omega (arith, room)

pub unreachable-requires : goal.unreachable-requires
unreachable-requires c =
    let place_is : c.place_of-place.result ≡ position_or_len (named c.args.schema.now.name) c.args.tables.now.items =
    c.place_of-place.ensures ∙ ap (λ (ts : List StoredWrites). position_or_len (named c.args.schema.now.name) ts) c.as_slice.ensures.value in
    let many : length c.args.tables.now.items ≡ vec_len c.args.tables.now = ap length (sym c.as_slice.ensures.value) ∙ c.as_slice.ensures.len in
    let following : length c.args.tables.now.items ≤ c.place_of-place.result = omega (arith, many, c.len.ensures, c.if-place-len.false) in
    let has : (1 ≤ vec_capacity c.args.tables.now - vec_len c.args.tables.now) × HasFresh (length c.args.ready.items + length c.args.ready.items) c.args.schema.now c.args.fresh.now =
    fresh_after (length c.args.ready.items + length c.args.ready.items) c.args.schema.now c.args.tables.now.items c.args.fresh.now (vec_capacity c.args.tables.now - vec_len c.args.tables.now) c.place_of-place.result place_is following c.requires.room in
    absurd (subst (HasFresh (length c.args.ready.items + length c.args.ready.items) c.args.schema.now) (sym c.take-taken.ensures.value ∙ c.in-None.is) has.1)

pub returns-in-Some-clause-tables : goal.returns-in-Some-clause-tables
returns-in-Some-clause-tables c =
    let place_is : c.place_of-place.result ≡ position_or_len (named c.args.schema.now.name) c.args.tables.now.items =
    c.place_of-place.ensures ∙ ap (λ (ts : List StoredWrites). position_or_len (named c.args.schema.now.name) ts) c.as_slice.ensures.value in
    let many : length c.args.tables.now.items ≡ vec_len c.args.tables.now = ap length (sym c.as_slice.ensures.value) ∙ c.as_slice.ensures.len in
    let following : length c.args.tables.now.items ≤ c.place_of-place.result = omega (arith, many, c.len.ensures, c.if-place-len.false) in
    let has : (1 ≤ vec_capacity c.args.tables.now - vec_len c.args.tables.now) × HasFresh (length c.args.ready.items + length c.args.ready.items) c.args.schema.now c.args.fresh.now =
    fresh_after (length c.args.ready.items + length c.args.ready.items) c.args.schema.now c.args.tables.now.items c.args.fresh.now (vec_capacity c.args.tables.now - vec_len c.args.tables.now) c.place_of-place.result place_is following c.requires.room in
    let fresh : IsFresh (length c.args.ready.items + length c.args.ready.items) c.args.schema.now c.in-Some.table = subst (HasFresh (length c.args.ready.items + length c.args.ready.items) c.args.schema.now) (sym c.take-taken.ensures.value ∙ c.in-Some.is) has.1 in
    rw c.push_reserved.ensures.items
    (wrote_after (length c.args.ready.items + length c.args.ready.items) c.args.schema.now c.args.ready.items c.args.tables.now.items c.place_of-place.result c.in-Some.table c.write_each-in-Some.new.written place_is following fresh c.write_each-in-Some.ensures.schema c.write_each-in-Some.ensures.written)
