use Rattle.std.proofs.Common.{◌≡◌, ◌<◌, ℕ, List, length, ap, sym, ◌∙◌, subst}
use Rattle.std.specs.List.{position_or_len}
use Rattle.server_storage.specs.declared.open_txns.txns.OpenTxn.{OpenTxn}
use Rattle.server_storage.proofs.OpenTxns.Changed.{reserved_at, room_at, there_within}
use Rattle.server_storage.proofs.OpenTxns.OpenTxns.{is_of}
use Rattle.server_storage.proofs.open_txns.growth.reserve_in.Goals as goal

pub index_mut-one-requires : goal.index_mut-one-requires
index_mut-one-requires c =
    let place_is : c.place_of-place.result ≡ position_or_len (is_of c.args.session) c.args.txns.now.items = c.place_of-place.ensures ∙ ap (λ (ts : List OpenTxn). position_or_len (is_of c.args.session) ts) c.as_slice.ensures.value in
    subst (λ (n : ℕ). c.place_of-place.result < n) (ap length (sym c.as_slice.ensures.value) ∙ c.as_slice.ensures.len) (there_within c.args.session c.args.txns.now.items c.place_of-place.result place_is c.requires)

pub returns-clause-reserved : goal.returns-clause-reserved
returns-clause-reserved c =
    let place_is : c.place_of-place.result ≡ position_or_len (is_of c.args.session) c.args.txns.now.items = c.place_of-place.ensures ∙ ap (λ (ts : List OpenTxn). position_or_len (is_of c.args.session) ts) c.as_slice.ensures.value in
    reserved_at c.args.session c.args.txns.now.items c.place_of-place.result c.index_mut-one.result.now c.reserve.new.self place_is (there_within c.args.session c.args.txns.now.items c.place_of-place.result place_is c.requires) c.index_mut-one.ensures.value c.reserve.ensures.events c.reserve.ensures.schemas

pub returns-clause-room : goal.returns-clause-room
returns-clause-room c =
    let place_is : c.place_of-place.result ≡ position_or_len (is_of c.args.session) c.args.txns.now.items = c.place_of-place.ensures ∙ ap (λ (ts : List OpenTxn). position_or_len (is_of c.args.session) ts) c.as_slice.ensures.value in
    room_at c.reserve.result c.args.session c.args.writes.now c.args.txns.now.items c.place_of-place.result c.index_mut-one.result.now c.reserve.new.self place_is (there_within c.args.session c.args.txns.now.items c.place_of-place.result place_is c.requires) c.index_mut-one.ensures.value c.reserve.ensures.room
