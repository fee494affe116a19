use Rattle.std.proofs.Common.{◌≡◌, ◌<◌, ℕ, List, length, ap, sym, ◌∙◌, subst}
use Rattle.std.specs.List.{position_or_len}
use Rattle.server_storage.specs.declared.open_txns.txns.OpenTxn.{OpenTxn}
use Rattle.server_storage.specs.OpenTxns.Open.{Takes}
use Rattle.server_storage.proofs.OpenTxns.Changed.{takes_at, takes_some, there_within, written_at}
use Rattle.server_storage.proofs.OpenTxns.OpenTxns.{is_of}
use Rattle.server_storage.proofs.open_txns.growth.write_in.Goals as goal

pub index_mut-one-requires : goal.index_mut-one-requires
index_mut-one-requires c =
    let place_is : c.place_of-place.result ≡ position_or_len (is_of c.args.session) c.args.txns.now.items = c.place_of-place.ensures ∙ ap (λ (ts : List OpenTxn). position_or_len (is_of c.args.session) ts) c.as_slice.ensures.value in
    subst (λ (n : ℕ). c.place_of-place.result < n) (ap length (sym c.as_slice.ensures.value) ∙ c.as_slice.ensures.len)
    (there_within c.args.session c.args.txns.now.items c.place_of-place.result place_is (takes_some c.args.session c.args.writes c.args.txns.now.items c.requires))

pub write-requires : goal.write-requires
write-requires c =
    let place_is : c.place_of-place.result ≡ position_or_len (is_of c.args.session) c.args.txns.now.items = c.place_of-place.ensures ∙ ap (λ (ts : List OpenTxn). position_or_len (is_of c.args.session) ts) c.as_slice.ensures.value in
    let within = there_within c.args.session c.args.txns.now.items c.place_of-place.result place_is (takes_some c.args.session c.args.writes c.args.txns.now.items c.requires) in
    let takes : Takes c.args.writes c.index_mut-one.result.now.txn = takes_at c.args.session c.args.writes c.args.txns.now.items c.place_of-place.result c.index_mut-one.result.now place_is within c.index_mut-one.ensures.value c.requires in
    record { room = takes.room; schema = takes.schema }

pub returns : goal.returns
returns c =
    let place_is : c.place_of-place.result ≡ position_or_len (is_of c.args.session) c.args.txns.now.items = c.place_of-place.ensures ∙ ap (λ (ts : List OpenTxn). position_or_len (is_of c.args.session) ts) c.as_slice.ensures.value in
    written_at c.args.session c.args.writes c.args.txns.now.items c.place_of-place.result c.index_mut-one.result.now c.write.new.self place_is
    (there_within c.args.session c.args.txns.now.items c.place_of-place.result place_is (takes_some c.args.session c.args.writes c.args.txns.now.items c.requires)) c.index_mut-one.ensures.value c.write.ensures.events c.write.ensures.schemas
