use Rattle.std.proofs.Common.{◌≡◌, ◌<◌, ◌≤◌, List, None, length, sym, ap, ◌∙◌, arith}
use Rattle.std.specs.Prelude.{vec_len}
use Rattle.std.specs.Option.{option_map}
use Rattle.std.specs.List.{position_or_len}
use Rattle.server_storage.specs.declared.open_txns.txns.OpenTxn.{OpenTxn}
use Rattle.server_storage.specs.OpenTxns.Open.{txn_of, others}
use Rattle.server_storage.proofs.OpenTxns.OpenTxns.{is_of, found_there, none_there, taken_others, all_others}
use Rattle.server_storage.proofs.open_txns.txns.take_txn.Goals as goal

pub returns-then-place-len : goal.returns-then-place-len
returns-then-place-len c =
    let txns = c.args.txns.now.items in
    let place_is : c.place_of-place.result ≡ position_or_len (is_of c.args.session) c.args.txns.now.items = c.place_of-place.ensures ∙ ap (λ (ts : List OpenTxn). position_or_len (is_of c.args.session) ts) c.as_slice.ensures.value in
    let many : length c.args.txns.now.items ≡ vec_len c.args.txns.now = ap length (sym c.as_slice.ensures.value) ∙ c.as_slice.ensures.len in
    let within : c.place_of-place.result < length c.args.txns.now.items = omega (arith, many, c.len.ensures, c.if-place-len.true) in
    record {
      txn = sym (ap (option_map (λ (o : OpenTxn). o.txn)) (found_there c.args.session txns c.place_of-place.result c.remove-one.result place_is within c.remove-one.ensures.value));
      others = c.retain_others.ensures ∙ ap (others c.args.session) c.remove-one.ensures.items ∙ taken_others c.args.session txns c.place_of-place.result c.remove-one.result place_is within c.remove-one.ensures.value;
    }

pub returns-else-place-len : goal.returns-else-place-len
returns-else-place-len c =
    let txns = c.args.txns.now.items in
    let place_is : c.place_of-place.result ≡ position_or_len (is_of c.args.session) c.args.txns.now.items = c.place_of-place.ensures ∙ ap (λ (ts : List OpenTxn). position_or_len (is_of c.args.session) ts) c.as_slice.ensures.value in
    let many : length c.args.txns.now.items ≡ vec_len c.args.txns.now = ap length (sym c.as_slice.ensures.value) ∙ c.as_slice.ensures.len in
    let following : length c.args.txns.now.items ≤ c.place_of-place.result = omega (arith, many, c.len.ensures, c.if-place-len.false) in
    let none : txn_of c.args.session c.args.txns.now.items ≡ None = none_there c.args.session txns c.place_of-place.result place_is following in
    record { txn = sym (ap (option_map (λ (o : OpenTxn). o.txn)) none); others = sym (all_others c.args.session txns none) }
