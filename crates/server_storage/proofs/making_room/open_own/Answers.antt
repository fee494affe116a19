use Rattle.std.proofs.Common.{◌≡◌, List, None, ap, ◌∙◌}
use Rattle.std.specs.Prelude.{is_some}
use Rattle.server_storage.specs.declared.open_txns.txns.OpenTxn.{OpenTxn}
use Rattle.server_storage.specs.OpenTxns.Open.{txn_of}
use Rattle.server_storage.proofs.KeptTxns.Grown.{opened_some, opening_keeps}
use Rattle.server_storage.proofs.Outcomes.{none_there}
use Rattle.server_storage.proofs.making_room.open_own.Goals as goal

pub returns-clause-own : goal.returns-clause-own
returns-clause-own c =
    let none : txn_of c.args.session c.args.txns.now.items ≡ None = none_there (txn_of c.args.session c.args.txns.now.items) (c.if-is_open.ensures ∙ ap (λ (ts : List OpenTxn). is_some (txn_of c.args.session ts)) c.as_slice.ensures.value) in
    opened_some c.args.session c.args.txns.now.items c.open_txn.new.txns.items none c.in_ok-open_txn.ensures.ok

pub returns-clause-kept : goal.returns-clause-kept
returns-clause-kept c = λ tables kept.
    let none : txn_of c.args.session c.args.txns.now.items ≡ None = none_there (txn_of c.args.session c.args.txns.now.items) (c.if-is_open.ensures ∙ ap (λ (ts : List OpenTxn). is_some (txn_of c.args.session ts)) c.as_slice.ensures.value) in
    opening_keeps tables c.args.session c.args.txns.now.items c.open_txn.new.txns.items kept none c.in_ok-open_txn.ensures.ok
