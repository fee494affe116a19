use Rattle.std.proofs.Common.{List, [], sym, ap, ◌∙◌, subst}
use Rattle.table_store.specs.Databases.{database}
use Rattle.server_model.specs.Operations.{after_events}
use Rattle.server_storage.specs.declared.open_txns.txns.OpenTxn.{OpenTxn}
use Rattle.server_storage.specs.KeptTxns.Kept.{IsKeptWith, MayBeCommitted}
use Rattle.server_storage.proofs.KeptTxns.Each.{none_written, taken_written}
use Rattle.server_storage.proofs.KeptTxns.Ended.{committing_keeps, kept_may_be_committed, rolling_back_keeps}
use Rattle.server_storage.proofs.ending.commit_txn.Goals as goal

pub commit-requires : goal.commit-requires
commit-requires c =
    let may : MayBeCommitted c.args.tables.now c.in-Some.txn = kept_may_be_committed c.args.tables.now c.args.session c.in-Some.txn c.args.txns.now.items c.requires.kept c.in-Some.ensures.txn in
    record { of = may.of; room = may.room }

pub returns-in_default-clause-kept : goal.returns-in_default-clause-kept
returns-in_default-clause-kept c =
    subst (λ (ts : List OpenTxn). IsKeptWith c.args.session [] c.args.tables.now c.args.txns.now.items ts) (sym c.take_txn.ensures.others) (rolling_back_keeps c.args.tables.now c.args.session c.args.txns.now.items c.requires.kept)

pub returns-in_default-clause-committed : goal.returns-in_default-clause-committed
unfolding after_events
returns-in_default-clause-committed c = ap (after_events (database c.args.tables.now)) (sym (none_written c.args.session c.args.txns.now.items c.in_default.ensures.txn))

pub returns-clause-kept : goal.returns-clause-kept
returns-clause-kept c =
    subst (λ (ts : List OpenTxn). IsKeptWith c.args.session [] c.commit.new.tables c.args.txns.now.items ts) (sym c.take_txn.ensures.others)
    (committing_keeps c.args.tables.now c.commit.new.tables c.args.session c.in-Some.txn c.args.txns.now.items c.requires.kept c.in-Some.ensures.txn c.commit.ensures.tables c.commit.ensures.spare c.requires.fit c.requires.well_formed)

pub returns-clause-committed : goal.returns-clause-committed
returns-clause-committed c = c.commit.ensures.tables ∙ ap (after_events (database c.args.tables.now)) (sym (taken_written c.args.session c.in-Some.txn c.args.txns.now.items c.in-Some.ensures.txn))
