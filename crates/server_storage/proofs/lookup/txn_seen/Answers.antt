use Rattle.std.proofs.Common.{ap, ◌∙◌}
use Rattle.std.specs.Option.{option_map}
use Rattle.table_store.specs.Databases.{database}
use Rattle.server_storage.proofs.KeptTxns.Transactions.Kept.{begins}
use Rattle.server_storage.specs.declared.open_txns.txns.OpenTxn.{OpenTxn}
use Rattle.server_storage.specs.OpenTxns.Open.{written_in}
use Rattle.server_storage.proofs.KeptTxns.Ended.{kept_may_be_committed}
use Rattle.server_storage.proofs.lookup.txn_seen.Goals as goal

pub returns-in-Some-clause-of : goal.returns-in-Some-clause-of
returns-in-Some-clause-of c = λ tables kept. (kept_may_be_committed tables c.args.session c.in-Some.one.now.txn c.args.txns.now kept (ap (option_map (λ (o : OpenTxn). o.txn)) c.in-Some.ensures)).of

pub returns-in-Some-clause-events : goal.returns-in-Some-clause-events
returns-in-Some-clause-events c = ap written_in c.in-Some.ensures

pub returns-in-None-clause-of : goal.returns-in-None-clause-of
returns-in-None-clause-of c = λ tables kept. begins (database tables) c.args.unwritten.now c.requires.events c.requires.tables kept.well_formed

pub returns-in-None-clause-events : goal.returns-in-None-clause-events
returns-in-None-clause-events c = c.requires.events ∙ ap written_in c.in-None.ensures
