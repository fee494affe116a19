use Rattle.table_store.specs.Databases.{database}
use Rattle.server_transaction.proofs.GoneKeys.{gone_in}
use Rattle.server_transaction.proofs.commits.commit.Goals as goal

pub apply_all-requires-clause-keys : goal.apply_all-requires-clause-keys
apply_all-requires-clause-keys c =
    let of = rw (← c.txn.view_is) at c.requires.of in
    gone_in (database c.args.tables.now) c.txn.inside.tables.items c.txn.inside.events.items c.txn.inside.gone.items of.stand c.txn.invariant.keys
