use Rattle.server_storage.proofs.open_txns.growth.open_txn.Goals as goal

pub returns-clause-ok : goal.returns-clause-ok
returns-clause-ok c = record { txn = c.new.result; events = c.new.ensures.events; tables = c.new.ensures.tables; after_is = c.in_ok-push.ensures.items }
