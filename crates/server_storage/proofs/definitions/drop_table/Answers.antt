use Rattle.std.proofs.Common.{List, sym, ap, ◌∙◌, subst}
use Rattle.table_store.specs.Databases.{StoredTable, database}
use Rattle.server_storage.specs.KeptTxns.Kept.{IsKept}
use Rattle.server_storage.proofs.KeptTxns.Defined.{dropped, dropping_keeps}
use Rattle.server_storage.proofs.definitions.drop_table.Goals as goal

pub returns-clause-committed : goal.returns-clause-committed
returns-clause-committed c = ap database c.take.ensures.others ∙ dropped c.args.name.now c.args.tables.now

pub returns-clause-kept : goal.returns-clause-kept
returns-clause-kept c = λ txns none kept. subst (λ (ts : List StoredTable). IsKept ts txns) (sym c.take.ensures.others) (dropping_keeps c.args.tables.now c.args.name.now txns kept none)
