use Rattle.std.proofs.Common.{List, sym, subst}
use Rattle.table_store.specs.Databases.{StoredTable}
use Rattle.server_storage.specs.KeptTxns.Kept.{IsKept}
use Rattle.server_storage.proofs.KeptTxns.Defined.{renaming_keeps}
use Rattle.server_storage.proofs.Outcomes.{either_way}
use Rattle.server_storage.proofs.definitions.rename_tables.Goals as goal

pub returns-clause-kept : goal.returns-clause-kept
returns-clause-kept c = λ txns none kept.
    either_way c.rename.result c.rename.ensures.ok c.rename.ensures.err (λ renamed. renaming_keeps c.args.pairs.now c.args.tables.now c.rename.new.self txns kept none renamed c.rename.ensures.spares)
    (λ same. subst (λ (ts : List StoredTable). IsKept ts txns) (sym same) kept)
