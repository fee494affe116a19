use Rattle.std.proofs.Common.{List, [], sym, subst}
use Rattle.server_storage.specs.declared.open_txns.txns.OpenTxn.{OpenTxn}
use Rattle.server_storage.specs.KeptTxns.Kept.{IsKeptWith}
use Rattle.server_storage.proofs.KeptTxns.Ended.{rolling_back_keeps}
use Rattle.server_storage.proofs.ending.roll_back_txn.Goals as goal

pub returns : goal.returns
returns c = λ tables kept. subst (λ (ts : List OpenTxn). IsKeptWith c.args.session [] tables c.args.txns.now.items ts) (sym c.take_txn.ensures.others) (rolling_back_keeps tables c.args.session c.args.txns.now.items kept)
