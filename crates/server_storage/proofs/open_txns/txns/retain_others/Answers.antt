use Rattle.std.proofs.Common.{not, nat_eq, rules}
use Rattle.std.proofs.lemmas.Fn.{filter_same}
use Rattle.server_storage.specs.declared.open_txns.txns.OpenTxn.{OpenTxn}
use Rattle.server_storage.proofs.open_txns.txns.retain_others.Goals as goal

pub returns : goal.returns
returns c = filter_same _ (λ (one : OpenTxn). not (nat_eq one.session c.args.session)) _ (λ x b f' r. search rules) c.args.txns.now.items c.retain.new.self.items c.retain.ensures.filtered
