use Rattle.std.proofs.Common.{sym}
use Rattle.server_seen.proofs.KeyTables.{key_there, key_not_there}
use Rattle.server_seen.proofs.keys.KeySet.contains.Goals as goal

pub returns-in-Some : goal.returns-in-Some
returns-in-Some c = rw (← c.self.view_is) (sym (key_there c.self.inside.table.table c.args.key.now c.in-Some.field-0.now c.self.invariant (sym c.in-Some.ensures)))

pub returns-in-None : goal.returns-in-None
returns-in-None c = rw (← c.self.view_is) (sym (key_not_there c.self.inside.table.table c.args.key.now c.self.invariant (sym c.in-None.ensures)))
