use Rattle.std.proofs.Common.{◌∙◌, sym}
use Rattle.server_seen.proofs.KeyTables.{new_row, new_keys, old_keys, key_inserted}
use Rattle.server_seen.proofs.keys.KeySet.insert.Goals as goal

pub put-requires-clause-new_key : goal.put-requires-clause-new_key
put-requires-clause-new_key c = new_row c.self.inside.table.table c.args.key c.self.invariant (rw (← c.self.view_is) at c.requires.width) (sym c.in-None.ensures)

pub invariant_of-self : goal.invariant_of-self
invariant_of-self c = key_inserted c.self.inside.table.table c.put.new.self.table c.args.key c.self.invariant (rw (← c.self.view_is) at c.requires.width) c.put.ensures.schema c.put.ensures.rows

pub returns-in-Some-clause-keys : goal.returns-in-Some-clause-keys
returns-in-Some-clause-keys c = rw (← c.self.view_is) (sym (old_keys c.self.inside.table.table c.args.key c.in-Some.field-0.now c.self.invariant c.schema-schema.ensures.ascends (sym c.in-Some.ensures)))

pub returns-in-None-clause-keys : goal.returns-in-None-clause-keys
returns-in-None-clause-keys c = rw (← c.self.view_is) (c.put.ensures.rows ∙ new_keys c.self.inside.table.table c.args.key c.self.invariant (rw (← c.self.view_is) at c.requires.width) (sym c.in-None.ensures))
