use Rattle.server_storage.proofs.storage.Storage.drop_table.Goals as goal

pub invariant_of-self : goal.invariant_of-self
invariant_of-self c = c.drop_table.ensures.kept c.self.inside.txns.items (rw (← c.self.view_is) at c.requires) c.self.invariant
