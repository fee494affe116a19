use Rattle.server_storage.proofs.storage.Storage.rename.Goals as goal

pub invariant_of-self : goal.invariant_of-self
invariant_of-self c = c.rename_tables.ensures.kept c.self.inside.txns.items (rw (← c.self.view_is) at c.requires) c.self.invariant
