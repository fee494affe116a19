use Rattle.server_storage.proofs.KeptTxns.Grown.{writing_keeps}
use Rattle.server_storage.proofs.storage.Storage.write.Goals as goal

pub invariant_of-self : goal.invariant_of-self
invariant_of-self c =
    let ready = rw (← c.self.view_is, c.in-Some.is) at c.requires.ready in
    let fit = rw (← c.self.view_is, c.in-Some.is) at c.requires.fit in
    let well_formed = rw (← c.self.view_is, c.in-Some.is) at c.requires.well_formed in
    (writing_keeps c.self.inside.tables c.args.session c.in-Some.writes c.self.inside.txns.items c.write_in.new.txns.items c.self.invariant ready fit well_formed c.write_in.ensures).kept

pub returns-clause-own : goal.returns-clause-own
returns-clause-own c =
    let ready = rw (← c.self.view_is, c.in-Some.is) at c.requires.ready in
    let fit = rw (← c.self.view_is, c.in-Some.is) at c.requires.fit in
    let well_formed = rw (← c.self.view_is, c.in-Some.is) at c.requires.well_formed in
    rw (← c.self.view_is, c.in-Some.is) (writing_keeps c.self.inside.tables c.args.session c.in-Some.writes c.self.inside.txns.items c.write_in.new.txns.items c.self.invariant ready fit well_formed c.write_in.ensures).own

pub returns-clause-others : goal.returns-clause-others
returns-clause-others c =
    let ready = rw (← c.self.view_is, c.in-Some.is) at c.requires.ready in
    let fit = rw (← c.self.view_is, c.in-Some.is) at c.requires.fit in
    let well_formed = rw (← c.self.view_is, c.in-Some.is) at c.requires.well_formed in
    rw (← c.self.view_is) (writing_keeps c.self.inside.tables c.args.session c.in-Some.writes c.self.inside.txns.items c.write_in.new.txns.items c.self.invariant ready fit well_formed c.write_in.ensures).others
