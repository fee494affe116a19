use Rattle.std.proofs.Common.{arith}
use Rattle.base_values.specs.GhoSchema.Rows.{key_places}
use Rattle.server_execute.proofs.ChangedRows.{first_met}
use Rattle.server_execute.proofs.UpdatedRows.{made_at}
use Rattle.server_execute.proofs.updates.updated.Goals as goal

pub update_of_one-requires-clause-stands : goal.update_of_one-requires-clause-stands
update_of_one-requires-clause-stands c =
    let table = c.args.seen.now in
    first_met (key_places table.schema) c.args.met.now table.rows c.old-item.result _ c.requires.met (omega (arith, c.in-len1.len_at_least)) c.old-item.is

pub update_of_one-requires-clause-made : goal.update_of_one-requires-clause-made
update_of_one-requires-clause-made c =
    made_at c.args.sets.now c.args.met.now c.args.made.now 0 c.old-item.result c.index-made-0.result c.requires.made (omega (arith, c.in-len1.len_at_least)) c.old-item.is c.index-made-0.is
