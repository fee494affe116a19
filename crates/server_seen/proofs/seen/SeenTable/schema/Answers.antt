use Rattle.std.proofs.Common.{◌≡◌, option_copied, sym, ap, subst}
use Rattle.base_values.specs.declared.gho_schema.schema.Schema.{Schema}
use Rattle.base_values.specs.GhoSchema.Rows.{key_places}
use Rattle.base_values.specs.GhoSchema.Tables.{Ascends}
use Rattle.server_seen.specs.FittingChanges.{IsWritten}
use Rattle.server_seen.proofs.SeenRows.{ascends-seen}
use Rattle.server_seen.proofs.SeenTables.{same_schema, seen_none, seen_some}
use Rattle.server_seen.proofs.seen.SeenTable.schema.Goals as goal

pub returns-in-Some-clause-ascends : goal.returns-in-Some-clause-ascends
returns-in-Some-clause-ascends c =
    let table = c.self.inside.table.now.table in
    let writes = option_copied c.self.inside.written in
    let some = c.in-Some.written.now in
    let same : some.schema ≡ table.schema = same_schema table writes some (ap option_copied c.in-Some.is) c.self.invariant in
    rw (← c.self.view_is)
    (subst (Ascends (key_places table.schema)) (sym (seen_some table writes some (ap option_copied c.in-Some.is)))
    (ascends-seen (key_places table.schema) some.written table.rows (subst (λ (s : Schema). IsWritten (key_places s) some.written) same c.schema-written.ensures.is_written) c.schema.ensures.ascends))

pub returns-in-None-clause-ascends : goal.returns-in-None-clause-ascends
returns-in-None-clause-ascends c =
    let table = c.self.inside.table.now.table in
    rw (← c.self.view_is)
    (subst (Ascends (key_places table.schema)) (sym (seen_none table (option_copied c.self.inside.written) (ap option_copied c.in-None.is))) c.schema-in-None.ensures.ascends)
