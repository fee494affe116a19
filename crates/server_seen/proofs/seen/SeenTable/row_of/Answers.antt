use Rattle.std.proofs.Common.{◌≡◌, option_copied, sym, ap, ◌∙◌}
use Rattle.std.specs.Prelude.{find}
use Rattle.base_values.specs.GhoSchema.Rows.{key_places}
use Rattle.table_store.specs.RowLists.{is_at}
use Rattle.server_seen.proofs.FoundRows.{row_written, row_removed, row_left}
use Rattle.server_seen.proofs.SeenTables.{same_schema, seen_none, seen_some}
use Rattle.server_seen.proofs.seen.SeenTable.row_of.Goals as goal

pub returns-in_default : goal.returns-in_default
returns-in_default c =
    let table = c.self.inside.table.now.table in
    rw (← c.self.view_is) (c.get.ensures ∙ ap (find (is_at (key_places table.schema) c.args.key.now)) (sym (seen_none table (option_copied c.self.inside.written) (ap option_copied c.in_default.is))))

pub returns-in-Some-row_of : goal.returns-in-Some-row_of
returns-in-Some-row_of c =
    let table = c.self.inside.table.now.table in
    let writes = option_copied c.self.inside.written in
    let some = c.in-Some.written.now in
    let same : some.schema ≡ table.schema = same_schema table writes some (ap option_copied c.in-Some.is) c.self.invariant in
    rw (← c.self.view_is)
    (sym (ap (find (is_at (key_places table.schema) c.args.key.now)) (seen_some table writes some (ap option_copied c.in-Some.is)) ∙ row_written table some c.args.key.now c.in-Some-row_of.row.now same (sym c.in-Some-row_of.ensures)))

pub returns-then-touches : goal.returns-then-touches
returns-then-touches c =
    let table = c.self.inside.table.now.table in
    let writes = option_copied c.self.inside.written in
    let some = c.in-Some.written.now in
    let same : some.schema ≡ table.schema = same_schema table writes some (ap option_copied c.in-Some.is) c.self.invariant in
    rw (← c.self.view_is)
    (sym (ap (find (is_at (key_places table.schema) c.args.key.now)) (seen_some table writes some (ap option_copied c.in-Some.is)) ∙ row_removed table some c.args.key.now same (sym c.in-None.ensures) (sym c.if-touches.ensures)))

pub returns-else-touches : goal.returns-else-touches
returns-else-touches c =
    let table = c.self.inside.table.now.table in
    let writes = option_copied c.self.inside.written in
    let some = c.in-Some.written.now in
    let same : some.schema ≡ table.schema = same_schema table writes some (ap option_copied c.in-Some.is) c.self.invariant in
    rw (← c.self.view_is)
    (c.get-else-touches.ensures
    ∙ sym (ap (find (is_at (key_places table.schema) c.args.key.now)) (seen_some table writes some (ap option_copied c.in-Some.is)) ∙ row_left table some c.args.key.now same (sym c.in-None.ensures) (sym c.if-touches.ensures)))
