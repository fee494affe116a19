use Rattle.std.proofs.Common.{◌≡◌, List, option_copied, sym, ap, ◌∙◌, subst}
use Rattle.std.specs.Prelude.{IfOk}
use Rattle.base_values.specs.declared.gho_schema.schema.Schema.{Schema}
use Rattle.base_values.specs.GhoSchema.Rows.{key_places}
use Rattle.base_values.specs.GhoSchema.Tables.{Ascends}
use Rattle.table_store.proofs.Orders.{Row}
use Rattle.table_store.proofs.Ascending.{ascends-filter}
use Rattle.server_model.specs.Rows.{reaches, rows_met}
use Rattle.server_seen.proofs.SeenRows.{tests_seen}
use Rattle.server_seen.proofs.SeenTables.{same_schema, seen_none, seen_some}
use Rattle.server_seen.proofs.seen.SeenTable.met.Goals as goal

pub returns-in_default : goal.returns-in_default
returns-in_default c =
    let table = c.self.inside.table.now.table in
    rw (← c.self.view_is)
    (subst (λ (rs : List Row). IfOk c.rows_met.result (λ rows. rows ≡ rows_met table.schema c.args.reach.now rs)) (sym (seen_none table (option_copied c.self.inside.written) (ap option_copied c.in_default.is))) c.rows_met.ensures)

pub over-requires : goal.over-requires
over-requires c =
    let some = c.in-Some.written.now in
    subst (Ascends (key_places some.schema)) (sym c.in_ok-mine.ensures) (ascends-filter (key_places some.schema) ((λ (s : Schema). reaches s c.args.reach.now) some.schema) some.written.rows c.schema-written.ensures.is_written.rows_ascend)

pub returns : goal.returns
returns c =
    let table = c.self.inside.table.now.table in
    let writes = option_copied c.self.inside.written in
    let some = c.in-Some.written.now in
    let same : some.schema ≡ table.schema = same_schema table writes some (ap option_copied c.in-Some.is) c.self.invariant in
    rw (← c.self.view_is)
    (subst (λ (rs : List Row). IfOk c.over.result (λ rows. rows ≡ rs))
    (tests_seen table some (λ (s : Schema). reaches s c.args.reach.now) c.in_ok-mine.mine c.in_ok-below.below same c.schema-written.ensures.is_written c.schema-schema.ensures.ascends c.in_ok-mine.ensures c.in_ok-below.ensures
    ∙ ap (rows_met table.schema c.args.reach.now) (sym (seen_some table writes some (ap option_copied c.in-Some.is))))
    c.over.ensures)
