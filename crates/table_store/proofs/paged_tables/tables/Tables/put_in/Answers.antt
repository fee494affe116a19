use Rattle.std.proofs.Common.{◌∙◌, ◌+◌, ℕ, ap, sym}
use Rattle.table_store.specs.Databases.{IsNewIn, put_in_table}
use Rattle.table_store.proofs.NamedTables.{some_of}
use Rattle.table_store.proofs.PagedTables.Paged.{Edited, put_edited, within_tables, room_before, new_before}
use Rattle.table_store.proofs.paged_tables.tables.Tables.put_in.Goals as goal

pub at_mut-table-requires : goal.at_mut-table-requires
at_mut-table-requires c = within_tables c.args.name.now c.self.inside.tables.values c.place_of-place.result c.place_of-place.ensures (some_of _ (IsNewIn c.args.row) (rw (← c.self.view_is) at c.requires.new_key))

pub put-requires-clause-room : goal.put-requires-clause-room
put-requires-clause-room c =
    let same = room_before c.args.name.now c.self.inside.tables.values c.place_of-place.result c.at_mut-table.result.now c.place_of-place.ensures (some_of _ (IsNewIn c.args.row) (rw (← c.self.view_is) at c.requires.new_key)) c.at_mut-table.ensures.value in
    rw (← c.self.view_is, same) at c.requires.room

pub put-requires-clause-new_key : goal.put-requires-clause-new_key
put-requires-clause-new_key c = new_before c.args.name.now c.args.row c.self.inside.tables.values c.place_of-place.result c.at_mut-table.result.now c.place_of-place.ensures c.at_mut-table.ensures.value (rw (← c.self.view_is) at c.requires.new_key)

pub invariant_of-self : goal.invariant_of-self
invariant_of-self c =
    let done : Edited c.args.name.now (put_in_table c.args.row) c.self.inside.tables c.place_of-place.result c.at_mut-table.result.now c.put.new.self = put_edited c.args.name.now c.args.row c.self.inside.tables c.place_of-place.result c.at_mut-table.result.now c.put.new.self c.self.invariant c.place_of-place.ensures c.at_mut-table.ensures.value (rw (← c.self.view_is) at c.requires.new_key) c.put.ensures.schema c.put.ensures.rows in
    done.named

pub returns-clause-tables : goal.returns-clause-tables
returns-clause-tables c =
    let done : Edited c.args.name.now (put_in_table c.args.row) c.self.inside.tables c.place_of-place.result c.at_mut-table.result.now c.put.new.self = put_edited c.args.name.now c.args.row c.self.inside.tables c.place_of-place.result c.at_mut-table.result.now c.put.new.self c.self.invariant c.place_of-place.ensures c.at_mut-table.ensures.value (rw (← c.self.view_is) at c.requires.new_key) c.put.ensures.schema c.put.ensures.rows in
    rw (← c.self.view_is) done.changed

pub returns-clause-spare : goal.returns-clause-spare
returns-clause-spare c =
    let done : Edited c.args.name.now (put_in_table c.args.row) c.self.inside.tables c.place_of-place.result c.at_mut-table.result.now c.put.new.self = put_edited c.args.name.now c.args.row c.self.inside.tables c.place_of-place.result c.at_mut-table.result.now c.put.new.self c.self.invariant c.place_of-place.ensures c.at_mut-table.ensures.value (rw (← c.self.view_is) at c.requires.new_key) c.put.ensures.schema c.put.ensures.rows in
    rw (← c.self.view_is) (ap (λ (n : ℕ). n + 1) done.spare ∙ c.put.ensures.spare ∙ sym done.was.spare)

pub returns-clause-others : goal.returns-clause-others
returns-clause-others c =
    let done : Edited c.args.name.now (put_in_table c.args.row) c.self.inside.tables c.place_of-place.result c.at_mut-table.result.now c.put.new.self = put_edited c.args.name.now c.args.row c.self.inside.tables c.place_of-place.result c.at_mut-table.result.now c.put.new.self c.self.invariant c.place_of-place.ensures c.at_mut-table.ensures.value (rw (← c.self.view_is) at c.requires.new_key) c.put.ensures.schema c.put.ensures.rows in
    rw (← c.self.view_is) done.rest
