use Rattle.std.proofs.Common.{◌≤◌, ◌∙◌, ℕ, length, sym, subst}
use Rattle.base_values.specs.GhoSchema.Rows.{key_places}
use Rattle.table_store.proofs.Orders.{Row}
use Rattle.server_seen.specs.Written.{Written, stored}
use Rattle.server_seen.proofs.KeyTables.{length_key}
use Rattle.server_seen.proofs.SeenChanges.{is_stored}
use Rattle.server_seen.proofs.StoredWrites.{stored_as, stored_rows, new_after}
use Rattle.server_seen.proofs.written.WrittenRows.store.Goals as goal

pub insert-requires-clause-width : goal.insert-requires-clause-width
insert-requires-clause-width c =
    let own = rw (← c.self.view_is) at c.requires.key in
    subst (λ (n : ℕ). length c.args.key ≤ n) (sym c.self.invariant.width_is) (subst (λ (k : Row). length k ≤ length (key_places c.self.inside.rows.table.schema)) (sym own) (length_key (key_places c.self.inside.rows.table.schema) c.args.row))

pub put-requires-clause-new_key : goal.put-requires-clause-new_key
put-requires-clause-new_key c =
    new_after c.self.inside.rows.table.schema c.remove.new.self.table.schema c.args.key c.args.row c.self.inside.rows.table.rows c.remove.new.self.table.rows (rw (← c.self.view_is) at c.requires.key) c.remove.ensures.schema c.remove.ensures.rows

pub invariant_of-self : goal.invariant_of-self
invariant_of-self c =
    let schema = c.self.inside.rows.table.schema in
    let was : Written = record { rows = c.self.inside.rows.table.rows; keys = c.self.inside.keys.keys } in
    let now : Written = record { rows = c.put.new.self.table.rows; keys = c.insert.new.self.keys } in
    stored_as schema c.put.new.self.table.schema c.self.inside.keys.width c.insert.new.self.width (stored (key_places schema) c.args.row was) now c.self.invariant.width_is (c.put.ensures.schema ∙ c.remove.ensures.schema) c.insert.ensures.width
    (stored_rows schema c.remove.new.self.table.schema c.args.key c.args.row c.self.inside.rows.table.rows c.remove.new.self.table.rows c.put.new.self.table.rows c.self.inside.keys.keys c.insert.new.self.keys (rw (← c.self.view_is) at c.requires.key)
    c.remove.ensures.schema c.remove.ensures.rows c.put.ensures.rows c.insert.ensures.keys) (is_stored (key_places schema) c.args.row was c.self.invariant.is_written)
