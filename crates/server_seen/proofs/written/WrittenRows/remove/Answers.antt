use Rattle.base_values.specs.GhoSchema.Rows.{key_places}
use Rattle.server_seen.specs.Written.{Written, removed}
use Rattle.server_seen.proofs.SeenChanges.{is_removed}
use Rattle.server_seen.proofs.StoredWrites.{stored_as, removed_rows}
use Rattle.server_seen.proofs.written.WrittenRows.remove.Goals as goal

pub invariant_of-self : goal.invariant_of-self
invariant_of-self c =
    let schema = c.self.inside.rows.table.schema in
    let was : Written = record { rows = c.self.inside.rows.table.rows; keys = c.self.inside.keys.keys } in
    let now : Written = record { rows = c.remove.new.self.table.rows; keys = c.insert.new.self.keys } in
    stored_as schema c.remove.new.self.table.schema c.self.inside.keys.width c.insert.new.self.width (removed (key_places schema) c.args.key was) now c.self.invariant.width_is c.remove.ensures.schema c.insert.ensures.width
    (removed_rows schema c.args.key c.self.inside.rows.table.rows c.remove.new.self.table.rows c.self.inside.keys.keys c.insert.new.self.keys c.remove.ensures.rows c.insert.ensures.keys) (is_removed (key_places schema) c.args.key was c.self.invariant.is_written)
