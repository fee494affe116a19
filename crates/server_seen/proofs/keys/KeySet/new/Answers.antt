use Rattle.std.proofs.Common.{length, ap, ◌∙◌}
use Rattle.base_values.specs.GhoSchema.Rows.{key_places}
use Rattle.server_seen.proofs.KeyTables.{new_key_table, length-counted}
use Rattle.server_seen.proofs.keys.KeySet.new.Goals as goal

pub invariant_of-result : goal.invariant_of-result
invariant_of-result c =
    new_key_table c.new.result.table (length (key_places c.args.schema.now)) (ap key_places c.new.ensures.schema ∙ c.in_ok-schema.ensures) c.new.ensures.rows

pub returns-clause-width : goal.returns-clause-width
returns-clause-width c = ap length (ap key_places c.new.ensures.schema ∙ c.in_ok-schema.ensures) ∙ length-counted 0 (length (key_places c.args.schema.now))
