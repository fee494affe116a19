use Rattle.std.proofs.Common.{ap, ◌∙◌}
use Rattle.base_values.specs.GhoSchema.Rows.{key_places}
use Rattle.run_rebuild.proofs.Halves.{rebuilt, rebuilt_found}
use Rattle.run_rebuild.proofs.rebuilt_table.rebuild.Goals as goal

pub returns-clause-table : goal.returns-clause-table
returns-clause-table g c = rebuilt _ c.args.opening.now.table c.shards.result c.requires.workers (c.key_places.ensures ∙ ap key_places c.schema-schema.ensures.schema) (c.as_slice.ensures ∙ c.in_ok-rows.ensures) c.shards.ensures

pub returns-clause-unfit : goal.returns-clause-unfit
returns-clause-unfit g c = rebuilt_found _ c.args.opening.now.table c.shards.result c.requires.workers (c.as_slice.ensures ∙ c.in_ok-rows.ensures) c.shards.ensures
