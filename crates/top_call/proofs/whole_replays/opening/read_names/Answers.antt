use Rattle.std.proofs.Common.{arith, subst}
use Rattle.std.specs.Str.{IsUtf8}
use Rattle.base_values.specs.declared.gho_schema.schema.Schema.{Schema}
use Rattle.table_store.specs.PagedTables.PagedDatabases.{stored_of}
use Rattle.top_call.proofs.WholeReplays.AtOpening.{name_read, names_read}
use Rattle.top_call.proofs.whole_replays.opening.read_names.Goals as goal

pub loop-n-preserved : goal.loop-n-preserved
loop-n-preserved c = name_read c.args.tables.now c.loop-n.n (stored_of c.at.result.now) c.at.ensures c.loop-n.invariant (subst (λ (s : Schema). IsUtf8 s.name) c.schema.ensures.schema (subst IsUtf8 c.as_str-name.ensures c.as_str-name.utf8))

pub returns : goal.returns
returns c = names_read c.args.tables.now c.loop-n.n (omega arith) c.loop-n.invariant
