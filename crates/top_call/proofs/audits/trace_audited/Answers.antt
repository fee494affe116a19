use Rattle.std.proofs.Common.{◌∙◌, subst}
use Rattle.std.specs.Str.{IsUtf8}
use Rattle.proof_schemas.proofs.Stored.{schemas_valid}
use Rattle.top_call.proofs.audits.trace_audited.Goals as goal

pub read_trace-requires : goal.read_trace-requires
read_trace-requires c = schemas_valid

pub answered-requires : goal.answered-requires
answered-requires c = c.read_traces_may_be_audited.ensures c.args.bytes.now c.in-Ok.plan c.in-Ok.trace c.in-Ok.ensures.read (subst IsUtf8 (c.as_str-name.ensures ∙ c.table.ensures) c.as_str-name.utf8)
