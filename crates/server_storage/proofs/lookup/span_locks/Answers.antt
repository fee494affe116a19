use Rattle.std.proofs.Common.{sym, ap, ◌∙◌}
use Rattle.std.proofs.lemmas.Result.{IfOk-weaker}
use Rattle.base_values.specs.declared.gho_schema.schema.Schema.{Schema}
use Rattle.base_values.specs.GhoSchema.ClusteredKey.{clustered_place}
use Rattle.table_store.specs.Databases.{database}
use Rattle.server_model.specs.Blockers.{span_lock, span_needs}
use Rattle.server_storage.proofs.SpanLocks.{span_same}
use Rattle.server_storage.proofs.lookup.span_locks.Goals as goal

pub returns-in-Some : goal.returns-in-Some
returns-in-Some c =
    IfOk-weaker c.key_locks.result _ _
    (λ locks same written.
    same ∙ ap (λ (s : Schema). span_lock s c.args.span.now (clustered_place s)) c.schema.ensures.schema ∙ ap (span_needs c.args.span.now) c.in-Some.ensures.table ∙ sym (span_same c.args.span.now c.args.name.now written (database c.args.tables.now))) c.key_locks.ensures

pub returns-in-None : goal.returns-in-None
returns-in-None c = λ written. c.new.ensures ∙ ap (span_needs c.args.span.now) c.in-None.ensures.table ∙ sym (span_same c.args.span.now c.args.name.now written (database c.args.tables.now))
