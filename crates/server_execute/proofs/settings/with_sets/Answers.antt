use Rattle.std.proofs.Common.{◌≡◌, ◌++◌, sym, ap, ◌∙◌, append-nil, subst}
use Rattle.std.specs.Prelude.{IfOk}
use Rattle.std.proofs.lemmas.List.{at_drop_all}
use Rattle.table_store.proofs.Orders.{Row}
use Rattle.server_model.specs.StatementResults.{with_sets}
use Rattle.server_model.proofs.LockedRows.Sets.{with_sets_none}
use Rattle.server_execute.proofs.settings.with_sets.Goals as goal

pub returns : goal.returns
returns c =
    let rest = c.loop-value.rest.now in
    subst (λ (vs : Row). IfOk c.from_sequence.result (λ row. row ≡ vs))
    (sym (append-nil c.loop-value.new)
    ∙ ap (λ (vs : Row). c.loop-value.new ++ vs) (sym (at_drop_all (with_sets rest) c.args.row.now c.loop-value.value-index c.loop-value-test.false ∙ with_sets_none rest)) ∙ c.loop-value.invariant)
    c.from_sequence.ensures
