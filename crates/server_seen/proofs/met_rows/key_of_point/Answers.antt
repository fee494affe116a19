use Rattle.std.proofs.Common.{◌≡◌, is_eq, sym, ap, ◌∙◌}
use Rattle.base_values.specs.declared.span.Bound.{Bound}
use Rattle.base_values.specs.declared.span.Bound.TheVariants.{Closed}
use Rattle.base_values.specs.declared.span.Span.{Span}
use Rattle.base_values.specs.KeyOrder.{compare_keys}
use Rattle.base_values.proofs.Orders.{tied_keys}
use Rattle.table_store.proofs.Orders.{is_Equal}
use Rattle.server_seen.proofs.met_rows.key_of_point.Goals as goal

pub returns-in-Closed-Closed : goal.returns-in-Closed-Closed
returns-in-Closed-Closed c =
    let low = c.in-Closed-Closed.low in
    let high = c.in-Closed-Closed.high in
    let tied : low ≡ high = tied_keys low high (is_Equal (compare_keys low high) (ap is_eq (sym c.cmp.ensures) ∙ sym c.if-is_eq.ensures)) in
    ap {B = Span} (λ (l : Bound). record { low = l; high = c.args.span.now.high }) c.in-Closed-Closed.is-0
    ∙ ap {B = Span} (λ (h : Bound). record { low = Closed low; high = h }) (c.in-Closed-Closed.is-1 ∙ ap Closed (sym tied))
