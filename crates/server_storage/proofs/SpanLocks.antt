-- The lock on a span of a table's key is the same behind any events.
use Rattle.std.proofs.Common.{◌≡◌, ℕ, List, Option, Some, None, refl, ap, ◌∙◌}
use Rattle.std.specs.Option.{option_map}
use Rattle.base_values.specs.declared.event.RowEvent.{RowEvent}
use Rattle.base_values.specs.declared.span.Span.{Span}
use Rattle.table_store.specs.Databases.{TableRows, Database, find_table}
use Rattle.server_model.specs.Operations.{after_events}
use Rattle.server_model.specs.Blockers.{span_needs}
use Rattle.server_transaction.specs.Events.{changes_in}
use Rattle.server_transaction.proofs.Views.{changed, found_changed}

pub span_same : (span : Span) (name : List ℕ) (events : List RowEvent) (tables : Database) → span_needs span (find_table name (after_events tables events)) ≡ span_needs span (find_table name tables)
span_same span name events tables = ap (span_needs span) (found_changed name events tables) ∙ at (find_table name tables) where
  at : (found : Option TableRows) → span_needs span (option_map (changed (changes_in name events)) found) ≡ span_needs span found
  at None = refl
  at (Some table) = refl
