-- What a session's transaction keeps of the tables: behind its own writes, and behind another one's commit.
use Rattle.std.proofs.Common.{◌≡◌, Bool, true, false, List, [], ◌∷◌, ◌++◌, cond, Option, Some, None, refl, sym, ap, ◌∙◌, subst}
use Rattle.std.specs.Option.{option_map}
use Rattle.std.specs.List.{AllByRecursion, list_any}
use Rattle.std.specs.Str.{bytes_eq}
use Rattle.base_values.specs.declared.gho_schema.schema.Schema.{Schema}
use Rattle.base_values.specs.declared.event.Change.{Change}
use Rattle.base_values.specs.declared.event.RowEvent.{RowEvent}
use Rattle.table_store.specs.Databases.{TableRows, Database, find_table, with_change}
use Rattle.server_model.specs.Operations.{change_table, after_events}
use Rattle.server_model.specs.LockedRows.Databases.{IsWellFormedDatabase}
use Rattle.server_model.proofs.LockedRows.Stables.{after_events-append}
use Rattle.server_transaction.specs.FittingEvents.{EventsFit}
use Rattle.server_transaction.specs.Events.{changes_in}
use Rattle.server_transaction.specs.Premises.{HasSchema}
use Rattle.server_transaction.specs.Stored.{schemas}
use Rattle.server_transaction.proofs.Views.{changed, found_changed}
use Rattle.server_storage.specs.KeptTxns.Transactions.{TransactionsBegin, TransactionsGrow, TransactionsOutlastCommits}

-- events behind others
fit-append : (tables : Database) (a b : List RowEvent) → EventsFit tables a → EventsFit (after_events tables a) b → EventsFit tables (a ++ b)
unfolding EventsFit after_events
fit-append tables [] b one two = two
fit-append tables (event ∷ a) b one two = (one.0, fit-append (with_change event.table (change_table event.change) tables) a b one.1 two)

-- *transactions begin*
pub begins : TransactionsBegin
unfolding EventsFit after_events
begins tables txn none none_written well_formed = record {
  fit = subst (EventsFit tables) (sym none) tt;
  well_formed = subst (λ (es : List RowEvent). IsWellFormedDatabase (after_events tables es)) (sym none) well_formed;
  stand = subst (λ ts. AllByRecursion (HasSchema tables) (schemas ts)) (sym none_written) tt;
}

-- *transactions grow*
all_after : (P : Schema → Type 0) (some : List Schema) (schema : Schema) → AllByRecursion P some → P schema → AllByRecursion P (some ++ schema ∷ [])
all_after P [] schema all one = (one, tt)
all_after P (first ∷ some) schema all one = (all.0, all_after P some schema all.1 one)

with_one : (P : Schema → Type 0) (some : List Schema) (schema : Schema) (b : Bool) → AllByRecursion P some → P schema → AllByRecursion P (cond b some (some ++ schema ∷ []))
with_one P some schema true all one = all
with_one P some schema false all one = all_after P some schema all one

pub grows : TransactionsGrow
grows tables was now schema more of has fit well_formed events_are schemas_are = record {
  fit = subst (EventsFit tables) (sym events_are) (fit-append tables was.events more of.fit fit);
  well_formed = subst IsWellFormedDatabase (sym (after_events-append tables was.events more) ∙ ap (after_events tables) (sym events_are)) well_formed;
  stand = subst (AllByRecursion (HasSchema tables)) (sym schemas_are) (with_one (HasSchema tables) (schemas was.tables) schema (list_any (λ (s : Schema). bytes_eq s.name schema.name) (schemas was.tables)) of.stand has);
}

-- *transactions outlast commits*
schema_kept : (changes : List Change) (found : Option TableRows) → option_map (λ (t : TableRows). t.schema) (option_map (changed changes) found) ≡ option_map (λ (t : TableRows). t.schema) found
schema_kept changes None = refl
schema_kept changes (Some table) = refl

still_has : (tables : Database) (events : List RowEvent) (schema : Schema) → HasSchema tables schema → HasSchema (after_events tables events) schema
still_has tables events schema has = ap (option_map (λ (t : TableRows). t.schema)) (found_changed schema.name events tables) ∙ schema_kept (changes_in schema.name events) (find_table schema.name tables) ∙ has

all_still : (tables : Database) (events : List RowEvent) (some : List Schema) → AllByRecursion (HasSchema tables) some → AllByRecursion (HasSchema (after_events tables events)) some
all_still tables events [] all = tt
all_still tables events (schema ∷ some) all = (still_has tables events schema all.0, all_still tables events some all.1)

pub outlasts : TransactionsOutlastCommits
outlasts tables events txn of fit well_formed = record { fit = fit; well_formed = well_formed; stand = all_still tables events (schemas txn.tables) of.stand }
