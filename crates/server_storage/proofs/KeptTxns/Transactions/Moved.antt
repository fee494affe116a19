-- What a session's transaction keeps of the tables behind CREATE, DROP and RENAME of tables to which it didn't write.
use Rattle.std.proofs.Common.{◌≡◌, ℕ, Bool, true, false, ◌||◌, List, [], ◌∷◌, ◌++◌, map, filter, cond, Option, Some, None, refl, sym, ap, ◌∙◌, subst}
use Rattle.std.specs.Option.{option_map}
use Rattle.std.specs.List.{AllByRecursion, list_any}
use Rattle.std.specs.Str.{bytes_eq}
use Rattle.std.proofs.lemmas.Bool.{false≢true}
use Rattle.base_values.specs.declared.gho_schema.schema.Schema.{Schema}
use Rattle.base_values.specs.declared.event.Change.{Change}
use Rattle.base_values.specs.declared.event.RowEvent.{RowEvent}
use Rattle.table_store.specs.Databases.{TableRows, Database, find_table, with_change, without_table}
use Rattle.server_model.specs.Operations.{change_table, after_events}
use Rattle.server_model.specs.Rows.{change_all}
use Rattle.server_model.specs.States.{pair_names}
use Rattle.server_model.specs.LockedRows.Coverage.{IsWellFormedTable}
use Rattle.server_model.specs.LockedRows.Databases.{IsWellFormedDatabase, WhereFound}
use Rattle.server_model.proofs.LockedRows.Finding.{change_if, found_after}
use Rattle.server_model.proofs.LockedRows.Tests.{are_same}
use Rattle.proof_journals.proofs.Moves.{Moved, create_moves, drop_moves, rename_moves, none_found}
use Rattle.server_transaction.specs.FittingEvents.{EventsFit, FitsIn, NoneOf}
use Rattle.server_transaction.specs.Events.{changes_in}
use Rattle.server_transaction.specs.Premises.{HasSchema, IsOf}
use Rattle.server_transaction.specs.Stored.{StoredTxn, schemas}
use Rattle.server_transaction.proofs.Views.{changed, found_changed}
use Rattle.server_storage.specs.KeptTxns.Transactions.{TransactionsOutlastCreations, TransactionsOutlastDrops, TransactionsOutlastRenames}

-- the tables but those of these names are found as before
abbrev Others : List (List ℕ) → Database → Database → Type 0
Others names before after = (name : List ℕ) → list_any (bytes_eq name) names ≡ false → find_table name after ≡ find_table name before

-- EVENTS OF OTHER TABLES

others_changed : (names : List (List ℕ)) (before after : Database) (event : RowEvent) → Others names before after → Others names (with_change event.table (change_table event.change) before) (with_change event.table (change_table event.change) after)
others_changed names before after event same name off =
    found_after event.table name event.change after ∙ ap (change_if (bytes_eq event.table name) event.change) (same name off) ∙ sym (found_after event.table name event.change before)

fits_others : (names : List (List ℕ)) (before after : Database) (events : List RowEvent) → NoneOf names events → Others names before after → EventsFit before events → EventsFit after events
unfolding EventsFit
fits_others names before after [] none same fit = tt
fits_others names before after (event ∷ events) none same fit = (
  subst (FitsIn event.change) (sym (same event.table none.0)) fit.0,
  fits_others names (with_change event.table (change_table event.change) before) (with_change event.table (change_table event.change) after) events none.1 (others_changed names before after event same) fit.1,
)

others_after : (names : List (List ℕ)) (before after : Database) (events : List RowEvent) → Others names before after → Others names (after_events before events) (after_events after events)
others_after names before after events same name off =
    found_changed name events after ∙ ap (option_map (changed (changes_in name events))) (same name off) ∙ sym (found_changed name events before)

-- a table of one of the names has no change
no_first : (name : List ℕ) (names : List (List ℕ)) (event : RowEvent) (events : List RowEvent) (b : Bool) → bytes_eq event.table name ≡ b → list_any (bytes_eq name) names ≡ true → list_any (bytes_eq event.table) names ≡ false → map (λ (e : RowEvent). e.change) events ≡ []
    → map (λ (e : RowEvent). e.change) (cond b (event ∷ events) events) ≡ []
no_first name names event events true is here off rest = absurd (false≢true (sym off ∙ ap (λ (n : List ℕ). list_any (bytes_eq n) names) (are_same event.table name is) ∙ here))
no_first name names event events false is here off rest = rest

no_changes : (name : List ℕ) (names : List (List ℕ)) (events : List RowEvent) → list_any (bytes_eq name) names ≡ true → NoneOf names events → changes_in name events ≡ []
no_changes name names [] here none = refl
no_changes name names (event ∷ events) here none = no_first name names event (filter (λ (e : RowEvent). bytes_eq e.table name) events) (bytes_eq event.table name) refl here none.0 (no_changes name names events here none.1)

none_changed : (found : Option TableRows) → option_map (changed []) found ≡ found
unfolding change_all
none_changed None = refl
none_changed (Some table) = refl

same_after : (name : List ℕ) (names : List (List ℕ)) (tables : Database) (events : List RowEvent) → list_any (bytes_eq name) names ≡ true → NoneOf names events → find_table name (after_events tables events) ≡ find_table name tables
same_after name names tables events here none =
    found_changed name events tables ∙ ap (λ (cs : List Change). option_map (changed cs) (find_table name tables)) (no_changes name names events here none) ∙ none_changed (find_table name tables)

well_formed_others : (names : List (List ℕ)) (before after : Database) (events : List RowEvent) → NoneOf names events → Others names before after → IsWellFormedDatabase after → IsWellFormedDatabase (after_events before events) → IsWellFormedDatabase (after_events after events)
well_formed_others names before after events none same well_formed was = record { each = λ name. at name (list_any (bytes_eq name) names) refl } where
  at : (name : List ℕ) (b : Bool) → list_any (bytes_eq name) names ≡ b → WhereFound IsWellFormedTable (find_table name (after_events after events))
  at name true here = subst (WhereFound IsWellFormedTable) (sym (same_after name names after events here none)) (well_formed.each name)
  at name false off = subst (WhereFound IsWellFormedTable) (sym (others_after names before after events same name off)) (was.each name)

-- TABLES TO WHICH WAS WRITTEN

-- their names are none of these
abbrev AllOff : List (List ℕ) → List Schema → Type 0
AllOff names some = AllByRecursion (λ schema. list_any (bytes_eq schema.name) names ≡ false) some

stand_others : (names : List (List ℕ)) (before after : Database) (some : List Schema) → AllOff names some → Others names before after → AllByRecursion (HasSchema before) some → AllByRecursion (HasSchema after) some
stand_others names before after [] off same all = tt
stand_others names before after (schema ∷ some) off same all = (ap (option_map (λ (t : TableRows). t.schema)) (same schema.name off.0) ∙ all.0, stand_others names before after some off.1 same all.1)

off_named : (names : List (List ℕ)) (name : List ℕ) (events : List RowEvent) → list_any (λ (e : RowEvent). bytes_eq e.table name) events ≡ true → NoneOf names events → list_any (bytes_eq name) names ≡ false
off_named names name [] has none = absurd (false≢true has)
off_named names name (event ∷ events) has none = at (bytes_eq event.table name) refl has (λ rest. off_named names name events rest none.1) where
  at : (b : Bool) → bytes_eq event.table name ≡ b → (b || list_any (λ (e : RowEvent). bytes_eq e.table name) events) ≡ true → (list_any (λ (e : RowEvent). bytes_eq e.table name) events ≡ true → list_any (bytes_eq name) names ≡ false) → list_any (bytes_eq name) names ≡ false
  at true is has rest = subst (λ (n : List ℕ). list_any (bytes_eq n) names ≡ false) (are_same event.table name is) none.0
  at false is has rest = rest has

all_off : (names : List (List ℕ)) (events : List RowEvent) (some : List Schema) → NoneOf names events → AllByRecursion (λ schema. list_any (λ (e : RowEvent). bytes_eq e.table schema.name) events ≡ true) some → AllOff names some
all_off names events [] none has = tt
all_off names events (schema ∷ some) none has = (off_named names schema.name events has.0 none, all_off names events some none has.1)

-- whole tables of names that the transaction didn't write to change
outlasts_others : (names : List (List ℕ)) (before after : Database) (txn : StoredTxn) → IsOf before txn → NoneOf names txn.events → AllOff names (schemas txn.tables) → Others names before after → IsWellFormedDatabase after → IsOf after txn
outlasts_others names before after txn of none off same well_formed = record {
  fit = fits_others names before after txn.events none same of.fit;
  well_formed = well_formed_others names before after txn.events none same well_formed of.well_formed;
  stand = stand_others names before after (schemas txn.tables) off same of.stand;
}

-- *transactions outlast drops*
pub outlasts_drops : TransactionsOutlastDrops
outlasts_drops tables name txn well_formed of has none =
    let moved : Moved (name ∷ []) tables (without_table name tables) = drop_moves name tables in
    outlasts_others (name ∷ []) tables (without_table name tables) txn of none (all_off (name ∷ []) txn.events (schemas txn.tables) none has) moved.others (moved.well_formed well_formed)

-- *transactions outlast renames*
pub outlasts_renames : TransactionsOutlastRenames
outlasts_renames pairs tables after txn well_formed of has none renamed =
    let moved : Moved (pair_names pairs) tables after = rename_moves pairs tables after renamed in
    outlasts_others (pair_names pairs) tables after txn of none (all_off (pair_names pairs) txn.events (schemas txn.tables) none has) moved.others (moved.well_formed well_formed)

none_after : (b : Bool) (change : Change) (found : Option TableRows) → found ≡ None → change_if b change found ≡ None
none_after true change found is = rw is refl
none_after false change found is = is

-- nothing was written to a table that doesn't stand
fits_none : (change : Change) (found : Option TableRows) → found ≡ None → FitsIn change found → ⊥
fits_none change found is fits = subst (FitsIn change) is fits

none_new : (name : List ℕ) (tables : Database) (events : List RowEvent) → find_table name tables ≡ None → EventsFit tables events → NoneOf (name ∷ []) events
unfolding EventsFit
none_new name tables [] absent fit = tt
none_new name tables (event ∷ events) absent fit = (
  at (bytes_eq event.table name) refl,
  none_new name (with_change event.table (change_table event.change) tables) events (found_after event.table name event.change tables ∙ none_after (bytes_eq event.table name) event.change (find_table name tables) absent) fit.1,
) where
  at : (b : Bool) → bytes_eq event.table name ≡ b → (b || false) ≡ false
  at true is = absurd (fits_none event.change (find_table event.table tables) (ap (λ (n : List ℕ). find_table n tables) (are_same event.table name is) ∙ absent) fit.0)
  at false is = refl

none_off : (name : List ℕ) (tables : Database) (some : List Schema) → find_table name tables ≡ None → AllByRecursion (HasSchema tables) some → AllOff (name ∷ []) some
none_off name tables [] absent all = tt
none_off name tables (schema ∷ some) absent all = (at (bytes_eq schema.name name) refl, none_off name tables some absent all.1) where
  at : (b : Bool) → bytes_eq schema.name name ≡ b → (b || false) ≡ false
  at true is =
      let none : find_table schema.name tables ≡ None = ap (λ (n : List ℕ). find_table n tables) (are_same schema.name name is) ∙ absent in
      let both : None ≡ Some schema = sym (ap (option_map (λ (t : TableRows). t.schema)) none) ∙ all.0 in
      absurd (cc)
  at false is = refl

pub outlasts_creations : TransactionsOutlastCreations
outlasts_creations tables schema txn well_formed of new none =
    let absent : find_table schema.name tables ≡ None = none_found schema.name tables none in
    let moved : Moved (schema.name ∷ []) tables (tables ++ record { schema = schema; rows = [] } ∷ []) = create_moves schema tables new in
    outlasts_others (schema.name ∷ []) tables (tables ++ record { schema = schema; rows = [] } ∷ []) txn of (none_new schema.name tables txn.events absent of.fit) (none_off schema.name tables (schemas txn.tables) absent of.stand) moved.others (moved.well_formed well_formed)
