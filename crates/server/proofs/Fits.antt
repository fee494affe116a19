-- What the data are promised of events, where the server serves.
use Rattle.std.proofs.Common.{◌≡◌, ℕ, true, false, List, [], ◌∷◌, ◌++◌, Option, Some, None, ◌∙◌, subst}
use Rattle.std.specs.Prelude.{◌==◌, is_some}
use Rattle.std.proofs.lemmas.Bool.{false≢true}
use Rattle.base_values.specs.declared.event.Change.{Change}
use Rattle.base_values.specs.declared.event.Change.TheVariants.{Write, Update, Delete}
use Rattle.base_values.specs.declared.event.RowEvent.{RowEvent}
use Rattle.base_values.specs.declared.gho_schema.schema.Schema.{Schema}
use Rattle.base_values.specs.GhoSchema.Rows.{key_of, key_places}
use Rattle.base_values.specs.GhoSchema.Tables.{IsTable}
use Rattle.table_store.specs.ClusteredKeys.{HasClusteredKey}
use Rattle.table_store.specs.Databases.{TableRows, Database, find_table, with_change}
use Rattle.table_store.specs.RowLists.{is_at, without_key}
use Rattle.table_store.proofs.Orders.{Row}
use Rattle.table_store.proofs.TableLaws.{put_keeps, remove_keeps}
use Rattle.server_model.specs.declared.need.Need.{Need}
use Rattle.server_model.specs.Operations.{after_events, change_table}
use Rattle.server_model.specs.Rows.{without_row}
use Rattle.server_model.specs.LockedRows.Coverage.{IsWellFormedTable}
use Rattle.server_model.specs.LockedRows.Databases.{IsWellFormedDatabase, WhereFound}
use Rattle.server_model.proofs.LockedRows.OneRow.{same_removal}
use Rattle.server_model.proofs.LockedRows.WellFormed.{nulls}
use Rattle.server_model.proofs.LockedRows.Stables.{after_events-append, others_agree}
use Rattle.proof_journals.specs.Ghost.Rows.Moments.{Fits}
use Rattle.proof_journals.proofs.Ghost.Rows.TimelineLaws.{none_clashing}
use Rattle.proof_journals.specs.Ghost.FittingEvents as ghost
use Rattle.proof_journals.proofs.Ghost.Changing.{found_stands}
use Rattle.proof_journals.proofs.Ghost.Fitting.{fitting_end, well_formed_event}
use Rattle.proof_journals.specs.Holdings.{Face}
use Rattle.server_seen.specs.FittingChanges.{FitsRows, IsNewAmong}
use Rattle.server_transaction.specs.FittingEvents.{EventsFit, FitsIn}
use Rattle.proof_journals.specs.ServerFacts.Invariants.{AllExist, OwnFits}
use Rattle.proof_journals.specs.ServerFacts.Grants.{grown, GrowsWell}
use Rattle.proof_journals.proofs.ServerFacts.Kept.{Keeps, own_others}
use Rattle.proof_journals.proofs.ServerFacts.Granted.{seen_well_formed, stands_after}
use Rattle.proof_journals.proofs.ServerFacts.Effects.{grown_apart, grown_well_formed}

-- a change that fits a table fits its rows by their keys
change_fits : (schema : Schema) (rows : List Row) (change : Change) → HasClusteredKey schema → IsTable schema rows → Fits schema rows change → FitsRows (key_places schema) rows change
change_fits schema rows (Write row) has is fits = (put_keeps nulls (record { schema = schema; rows = rows }) row has is fits.0 (none_clashing schema row rows fits.1)).0
change_fits schema rows (Update before after) has is fits =
    let places : List ℕ = key_places schema in
    let left : List Row = without_key places (key_of places before) rows in
    let stood = found_stands (is_at places (key_of places before)) before rows fits.0 in
    let gone : left ≡ without_row before rows = same_removal places before rows is.ascends stood in
    let new = put_keeps nulls (record { schema = schema; rows = left }) after has (remove_keeps schema rows (key_of places before) is) fits.1 (none_clashing schema after left fits.2) in
    (stood, subst (λ (others : List Row). IsNewAmong places others after) gone new.0)
change_fits schema rows (Delete row) has is fits = found_stands (is_at (key_places schema) (key_of (key_places schema) row)) row rows fits

found_fits : (change : Change) (found : Option TableRows) → WhereFound IsWellFormedTable found → is_some found ≡ true → WhereFound (λ table. Fits table.schema table.rows change) found → FitsIn change found
found_fits change None is stands fits = absurd (false≢true stands)
found_fits change (Some table) is stands fits = change_fits table.schema table.rows change is.keyed is.is_table fits

pub stand_event : (tables : Database) (event : RowEvent) (events : List RowEvent) → AllExist tables events → AllExist (with_change event.table (change_table event.change) tables) events
unfolding after_events
stand_event tables event [] stand = tt
stand_event tables event (first ∷ events) stand = (stands_after first.table tables (event ∷ []) ∙ stand.0, stand_event tables event events stand.1)

-- *Events that fit, and whose tables stand, fit by their keys.*
pub data_fits : (tables : Database) (events : List RowEvent) → IsWellFormedDatabase tables → AllExist tables events → ghost.EventsFit tables events → EventsFit tables events
unfolding ghost.EventsFit EventsFit
data_fits tables [] is stand fits = tt
data_fits tables (event ∷ events) is stand fits = (
  found_fits event.change (find_table event.table tables) (is.each event.table) stand.0 fits.0,
  data_fits (with_change event.table (change_table event.change) tables) events (well_formed_event tables event is fits.0) (stand_event tables event events stand.1) fits.1,
)

pub fit_after : (tables : Database) (a b : List RowEvent) → ghost.EventsFit tables (a ++ b) → ghost.EventsFit (after_events tables a) b
unfolding after_events ghost.EventsFit
fit_after tables [] b fits = fits
fit_after tables (event ∷ a) b fits = fit_after (with_change event.table (change_table event.change) tables) a b fits.1

pub stand_after : (tables : Database) (a b : List RowEvent) → AllExist tables (a ++ b) → AllExist tables b
stand_after tables [] b stand = stand
stand_after tables (event ∷ a) b stand = stand_after tables a b stand.1

pub stand_seen : (tables : Database) (writes events : List RowEvent) → AllExist tables events → AllExist (after_events tables writes) events
stand_seen tables writes [] stand = tt
stand_seen tables writes (event ∷ events) stand = (stands_after event.table tables writes ∙ stand.0, stand_seen tables writes events stand.1)

-- what a session writes fits the tables as it sees them
pub own_fit : (tables : Database) (faces : ℕ → Face) (number : ℕ) (need : Need) (events : List RowEvent) → Keeps tables faces → GrowsWell tables faces number need events → EventsFit (after_events tables (faces number).hold.writes) events
own_fit tables faces number need events kept well =
    let own : Face = grown (faces number) need events in
    data_fits (after_events tables (faces number).hold.writes) events (seen_well_formed tables (faces number) kept.well_formed (kept.own number))
    (stand_seen tables (faces number).hold.writes events (stand_after tables (faces number).hold.writes events well.own.standing))
    (fit_after tables (faces number).hold.writes events (fitting_end own.hold.names own.hold.locks own.hold.writes tables kept.well_formed well.own.fitting))

-- what others wrote stays theirs behind what a session commits
others_stay : (tables : Database) (faces : ℕ → Face) (number : ℕ) (need : Need) (events : List RowEvent) → Keeps tables faces → GrowsWell tables faces number need events → (n : ℕ) → (n == number) ≡ false → OwnFits (after_events tables ((faces number).hold.writes ++ events)) (faces n)
others_stay tables faces number need events kept well n differ =
    let own : Face = grown (faces number) need events in
    own_others tables (after_events tables own.hold.writes) (faces n) (others_agree (faces n).hold.names own.hold.names own.hold.locks (faces n).hold.locks tables own.hold.writes (grown_apart tables faces number need events kept well n differ) well.own.covered) (kept.own n)

-- ... it fits the tables as they then are
pub others_fit : (tables : Database) (faces : ℕ → Face) (number : ℕ) (need : Need) (events : List RowEvent) → Keeps tables faces → GrowsWell tables faces number need events → (n : ℕ) → (n == number) ≡ false
    → EventsFit (after_events tables ((faces number).hold.writes ++ events)) (faces n).hold.writes
others_fit tables faces number need events kept well n differ =
    let after : Database = after_events tables ((faces number).hold.writes ++ events) in
    let well_formed : IsWellFormedDatabase after = grown_well_formed tables faces number need events kept well in
    let stays : OwnFits after (faces n) = others_stay tables faces number need events kept well n differ in
    data_fits after (faces n).hold.writes well_formed stays.standing (fitting_end (faces n).hold.names (faces n).hold.locks (faces n).hold.writes after well_formed stays.fitting)

-- ... and leaves them tables
pub others_well_formed : (tables : Database) (faces : ℕ → Face) (number : ℕ) (need : Need) (events : List RowEvent) → Keeps tables faces → GrowsWell tables faces number need events → (n : ℕ) → (n == number) ≡ false
    → IsWellFormedDatabase (after_events (after_events tables ((faces number).hold.writes ++ events)) (faces n).hold.writes)
others_well_formed tables faces number need events kept well n differ =
    seen_well_formed (after_events tables ((faces number).hold.writes ++ events)) (faces n) (grown_well_formed tables faces number need events kept well) (others_stay tables faces number need events kept well n differ)

-- what a session writes leaves tables, as it sees them
pub own_well_formed : (tables : Database) (faces : ℕ → Face) (number : ℕ) (need : Need) (events : List RowEvent) → Keeps tables faces → GrowsWell tables faces number need events → IsWellFormedDatabase (after_events (after_events tables (faces number).hold.writes) events)
own_well_formed tables faces number need events kept well = subst IsWellFormedDatabase (after_events-append tables (faces number).hold.writes events) (grown_well_formed tables faces number need events kept well)
