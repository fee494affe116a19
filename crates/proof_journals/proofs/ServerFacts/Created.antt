-- What a session wrote goes with a database that has one more table as well, of a name that none had.
use Rattle.std.proofs.Common.{◌≡◌, ℕ, Bool, true, false, List, [], ◌∷◌, ◌++◌, Option, None, refl, sym, ap, ◌∙◌, subst}
use Rattle.std.specs.Prelude.{is_some}
use Rattle.std.proofs.lemmas.Bool.{false≢true}
use Rattle.std.specs.List.{AllByRecursion, list_any}
use Rattle.std.specs.Str.{bytes_eq}
use Rattle.base_values.specs.declared.event.Change.{Change}
use Rattle.base_values.specs.declared.event.RowEvent.{RowEvent}
use Rattle.base_values.specs.declared.gho_schema.schema.Schema.{Schema}
use Rattle.server_locks.specs.declared.row_locks.lock.Lock.{Lock}
use Rattle.table_store.specs.Databases.{TableRows, Database, find_table, has_table, with_change, without_table}
use Rattle.server_model.specs.Operations.{change_table}
use Rattle.server_model.specs.LockedRows.Agreement.{Agree, TablesAgree}
use Rattle.server_model.specs.LockedRows.Coverage.{IsWellFormedTable}
use Rattle.server_model.specs.LockedRows.Databases.{ChangeCovered, WhereFound, EventsCovered}
use Rattle.server_model.proofs.LockedRows.Finding.{change_if, found_after}
use Rattle.server_model.proofs.LockedRows.Tests.{are_same}
use Rattle.proof_journals.specs.Ghost.Rows.Moments.{Fits}
use Rattle.proof_journals.specs.Ghost.FittingEvents.{EventsFit, IsFitting}
use Rattle.proof_journals.proofs.Moves.{create_moves, drop_moves, gone_none, none_found}
use Rattle.proof_journals.specs.Holdings.{Face}
use Rattle.proof_journals.specs.ServerFacts.Invariants.{AllExist, OwnFits}

-- the two have the same tables but for one name
abbrev pub AlikeBut : List ℕ → Database → Database → Type 0
AlikeBut name a b = (other : List ℕ) → bytes_eq other name ≡ false → find_table other b ≡ find_table other a

-- no event is of the table of this name
abbrev pub NotOf : List ℕ → List RowEvent → Type 0
NotOf name events = AllByRecursion (λ event. bytes_eq event.table name ≡ false) events

alike_changed : (name event : List ℕ) (change : Change) (a b : Database) → AlikeBut name a b → AlikeBut name (with_change event (change_table change) a) (with_change event (change_table change) b)
alike_changed name event change a b alike other off =
    found_after event other change b ∙ ap (change_if (bytes_eq event other) change) (alike other off) ∙ sym (found_after event other change a)

-- events of other tables
fits_alike : (name : List ℕ) (a b : Database) (events : List RowEvent) → AlikeBut name a b → NotOf name events → EventsFit a events → EventsFit b events
unfolding EventsFit
fits_alike name a b [] alike off fits = tt
fits_alike name a b (event ∷ events) alike off fits = (
  subst (WhereFound (λ table. Fits table.schema table.rows event.change)) (sym (alike event.table off.0)) fits.0,
  fits_alike name (with_change event.table (change_table event.change) a) (with_change event.table (change_table event.change) b) events (alike_changed name event.table event.change a b alike) off.1 fits.1,
)

covered_alike : (name : List ℕ) (names : List (List ℕ)) (locks : List Lock) (a b : Database) (events : List RowEvent) → AlikeBut name a b → NotOf name events → EventsCovered names locks a events → EventsCovered names locks b events
covered_alike name names locks a b [] alike off covered = tt
covered_alike name names locks a b (event ∷ events) alike off covered = (
  record { named = covered.0.named; covered = subst (WhereFound (ChangeCovered locks event.change)) (sym (alike event.table off.0)) covered.0.covered },
  covered_alike name names locks a b events alike off.1 covered.1,
)

stand_alike : (name : List ℕ) (a b : Database) (events : List RowEvent) → AlikeBut name a b → NotOf name events → AllExist a events → AllExist b events
stand_alike name a b [] alike off stand = tt
stand_alike name a b (event ∷ events) alike off stand = (ap is_some (alike event.table off.0) ∙ stand.0, stand_alike name a b events alike off.1 stand.1)

-- a table that stands has another name than one that doesn't
off_name : (name event : List ℕ) (tables : Database) → find_table name tables ≡ None → is_some (find_table event tables) ≡ true → bytes_eq event name ≡ false
off_name name event tables none stands = at (bytes_eq event name) refl where
  at : (b : Bool) → bytes_eq event name ≡ b → b ≡ false
  at true same = absurd (false≢true (sym (ap is_some none) ∙ ap (λ (n : List ℕ). is_some (find_table n tables)) (sym (are_same event name same)) ∙ stands))
  at false same = refl

off_names : (name : List ℕ) (tables : Database) (events : List RowEvent) → find_table name tables ≡ None → AllExist tables events → NotOf name events
off_names name tables [] none stand = tt
off_names name tables (event ∷ events) none stand = (off_name name event.table tables none stand.0, off_names name tables events none stand.1)

gone_alike : (name : List ℕ) (tables : Database) → AlikeBut name (without_table name tables) tables
gone_alike name tables other off = sym ((drop_moves name tables).others other (rw off refl))

abbrev pub empty : Schema → TableRows
empty schema = record { schema = schema; rows = [] }

made_alike : (schema : Schema) (tables : Database) → IsWellFormedTable (empty schema) → AlikeBut schema.name tables (tables ++ empty schema ∷ [])
made_alike schema tables new other off = (create_moves schema tables new).others other (rw off refl)

fitting_created : (schema : Schema) (tables : Database) (names : List (List ℕ)) (locks : List Lock) (writes : List RowEvent) → IsWellFormedTable (empty schema) → has_table schema.name tables ≡ false → AllExist tables writes → IsFitting names locks writes tables
    → IsFitting names locks writes (tables ++ empty schema ∷ [])
fitting_created schema tables names locks writes new none stand fitting = record {
  each = λ other is agree.
      fits_alike schema.name (without_table schema.name other) other writes (gone_alike schema.name other) (off_names schema.name tables writes (none_found schema.name tables none) stand)
      (fitting.each (without_table schema.name other) ((drop_moves schema.name other).well_formed is) (record { tables = λ name held. at other agree name (bytes_eq name schema.name) refl held }));
} where
  at : (other : Database) → Agree names locks (tables ++ empty schema ∷ []) other → (name : List ℕ) (b : Bool) → bytes_eq name schema.name ≡ b → list_any (bytes_eq name) names ≡ true → TablesAgree locks (find_table name tables) (find_table name (without_table schema.name other))
  at other agree name true same held = rw (are_same name schema.name same, none_found schema.name tables none, gone_none schema.name other) tt
  at other agree name false same held =
      rw (sym (gone_alike schema.name other name same)) (subst (λ (o : Option TableRows). TablesAgree locks o (find_table name other)) (made_alike schema tables new name same) (agree.tables name held))

-- *A new table disturbs nobody.*
pub own_created : (schema : Schema) (tables : Database) (face : Face) → IsWellFormedTable (empty schema) → has_table schema.name tables ≡ false → OwnFits tables face → OwnFits (tables ++ empty schema ∷ []) face
own_created schema tables face new none own =
    let off : NotOf schema.name face.hold.writes = off_names schema.name tables face.hold.writes (none_found schema.name tables none) own.standing in
    record {
      rests = own.rests;
      fitting = fitting_created schema tables face.hold.names face.hold.locks face.hold.writes new none own.standing own.fitting;
      covered = covered_alike schema.name face.hold.names face.hold.locks tables (tables ++ empty schema ∷ []) face.hold.writes (made_alike schema tables new) off own.covered;
      standing = stand_alike schema.name tables (tables ++ empty schema ∷ []) face.hold.writes (made_alike schema tables new) off own.standing;
    }
