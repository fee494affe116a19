-- Each kind of entry keeps the ghost invariant.
use Rattle.std.proofs.Common.{◌≡◌, ℕ, Bool, false, List, [], ◌∷◌, ◌++◌, length, Option, Some, refl, sym, ap, ◌∙◌, subst}
use Rattle.std.specs.Prelude.{◌==◌}
use Rattle.base_values.specs.declared.span.Span.{Span}
use Rattle.base_values.specs.declared.gho_schema.schema.Schema.{Schema}
use Rattle.base_values.specs.GhoSchema.Rows.{key_places}
use Rattle.base_values.specs.declared.event.RowEvent.{RowEvent}
use Rattle.base_values.specs.declared.event.Change.{Change}
use Rattle.server_locks.specs.declared.row_locks.lock.Lock.{Lock}
use Rattle.table_store.specs.Databases.{TableRows, Database, find_table, with_change}
use Rattle.proof_journals.proofs.Ghost.Ending.{batch_ends, batch_lost, batch_unknown, chunk_ends, chunk_lost, chunk_unknown, log_joins}
use Rattle.proof_journals.proofs.Ghost.Fitting.{events_lead, found_behind}
use Rattle.proof_journals.specs.Ghost.FittingEvents.{EventsFit}
use Rattle.proof_journals.specs.Ghost.Invariant.{GhostInvariant, IsServed, NotOf}
use Rattle.proof_journals.specs.Ghost.Joined.{IsJoined}
use Rattle.proof_journals.specs.Ghost.Relation.Views.{Progress}
use Rattle.proof_journals.proofs.Ghost.Rows.Finishing.{log_fits-append}
use Rattle.proof_journals.specs.Ghost.Rows.Moments.{LogFits, Row, rows_after, rows_after_all, rows_at, rows_then}
use Rattle.proof_journals.specs.Ghost.Rows.Timelines.{IsPlanned, Migration}
use Rattle.proof_journals.specs.Ghost.Rows.Views.{GhostRows, is_among, is_done, is_done_in}
use Rattle.proof_journals.specs.Scenes.{Besides, SessionHold, Stored, no_hold}
use Rattle.server_model.specs.Operations.{after_events, change_table, events_of}
use Rattle.server_model.proofs.LockedRows.Finding.{change_if, found_after}
use Rattle.server_model.proofs.LockedRows.Tests.{same_bytes}
use Rattle.server_model.specs.LockedRows.Databases.{IsWellFormedDatabase}

-- ---- rows after logs

rows_more : (name places : List ℕ) (rows : List Row) (log more : List RowEvent) → rows_at name places (rows_at name places rows log (length log)) more (length more) ≡ rows_at name places rows (log ++ more) (length (log ++ more))
unfolding rows_at
rows_more name places rows [] more = refl
rows_more name places rows (event ∷ log) more = rows_more name places (rows_then name places event rows) log more

-- a table's own events
rows_own : (name places : List ℕ) (rows : List Row) (changes : List Change) → rows_at name places rows (events_of name changes) (length (events_of name changes)) ≡ rows_after_all places changes rows
unfolding rows_at rows_after_all
rows_own name places rows [] = refl
rows_own name places rows (change ∷ changes) =
    ap (λ (rs : List Row). rows_at name places rs (events_of name changes) (length (events_of name changes))) (rw (same_bytes name) refl) ∙ rows_own name places (rows_after places change rows) changes

-- events of other tables
pub found_besides : (name : List ℕ) (events : List RowEvent) (tables : Database) → NotOf name events → find_table name (after_events tables events) ≡ find_table name tables
unfolding after_events
found_besides name [] tables others = refl
found_besides name (event ∷ events) tables others =
    found_besides name events (with_change event.table (change_table event.change) tables) others.1 ∙ found_after event.table name event.change tables ∙ ap (λ (b : Bool). change_if b event.change (find_table name tables)) others.0

-- the new table, as a session that wrote these changes of it sees it
pub view_found : (schema : Schema) (rows : List Row) (changes : List Change) (tables : Database) → IsWellFormedDatabase tables → EventsFit tables (events_of schema.name changes) → find_table schema.name tables ≡ Some (record { schema = schema; rows = rows })
    → find_table schema.name (after_events tables (events_of schema.name changes)) ≡ Some (record { schema = schema; rows = rows_after_all (key_places schema) changes rows })
view_found schema rows changes tables is fits found =
    found_behind schema.name (events_of schema.name changes) tables (record { schema = schema; rows = rows }) is fits found
    ∙ ap (λ (rs : List Row). let t : TableRows = record { schema = schema; rows = rs } in Some t) (rows_own schema.name (key_places schema) rows changes)

-- ---- a commit, by whomever

-- what a commit leaves of the migrated table
old_then : (m : Migration) (rows : List Row) (now after : Stored) (writes : List RowEvent) → IsWellFormedDatabase now.tables → EventsFit now.tables writes → find_table m.name now.tables ≡ Some (record { schema = m.schema; rows = rows_at m.name (key_places m.schema) rows now.log (length now.log) })
    → after.tables ≡ after_events now.tables writes → after.log ≡ now.log ++ writes → find_table m.name after.tables ≡ Some (record { schema = m.schema; rows = rows_at m.name (key_places m.schema) rows after.log (length after.log) })
old_then m rows now after writes is fits found tables log =
    ap (find_table m.name) tables
    ∙ found_behind m.name writes now.tables (record { schema = m.schema; rows = rows_at m.name (key_places m.schema) rows now.log (length now.log) }) is fits found
    ∙ ap (λ (rs : List Row). let t : TableRows = record { schema = m.schema; rows = rs } in Some t) (rows_more m.name (key_places m.schema) rows now.log writes ∙ ap (λ (l : List RowEvent). rows_at m.name (key_places m.schema) rows l (length l)) (sym log))

-- the log grows by what is committed
joined_then : (m : Migration) (rows : List Row) (done half : Row → Bool) (own others : List Lock) (taken : List Row) (progress : Progress Row) (ghost : GhostRows) (now after : Stored) (writes : List RowEvent) → IsPlanned m rows → IsWellFormedDatabase now.tables → EventsFit now.tables writes
    → find_table m.name now.tables ≡ Some (record { schema = m.schema; rows = rows_at m.name (key_places m.schema) rows now.log (length now.log) }) → after.log ≡ now.log ++ writes → IsJoined m rows now.log done half own others taken progress ghost
    → IsJoined m rows after.log done half own others taken (record progress { end = length after.log }) ghost
joined_then m rows done half own others taken progress ghost now after writes planned is fits found log joined =
    subst (λ (l : List RowEvent). IsJoined m rows l done half own others taken (record progress { end = length l }) ghost) (sym log)
    (log_joins m rows now.log writes done half own others taken progress ghost planned (events_lead m.name writes now.tables (record { schema = m.schema; rows = rows_at m.name (key_places m.schema) rows now.log (length now.log) }) is fits found) joined)

-- *A client commits*, or any session but the copier and the applier.
pub commit_keeps : (m : Migration) (rows : List Row) (done half : Row → Bool) (taken : List Row) (progress : Progress Row) (ghost : GhostRows) (copier applier number : ℕ) (now after : Stored) (hold holds : ℕ → SessionHold) → IsPlanned m rows → IsServed now hold → GhostInvariant m rows done half taken progress ghost copier applier now hold
    → (copier == number) ≡ false → (applier == number) ≡ false → NotOf m.new.name (hold number).writes → Besides number hold holds no_hold → after.tables ≡ after_events now.tables (hold number).writes → after.log ≡ now.log ++ (hold number).writes
    → GhostInvariant m rows done half taken (record progress { end = length after.log }) ghost copier applier after holds
commit_keeps m rows done half taken progress ghost copier applier number now after hold holds planned served kept not_copier not_applier besides_new besides tables log =
    let writes : List RowEvent = (hold number).writes in
    record {
      joined = rw (besides.there applier not_applier, besides.there copier not_copier) (joined_then m rows done half (hold applier).locks (hold copier).locks taken progress ghost now after writes planned served.well_formed (served.fits number) kept.old log kept.joined);
      old = old_then m rows now after writes served.well_formed (served.fits number) kept.old tables log;
      new = ap (find_table m.new.name) tables ∙ found_besides m.new.name writes now.tables besides_new ∙ kept.new;
      batch = ap (λ (s : SessionHold). s.writes) (besides.there applier not_applier) ∙ kept.batch;
      chunk = ap (λ (s : SessionHold). s.writes) (besides.there copier not_copier) ∙ kept.chunk;
      differ = kept.differ;
    }

-- what the applier and the copier leave of the new table
new_then : (m : Migration) (changes : List Change) (rows : List Row) (now after : Stored) (writes : List RowEvent) → IsWellFormedDatabase now.tables → EventsFit now.tables writes → writes ≡ events_of m.new.name changes → find_table m.new.name now.tables ≡ Some (record { schema = m.new; rows = rows })
    → after.tables ≡ after_events now.tables writes → find_table m.new.name after.tables ≡ Some (record { schema = m.new; rows = rows_after_all (key_places m.new) changes rows })
new_then m changes rows now after writes is fits are found tables =
    ap (find_table m.new.name) tables ∙ ap (λ (w : List RowEvent). find_table m.new.name (after_events now.tables w)) are ∙ view_found m.new rows changes now.tables is (subst (EventsFit now.tables) are fits) found

-- *The batch's COMMIT*
pub batch_keeps : (m : Migration) (rows : List Row) (done : Row → Bool) (taken : List Row) (progress : Progress Row) (ghost : GhostRows) (copier applier : ℕ) (now after : Stored) (hold holds : ℕ → SessionHold) → IsPlanned m rows → IsServed now hold → GhostInvariant m rows done (λ _. false) taken progress ghost copier applier now hold
    → (copier == applier) ≡ false → Besides applier hold holds no_hold → after.tables ≡ after_events now.tables (hold applier).writes → after.log ≡ now.log ++ (hold applier).writes
    → GhostInvariant m rows done (λ _. false) taken (record progress { position = progress.reached; end = length after.log; applier_holds = λ _. false }) (record ghost { committed = rows_after_all (key_places m.new) ghost.batch ghost.committed; batch = [] }) copier applier after holds
batch_keeps m rows done taken progress ghost copier applier now after hold holds planned served kept differ besides tables log =
    let writes : List RowEvent = (hold applier).writes in
    let ghost' : GhostRows = record ghost { committed = rows_after_all (key_places m.new) ghost.batch ghost.committed; batch = [] } in
    record {
      joined = rw (besides.here, besides.there copier differ)
          (joined_then m rows done (λ _. false) [] (hold copier).locks taken (record progress { position = progress.reached; applier_holds = λ _. false }) ghost' now after writes planned served.well_formed (served.fits applier) kept.old log
          (batch_ends m rows now.log done (hold applier).locks (hold copier).locks taken progress ghost planned kept.joined));
      old = old_then m rows now after writes served.well_formed (served.fits applier) kept.old tables log;
      new = new_then m ghost.batch ghost.committed now after writes served.well_formed (served.fits applier) kept.batch kept.new tables;
      batch = ap (λ (s : SessionHold). s.writes) besides.here;
      chunk = ap (λ (s : SessionHold). s.writes) (besides.there copier differ) ∙ kept.chunk;
      differ = kept.differ;
    }

-- *The chunk's COMMIT*
pub chunk_keeps : (m : Migration) (rows : List Row) (left following : Option Span) (keys : List Row) (half : Row → Bool) (taken : List Row) (progress : Progress Row) (ghost : GhostRows) (copier applier : ℕ) (now after : Stored) (hold holds : ℕ → SessionHold) → IsPlanned m rows → IsServed now hold
    → GhostInvariant m rows (is_done_in left following keys) half taken progress ghost copier applier now hold → (applier == copier) ≡ false → ((key : Row) → is_among taken key ≡ is_among keys key)
    → Besides copier hold holds no_hold → after.tables ≡ after_events now.tables (hold copier).writes → after.log ≡ now.log ++ (hold copier).writes
    → GhostInvariant m rows (is_done following) half [] (record progress { end = length after.log; copier_holds = λ _. false }) (record ghost { committed = rows_after_all (key_places m.new) ghost.chunk ghost.committed; chunk = [] }) copier applier after holds
chunk_keeps m rows left following keys half taken progress ghost copier applier now after hold holds planned served kept differ all besides tables log =
    let writes : List RowEvent = (hold copier).writes in
    let ghost' : GhostRows = record ghost { committed = rows_after_all (key_places m.new) ghost.chunk ghost.committed; chunk = [] } in
    record {
      joined = rw (besides.here, besides.there applier differ)
          (joined_then m rows (is_done following) half (hold applier).locks [] [] (record progress { copier_holds = λ _. false }) ghost' now after writes planned served.well_formed (served.fits copier) kept.old log
          (chunk_ends m rows now.log left following keys half (hold applier).locks (hold copier).locks taken progress ghost planned all kept.joined));
      old = old_then m rows now after writes served.well_formed (served.fits copier) kept.old tables log;
      new = new_then m ghost.chunk ghost.committed now after writes served.well_formed (served.fits copier) kept.chunk kept.new tables;
      batch = ap (λ (s : SessionHold). s.writes) (besides.there applier differ) ∙ kept.batch;
      chunk = ap (λ (s : SessionHold). s.writes) besides.here;
      differ = kept.differ;
    }

-- *A lost COMMIT that was done*, of the batch and of the chunk
pub batch_keeps_lost : (m : Migration) (rows : List Row) (done : Row → Bool) (taken : List Row) (progress : Progress Row) (ghost : GhostRows) (copier applier : ℕ) (now after : Stored) (hold holds : ℕ → SessionHold) → IsPlanned m rows → IsServed now hold → GhostInvariant m rows done (λ _. false) taken progress ghost copier applier now hold
    → (copier == applier) ≡ false → Besides applier hold holds no_hold → after.tables ≡ after_events now.tables (hold applier).writes → after.log ≡ now.log ++ (hold applier).writes
    → GhostInvariant m rows done (λ _. false) taken (record progress { reached = progress.position; end = length after.log; applier_holds = λ _. false }) (record ghost { committed = rows_after_all (key_places m.new) ghost.batch ghost.committed; batch = [] }) copier applier after holds
batch_keeps_lost m rows done taken progress ghost copier applier now after hold holds planned served kept differ besides tables log =
    let writes : List RowEvent = (hold applier).writes in
    let ghost' : GhostRows = record ghost { committed = rows_after_all (key_places m.new) ghost.batch ghost.committed; batch = [] } in
    record {
      joined = rw (besides.here, besides.there copier differ)
          (joined_then m rows done (λ _. false) [] (hold copier).locks taken (record progress { reached = progress.position; applier_holds = λ _. false }) ghost' now after writes planned served.well_formed (served.fits applier) kept.old log
          (batch_unknown m rows now.log done (hold applier).locks (hold copier).locks taken progress ghost planned kept.joined));
      old = old_then m rows now after writes served.well_formed (served.fits applier) kept.old tables log;
      new = new_then m ghost.batch ghost.committed now after writes served.well_formed (served.fits applier) kept.batch kept.new tables;
      batch = ap (λ (s : SessionHold). s.writes) besides.here;
      chunk = ap (λ (s : SessionHold). s.writes) (besides.there copier differ) ∙ kept.chunk;
      differ = kept.differ;
    }

pub chunk_keeps_lost : (m : Migration) (rows : List Row) (left following : Option Span) (keys : List Row) (half : Row → Bool) (taken : List Row) (progress : Progress Row) (ghost : GhostRows) (copier applier : ℕ) (now after : Stored) (hold holds : ℕ → SessionHold) → IsPlanned m rows → IsServed now hold
    → GhostInvariant m rows (is_done_in left following keys) half taken progress ghost copier applier now hold → (applier == copier) ≡ false
    → Besides copier hold holds no_hold → after.tables ≡ after_events now.tables (hold copier).writes → after.log ≡ now.log ++ (hold copier).writes
    → GhostInvariant m rows (is_done left) half [] (record progress { end = length after.log; copier_holds = λ _. false }) (record ghost { committed = rows_after_all (key_places m.new) ghost.chunk ghost.committed; chunk = [] }) copier applier after holds
chunk_keeps_lost m rows left following keys half taken progress ghost copier applier now after hold holds planned served kept differ besides tables log =
    let writes : List RowEvent = (hold copier).writes in
    let ghost' : GhostRows = record ghost { committed = rows_after_all (key_places m.new) ghost.chunk ghost.committed; chunk = [] } in
    record {
      joined = rw (besides.here, besides.there applier differ)
          (joined_then m rows (is_done left) half (hold applier).locks [] [] (record progress { copier_holds = λ _. false }) ghost' now after writes planned served.well_formed (served.fits copier) kept.old log
          (chunk_unknown m rows now.log left following keys half (hold applier).locks (hold copier).locks taken progress ghost planned kept.joined));
      old = old_then m rows now after writes served.well_formed (served.fits copier) kept.old tables log;
      new = new_then m ghost.chunk ghost.committed now after writes served.well_formed (served.fits copier) kept.chunk kept.new tables;
      batch = ap (λ (s : SessionHold). s.writes) (besides.there applier differ) ∙ kept.batch;
      chunk = ap (λ (s : SessionHold). s.writes) besides.here;
      differ = kept.differ;
    }

-- *A rollback, a loss before it was done, or a wait that timed out*: the tables are as they were
pub batch_keeps_back : (m : Migration) (rows : List Row) (done half : Row → Bool) (taken : List Row) (progress : Progress Row) (ghost : GhostRows) (copier applier : ℕ) (now : Stored) (hold holds : ℕ → SessionHold) → IsPlanned m rows → GhostInvariant m rows done half taken progress ghost copier applier now hold
    → (copier == applier) ≡ false → Besides applier hold holds no_hold → GhostInvariant m rows done (λ _. false) taken (record progress { reached = progress.position; applier_holds = λ _. false }) (record ghost { batch = [] }) copier applier now holds
batch_keeps_back m rows done half taken progress ghost copier applier now hold holds planned kept differ besides =
    record {
      joined = rw (besides.here, besides.there copier differ) (batch_lost m rows now.log done half (hold applier).locks (hold copier).locks taken progress ghost planned kept.joined);
      old = kept.old;
      new = kept.new;
      batch = ap (λ (s : SessionHold). s.writes) besides.here;
      chunk = ap (λ (s : SessionHold). s.writes) (besides.there copier differ) ∙ kept.chunk;
      differ = kept.differ;
    }

pub chunk_keeps_back : (m : Migration) (rows : List Row) (left following : Option Span) (keys : List Row) (half : Row → Bool) (taken : List Row) (progress : Progress Row) (ghost : GhostRows) (copier applier : ℕ) (now : Stored) (hold holds : ℕ → SessionHold)
    → GhostInvariant m rows (is_done_in left following keys) half taken progress ghost copier applier now hold → (applier == copier) ≡ false → Besides copier hold holds no_hold
    → GhostInvariant m rows (is_done left) half [] (record progress { copier_holds = λ _. false }) (record ghost { chunk = [] }) copier applier now holds
chunk_keeps_back m rows left following keys half taken progress ghost copier applier now hold holds kept differ besides =
    record {
      joined = rw (besides.here, besides.there applier differ) (chunk_lost m rows now.log left following keys half (hold applier).locks (hold copier).locks taken progress ghost kept.joined);
      old = kept.old;
      new = kept.new;
      batch = ap (λ (s : SessionHold). s.writes) (besides.there applier differ) ∙ kept.batch;
      chunk = ap (λ (s : SessionHold). s.writes) besides.here;
      differ = kept.differ;
    }

-- *Another session goes on*: it is granted locks, or writes in its transaction
pub other_keeps : (m : Migration) (rows : List Row) (done half : Row → Bool) (taken : List Row) (progress : Progress Row) (ghost : GhostRows) (copier applier number : ℕ) (now : Stored) (hold holds : ℕ → SessionHold) (own : SessionHold) → GhostInvariant m rows done half taken progress ghost copier applier now hold
    → (copier == number) ≡ false → (applier == number) ≡ false → Besides number hold holds own → GhostInvariant m rows done half taken progress ghost copier applier now holds
other_keeps m rows done half taken progress ghost copier applier number now hold holds own kept not_copier not_applier besides =
    record {
      joined = rw (besides.there applier not_applier, besides.there copier not_copier) kept.joined;
      old = kept.old;
      new = kept.new;
      batch = ap (λ (s : SessionHold). s.writes) (besides.there applier not_applier) ∙ kept.batch;
      chunk = ap (λ (s : SessionHold). s.writes) (besides.there copier not_copier) ∙ kept.chunk;
      differ = kept.differ;
    }

-- ---- before the migration is under way: the table from the log's first event on

pub record TableExists (m : Migration) (rows : List Row) (now : Stored) : Type 0 where
  pub log_fits : LogFits m.name m.schema rows now.log
  pub found : find_table m.name now.tables ≡ Some (record { schema = m.schema; rows = rows_at m.name (key_places m.schema) rows now.log (length now.log) })

pub table_opens : (m : Migration) (rows : List Row) (tables : Database) → find_table m.name tables ≡ Some (record { schema = m.schema; rows = rows }) → TableExists m rows (record { tables = tables; log = [] })
unfolding LogFits rows_at
table_opens m rows tables found = record { log_fits = tt; found = found }

pub table_commits : (m : Migration) (rows : List Row) (now after : Stored) (hold : ℕ → SessionHold) (number : ℕ) → IsServed now hold → TableExists m rows now → after.tables ≡ after_events now.tables (hold number).writes → after.log ≡ now.log ++ (hold number).writes → TableExists m rows after
table_commits m rows now after hold number served stands tables log =
    let writes : List RowEvent = (hold number).writes in
    record {
      log_fits = subst (LogFits m.name m.schema rows) (sym log)
          (log_fits-append m.name m.schema rows now.log writes stands.log_fits (events_lead m.name writes now.tables (record { schema = m.schema; rows = rows_at m.name (key_places m.schema) rows now.log (length now.log) }) served.well_formed (served.fits number) stands.found));
      found = old_then m rows now after writes served.well_formed (served.fits number) stands.found tables log;
    }

pub table_moves : (m : Migration) (rows : List Row) (now after : Stored) → TableExists m rows now → after.log ≡ now.log → find_table m.name after.tables ≡ find_table m.name now.tables → TableExists m rows after
table_moves m rows now after stands log same = record { log_fits = rw log stands.log_fits; found = rw log (same ∙ stands.found) }
