-- What the copier's and the applier's statements say on the server, the start and the end.
use Rattle.std.proofs.Common.{◌≡◌, ℕ, ◌≤◌, Bool, true, false, List, [], ◌∷◌, ◌++◌, length, Option, Some, None, refl, sym, ap, ◌∙◌, subst}
use Rattle.std.specs.Prelude.{◌==◌}
use Rattle.std.specs.List.{AllByRecursion}
use Rattle.std.specs.Str.{bytes_eq}
use Rattle.base_values.specs.declared.span.Span.{Span}
use Rattle.base_values.specs.declared.gho_schema.schema.Schema.{Schema}
use Rattle.base_values.specs.GhoSchema.Rows.{key_of, key_places}
use Rattle.base_values.specs.RowConversion.ConvertedRows.{converted_rows}
use Rattle.base_values.specs.declared.event.RowEvent.{RowEvent}
use Rattle.base_values.specs.declared.event.Change.{Change}
use Rattle.table_store.specs.Databases.{Database, find_table}
use Rattle.std.proofs.lemmas.Bool.{true≢false}
use Rattle.server_model.specs.declared.work.Work.{Work}
use Rattle.proof_journals.proofs.Ghost.Joining.{none_among, none_locked, table_exists}
use Rattle.proof_journals.proofs.Ghost.Keeping.{view_found}
use Rattle.proof_journals.specs.Ghost.FittingEvents.{EventsFit}
use Rattle.proof_journals.specs.Ghost.Invariant.{GhostInvariant, IsServed}
use Rattle.proof_journals.specs.Ghost.Joined.{IsJoined}
use Rattle.proof_journals.specs.Ghost.Tool.{start_places, no_ghost}
use Rattle.proof_journals.specs.Ghost.Relation.Views.{Progress}
use Rattle.proof_journals.proofs.Ghost.Rows.Finishing.{ghost_is_altered}
use Rattle.proof_journals.proofs.Ghost.Rows.Steps.{migration_starts}
use Rattle.proof_journals.specs.Ghost.Rows.Moments.{LogFits, Row, rows_at}
use Rattle.proof_journals.specs.Ghost.Rows.Timelines.{IsPlanned, Migration}
use Rattle.proof_journals.specs.Ghost.Rows.UnderWay.{IsUnderWay}
use Rattle.proof_journals.specs.Ghost.Rows.Views.{chunk_view, GhostRows, is_done, is_left, view_of}
use Rattle.proof_journals.proofs.Kept.{none_apart}
use Rattle.proof_journals.specs.Scenes.{Besides, SessionHold, Stored, no_hold}
use Rattle.server_model.specs.Operations.{Operation, after_events, events_of, operation_needs, operation_result}
use Rattle.server_model.specs.Needs.{needs}
use Rattle.server_model.specs.StatementResults.{tells}

-- a session's statement on the new table, of which it sees these rows
pub record Says (schema : Schema) (rows : List Row) (tables : Database) (task : Operation) (work : Work) : Type 0 where
  pub said : operation_result tables task ≡ record { answer = (tells schema rows work).answer; events = events_of schema.name (tells schema rows work).changes }
  pub needed : operation_needs tables task ≡ needs schema rows work

says_on : (schema : Schema) (rows : List Row) (tables : Database) (task : Operation) (work : Work) → task.table ≡ schema.name → task.work schema ≡ work → find_table schema.name tables ≡ Some (record { schema = schema; rows = rows }) → Says schema rows tables task work
unfolding operation_result operation_needs
says_on schema rows tables task work name is found =
    let there : find_table task.table tables ≡ Some (record { schema = schema; rows = rows }) = ap (λ (n : List ℕ). find_table n tables) name ∙ found in
    record { said = rw (there, is, name) refl; needed = rw (there, is) refl }

-- *What the applier's statement says, and the locks that it needs*
pub applier_says : (m : Migration) (rows : List Row) (done half : Row → Bool) (taken : List Row) (progress : Progress Row) (ghost : GhostRows) (copier applier : ℕ) (now : Stored) (hold : ℕ → SessionHold) (task : Operation) (work : Work) → IsServed now hold → GhostInvariant m rows done half taken progress ghost copier applier now hold
    → task.table ≡ m.new.name → task.work m.new ≡ work → Says m.new (view_of m ghost) (after_events now.tables (hold applier).writes) task work
applier_says m rows done half taken progress ghost copier applier now hold task work served kept name is =
    says_on m.new (view_of m ghost) (after_events now.tables (hold applier).writes) task work name is
    (ap (λ (w : List RowEvent). find_table m.new.name (after_events now.tables w)) kept.batch ∙ view_found m.new ghost.committed ghost.batch now.tables served.well_formed (subst (EventsFit now.tables) kept.batch (served.fits applier)) kept.new)

-- *What CopyRow says, and the locks that it needs*
pub copier_says : (m : Migration) (rows : List Row) (done half : Row → Bool) (taken : List Row) (progress : Progress Row) (ghost : GhostRows) (copier applier : ℕ) (now : Stored) (hold : ℕ → SessionHold) (task : Operation) (work : Work) → IsServed now hold → GhostInvariant m rows done half taken progress ghost copier applier now hold
    → task.table ≡ m.new.name → task.work m.new ≡ work → Says m.new (chunk_view m ghost) (after_events now.tables (hold copier).writes) task work
copier_says m rows done half taken progress ghost copier applier now hold task work served kept name is =
    says_on m.new (chunk_view m ghost) (after_events now.tables (hold copier).writes) task work name is
    (ap (λ (w : List RowEvent). find_table m.new.name (after_events now.tables w)) kept.chunk ∙ view_found m.new ghost.committed ghost.chunk now.tables served.well_formed (subst (EventsFit now.tables) kept.chunk (served.fits copier)) kept.new)

events_more : (name : List ℕ) (a b : List Change) → events_of name a ++ events_of name b ≡ events_of name (a ++ b)
events_more name [] b = refl
events_more name (change ∷ a) b = ap (λ (es : List RowEvent). record { table = name; change = change } ∷ es) (events_more name a b)

-- *A statement of the applier's*: the step of the migration, and what the server wrote
pub applier_keeps : (m : Migration) (rows : List Row) (done half next next_half : Row → Bool) (taken : List Row) (progress after : Progress Row) (ghost : GhostRows) (changes : List Change) (copier applier : ℕ) (now : Stored) (hold holds : ℕ → SessionHold) (own : SessionHold) → GhostInvariant m rows done half taken progress ghost copier applier now hold
    → (copier == applier) ≡ false → Besides applier hold holds own → own.writes ≡ (hold applier).writes ++ events_of m.new.name changes
    → IsJoined m rows now.log next next_half own.locks (hold copier).locks taken after (record ghost { batch = ghost.batch ++ changes }) → GhostInvariant m rows next next_half taken after (record ghost { batch = ghost.batch ++ changes }) copier applier now holds
applier_keeps m rows done half next next_half taken progress after ghost changes copier applier now hold holds own kept differ besides wrote joined =
    record {
      joined = rw (besides.here, besides.there copier differ) joined;
      old = kept.old;
      new = kept.new;
      batch = ap (λ (s : SessionHold). s.writes) besides.here ∙ wrote ∙ ap (λ (w : List RowEvent). w ++ events_of m.new.name changes) kept.batch ∙ events_more m.new.name ghost.batch changes;
      chunk = ap (λ (s : SessionHold). s.writes) (besides.there copier differ) ∙ kept.chunk;
      differ = kept.differ;
    }

-- *CopyRow, and BeginSpan with no changes*
pub copier_keeps : (m : Migration) (rows : List Row) (done half next next_half : Row → Bool) (taken all : List Row) (progress after : Progress Row) (ghost : GhostRows) (changes : List Change) (copier applier : ℕ) (now : Stored) (hold holds : ℕ → SessionHold) (own : SessionHold) → GhostInvariant m rows done half taken progress ghost copier applier now hold
    → (applier == copier) ≡ false → Besides copier hold holds own → own.writes ≡ (hold copier).writes ++ events_of m.new.name changes
    → IsJoined m rows now.log next next_half (hold applier).locks own.locks all after (record ghost { chunk = ghost.chunk ++ changes }) → GhostInvariant m rows next next_half all after (record ghost { chunk = ghost.chunk ++ changes }) copier applier now holds
copier_keeps m rows done half next next_half taken all progress after ghost changes copier applier now hold holds own kept differ besides wrote joined =
    record {
      joined = rw (besides.here, besides.there applier differ) joined;
      old = kept.old;
      new = kept.new;
      batch = ap (λ (s : SessionHold). s.writes) (besides.there applier differ) ∙ kept.batch;
      chunk = ap (λ (s : SessionHold). s.writes) besides.here ∙ wrote ∙ ap (λ (w : List RowEvent). w ++ events_of m.new.name changes) kept.chunk ∙ events_more m.new.name ghost.chunk changes;
      differ = kept.differ;
    }

-- *A step that changes neither locks nor tables*: ReadLog's walk, a chunk that begins, a range that is copied
pub step_keeps : (m : Migration) (rows : List Row) (done half next next_half : Row → Bool) (taken : List Row) (progress after : Progress Row) (ghost : GhostRows) (copier applier : ℕ) (now : Stored) (hold : ℕ → SessionHold) → GhostInvariant m rows done half taken progress ghost copier applier now hold
    → IsJoined m rows now.log next next_half (hold applier).locks (hold copier).locks taken after ghost → GhostInvariant m rows next next_half taken after ghost copier applier now hold
step_keeps m rows done half next next_half taken progress after ghost copier applier now hold kept joined =
    record { joined = joined; old = kept.old; new = kept.new; batch = kept.batch; chunk = kept.chunk; differ = kept.differ }

-- ---- the start and the end

-- *The start*, at the turn that reads the range, with the position that was noted before it
pub starts_keep : (m : Migration) (rows : List Row) (position copier applier : ℕ) (now : Stored) (hold : ℕ → SessionHold) (left : Option Span) → IsPlanned m rows → LogFits m.name m.schema rows now.log → position ≤ length now.log
    → find_table m.name now.tables ≡ Some (record { schema = m.schema; rows = rows_at m.name (key_places m.schema) rows now.log (length now.log) }) → find_table m.new.name now.tables ≡ Some (record { schema = m.new; rows = [] }) → hold copier ≡ no_hold → hold applier ≡ no_hold → bytes_eq m.new.name m.name ≡ false
    → AllByRecursion (λ row. is_left left (key_of (key_places m.schema) row) ≡ true) (rows_at m.name (key_places m.schema) rows now.log (length now.log))
    → GhostInvariant m rows (is_done left) (λ _. false) [] (start_places position now) no_ghost copier applier now hold
starts_keep m rows position copier applier now hold left planned leads before old new copies applies differ within =
    record {
      joined = rw (copies, applies) (record {
        under_way = migration_starts m rows now.log left position leads before within;
        granted = record { apart = none_apart []; applier_holds = sym (none_locked m.new); copier_holds = sym none_among; taken = λ key among. absurd (true≢false (sym among ∙ ap (λ (t : Row → Bool). t key) none_among)); batch = tt; chunk = tt };
      });
      old = old;
      new = new;
      batch = ap (λ (s : SessionHold). s.writes) applies;
      chunk = ap (λ (s : SessionHold). s.writes) copies;
      differ = differ;
    }

-- *The end*: where the range is copied and every event applied, the new table's rows are the images of the old one's.
pub ends_altered : (m : Migration) (rows : List Row) (half : Row → Bool) (taken : List Row) (progress : Progress Row) (ghost : GhostRows) (copier applier : ℕ) (now : Stored) (hold : ℕ → SessionHold) → IsPlanned m rows → GhostInvariant m rows (is_done None) half taken progress ghost copier applier now hold → progress.position ≡ length now.log
    → converted_rows m.columns (rows_at m.name (key_places m.schema) rows now.log (length now.log)) ≡ Some ghost.committed
ends_altered m rows half taken progress ghost copier applier now hold planned kept all =
    let is : IsUnderWay m rows now.log (is_done None) half progress ghost = kept.joined.under_way in
    subst (λ (n : ℕ). converted_rows m.columns (rows_at m.name (key_places m.schema) rows now.log n) ≡ Some ghost.committed) is.end
    (ghost_is_altered m rows now.log half progress ghost (table_exists m rows now.log (is_done None) half progress ghost progress.end planned is) is.table.ascends planned.same_key (all ∙ sym is.end) is.are)
