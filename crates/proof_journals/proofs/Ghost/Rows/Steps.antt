-- Each kind of step keeps the migration under way.
use Rattle.std.proofs.Common.{◌≡◌, ℕ, Bool, true, false, ◌&&◌, ◌||◌, List, [], ◌∷◌, find, length, Some, None, refl, sym, ap, ◌∙◌, subst, ◌⊎◌, inl, inr}
use Rattle.std.specs.List.{list_any}
use Rattle.base_values.specs.declared.span.Bound.TheVariants.{Open, Closed}
use Rattle.base_values.specs.declared.gho_schema.schema.Schema.{Schema}
use Rattle.base_values.specs.declared.gho_schema.schema.Index.{Index}
use Rattle.base_values.specs.GhoSchema.Rows.{key_of, key_places}
use Rattle.base_values.specs.GhoSchema.Tables.{IsRow, IsTable, clash}
use Rattle.base_values.specs.RowConversion.ConvertedRows.{converted_rows}
use Rattle.base_values.specs.declared.event.Change.{Change}
use Rattle.base_values.specs.declared.event.Change.TheVariants.{Write, Update, Delete}
use Rattle.base_values.specs.declared.event.RowEvent.{RowEvent}
use Rattle.table_store.specs.RowLists.{is_at}
use Rattle.proof_journals.specs.Ghost.Relation.AppliedEvents.{AppliedAt, EventOfKeys}
use Rattle.proof_journals.specs.Ghost.Relation.Timelines.{IsTimeline}
use Rattle.proof_journals.specs.Ghost.Relation.Views.{GhostFollows, Progress}
use Rattle.proof_journals.proofs.Ghost.Rows.Applying.{delete_applies, due_event, replace_applies, update_applies}
use Rattle.proof_journals.proofs.Ghost.Rows.Beside.{all_table}
use Rattle.proof_journals.proofs.Ghost.Rows.Chunking.{all_done, chunk_begins, chunk_is_done, chunk_repeats}
use Rattle.proof_journals.proofs.Ghost.Rows.Committing.{batch_goes_on, chunk_ends, fits_none, log_goes_on}
use Rattle.proof_journals.proofs.Ghost.Rows.Finding.{found_in, keys_decided}
use Rattle.proof_journals.proofs.Ghost.Rows.Finishing.{ghost_is_altered, start_follows}
use Rattle.proof_journals.proofs.Ghost.Rows.Resting.{batch_goes_back, chunk_goes_back, copy_rests, deleting_fits, event_rests, half_goes_on, places_go_back}
use Rattle.proof_journals.proofs.Ghost.Rows.TimelineLaws.{each_table, is_timeline, keys_stay}
use Rattle.proof_journals.proofs.Ghost.Rows.Writing.{copy_goes_on, event_goes_on, replacing_fits}
use Rattle.proof_journals.specs.Ghost.Rows.Changes.{deleting, new_key, replacing, row_left}
use Rattle.proof_journals.specs.Ghost.Rows.Laws.{BatchesCommit, BatchesRepeat, BatchesRollBack, ChunksBegin, ChunksCommit, ChunksRepeat, ChunksRollBack, DeleteApplies, EventsPass, GhostsAreAltered, HalvesApply, LogsGrow, MigrationsStart, RangesEnd, ReplaceApplies, RowsAreCopied, RowsAreMet, TimelinesAreValid, UpdateApplies, UpdateMisses}
use Rattle.proof_journals.specs.Ghost.Rows.Moments.{Fits, FitsAll, LogFits, Row, rows_after_all, rows_at}
use Rattle.proof_journals.specs.Ghost.Rows.Timelines.{IsDue, IsPlanned, Migration, changes_key, kept, timeline_of, touched_by}
use Rattle.proof_journals.specs.Ghost.Rows.UnderWay.{IsUnderWay}
use Rattle.proof_journals.specs.Ghost.Rows.Views.{GhostRows, chunk_view, ghost_row, is_done, is_done_in, view_of, views_of}
use Rattle.proof_journals.specs.Ghost.Relation.AppliedEvents.AppliedAt.{kept as left_alone, missed}

pub timeline : TimelinesAreValid
timeline m rows log planned fits = is_timeline m rows log planned.old_key planned.keeps planned.table fits

-- where the migration is under way, its timeline is valid up to the log's end
pub under_way_timeline : (m : Migration) (rows : List Row) (log : List RowEvent) (done half : Row → Bool) (progress : Progress Row) (ghost : GhostRows) → IsPlanned m rows → IsUnderWay m rows log done half progress ghost → IsTimeline (timeline_of m rows log) progress.end
under_way_timeline m rows log done half progress ghost planned now = subst (IsTimeline (timeline_of m rows log)) (sym now.end) (timeline m rows log planned now.log_fits)

pub migration_starts : MigrationsStart
unfolding FitsAll
migration_starts m rows log left position fits before all =
    record {
      log_fits = fits;
      end = refl;
      are = start_follows m rows log left (record { position = position; reached = position; end = length log; copier_holds = λ _. false; applier_holds = λ _. false }) refl before (λ key. refl) all;
      table = record { rows_fit = tt; ascends = tt; apart = tt };
      batch = tt;
      chunk = tt;
      batch_covered = tt;
      chunk_covered = tt;
      disjoint = tt;
    }

pub log_grows_on : LogsGrow
log_grows_on m rows log more done half progress ghost planned fits now = log_goes_on m rows log more done half progress ghost planned.old_key planned.keeps planned.table fits now

-- the same of more keys that are done
pub with_done : (m : Migration) (rows : List Row) (log : List RowEvent) (done next half : Row → Bool) (progress : Progress Row) (ghost : GhostRows) → GhostFollows (timeline_of m rows log) next half progress (views_of (key_places m.new) ghost) → IsUnderWay m rows log done half progress ghost
    → IsUnderWay m rows log next half progress ghost
with_done m rows log done next half progress ghost are now =
    record { log_fits = now.log_fits; end = now.end; are = are; table = now.table; batch = now.batch; chunk = now.chunk; batch_covered = now.batch_covered; chunk_covered = now.chunk_covered; disjoint = now.disjoint }

pub chunk_begins_on : ChunksBegin
chunk_begins_on m rows log half progress ghost keys low high top are_keys now =
    with_done m rows log (is_done (Some (record { low = low; high = Closed top }))) (is_done_in (Some (record { low = low; high = Closed top })) (Some (record { low = Open high; high = Closed top })) keys) half progress ghost
    (chunk_begins m rows log half progress ghost keys low high top are_keys now.are) now

pub range_ends : RangesEnd
range_ends m rows log half progress ghost top now = with_done m rows log (is_done (Some (record { low = Open top; high = Closed top }))) (is_done None) half progress ghost (all_done m rows log half progress ghost top now.are) now

-- ---- rows are copied

-- where no row passes a test, none is found by it; else one is
none_clashes : (uniques : List Index) (made : Row) (rows : List Row) → list_any (clash uniques made) rows ≡ false → find (λ other. clash uniques made other && true) rows ≡ None
none_clashes uniques made [] none = refl
none_clashes uniques made (row ∷ rows) none = by (clash uniques made row) (list_any (clash uniques made) rows) refl none (none_clashes uniques made rows)
  where
    by : (b rest : Bool) → clash uniques made row ≡ b → (b || rest) ≡ false → (rest ≡ false → find (λ other. clash uniques made other && true) rows ≡ None) → find (λ other. clash uniques made other && true) (row ∷ rows) ≡ None
    by true rest at is others = absurd (let wrong : true ≡ false = is in cc)
    by false rest at is others = rw at (others is)

one_clashes : (uniques : List Index) (made : Row) (rows : List Row) → list_any (clash uniques made) rows ≡ true → (was : Row) × (find (λ other. clash uniques made other && true) rows ≡ Some was)
one_clashes uniques made [] some = absurd (let wrong : false ≡ true = some in cc)
one_clashes uniques made (row ∷ rows) some = by (clash uniques made row) refl some (one_clashes uniques made rows)
  where
    by : (b : Bool) → clash uniques made row ≡ b → (b || list_any (clash uniques made) rows) ≡ true → (list_any (clash uniques made) rows ≡ true → (was : Row) × (find (λ other. clash uniques made other && true) rows ≡ Some was))
        → (was : Row) × (find (λ other. clash uniques made other && true) (row ∷ rows) ≡ Some was)
    by true at is others = (row, rw at refl)
    by false at is others = let later = others is in (later.0, rw at later.1)

-- the rows of the table at the log's end, and what is found there
table_now : (m : Migration) (rows : List Row) (log : List RowEvent) (i : ℕ) → IsPlanned m rows → LogFits m.name m.schema rows log → IsTable m.schema (rows_at m.name (key_places m.schema) rows log i)
table_now m rows log i planned fits = each_table m.name m.schema planned.old_key log rows i planned.table fits

stood_row : (m : Migration) (rows : List Row) (log : List RowEvent) (i : ℕ) (key row : Row) → IsPlanned m rows → LogFits m.name m.schema rows log → find (is_at (key_places m.schema) key) (rows_at m.name (key_places m.schema) rows log i) ≡ Some row → IsRow m.schema.columns row
stood_row m rows log i key row planned fits stands = found_in (is_at (key_places m.schema) key) (IsRow m.schema.columns) (rows_at m.name (key_places m.schema) rows log i) row (table_now m rows log i planned fits).rows_fit stands

pub row_is_copied : RowsAreCopied
row_is_copied m rows log done half progress ghost keys row made planned stands imaged free unlocked held disjoint now =
    copy_goes_on m rows log done half progress ghost keys row made planned.new_key
    (planned.fits row made (stood_row m rows log progress.end (key_of (key_places m.new) made) row planned now.log_fits stands) imaged) stands imaged (none_clashes m.new.uniques made (chunk_view m ghost) free) unlocked held disjoint now

pub row_is_met : RowsAreMet
row_is_met m rows log done half progress ghost keys row made planned stands imaged met unlocked held apart now =
    let one = one_clashes m.new.uniques made (chunk_view m ghost) met in
    copy_rests m rows log done half progress ghost keys row made one.0 planned.new_key (under_way_timeline m rows log done half progress ghost planned now) stands imaged one.1 unlocked held apart now

-- ---- the chunk ends

pub chunk_commits_on : ChunksCommit
chunk_commits_on m rows log left following keys half progress ghost planned held now =
    chunk_ends m rows log (is_done_in left following keys) (is_done following) half progress ghost planned.new_key (chunk_is_done m rows log half progress ghost left following keys held now.chunk_covered now.batch_covered now.are) now

pub chunk_is_to_repeat : ChunksRepeat
chunk_is_to_repeat m rows log left following keys half progress ghost planned now =
    chunk_ends m rows log (is_done_in left following keys) (is_done left) half progress ghost planned.new_key (chunk_repeats m rows log left following keys half progress ghost now.chunk_covered now.batch_covered now.are) now

pub chunk_rolls_back_on : ChunksRollBack
chunk_rolls_back_on m rows log left following keys half progress ghost now = chunk_goes_back m rows log left following keys half progress ghost now

-- ---- events are applied

-- the applier's view is a table
pub view_table : (m : Migration) (rows : List Row) (log : List RowEvent) (done half : Row → Bool) (progress : Progress Row) (ghost : GhostRows) → IsPlanned m rows → IsUnderWay m rows log done half progress ghost → IsTable m.new (view_of m ghost)
view_table m rows log done half progress ghost planned now = all_table m.new planned.new_key ghost.batch ghost.committed now.table now.batch

left_row : (change : Change) (row : Row) (schema : Schema) (rows : List Row) → Fits schema rows change → row_left change ≡ Some row → IsRow schema.columns row
left_row (Write new) row schema rows fits is = subst (IsRow schema.columns) (let one : new ≡ row = cc in one) fits.0
left_row (Update before after) row schema rows fits is = subst (IsRow schema.columns) (let one : after ≡ row = cc in one) fits.1
left_row (Delete old) row schema rows fits is = absurd cc

pub left_key : (places : List ℕ) (change : Change) (row : Row) → row_left change ≡ Some row → new_key places change ≡ key_of places row
left_key places (Write new) row is = ap (key_of places) (let one : new ≡ row = cc in one)
left_key places (Update before after) row is = ap (key_of places) (let one : after ≡ row = cc in one)
left_key places (Delete old) row is = absurd cc

-- what a due event leaves is a row
due_row : (m : Migration) (rows : List Row) (log : List RowEvent) (i : ℕ) (change : Change) (row : Row) → IsDue m rows log i change → row_left change ≡ Some row → IsRow m.schema.columns row
due_row m rows log i change row due is =
    left_row change row m.schema (rows_at m.name (key_places m.schema) rows log i) (subst (Fits m.schema (rows_at m.name (key_places m.schema) rows log i)) due.is (due.step.fits due.named)) is

pub replace_is_applied : ReplaceApplies
replace_is_applied m rows log done half progress ghost held change row made planned more due left imaged taken gone old new grows now =
    let table : IsTable m.new (view_of m ghost) = view_table m rows log done half progress ghost planned now in
    let stood : IsRow m.schema.columns row = due_row m rows log progress.reached change row due left in
    let fits : IsRow m.new.columns made = planned.fits row made stood imaged in
    event_goes_on m rows log done half progress ghost held change (replacing m.new made (view_of m ghost)) (under_way_timeline m rows log done half progress ghost planned now) more due grows.apart grows.names old new
    (replace_applies m rows log progress.reached change half row made (view_of m ghost) planned.old_key planned.new_key due left imaged (planned.same_key row made stood imaged ∙ sym (left_key (key_places m.schema) change row left)) table fits taken gone)
    (replacing_fits m.new made (view_of m ghost) table fits) grows.disjoint now

pub delete_is_applied : DeleteApplies
delete_is_applied m rows log done progress ghost held row planned more due mine grows now =
    event_goes_on m rows log done (λ _. false) progress ghost held (Delete row) (deleting (ghost_row m (view_of m ghost) (key_of (key_places m.schema) row))) (under_way_timeline m rows log done (λ _. false) progress ghost planned now) more due grows.apart grows.names mine mine
    (delete_applies m rows log progress.reached row (view_of m ghost) planned.old_key due) (deleting_fits m.new (key_of (key_places m.schema) row) (view_of m ghost) (ghost_row m (view_of m ghost) (key_of (key_places m.schema) row)) refl) grows.disjoint now

pub update_is_applied : UpdateApplies
update_is_applied m rows log done progress ghost held before row made changes planned more due stays imaged mine same fits grows now =
    let stood : IsRow m.schema.columns row = due_row m rows log progress.reached (Update before row) row due refl in
    let one : key_of (key_places m.schema) before ≡ key_of (key_places m.schema) row = keys_stay m planned.keeps before row stays in
    event_goes_on m rows log done (λ _. false) progress ghost held (Update before row) changes (under_way_timeline m rows log done (λ _. false) progress ghost planned now) more due grows.apart grows.names (subst (λ (k : Row). held k ≡ true) (sym one) mine) mine
    (λ key.
    subst (λ (rs : List Row). AppliedAt (timeline_of m rows log) (λ _. false) progress.reached (ghost_row m (view_of m ghost)) (ghost_row m rs) key) (sym same)
    (update_applies m rows log progress.reached before row made (view_of m ghost) planned.old_key due stays one imaged (planned.same_key row made stood imaged) key))
    fits grows.disjoint now

pub misses : (m : Migration) (rows : List Row) (log : List RowEvent) (i : ℕ) (before row : Row) (view : List Row) → IsDue m rows log i (Update before row) → changes_key (kept m) before row ≡ false → key_of (key_places m.schema) before ≡ key_of (key_places m.schema) row
    → ghost_row m view (key_of (key_places m.schema) row) ≡ None → (key : Row) → AppliedAt (timeline_of m rows log) (λ _. false) i (ghost_row m view) (ghost_row m view) key
misses m rows log i before row view due stays one none key = by (keys_decided (key_of (key_places m.schema) row) key)
  where
    event : EventOfKeys (timeline_of m rows log) i (key_of (key_places m.schema) before) (key_of (key_places m.schema) row)
    event = due_event m rows log i (Update before row) due

    quiet : (timeline_of m rows log).touches i key ≡ false
    quiet = ap (touched_by (kept m) m.name (key_places m.schema) key) due.step.there ∙ rw (due.named, due.is, stays) refl

    by : (key_of (key_places m.schema) row ≡ key) ⊎ (key_of (key_places m.schema) row ≡ key → ⊥) → AppliedAt (timeline_of m rows log) (λ _. false) i (ghost_row m view) (ghost_row m view) key
    by (inl same) = let gone : ghost_row m view key ≡ None = subst (λ (k : Row). ghost_row m view k ≡ None) same none in missed refl quiet gone gone
    by (inr differs) = left_alone refl quiet (event.same key (λ same. differs (sym one ∙ same)) differs) refl

pub update_is_missed : UpdateMisses
unfolding rows_after_all
update_is_missed m rows log done progress ghost held before row planned more due stays none grows mine now =
    let one : key_of (key_places m.schema) before ≡ key_of (key_places m.schema) row = keys_stay m planned.keeps before row stays in
    event_goes_on m rows log done (λ _. false) progress ghost held (Update before row) [] (under_way_timeline m rows log done (λ _. false) progress ghost planned now) more due grows.apart grows.names (subst (λ (k : Row). held k ≡ true) (sym one) mine) mine
    (misses m rows log progress.reached before row (view_of m ghost) due stays one none) (fits_none m.new (view_of m ghost)) grows.disjoint now

pub half_is_applied : HalvesApply
half_is_applied m rows log done progress ghost held key grows now = half_goes_on m rows log done progress ghost held key grows.apart grows.names grows.disjoint now

pub event_is_passed : EventsPass
event_is_passed m rows log done progress ghost at planned other more now = event_rests m rows log done progress ghost at other (under_way_timeline m rows log done (λ _. false) progress ghost planned now) more now

-- ---- the batch ends

pub batch_commits_on : BatchesCommit
batch_commits_on m rows log done progress ghost planned now = batch_goes_on m rows log done progress ghost planned.new_key now

pub batch_rolls_back_on : BatchesRollBack
batch_rolls_back_on m rows log done half progress ghost planned now = batch_goes_back m rows log done half progress ghost (under_way_timeline m rows log done half progress ghost planned now) now

pub batch_is_to_repeat : BatchesRepeat
batch_is_to_repeat m rows log done half progress ghost position reached planned low lower order now = places_go_back m rows log done half progress ghost position reached (under_way_timeline m rows log done half progress ghost planned now) low lower order now

-- ---- the end

pub ghost_is_the_altered : GhostsAreAltered
ghost_is_the_altered m rows log half progress ghost planned all now =
    subst (λ (i : ℕ). converted_rows m.columns (rows_at m.name (key_places m.schema) rows log i) ≡ Some ghost.committed) now.end
    (ghost_is_altered m rows log half progress ghost (table_now m rows log progress.end planned now.log_fits) now.table.ascends planned.same_key (all ∙ sym now.end) now.are)
