-- Each step of the copier and of the applier keeps the migration under way, with the locks that the step was granted.
use Rattle.std.proofs.Common.{◌≡◌, ℕ, ◌+◌, ◌<◌, Bool, true, false, List, [], ◌∷◌, ◌++◌, find, Option, Some, None, Ok, Err, refl, sym, ap, ◌∙◌, subst, ◌⊎◌, inl, inr}
use Rattle.std.proofs.lemmas.List.{append-nil}
use Rattle.std.proofs.Math.Path.{fun_ext}
use Rattle.std.specs.List.{AllByRecursion}
use Rattle.std.specs.Ordering.{is_eq}
use Rattle.base_values.specs.KeyOrder.{compare_keys}
use Rattle.base_values.specs.declared.gho_schema.schema.Schema.{Schema}
use Rattle.base_values.specs.GhoSchema.Rows.{key_of, key_places}
use Rattle.base_values.specs.GhoSchema.Tables.{IsRow, IsTable}
use Rattle.base_values.specs.RowConversion.ConvertedRows.{converted_row}
use Rattle.base_values.specs.declared.event.RowEvent.{RowEvent}
use Rattle.base_values.specs.declared.event.Change.{Change}
use Rattle.base_values.specs.declared.event.Change.TheVariants.{Write, Update, Delete}
use Rattle.server_locks.specs.declared.row_locks.lock.Lock.{Lock}
use Rattle.table_store.specs.Databases.{clashing}
use Rattle.table_store.specs.RowLists.{is_at}
use Rattle.base_values.specs.GhoSchema.Tables.{Ascends, no_null}
use Rattle.base_values.specs.declared.row_conversion.conversion_fault.UnfitAt.{UnfitAt}
use Rattle.base_values.specs.declared.mysql_errors.TheConstants.{ER_DUP_ENTRY}
use Rattle.server_model.specs.declared.work.Work.{Work}
use Rattle.server_model.specs.declared.work.Work.TheVariants as works
use Rattle.proof_journals.proofs.Ghost.Applying.{UpdateReported, all_set, at_key, copy_rested, copy_reported, delete_locks, delete_reported, key_met, replace_reported, update_locks, update_makes, update_reported}
use Rattle.proof_journals.proofs.Ghost.Disjoint.{NamesRows, all_disjoint, covered_keys, held_apart, converted_row_free, named_rows, none_removed}
use Rattle.proof_journals.proofs.Ghost.Keys.{clustered, full_key, locked_more, row_locked}
use Rattle.proof_journals.proofs.Ghost.Telling.{tells_fit}
use Rattle.proof_journals.specs.Ghost.HeldKeys.{Clustered, is_locked}
use Rattle.proof_journals.specs.Ghost.Joined.{AreGranted, IsJoined}
use Rattle.proof_journals.specs.Ghost.Relation.AppliedEvents.{AppliedAt}
use Rattle.proof_journals.specs.Ghost.Relation.Views.{Progress}
use Rattle.proof_journals.proofs.Ghost.Rows.Applying.{delete_applies, replace_applies, update_applies}
use Rattle.proof_journals.proofs.Ghost.Rows.Copying.{among_more}
use Rattle.proof_journals.proofs.Ghost.Rows.Finding.{found_in}
use Rattle.proof_journals.proofs.Ghost.Rows.Replacing.{after_both, deleted}
use Rattle.proof_journals.proofs.Ghost.Rows.Resting.{copy_rests, half_goes_on}
use Rattle.proof_journals.proofs.Ghost.Rows.Steps.{left_key, misses, under_way_timeline, view_table}
use Rattle.proof_journals.proofs.Ghost.Rows.TimelineLaws.{each_table, keys_stay}
use Rattle.proof_journals.proofs.Ghost.Rows.Writing.{copy_goes_on, event_goes_on}
use Rattle.proof_journals.specs.Ghost.Rows.Changes.{NamesHeld, deleting, new_key, old_key, row_left, updating}
use Rattle.proof_journals.specs.Ghost.Rows.Disjoint.{AllDisjoint, Disjoint}
use Rattle.proof_journals.specs.Ghost.Rows.Moments.{Fits, Row, rows_after_all, rows_at}
use Rattle.proof_journals.specs.Ghost.Rows.Timelines.{IsDue, IsPlanned, Migration, changes_key, kept, timeline_of}
use Rattle.proof_journals.specs.Ghost.Rows.UnderWay.{IsUnderWay}
use Rattle.proof_journals.specs.Ghost.Rows.Views.{is_key, chunk_view, GhostRows, ghost_row, is_among, view_of}
use Rattle.server_model.specs.Answers.{refuses}
use Rattle.server_model.specs.Needs.{needs, points, points_of}
use Rattle.server_model.specs.StatementResults.{TableResult, displaced, only, tells}
use Rattle.server_model.proofs.LockedRows.Covers.{tells_covered}
use Rattle.server_model.proofs.LockedRows.Finding.{covered_more}
use Rattle.server_model.proofs.LockedRows.Points.{within-parts}
use Rattle.server_model.specs.LockedRows.Agreement.{Within}
use Rattle.server_model.specs.LockedRows.Coverage.{rows_of, RowsCovered, Apart, Covered, IsSound}
use Rattle.server_locks.proofs.LeastSession.Kept.{both}

pub none_locked : (schema : Schema) → is_locked schema [] ≡ (λ _. false)
unfolding is_locked
none_locked schema = fun_ext (λ key. refl)

pub none_among : is_among [] ≡ (λ _. false)
unfolding is_among
none_among = fun_ext (λ key. refl)

-- ---- what stands at the log's end

pub table_exists : (m : Migration) (rows : List Row) (log : List RowEvent) (done half : Row → Bool) (progress : Progress Row) (ghost : GhostRows) (i : ℕ) → IsPlanned m rows → IsUnderWay m rows log done half progress ghost → IsTable m.schema (rows_at m.name (key_places m.schema) rows log i)
table_exists m rows log done half progress ghost i planned now = each_table m.name m.schema planned.old_key log rows i planned.table now.log_fits

batch_names : (m : Migration) (rows : List Row) (log : List RowEvent) (done half : Row → Bool) (progress : Progress Row) (ghost : GhostRows) → IsPlanned m rows → IsUnderWay m rows log done half progress ghost → NamesRows m.new ghost.batch
batch_names m rows log done half progress ghost planned now = named_rows m.new planned.new_key ghost.batch ghost.committed now.table now.batch

chunk_names : (m : Migration) (rows : List Row) (log : List RowEvent) (done half : Row → Bool) (progress : Progress Row) (ghost : GhostRows) → IsPlanned m rows → IsUnderWay m rows log done half progress ghost → NamesRows m.new ghost.chunk
chunk_names m rows log done half progress ghost planned now = named_rows m.new planned.new_key ghost.chunk ghost.committed now.table now.chunk

-- ---- CopyRow

first_column : (schema : Schema) (change : Change) (changes : List Change) → AllDisjoint schema changes (change ∷ []) → AllByRecursion (λ c. Disjoint schema c change) changes
first_column schema change [] all = tt
first_column schema change (c ∷ changes) all = (all.0.0, first_column schema change changes all.1)

keys_more : (m : Migration) (others all : List Lock) (keys : List Row) (made : Row) → ((key : Row) → is_among keys key ≡ true → is_locked m.new others key ≡ true) → Within others all → is_locked m.new all (key_of (key_places m.new) made) ≡ true
    → (key : Row) → is_among (key_of (key_places m.new) made ∷ keys) key ≡ true → is_locked m.new all key ≡ true
keys_more m others all keys made holds within mine key among = two (among_more keys (key_of (key_places m.new) made) key among) where
  two : (key_of (key_places m.new) made ≡ key) ⊎ ((is_eq (compare_keys key (key_of (key_places m.new) made)) ≡ false) × (is_among keys key ≡ true)) → is_locked m.new all key ≡ true
  two (inl same) = subst (λ (k : Row). is_locked m.new all k ≡ true) same mine
  two (inr before) = locked_more m.new others all key within (holds key before.1)

-- the row that is copied is one of the log's end
abbrev pub IsCopied : Migration → List Row → List RowEvent → ℕ → Row → Row → Type 0
IsCopied m rows log end row made = (find (is_at (key_places m.schema) (key_of (key_places m.new) made)) (rows_at m.name (key_places m.schema) rows log end) ≡ Some row) × (converted_row m.columns row ≡ Ok made)

copied_fits : (m : Migration) (rows : List Row) (log : List RowEvent) (done half : Row → Bool) (progress : Progress Row) (ghost : GhostRows) (row made : Row) → IsPlanned m rows → IsUnderWay m rows log done half progress ghost → IsCopied m rows log progress.end row made → IsRow m.new.columns made
copied_fits m rows log done half progress ghost row made planned now copied =
    planned.fits row made (found_in (is_at (key_places m.schema) (key_of (key_places m.new) made)) (IsRow m.schema.columns) (rows_at m.name (key_places m.schema) rows log progress.end) row (table_exists m rows log done half progress ghost progress.end planned now).rows_fit copied.0) copied.1

copy_by : (m : Migration) (rows : List Row) (log : List RowEvent) (done half : Row → Bool) (own others all : List Lock) (keys : List Row) (progress : Progress Row) (ghost : GhostRows) (row made : Row) (found : Option Row) → IsPlanned m rows → IsJoined m rows log done half own others keys progress ghost
    → IsCopied m rows log progress.end row made → Within others all → Apart own all → Within (points m.new made) all → clashing (record { schema = m.new; rows = chunk_view m ghost }) made None ≡ found
    → IsJoined m rows log done half own all (key_of (key_places m.new) made ∷ keys) (record progress { copier_holds = is_among (key_of (key_places m.new) made ∷ keys) }) (record ghost { chunk = ghost.chunk ++ (tells m.new (chunk_view m ghost) (works.Copy made)).changes })
copy_by m rows log done half own others all keys progress ghost row made None planned now copied within apart mine clash =
    let fits : IsRow m.new.columns made = copied_fits m rows log done half progress ghost row made planned now.under_way copied in
    let free : progress.applier_holds (key_of (key_places m.new) made) ≡ false = ap (λ (t : Row → Bool). t (key_of (key_places m.new) made)) now.granted.applier_holds ∙ converted_row_free m.new planned.new_key own all made apart fits mine in
    let reported : (tells m.new (chunk_view m ghost) (works.Copy made)).changes ≡ Write made ∷ [] = ap (λ (t : TableResult). t.changes) (copy_reported m.new made (chunk_view m ghost) clash) in
    let disjoint : AllDisjoint m.new ghost.batch (Write made ∷ []) = all_disjoint m.new planned.new_key own all ghost.batch (Write made ∷ []) apart (batch_names m rows log done half progress ghost planned now.under_way) now.granted.batch ((fits, tt), tt) ((mine, tt), tt) in
    rw reported (record {
      under_way = copy_goes_on m rows log done half progress ghost keys row made planned.new_key fits copied.0 copied.1 clash free now.granted.copier_holds (first_column m.new (Write made) ghost.batch disjoint) now.under_way;
      granted = record {
        apart = apart;
        applier_holds = now.granted.applier_holds;
        copier_holds = refl;
        taken = keys_more m others all keys made now.granted.taken within (row_locked m.new planned.new_key made all fits mine);
        batch = now.granted.batch;
        chunk = both (λ c. RowsCovered m.new all (rows_of c)) ghost.chunk (Write made ∷ []) (covered_more m.new others all ghost.chunk within now.granted.chunk) ((mine, tt), tt);
      };
    })
copy_by m rows log done half own others all keys progress ghost row made (Some was) planned now copied within apart mine clash =
    let fits : IsRow m.new.columns made = copied_fits m rows log done half progress ghost row made planned now.under_way copied in
    let free : progress.applier_holds (key_of (key_places m.new) made) ≡ false = ap (λ (t : Row → Bool). t (key_of (key_places m.new) made)) now.granted.applier_holds ∙ converted_row_free m.new planned.new_key own all made apart fits mine in
    let reported : (tells m.new (chunk_view m ghost) (works.Copy made)).changes ≡ [] = ap (λ (t : TableResult). t.changes) (copy_rested m.new made was (chunk_view m ghost) clash) in
    rw (reported, append-nil ghost.chunk) (record {
      under_way = copy_rests m rows log done half progress ghost keys row made was planned.new_key (under_way_timeline m rows log done half progress ghost planned now.under_way) copied.0 copied.1 clash free now.granted.copier_holds (none_removed m.new own all made ghost.batch apart now.granted.batch mine) now.under_way;
      granted = record {
        apart = apart;
        applier_holds = now.granted.applier_holds;
        copier_holds = refl;
        taken = keys_more m others all keys made now.granted.taken within (row_locked m.new planned.new_key made all fits mine);
        batch = now.granted.batch;
        chunk = covered_more m.new others all ghost.chunk within now.granted.chunk;
      };
    })

-- *CopyRow*, Ok(1) and Ok(0)
pub copy_joins : (m : Migration) (rows : List Row) (log : List RowEvent) (done half : Row → Bool) (own others all : List Lock) (keys : List Row) (progress : Progress Row) (ghost : GhostRows) (row made : Row) → IsPlanned m rows → IsJoined m rows log done half own others keys progress ghost
    → IsCopied m rows log progress.end row made → Within others all → Apart own all → Within (needs m.new (chunk_view m ghost) (works.Copy made)) all
    → IsJoined m rows log done half own all (key_of (key_places m.new) made ∷ keys) (record progress { copier_holds = is_among (key_of (key_places m.new) made ∷ keys) }) (record ghost { chunk = ghost.chunk ++ (tells m.new (chunk_view m ghost) (works.Copy made)).changes })
unfolding needs
copy_joins m rows log done half own others all keys progress ghost row made planned now copied within apart mine =
    copy_by m rows log done half own others all keys progress ghost row made (clashing (record { schema = m.new; rows = chunk_view m ghost }) made None) planned now copied within apart mine refl

-- ---- a statement of the applier's

-- the changes so far and those of a statement are covered
batch_covered : (m : Migration) (own all : List Lock) (ghost : GhostRows) (work : Work) → Covered m.new own ghost.batch → Within own all → Within (needs m.new (view_of m ghost) work) all → Covered m.new all (ghost.batch ++ (tells m.new (view_of m ghost) work).changes)
batch_covered m own all ghost work covered within mine =
    both (λ c. RowsCovered m.new all (rows_of c)) ghost.batch (tells m.new (view_of m ghost) work).changes (covered_more m.new own all ghost.batch within covered)
    (covered_more m.new (needs m.new (view_of m ghost) work) all (tells m.new (view_of m ghost) work).changes mine (tells_covered m.new (view_of m ghost) work))

reported_names : (m : Migration) (rows : List Row) (log : List RowEvent) (done half : Row → Bool) (progress : Progress Row) (ghost : GhostRows) (work : Work) → IsPlanned m rows → IsUnderWay m rows log done half progress ghost → IsSound m.new.columns work
    → NamesRows m.new (tells m.new (view_of m ghost) work).changes
reported_names m rows log done half progress ghost work planned now sound =
    let table = view_table m rows log done half progress ghost planned now in
    named_rows m.new planned.new_key (tells m.new (view_of m ghost) work).changes (view_of m ghost) table (tells_fit m.new planned.new_key (view_of m ghost) work sound table)

-- what the locks that are granted say of a statement
pub record IsGrant (m : Migration) (own all others : List Lock) (ghost : GhostRows) (work : Work) : Type 0 where
  pub within : Within own all
  pub needed : Within (needs m.new (view_of m ghost) work) all
  pub apart : Apart all others
  pub sound : IsSound m.new.columns work

granted_more : (m : Migration) (rows : List Row) (log : List RowEvent) (done half : Row → Bool) (own all others : List Lock) (keys : List Row) (progress before : Progress Row) (ghost : GhostRows) (work : Work) → before.copier_holds ≡ progress.copier_holds → before.applier_holds ≡ is_locked m.new all → IsJoined m rows log done half own others keys progress ghost → IsGrant m own all others ghost work
    → AreGranted m all others keys before (record ghost { batch = ghost.batch ++ (tells m.new (view_of m ghost) work).changes })
granted_more m rows log done half own all others keys progress before ghost work same locks now grant =
    record { apart = grant.apart; applier_holds = locks; copier_holds = same ∙ now.granted.copier_holds; taken = now.granted.taken; batch = batch_covered m own all ghost work now.granted.batch grant.within grant.needed; chunk = now.granted.chunk }

held_free : (m : Migration) (all others : List Lock) (keys : List Row) (progress : Progress Row) → Apart all others → progress.copier_holds ≡ is_among keys → ((key : Row) → is_among keys key ≡ true → is_locked m.new others key ≡ true) → (key : Row) → progress.copier_holds key ≡ true → is_locked m.new all key ≡ false
held_free m all others keys progress apart held taken key is = held_apart m.new all others keys apart taken key (ap (λ (t : Row → Bool). t key) (sym held) ∙ is)

-- *A statement that applies the event at the place that is reached*, with what it was granted
pub statement_joins : (m : Migration) (rows : List Row) (log : List RowEvent) (done half : Row → Bool) (own all others : List Lock) (keys : List Row) (progress : Progress Row) (ghost : GhostRows) (work : Work) (change : Change) → IsPlanned m rows → IsJoined m rows log done half own others keys progress ghost
    → IsGrant m own all others ghost work → progress.reached < progress.end → IsDue m rows log progress.reached change → is_locked m.new all (old_key (key_places m.schema) change) ≡ true → is_locked m.new all (new_key (key_places m.schema) change) ≡ true
    → ((key : Row) → AppliedAt (timeline_of m rows log) half progress.reached (ghost_row m (view_of m ghost)) (ghost_row m (rows_after_all (key_places m.new) (tells m.new (view_of m ghost) work).changes (view_of m ghost))) key)
    → IsJoined m rows log done (λ _. false) all others keys (record progress { reached = progress.reached + 1; applier_holds = is_locked m.new all }) (record ghost { batch = ghost.batch ++ (tells m.new (view_of m ghost) work).changes })
statement_joins m rows log done half own all others keys progress ghost work change planned now grant more due old new each =
    let reported : List Change = (tells m.new (view_of m ghost) work).changes in
    let table = view_table m rows log done half progress ghost planned now.under_way in
    let names : NamesRows m.new reported = reported_names m rows log done half progress ghost work planned now.under_way grant.sound in
    let first : NamesRows m.new ghost.batch = batch_names m rows log done half progress ghost planned now.under_way in
    let covered : Covered m.new all (ghost.batch ++ reported) = batch_covered m own all ghost work now.granted.batch grant.within grant.needed in
    record {
      under_way = event_goes_on m rows log done half progress ghost (is_locked m.new all) change reported (under_way_timeline m rows log done half progress ghost planned now.under_way) more due
          (held_free m all others keys progress grant.apart now.granted.copier_holds now.granted.taken)
          (covered_keys m.new planned.new_key all (ghost.batch ++ reported) (both (λ c. AllByRecursion (IsRow m.new.columns) (rows_of c)) ghost.batch reported first names) covered) old new each
          (tells_fit m.new planned.new_key (view_of m ghost) work grant.sound table)
          (all_disjoint m.new planned.new_key all others reported ghost.chunk grant.apart names (covered_more m.new (needs m.new (view_of m ghost) work) all reported grant.needed (tells_covered m.new (view_of m ghost) work)) (chunk_names m rows log done half progress ghost planned now.under_way) now.granted.chunk)
          now.under_way;
      granted = granted_more m rows log done half own all others keys progress (record progress { reached = progress.reached + 1; applier_holds = is_locked m.new all }) ghost work refl refl now grant;
    }

-- the row that an event leaves is a row
pub left_fits : (m : Migration) (rows : List Row) (log : List RowEvent) (done half : Row → Bool) (progress : Progress Row) (ghost : GhostRows) (change : Change) (row : Row) → IsPlanned m rows → IsUnderWay m rows log done half progress ghost → IsDue m rows log progress.reached change → row_left change ≡ Some row → IsRow m.schema.columns row
left_fits m rows log done half progress ghost change row planned now due left =
    by_change change due.is left (due.step.fits due.named) where
      by_change : (c : Change) → due.step.event.change ≡ c → row_left c ≡ Some row → Fits m.schema (rows_at m.name (key_places m.schema) rows log progress.reached) due.step.event.change → IsRow m.schema.columns row
      by_change (Write new) is left fits = let one : new ≡ row = cc in subst (IsRow m.schema.columns) one (subst (Fits m.schema (rows_at m.name (key_places m.schema) rows log progress.reached)) is fits).0
      by_change (Update before after) is left fits = let one : after ≡ row = cc in subst (IsRow m.schema.columns) one (subst (Fits m.schema (rows_at m.name (key_places m.schema) rows log progress.reached)) is fits).1
      by_change (Delete gone) is left fits = absurd cc

-- *REPLACE*: a WRITE, or the second half of an UPDATE
pub replace_joins : (m : Migration) (rows : List Row) (log : List RowEvent) (done half : Row → Bool) (own all others : List Lock) (keys : List Row) (progress : Progress Row) (ghost : GhostRows) (change : Change) (row made : Row) → IsPlanned m rows → IsJoined m rows log done half own others keys progress ghost
    → IsGrant m own all others ghost (works.Replace made) → progress.reached < progress.end → IsDue m rows log progress.reached change → row_left change ≡ Some row → converted_row m.columns row ≡ Ok made → is_locked m.new all (old_key (key_places m.schema) change) ≡ true
    → ((key : Row) → half key ≡ true → (old_key (key_places m.schema) change ≡ key) ⊎ (new_key (key_places m.schema) change ≡ key))
    → ((new_key (key_places m.schema) change ≡ old_key (key_places m.schema) change → ⊥) → ghost_row m (view_of m ghost) (old_key (key_places m.schema) change) ≡ None)
    → IsJoined m rows log done (λ _. false) all others keys (record progress { reached = progress.reached + 1; applier_holds = is_locked m.new all }) (record ghost { batch = ghost.batch ++ (tells m.new (view_of m ghost) (works.Replace made)).changes })
unfolding needs
replace_joins m rows log done half own all others keys progress ghost change row made planned now grant more due left imaged old taken_out gone =
    let fits : IsRow m.schema.columns row = left_fits m rows log done half progress ghost change row planned now.under_way due left in
    let same : key_of (key_places m.new) made ≡ new_key (key_places m.schema) change = planned.same_key row made fits imaged ∙ sym (left_key (key_places m.schema) change row left) in
    let made_fits : IsRow m.new.columns made = planned.fits row made fits imaged in
    let mine : Within (points m.new made) all = (within-parts (points m.new made) (points_of m.new (displaced m.new made (view_of m ghost))) all grant.needed).0 in
    statement_joins m rows log done half own all others keys progress ghost (works.Replace made) change planned now grant more due old
    (subst (λ (k : Row). is_locked m.new all k ≡ true) same (row_locked m.new planned.new_key made all made_fits mine))
    (λ key. subst (λ (cs : List Change). AppliedAt (timeline_of m rows log) half progress.reached (ghost_row m (view_of m ghost)) (ghost_row m (rows_after_all (key_places m.new) cs (view_of m ghost))) key) (sym (replace_reported m.new made (view_of m ghost)))
    (replace_applies m rows log progress.reached change half row made (view_of m ghost) planned.old_key planned.new_key due left imaged same (view_table m rows log done half progress ghost planned now.under_way) made_fits taken_out gone key))

-- ---- DELETE and UPDATE by key

pub due_row : (m : Migration) (rows : List Row) (log : List RowEvent) (done half : Row → Bool) (progress : Progress Row) (ghost : GhostRows) (row : Row) → IsPlanned m rows → IsUnderWay m rows log done half progress ghost → IsDue m rows log progress.reached (Delete row) → IsRow m.schema.columns row
due_row m rows log done half progress ghost row planned now due =
    found_in (is_at (key_places m.schema) (key_of (key_places m.schema) row)) (IsRow m.schema.columns) (rows_at m.name (key_places m.schema) rows log progress.reached) row (table_exists m rows log done half progress ghost progress.reached planned now).rows_fit
    (subst (Fits m.schema (rows_at m.name (key_places m.schema) rows log progress.reached)) due.is (due.step.fits due.named))

pub due_before : (m : Migration) (rows : List Row) (log : List RowEvent) (done half : Row → Bool) (progress : Progress Row) (ghost : GhostRows) (before row : Row) → IsPlanned m rows → IsUnderWay m rows log done half progress ghost → IsDue m rows log progress.reached (Update before row) → IsRow m.schema.columns before
due_before m rows log done half progress ghost before row planned now due =
    found_in (is_at (key_places m.schema) (key_of (key_places m.schema) before)) (IsRow m.schema.columns) (rows_at m.name (key_places m.schema) rows log progress.reached) before (table_exists m rows log done half progress ghost progress.reached planned now).rows_fit
    (subst (Fits m.schema (rows_at m.name (key_places m.schema) rows log progress.reached)) due.is (due.step.fits due.named)).0

-- the work by a key of the new table
abbrev pub delete_work : (m : Migration) (rows : List Row) → IsPlanned m rows → Row → Work
delete_work m rows planned key = works.Delete (at_key m.new (clustered m.new planned.new_key) key)

abbrev pub update_work : (m : Migration) (rows : List Row) → IsPlanned m rows → Row → Row → Work
update_work m rows planned key made = works.Update (at_key m.new (clustered m.new planned.new_key) key) (Ok (all_set made))

-- *DELETE*
pub delete_joins : (m : Migration) (rows : List Row) (log : List RowEvent) (done : Row → Bool) (own all others : List Lock) (keys : List Row) (progress : Progress Row) (ghost : GhostRows) (row : Row) (planned : IsPlanned m rows) → IsJoined m rows log done (λ _. false) own others keys progress ghost
    → IsGrant m own all others ghost (delete_work m rows planned (key_of (key_places m.schema) row)) → progress.reached < progress.end → IsDue m rows log progress.reached (Delete row)
    → IsJoined m rows log done (λ _. false) all others keys (record progress { reached = progress.reached + 1; applier_holds = is_locked m.new all }) (record ghost { batch = ghost.batch ++ (tells m.new (view_of m ghost) (delete_work m rows planned (key_of (key_places m.schema) row))).changes })
delete_joins m rows log done own all others keys progress ghost row planned now grant more due =
    let key : Row = key_of (key_places m.schema) row in
    let at : Clustered m.new = clustered m.new planned.new_key in
    let full = full_key m.schema planned.old_key row (due_row m rows log done (λ _. false) progress ghost row planned now.under_way due) in
    let reported = delete_reported m.new at key (view_of m ghost) full (view_table m rows log done (λ _. false) progress ghost planned now.under_way).ascends in
    let mine : is_locked m.new all key ≡ true = delete_locks m.new at key (view_of m ghost) all grant.needed in
    statement_joins m rows log done (λ _. false) own all others keys progress ghost (delete_work m rows planned key) (Delete row) planned now grant more due mine mine
    (λ k. subst (λ (cs : List Change). AppliedAt (timeline_of m rows log) (λ _. false) progress.reached (ghost_row m (view_of m ghost)) (ghost_row m (rows_after_all (key_places m.new) cs (view_of m ghost))) k) (sym reported)
    (delete_applies m rows log progress.reached row (view_of m ghost) planned.old_key due k))

-- *UPDATE in place*, where it isn't refused
pub update_joins : (m : Migration) (rows : List Row) (log : List RowEvent) (done : Row → Bool) (own all others : List Lock) (keys : List Row) (progress : Progress Row) (ghost : GhostRows) (before row made : Row) (planned : IsPlanned m rows) → IsJoined m rows log done (λ _. false) own others keys progress ghost
    → IsGrant m own all others ghost (update_work m rows planned (key_of (key_places m.schema) before) made) → progress.reached < progress.end → IsDue m rows log progress.reached (Update before row) → changes_key (kept m) before row ≡ false → converted_row m.columns row ≡ Ok made
    → (tells m.new (view_of m ghost) (update_work m rows planned (key_of (key_places m.schema) before) made) ≡ only (refuses ER_DUP_ENTRY) → ⊥)
    → IsJoined m rows log done (λ _. false) all others keys (record progress { reached = progress.reached + 1; applier_holds = is_locked m.new all }) (record ghost { batch = ghost.batch ++ (tells m.new (view_of m ghost) (update_work m rows planned (key_of (key_places m.schema) before) made)).changes })
update_joins m rows log done own all others keys progress ghost before row made planned now grant more due stays imaged not_refused =
    let key : Row = key_of (key_places m.schema) before in
    let view : List Row = view_of m ghost in
    let at : Clustered m.new = clustered m.new planned.new_key in
    let table : IsTable m.new view = view_table m rows log done (λ _. false) progress ghost planned now.under_way in
    let fits : IsRow m.schema.columns row = left_fits m rows log done (λ _. false) progress ghost (Update before row) row planned now.under_way due refl in
    let made_fits : IsRow m.new.columns made = planned.fits row made fits imaged in
    let one : key ≡ key_of (key_places m.schema) row = keys_stay m planned.keeps before row stays in
    let same : key_of (key_places m.new) made ≡ key_of (key_places m.schema) row = planned.same_key row made fits imaged in
    let full = full_key m.schema planned.old_key before (due_before m rows log done (λ _. false) progress ghost before row planned now.under_way due) in
    let work : Work = update_work m rows planned key made in
    let reported : UpdateReported m.new made view (ghost_row m view key) (tells m.new view work) = update_reported m.new at key made view full table made_fits in
    let keyed : key_of (key_places m.new) made ≡ key = same ∙ sym one in
    let makes : rows_after_all (key_places m.new) (tells m.new view work).changes view ≡ rows_after_all (key_places m.new) (updating made (ghost_row m view key)) view =
    update_makes m.new made view (ghost_row m view key) (tells m.new view work) reported (ap (ghost_row m view) keyed) table.ascends not_refused in
    let whole : rows_after_all (key_places m.new) (tells m.new view work).changes view ≡ rows_after_all (key_places m.new) (updating made (ghost_row m view (key_of (key_places m.new) made))) view =
    makes ∙ ap (λ (k : Row). rows_after_all (key_places m.new) (updating made (ghost_row m view k)) view) (sym keyed) in
    let mine : is_locked m.new all key ≡ true = update_locks m.new at key (Ok (all_set made)) view all grant.needed in
    statement_joins m rows log done (λ _. false) own all others keys progress ghost work (Update before row) planned now grant more due mine (subst (λ (k : Row). is_locked m.new all k ≡ true) one mine)
    (λ k. subst (λ (rs : List Row). AppliedAt (timeline_of m rows log) (λ _. false) progress.reached (ghost_row m view) (ghost_row m rs) k) (sym whole)
    (update_applies m rows log progress.reached before row made view planned.old_key due stays one imaged same k))

-- *The first half of an UPDATE*: the DELETE by its old key
pub half_joins : (m : Migration) (rows : List Row) (log : List RowEvent) (done : Row → Bool) (own all others : List Lock) (keys : List Row) (progress : Progress Row) (ghost : GhostRows) (key : Row) (planned : IsPlanned m rows) → IsJoined m rows log done (λ _. false) own others keys progress ghost
    → IsGrant m own all others ghost (delete_work m rows planned key) → Rattle.base_values.specs.GhoSchema.Tables.no_null key ≡ true
    → IsJoined m rows log done (is_key key) all others keys (record progress { applier_holds = is_locked m.new all }) (record ghost { batch = ghost.batch ++ (tells m.new (view_of m ghost) (delete_work m rows planned key)).changes })
half_joins m rows log done own all others keys progress ghost key planned now grant full =
    let work : Work = delete_work m rows planned key in
    let view : List Row = view_of m ghost in
    let at : Clustered m.new = clustered m.new planned.new_key in
    let names : NamesRows m.new (tells m.new view work).changes = reported_names m rows log done (λ _. false) progress ghost work planned now.under_way grant.sound in
    let first : NamesRows m.new ghost.batch = batch_names m rows log done (λ _. false) progress ghost planned now.under_way in
    let covered : Covered m.new all (ghost.batch ++ (tells m.new view work).changes) = batch_covered m own all ghost work now.granted.batch grant.within grant.needed in
    let reported : (tells m.new view work).changes ≡ deleting (ghost_row m view key) = delete_reported m.new at key view full (view_table m rows log done (λ _. false) progress ghost planned now.under_way).ascends in
    let keyed = covered_keys m.new planned.new_key all (ghost.batch ++ (tells m.new view work).changes) (both (λ c. AllByRecursion (IsRow m.new.columns) (rows_of c)) ghost.batch (tells m.new view work).changes first names) covered in
    let disjoint = all_disjoint m.new planned.new_key all others (tells m.new view work).changes ghost.chunk grant.apart names (covered_more m.new (needs m.new view work) all (tells m.new view work).changes grant.needed (tells_covered m.new view work)) (chunk_names m rows log done (λ _. false) progress ghost planned now.under_way) now.granted.chunk in
    record {
      under_way = subst (λ (cs : List Change). IsUnderWay m rows log done (is_key key) (record progress { applier_holds = is_locked m.new all }) (record ghost { batch = ghost.batch ++ cs })) (sym reported)
          (half_goes_on m rows log done progress ghost (is_locked m.new all) key (held_free m all others keys progress grant.apart now.granted.copier_holds now.granted.taken)
          (subst (λ (cs : List Change). NamesHeld (key_places m.new) (is_locked m.new all) (ghost.batch ++ cs)) reported keyed) (subst (λ (cs : List Change). AllDisjoint m.new cs ghost.chunk) reported disjoint) now.under_way);
      granted = granted_more m rows log done (λ _. false) own all others keys progress (record progress { applier_holds = is_locked m.new all }) ghost work refl refl now grant;
    }

-- behind it the key is held, and no row of it is seen
pub half_holds : (m : Migration) (rows : List Row) (own all others : List Lock) (ghost : GhostRows) (key : Row) (planned : IsPlanned m rows) → IsGrant m own all others ghost (delete_work m rows planned key) → is_locked m.new all key ≡ true
half_holds m rows own all others ghost key planned grant = delete_locks m.new (clustered m.new planned.new_key) key (view_of m ghost) all grant.needed

pub half_empty : (m : Migration) (rows : List Row) (log : List RowEvent) (done : Row → Bool) (progress : Progress Row) (ghost : GhostRows) (key : Row) (planned : IsPlanned m rows) → IsUnderWay m rows log done (λ _. false) progress ghost → Rattle.base_values.specs.GhoSchema.Tables.no_null key ≡ true
    → ghost_row m (view_of m (record ghost { batch = ghost.batch ++ (tells m.new (view_of m ghost) (delete_work m rows planned key)).changes })) key ≡ None
half_empty m rows log done progress ghost key planned now full =
    let view : List Row = view_of m ghost in
    let reported : (tells m.new view (delete_work m rows planned key)).changes ≡ deleting (ghost_row m view key) = delete_reported m.new (clustered m.new planned.new_key) key view full (view_table m rows log done (λ _. false) progress ghost planned now).ascends in
    ap (λ (rs : List Row). ghost_row m rs key) (after_both (key_places m.new) ghost.batch (tells m.new view (delete_work m rows planned key)).changes ghost.committed ∙ ap (λ (cs : List Change). rows_after_all (key_places m.new) cs view) reported)
    ∙ (deleted (key_places m.new) key view).here

-- *UPDATE in place of a row that has no image*, where the new table has no row of its key: Ok(0)
unfit_reported : (schema : Schema) (at : Clustered schema) (key : Row) (fault : _) (rows : List Row) → no_null key ≡ true → Ascends (key_places schema) rows → find (is_at (key_places schema) key) rows ≡ None → (tells schema rows (works.Update (at_key schema at key) (Err fault))).changes ≡ []
unfolding tells
unfit_reported schema at key fault rows full ascends none = rw (key_met schema at key rows full ascends, none) refl

abbrev pub unfit_work : (m : Migration) (rows : List Row) → IsPlanned m rows → Row → UnfitAt → Work
unfit_work m rows planned key fault = works.Update (at_key m.new (clustered m.new planned.new_key) key) (Err fault)

pub unfit_joins : (m : Migration) (rows : List Row) (log : List RowEvent) (done : Row → Bool) (own all others : List Lock) (keys : List Row) (progress : Progress Row) (ghost : GhostRows) (before row : Row) (fault : UnfitAt) (planned : IsPlanned m rows) → IsJoined m rows log done (λ _. false) own others keys progress ghost
    → IsGrant m own all others ghost (unfit_work m rows planned (key_of (key_places m.schema) before) fault) → progress.reached < progress.end → IsDue m rows log progress.reached (Update before row) → changes_key (kept m) before row ≡ false → ghost_row m (view_of m ghost) (key_of (key_places m.schema) before) ≡ None
    → IsJoined m rows log done (λ _. false) all others keys (record progress { reached = progress.reached + 1; applier_holds = is_locked m.new all }) (record ghost { batch = ghost.batch ++ (tells m.new (view_of m ghost) (unfit_work m rows planned (key_of (key_places m.schema) before) fault)).changes })
unfolding rows_after_all
unfit_joins m rows log done own all others keys progress ghost before row fault planned now grant more due stays none =
    let key : Row = key_of (key_places m.schema) before in
    let view : List Row = view_of m ghost in
    let at : Clustered m.new = clustered m.new planned.new_key in
    let full = full_key m.schema planned.old_key before (due_before m rows log done (λ _. false) progress ghost before row planned now.under_way due) in
    let one : key ≡ key_of (key_places m.schema) row = keys_stay m planned.keeps before row stays in
    let mine : is_locked m.new all key ≡ true = update_locks m.new at key (Err fault) view all grant.needed in
    let reported : (tells m.new view (unfit_work m rows planned key fault)).changes ≡ [] = unfit_reported m.new at key fault view full (view_table m rows log done (λ _. false) progress ghost planned now.under_way).ascends none in
    statement_joins m rows log done (λ _. false) own all others keys progress ghost (unfit_work m rows planned key fault) (Update before row) planned now grant more due mine (subst (λ (k : Row). is_locked m.new all k ≡ true) one mine)
    (λ k. subst (λ (cs : List Change). AppliedAt (timeline_of m rows log) (λ _. false) progress.reached (ghost_row m view) (ghost_row m (rows_after_all (key_places m.new) cs view)) k) (sym reported) (misses m rows log progress.reached before row view due stays one (subst (λ (key : Row). ghost_row m view key ≡ None) one none) k))
