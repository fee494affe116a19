-- One law for each statement of the copier and of the applier, on the server.
use Rattle.std.proofs.Common.{◌≡◌, ℕ, ◌+◌, ◌<◌, Bool, true, false, List, [], ◌∷◌, ◌++◌, Some, None, Ok, refl, ap, ◌∙◌, subst, ◌⊎◌}
use Rattle.std.specs.Prelude.{◌==◌}
use Rattle.std.proofs.lemmas.List.{append-nil}
use Rattle.base_values.specs.GhoSchema.Rows.{key_of, key_places}
use Rattle.base_values.specs.GhoSchema.Tables.{no_null}
use Rattle.base_values.specs.RowConversion.ConvertedRows.{converted_row}
use Rattle.base_values.specs.declared.event.Change.{Change}
use Rattle.base_values.specs.declared.event.Change.TheVariants.{Update, Delete}
use Rattle.base_values.specs.declared.mysql_errors.TheConstants.{ER_DUP_ENTRY}
use Rattle.server_model.specs.declared.work.StatementResult.{StatementResult}
use Rattle.server_locks.specs.declared.row_locks.lock.Lock.{Lock}
use Rattle.server_model.specs.declared.work.Work.{Work}
use Rattle.server_model.specs.declared.work.Work.TheVariants as works
use Rattle.proof_journals.proofs.Ghost.Applying.{sets_fit}
use Rattle.proof_journals.proofs.Ghost.Ending.{applier_waits_no_more, copier_waits_no_more}
use Rattle.proof_journals.proofs.Ghost.Joining.{IsCopied, IsGrant, copy_joins, delete_joins, delete_work, half_joins, left_fits, replace_joins, unfit_joins, unfit_work, update_joins, update_work}
use Rattle.proof_journals.proofs.Ghost.Saying.{Says, applier_keeps, applier_says, copier_keeps, copier_says}
use Rattle.proof_journals.specs.Ghost.Given.{IsGiven}
use Rattle.proof_journals.specs.Ghost.HeldKeys.{is_locked}
use Rattle.proof_journals.specs.Ghost.Invariant.{GhostInvariant, IsServed}
use Rattle.proof_journals.specs.Ghost.Statements.{DoesWork}
use Rattle.proof_journals.specs.Ghost.Relation.Views.{Progress}
use Rattle.proof_journals.specs.Ghost.Rows.Changes.{new_key, old_key, row_left}
use Rattle.proof_journals.specs.Ghost.Rows.Moments.{Row}
use Rattle.proof_journals.specs.Ghost.Rows.Timelines.{IsDue, IsPlanned, Migration, changes_key, kept}
use Rattle.proof_journals.specs.Ghost.Rows.Views.{is_key, chunk_view, GhostRows, ghost_row, is_among, view_of}
use Rattle.proof_journals.proofs.Kept.{apart-turn}
use Rattle.proof_journals.specs.Scenes.{Besides, SessionHold, Stored}
use Rattle.server_model.specs.Answers.{refuses}
use Rattle.server_model.specs.Operations.{Operation, after_events, events_of}
use Rattle.server_model.specs.StatementResults.{only, tells}
use Rattle.server_model.specs.LockedRows.Agreement.{Within}
use Rattle.server_model.specs.LockedRows.Coverage.{Apart, IsSound}

pub given_grant : (m : Migration) (rows : List Row) (done half : Row → Bool) (taken : List Row) (progress : Progress Row) (ghost : GhostRows) (copier applier : ℕ) (now : Stored) (hold : ℕ → SessionHold) (own : SessionHold) (task : Operation) (work : Work) → IsServed now hold → GhostInvariant m rows done half taken progress ghost copier applier now hold
    → (copier == applier) ≡ false → DoesWork m task work → IsGiven now hold applier task own → IsSound m.new.columns work → IsGrant m (hold applier).locks own.locks (hold copier).locks ghost work
given_grant m rows done half taken progress ghost copier applier now hold own task work served kept differ is given sound =
    record { within = given.kept; needed = subst (λ (l : List Lock). Within l own.locks) (applier_says m rows done half taken progress ghost copier applier now hold task work served kept is.table is.does).needed given.needed; apart = given.apart copier differ; sound = sound }

pub given_wrote : (m : Migration) (rows : List Row) (done half : Row → Bool) (taken : List Row) (progress : Progress Row) (ghost : GhostRows) (copier applier : ℕ) (now : Stored) (hold : ℕ → SessionHold) (own : SessionHold) (task : Operation) (work : Work) → IsServed now hold → GhostInvariant m rows done half taken progress ghost copier applier now hold
    → DoesWork m task work → IsGiven now hold applier task own → own.writes ≡ (hold applier).writes ++ events_of m.new.name (tells m.new (view_of m ghost) work).changes
given_wrote m rows done half taken progress ghost copier applier now hold own task work served kept is given =
    given.wrote ∙ ap (λ (s : StatementResult). (hold applier).writes ++ s.events) (applier_says m rows done half taken progress ghost copier applier now hold task work served kept is.table is.does).said

-- *a batch's REPLACE*, of a WRITE or as the second half of an UPDATE
pub replace_keeps : (m : Migration) (rows : List Row) (done half : Row → Bool) (taken : List Row) (progress : Progress Row) (ghost : GhostRows) (copier applier : ℕ) (now : Stored) (hold holds : ℕ → SessionHold) (own : SessionHold) (task : Operation) (change : Change) (row made : Row) → IsPlanned m rows → IsServed now hold
    → GhostInvariant m rows done half taken progress ghost copier applier now hold → (copier == applier) ≡ false → DoesWork m task (works.Replace made) → IsGiven now hold applier task own → Besides applier hold holds own
    → progress.reached < progress.end → IsDue m rows now.log progress.reached change → row_left change ≡ Some row → converted_row m.columns row ≡ Ok made → is_locked m.new own.locks (old_key (key_places m.schema) change) ≡ true
    → ((key : Row) → half key ≡ true → (old_key (key_places m.schema) change ≡ key) ⊎ (new_key (key_places m.schema) change ≡ key))
    → ((new_key (key_places m.schema) change ≡ old_key (key_places m.schema) change → ⊥) → ghost_row m (view_of m ghost) (old_key (key_places m.schema) change) ≡ None)
    → GhostInvariant m rows done (λ _. false) taken (record progress { reached = progress.reached + 1; applier_holds = is_locked m.new own.locks }) (record ghost { batch = ghost.batch ++ (tells m.new (view_of m ghost) (works.Replace made)).changes }) copier applier now holds
replace_keeps m rows done half taken progress ghost copier applier now hold holds own task change row made planned served kept differ is given besides more due left imaged old taken_out gone =
    let fits : Rattle.base_values.specs.GhoSchema.Tables.IsRow m.new.columns made = planned.fits row made (left_fits m rows now.log done half progress ghost change row planned kept.joined.under_way due left) imaged in
    applier_keeps m rows done half done (λ _. false) taken progress (record progress { reached = progress.reached + 1; applier_holds = is_locked m.new own.locks }) ghost (tells m.new (view_of m ghost) (works.Replace made)).changes copier applier now hold holds own kept differ besides
    (given_wrote m rows done half taken progress ghost copier applier now hold own task (works.Replace made) served kept is given)
    (replace_joins m rows now.log done half (hold applier).locks own.locks (hold copier).locks taken progress ghost change row made planned kept.joined
    (given_grant m rows done half taken progress ghost copier applier now hold own task (works.Replace made) served kept differ is given fits) more due left imaged old taken_out gone)

-- *a batch's DELETE by key*
pub delete_keeps : (m : Migration) (rows : List Row) (done : Row → Bool) (taken : List Row) (progress : Progress Row) (ghost : GhostRows) (copier applier : ℕ) (now : Stored) (hold holds : ℕ → SessionHold) (own : SessionHold) (task : Operation) (row : Row) (planned : IsPlanned m rows) → IsServed now hold
    → GhostInvariant m rows done (λ _. false) taken progress ghost copier applier now hold → (copier == applier) ≡ false → DoesWork m task (delete_work m rows planned (key_of (key_places m.schema) row)) → IsGiven now hold applier task own → Besides applier hold holds own
    → progress.reached < progress.end → IsDue m rows now.log progress.reached (Delete row)
    → GhostInvariant m rows done (λ _. false) taken (record progress { reached = progress.reached + 1; applier_holds = is_locked m.new own.locks }) (record ghost { batch = ghost.batch ++ (tells m.new (view_of m ghost) (delete_work m rows planned (key_of (key_places m.schema) row))).changes }) copier applier now holds
delete_keeps m rows done taken progress ghost copier applier now hold holds own task row planned served kept differ is given besides more due =
    let work : Work = delete_work m rows planned (key_of (key_places m.schema) row) in
    applier_keeps m rows done (λ _. false) done (λ _. false) taken progress (record progress { reached = progress.reached + 1; applier_holds = is_locked m.new own.locks }) ghost (tells m.new (view_of m ghost) work).changes copier applier now hold holds own kept differ besides
    (given_wrote m rows done (λ _. false) taken progress ghost copier applier now hold own task work served kept is given)
    (delete_joins m rows now.log done (hold applier).locks own.locks (hold copier).locks taken progress ghost row planned kept.joined (given_grant m rows done (λ _. false) taken progress ghost copier applier now hold own task work served kept differ is given tt) more due)

-- *a batch's UPDATE in place*, not refused
pub update_keeps : (m : Migration) (rows : List Row) (done : Row → Bool) (taken : List Row) (progress : Progress Row) (ghost : GhostRows) (copier applier : ℕ) (now : Stored) (hold holds : ℕ → SessionHold) (own : SessionHold) (task : Operation) (before row made : Row) (planned : IsPlanned m rows) → IsServed now hold
    → GhostInvariant m rows done (λ _. false) taken progress ghost copier applier now hold → (copier == applier) ≡ false → DoesWork m task (update_work m rows planned (key_of (key_places m.schema) before) made) → IsGiven now hold applier task own → Besides applier hold holds own
    → progress.reached < progress.end → IsDue m rows now.log progress.reached (Update before row) → changes_key (kept m) before row ≡ false → converted_row m.columns row ≡ Ok made
    → (tells m.new (view_of m ghost) (update_work m rows planned (key_of (key_places m.schema) before) made) ≡ only (refuses ER_DUP_ENTRY) → ⊥)
    → GhostInvariant m rows done (λ _. false) taken (record progress { reached = progress.reached + 1; applier_holds = is_locked m.new own.locks }) (record ghost { batch = ghost.batch ++ (tells m.new (view_of m ghost) (update_work m rows planned (key_of (key_places m.schema) before) made)).changes }) copier applier now holds
update_keeps m rows done taken progress ghost copier applier now hold holds own task before row made planned served kept differ is given besides more due stays imaged not_refused =
    let fits : Rattle.base_values.specs.GhoSchema.Tables.IsRow m.new.columns made = planned.fits row made (left_fits m rows now.log done (λ _. false) progress ghost (Update before row) row planned kept.joined.under_way due refl) imaged in
    let work : Work = update_work m rows planned (key_of (key_places m.schema) before) made in
    applier_keeps m rows done (λ _. false) done (λ _. false) taken progress (record progress { reached = progress.reached + 1; applier_holds = is_locked m.new own.locks }) ghost (tells m.new (view_of m ghost) work).changes copier applier now hold holds own kept differ besides
    (given_wrote m rows done (λ _. false) taken progress ghost copier applier now hold own task work served kept is given)
    (update_joins m rows now.log done (hold applier).locks own.locks (hold copier).locks taken progress ghost before row made planned kept.joined
    (given_grant m rows done (λ _. false) taken progress ghost copier applier now hold own task work served kept differ is given (sets_fit m.new.columns made fits)) more due stays imaged not_refused)

-- *the first half of a batch's UPDATE*
pub half_keeps : (m : Migration) (rows : List Row) (done : Row → Bool) (taken : List Row) (progress : Progress Row) (ghost : GhostRows) (copier applier : ℕ) (now : Stored) (hold holds : ℕ → SessionHold) (own : SessionHold) (task : Operation) (key : Row) (planned : IsPlanned m rows) → IsServed now hold
    → GhostInvariant m rows done (λ _. false) taken progress ghost copier applier now hold → (copier == applier) ≡ false → DoesWork m task (delete_work m rows planned key) → IsGiven now hold applier task own → Besides applier hold holds own → no_null key ≡ true
    → GhostInvariant m rows done (is_key key) taken (record progress { applier_holds = is_locked m.new own.locks }) (record ghost { batch = ghost.batch ++ (tells m.new (view_of m ghost) (delete_work m rows planned key)).changes }) copier applier now holds
half_keeps m rows done taken progress ghost copier applier now hold holds own task key planned served kept differ is given besides full =
    let work : Work = delete_work m rows planned key in
    applier_keeps m rows done (λ _. false) done (is_key key) taken progress (record progress { applier_holds = is_locked m.new own.locks }) ghost (tells m.new (view_of m ghost) work).changes copier applier now hold holds own kept differ besides
    (given_wrote m rows done (λ _. false) taken progress ghost copier applier now hold own task work served kept is given)
    (half_joins m rows now.log done (hold applier).locks own.locks (hold copier).locks taken progress ghost key planned kept.joined (given_grant m rows done (λ _. false) taken progress ghost copier applier now hold own task work served kept differ is given tt) full)

-- *a batch's statement that is refused*, as an UPDATE with ER_DUP_ENTRY: the locks stay
pub refused_keeps : (m : Migration) (rows : List Row) (done half : Row → Bool) (taken : List Row) (progress : Progress Row) (ghost : GhostRows) (copier applier : ℕ) (now : Stored) (hold holds : ℕ → SessionHold) (own : SessionHold) (task : Operation) (work : Work) → IsServed now hold
    → GhostInvariant m rows done half taken progress ghost copier applier now hold → (copier == applier) ≡ false → DoesWork m task work → IsGiven now hold applier task own → Besides applier hold holds own → (tells m.new (view_of m ghost) work).changes ≡ []
    → GhostInvariant m rows done half taken (record progress { applier_holds = is_locked m.new own.locks }) (record ghost { batch = ghost.batch ++ [] }) copier applier now holds
refused_keeps m rows done half taken progress ghost copier applier now hold holds own task work served kept differ is given besides none =
    applier_keeps m rows done half done half taken progress (record progress { applier_holds = is_locked m.new own.locks }) ghost [] copier applier now hold holds own kept differ besides
    (given_wrote m rows done half taken progress ghost copier applier now hold own task work served kept is given ∙ ap (λ (cs : List Change). (hold applier).writes ++ events_of m.new.name cs) none)
    (rw (append-nil ghost.batch) (applier_waits_no_more m rows now.log done half (hold applier).locks own.locks (hold copier).locks taken progress ghost kept.joined given.kept (given.apart copier differ)))

-- *CopyRow*, Ok(1) and Ok(0)
pub copy_keeps : (m : Migration) (rows : List Row) (done half : Row → Bool) (taken : List Row) (progress : Progress Row) (ghost : GhostRows) (copier applier : ℕ) (now : Stored) (hold holds : ℕ → SessionHold) (own : SessionHold) (task : Operation) (row made : Row) → IsPlanned m rows → IsServed now hold
    → GhostInvariant m rows done half taken progress ghost copier applier now hold → (applier == copier) ≡ false → DoesWork m task (works.Copy made) → IsGiven now hold copier task own → Besides copier hold holds own → IsCopied m rows now.log progress.end row made
    → GhostInvariant m rows done half (key_of (key_places m.new) made ∷ taken) (record progress { copier_holds = is_among (key_of (key_places m.new) made ∷ taken) }) (record ghost { chunk = ghost.chunk ++ (tells m.new (chunk_view m ghost) (works.Copy made)).changes }) copier applier now holds
copy_keeps m rows done half taken progress ghost copier applier now hold holds own task row made planned served kept differ is given besides copied =
    let statement_result : Says m.new (chunk_view m ghost) (after_events now.tables (hold copier).writes) task (works.Copy made) = copier_says m rows done half taken progress ghost copier applier now hold task (works.Copy made) served kept is.table is.does in
    copier_keeps m rows done half done half taken (key_of (key_places m.new) made ∷ taken) progress (record progress { copier_holds = is_among (key_of (key_places m.new) made ∷ taken) }) ghost (tells m.new (chunk_view m ghost) (works.Copy made)).changes copier applier now hold holds own kept differ besides
    (given.wrote ∙ ap (λ (s : StatementResult). (hold copier).writes ++ s.events) statement_result.said)
    (copy_joins m rows now.log done half (hold applier).locks (hold copier).locks own.locks taken progress ghost row made planned kept.joined copied given.kept (apart-turn own.locks (hold applier).locks (given.apart applier differ))
    (subst (λ (l : List Lock). Within l own.locks) statement_result.needed given.needed))

-- *BeginSpan*: the copier is granted locks, and writes nothing
pub span_keeps : (m : Migration) (rows : List Row) (done half : Row → Bool) (taken : List Row) (progress : Progress Row) (ghost : GhostRows) (copier applier : ℕ) (now : Stored) (hold holds : ℕ → SessionHold) (own : SessionHold) → GhostInvariant m rows done half taken progress ghost copier applier now hold → (applier == copier) ≡ false
    → Besides copier hold holds own → Within (hold copier).locks own.locks → Apart own.locks (hold applier).locks → own.writes ≡ (hold copier).writes → GhostInvariant m rows done half taken progress ghost copier applier now holds
span_keeps m rows done half taken progress ghost copier applier now hold holds own kept differ besides within apart wrote =
    record {
      joined = rw (besides.here, besides.there applier differ) (copier_waits_no_more m rows now.log done half (hold applier).locks (hold copier).locks own.locks taken progress ghost kept.joined within (apart-turn own.locks (hold applier).locks apart));
      old = kept.old;
      new = kept.new;
      batch = ap (λ (s : SessionHold). s.writes) (besides.there applier differ) ∙ kept.batch;
      chunk = ap (λ (s : SessionHold). s.writes) besides.here ∙ wrote ∙ kept.chunk;
      differ = kept.differ;
    }

-- ---- a client's writes are of no table that it hasn't named

-- *a batch's UPDATE of a row that has no image*, where the new table has no row of its key
pub unfit_keeps : (m : Migration) (rows : List Row) (done : Row → Bool) (taken : List Row) (progress : Progress Row) (ghost : GhostRows) (copier applier : ℕ) (now : Stored) (hold holds : ℕ → SessionHold) (own : SessionHold) (task : Operation) (before row : Row) (fault : _) (planned : IsPlanned m rows) → IsServed now hold
    → GhostInvariant m rows done (λ _. false) taken progress ghost copier applier now hold → (copier == applier) ≡ false → DoesWork m task (unfit_work m rows planned (key_of (key_places m.schema) before) fault) → IsGiven now hold applier task own → Besides applier hold holds own
    → progress.reached < progress.end → IsDue m rows now.log progress.reached (Update before row) → changes_key (kept m) before row ≡ false → ghost_row m (view_of m ghost) (key_of (key_places m.schema) before) ≡ None
    → GhostInvariant m rows done (λ _. false) taken (record progress { reached = progress.reached + 1; applier_holds = is_locked m.new own.locks }) (record ghost { batch = ghost.batch ++ (tells m.new (view_of m ghost) (unfit_work m rows planned (key_of (key_places m.schema) before) fault)).changes }) copier applier now holds
unfit_keeps m rows done taken progress ghost copier applier now hold holds own task before row fault planned served kept differ is given besides more due stays none =
    let work : Work = unfit_work m rows planned (key_of (key_places m.schema) before) fault in
    applier_keeps m rows done (λ _. false) done (λ _. false) taken progress (record progress { reached = progress.reached + 1; applier_holds = is_locked m.new own.locks }) ghost (tells m.new (view_of m ghost) work).changes copier applier now hold holds own kept differ besides
    (given_wrote m rows done (λ _. false) taken progress ghost copier applier now hold own task work served kept is given)
    (unfit_joins m rows now.log done (hold applier).locks own.locks (hold copier).locks taken progress ghost before row fault planned kept.joined (given_grant m rows done (λ _. false) taken progress ghost copier applier now hold own task work served kept differ is given tt) more due stays none)
