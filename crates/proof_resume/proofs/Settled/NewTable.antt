-- What is left of the ghost relation where nothing is open.
use Rattle.std.proofs.Common.{ℕ, Bool, false, List, [], ◌++◌, length, Some, refl, sym, ap, ◌∙◌, subst, arith}
use Rattle.std.proofs.lemmas.Bool.{true≢false}
use Rattle.base_values.specs.declared.span.Bound.TheVariants.{Open, Closed}
use Rattle.base_values.specs.GhoSchema.Rows.{key_places}
use Rattle.base_values.specs.declared.event.RowEvent.{RowEvent}
use Rattle.table_store.specs.Databases.{find_table}
use Rattle.proof_journals.specs.Scenes.{SessionHold}
use Rattle.proof_journals.specs.Ghost.Tool.{CopyState, done_in, half_in, start_places}
use Rattle.proof_journals.specs.Ghost.Tool.CopyState.{Waiting, Taking}
use Rattle.proof_journals.specs.Ghost.Relation.Views.{Progress}
use Rattle.proof_journals.specs.Ghost.Rows.Moments.{LogFits, Row, rows_after_all, rows_at}
use Rattle.proof_journals.specs.Ghost.Rows.Timelines.{Migration, timeline_of}
use Rattle.proof_journals.specs.Ghost.Rows.UnderWay.{IsUnderWay}
use Rattle.proof_journals.specs.Ghost.Rows.Views.{GhostRows, is_done, views_of}
use Rattle.proof_journals.proofs.Ghost.Fitting.{events_lead}
use Rattle.proof_journals.proofs.Ghost.Keeping.{TableExists, found_besides, table_commits}
use Rattle.proof_journals.proofs.Ghost.Relation.AllViews.{chunk_rolls_back, more_done}
use Rattle.proof_journals.proofs.Ghost.Rows.Committing.{disjoint_none, fits_none, log_goes_on}
use Rattle.proof_journals.proofs.Ghost.Rows.Resting.{batch_goes_back, chunk_goes_back, places_go_back}
use Rattle.proof_journals.proofs.Ghost.Rows.Steps.{under_way_timeline, with_done}
use Rattle.proof_journals.proofs.Ghost.Joining.{none_among, none_locked}
use Rattle.proof_journals.proofs.Kept.{none_apart}
use Rattle.proof_resume.specs.Settled.Laws.{MovesSettle, OthersSettle, RelationsSettle, SettledEarlier, SettledStarts}
use Rattle.proof_resume.specs.Reached.Coverage.{left_in}
use Rattle.proof_resume.specs.Settled.NewTable.{only_committed}

-- *No chunk is open*: the copier holds nothing
chunk_closes : (m : Migration) (rows : List Row) (log : List RowEvent) (done half : Row → Bool) (progress : Progress Row) (ghost : GhostRows) → IsUnderWay m rows log done half progress ghost
    → IsUnderWay m rows log done half (record progress { copier_holds = λ _. false }) (record ghost { chunk = [] })
unfolding rows_after_all
chunk_closes m rows log done half progress ghost now =
    record {
      log_fits = now.log_fits;
      end = now.end;
      are = chunk_rolls_back (timeline_of m rows log) done half progress (views_of (key_places m.new) ghost) now.are;
      table = now.table;
      batch = now.batch;
      chunk = fits_none m.new ghost.committed;
      batch_covered = now.batch_covered;
      chunk_covered = tt;
      disjoint = disjoint_none m.new ghost.batch;
    }

copy_closes : (m : Migration) (rows : List Row) (log : List RowEvent) (copy : CopyState) (half : Row → Bool) (progress : Progress Row) (ghost : GhostRows) → IsUnderWay m rows log (done_in copy) half progress ghost
    → IsUnderWay m rows log (is_done (left_in copy)) half (record progress { copier_holds = λ _. false }) (record ghost { chunk = [] })
copy_closes m rows log (Waiting left) half progress ghost now = chunk_closes m rows log (is_done left) half progress ghost now
copy_closes m rows log (Taking low high top keys copied) half progress ghost now =
    chunk_goes_back m rows log (Some (record { low = low; high = Closed top })) (Some (record { low = Open high; high = Closed top })) keys half progress ghost now

-- *Relations settle.*
pub relations_settle : RelationsSettle
relations_settle m at rows copy apply progress ghost copier applier now hold planned tool =
    let closed : IsUnderWay m rows now.log (is_done (left_in copy)) (half_in m apply) (record progress { copier_holds = λ _. false }) (record ghost { chunk = [] }) = copy_closes m rows now.log copy (half_in m apply) progress ghost tool.kept.joined.under_way in
    let rests : IsUnderWay m rows now.log (is_done (left_in copy)) (λ _. false) (record { position = progress.position; reached = progress.position; end = progress.end; copier_holds = λ _. false; applier_holds = λ _. false }) (only_committed ghost.committed) =
    batch_goes_back m rows now.log (is_done (left_in copy)) (half_in m apply) (record progress { copier_holds = λ _. false }) (record ghost { chunk = [] })
    (under_way_timeline m rows now.log (is_done (left_in copy)) (half_in m apply) (record progress { copier_holds = λ _. false }) (record ghost { chunk = [] }) planned closed) closed in
    record {
      under_way = subst (λ (e : ℕ). IsUnderWay m rows now.log (is_done (left_in copy)) (λ _. false) (record { position = progress.position; reached = progress.position; end = e; copier_holds = λ _. false; applier_holds = λ _. false }) (only_committed ghost.committed)) rests.end rests;
      old = tool.kept.old;
      new = tool.kept.new;
      differ = tool.kept.differ;
    }

-- *Settled earlier*
pub settled_earlier : SettledEarlier
settled_earlier m rows now position earlier left more made planned before leaves settled =
    let was : IsUnderWay m rows now.log (is_done left) (λ _. false) (start_places position now) (only_committed made) = settled.under_way in
    let lower : IsUnderWay m rows now.log (is_done left) (λ _. false) (start_places earlier now) (only_committed made) =
    places_go_back m rows now.log (is_done left) (λ _. false) (start_places position now) (only_committed made) earlier earlier (under_way_timeline m rows now.log (is_done left) (λ _. false) (start_places position now) (only_committed made) planned was) before before (omega arith) was in
    record {
      under_way = with_done m rows now.log (is_done left) (is_done more) (λ _. false) (start_places earlier now) (only_committed made)
          (more_done (timeline_of m rows now.log) (is_done left) (is_done more) (λ _. false) (start_places earlier now) (views_of (key_places m.new) (only_committed made)) leaves lower.are) lower;
      old = settled.old;
      new = settled.new;
      differ = settled.differ;
    }

-- *Other sessions commit.*
pub others_settle : OthersSettle
others_settle m rows now after hold number position left made planned served not_of tables log settled =
    let writes : List RowEvent = (hold number).writes in
    let was : IsUnderWay m rows now.log (is_done left) (λ _. false) (start_places position now) (only_committed made) = settled.under_way in
    let leads : LogFits m.name m.schema (rows_at m.name (key_places m.schema) rows now.log (length now.log)) writes =
    events_lead m.name writes now.tables (record { schema = m.schema; rows = rows_at m.name (key_places m.schema) rows now.log (length now.log) }) served.well_formed (served.fits number) settled.old in
    let exists : TableExists m rows after = table_commits m rows now after hold number served (record { log_fits = was.log_fits; found = settled.old }) tables log in
    let then : IsUnderWay m rows (now.log ++ writes) (is_done left) (λ _. false) (record (start_places position now) { end = length (now.log ++ writes) }) (only_committed made) =
    log_goes_on m rows now.log writes (is_done left) (λ _. false) (start_places position now) (only_committed made) planned.old_key planned.keeps planned.table leads was in
    record {
      under_way = subst (λ (l : List RowEvent). IsUnderWay m rows l (is_done left) (λ _. false) (record (start_places position now) { end = length l }) (only_committed made)) (sym log) then;
      old = exists.found;
      new = ap (find_table m.new.name) tables ∙ found_besides m.new.name writes now.tables not_of ∙ settled.new;
      differ = settled.differ;
    }

-- *Other tables are made, dropped or renamed.*
pub moves_settle : MovesSettle
moves_settle m rows now after position left made log old new settled =
    record {
      under_way = subst (λ (l : List RowEvent). IsUnderWay m rows l (is_done left) (λ _. false) (record { position = position; reached = position; end = length l; copier_holds = λ _. false; applier_holds = λ _. false }) (only_committed made)) (sym log) settled.under_way;
      old = rw log (old ∙ settled.old);
      new = new ∙ settled.new;
      differ = settled.differ;
    }

-- *A new copier and a new applier start.*
pub settled_starts : SettledStarts
settled_starts m at rows copier applier position now hold left made copies applies two other settled =
    record {
      kept = record {
        joined = rw (copies, applies) (record {
          under_way = settled.under_way;
          granted = record { apart = none_apart []; applier_holds = sym (none_locked m.new); copier_holds = sym none_among; taken = λ key among. absurd (true≢false (sym among ∙ ap (λ (t : Row → Bool). t key) none_among)); batch = tt; chunk = tt };
        });
        old = settled.old;
        new = settled.new;
        batch = ap (λ (s : SessionHold). s.writes) applies;
        chunk = ap (λ (s : SessionHold). s.writes) copies;
        differ = settled.differ;
      };
      copying = copies;
      applying = record { rests = applies; reached = refl; empty = refl };
      two = two;
      other = other;
    }
