-- Beginnings, walks over the log, commits and losses keep the migration under way, with its locks.
use Rattle.std.proofs.Common.{◌≡◌, ℕ, zero, suc, ◌+◌, ◌<◌, ◌≤◌, Bool, true, false, List, [], ◌++◌, length, map, filter, Option, Some, None, refl, sym, ap, ◌∙◌, subst, arith}
use Rattle.std.proofs.lemmas.Bool.{true≢false}
use Rattle.std.proofs.Math.Path.{fun_ext}
use Rattle.base_values.specs.declared.span.Bound.{Bound}
use Rattle.base_values.specs.declared.span.Bound.TheVariants.{Open, Closed}
use Rattle.base_values.specs.declared.span.Span.{Span}
use Rattle.base_values.specs.Spans.{has}
use Rattle.base_values.specs.GhoSchema.Rows.{key_of, key_places}
use Rattle.base_values.specs.declared.event.RowEvent.{RowEvent}
use Rattle.server_locks.specs.declared.row_locks.lock.Lock.{Lock}
use Rattle.proof_journals.proofs.Ghost.Disjoint.{held_apart}
use Rattle.proof_journals.proofs.Ghost.Joining.{none_among, none_locked}
use Rattle.proof_journals.proofs.Ghost.Keys.{locked_more}
use Rattle.proof_journals.specs.Ghost.Doings.{OthersOnly}
use Rattle.proof_journals.specs.Ghost.HeldKeys.{is_locked}
use Rattle.proof_journals.specs.Ghost.Joined.{AreGranted, IsJoined}
use Rattle.proof_journals.specs.Ghost.Relation.Views.{Progress}
use Rattle.proof_journals.proofs.Ghost.Rows.Chunking.{all_done, chunk_begins}
use Rattle.proof_journals.proofs.Ghost.Rows.Committing.{batch_goes_on, log_goes_on}
use Rattle.proof_journals.proofs.Ghost.Rows.Resting.{batch_goes_back, event_rests, places_go_back}
use Rattle.proof_journals.proofs.Ghost.Rows.Steps.{chunk_commits_on, chunk_is_to_repeat, chunk_rolls_back_on, under_way_timeline, with_done}
use Rattle.proof_journals.proofs.Ghost.Rows.TimelineLaws.{step}
use Rattle.proof_journals.proofs.Ghost.Rows.Writing.{covered_by}
use Rattle.proof_journals.specs.Ghost.Rows.Moments.{LogFits, Row, rows_after_all, rows_at}
use Rattle.proof_journals.specs.Ghost.Rows.Timelines.{IsPlanned, Migration}
use Rattle.proof_journals.specs.Ghost.Rows.UnderWay.{IsUnderWay}
use Rattle.proof_journals.specs.Ghost.Rows.Views.{GhostRows, is_among, is_done, is_done_in}
use Rattle.proof_journals.proofs.Kept.{apart-turn, none_apart}
use Rattle.server_model.proofs.LockedRows.Finding.{covered_more}
use Rattle.server_model.specs.LockedRows.Agreement.{Within}
use Rattle.server_model.specs.LockedRows.Coverage.{Apart}

-- what is granted doesn't depend on the progress of the log
pub regranted : (m : Migration) (own others : List Lock) (taken : List Row) (progress after : Progress Row) (ghost : GhostRows) → after.copier_holds ≡ progress.copier_holds → after.applier_holds ≡ progress.applier_holds → AreGranted m own others taken progress ghost → AreGranted m own others taken after ghost
regranted m own others taken progress after ghost held locked granted =
    record { apart = granted.apart; applier_holds = locked ∙ granted.applier_holds; copier_holds = held ∙ granted.copier_holds; taken = granted.taken; batch = granted.batch; chunk = granted.chunk }

-- *The chunk begins*, with its keys
pub chunk_joins : (m : Migration) (rows : List Row) (log : List RowEvent) (half : Row → Bool) (own others : List Lock) (taken : List Row) (progress : Progress Row) (ghost : GhostRows) (keys : List Row) (low : Bound) (high top : Row)
    → keys ≡ map (key_of (key_places m.schema)) (filter (λ row. has (record { low = low; high = Closed high }) (key_of (key_places m.schema) row)) (rows_at m.name (key_places m.schema) rows log progress.end))
    → IsJoined m rows log (is_done (Some (record { low = low; high = Closed top }))) half own others taken progress ghost
    → IsJoined m rows log (is_done_in (Some (record { low = low; high = Closed top })) (Some (record { low = Open high; high = Closed top })) keys) half own others taken progress ghost
chunk_joins m rows log half own others taken progress ghost keys low high top given now =
    record {
      under_way = with_done m rows log (is_done (Some (record { low = low; high = Closed top }))) (is_done_in (Some (record { low = low; high = Closed top })) (Some (record { low = Open high; high = Closed top })) keys) half progress ghost
          (chunk_begins m rows log half progress ghost keys low high top given now.under_way.are) now.under_way;
      granted = now.granted;
    }

-- *More locks are granted*, and nothing is written: a statement that is refused, or that finds no row; the copier's span
pub applier_waits_no_more : (m : Migration) (rows : List Row) (log : List RowEvent) (done half : Row → Bool) (own all others : List Lock) (taken : List Row) (progress : Progress Row) (ghost : GhostRows) → IsJoined m rows log done half own others taken progress ghost → Within own all → Apart all others
    → IsJoined m rows log done half all others taken (record progress { applier_holds = is_locked m.new all }) ghost
applier_waits_no_more m rows log done half own all others taken progress ghost now within apart =
    let before : (key : Row) → is_locked m.new all key ≡ false → progress.applier_holds key ≡ false = λ key free. less key (progress.applier_holds key) refl free in
    let now' : IsUnderWay m rows log done half progress ghost = now.under_way in
    record {
      under_way = record {
        log_fits = now'.log_fits;
        end = now'.end;
        are = record {
          from = now'.are.from;
          to = now'.are.to;
          committed = now'.are.committed;
          batch = now'.are.batch;
          chunk = now'.are.chunk;
          batch_alone = λ key free. now'.are.batch_alone key (before key free);
          chunk_alone = now'.are.chunk_alone;
          apart = λ key is. held_apart m.new all others taken apart now.granted.taken key (ap (λ (t : Row → Bool). t key) (sym now.granted.copier_holds) ∙ is);
        };
        table = now'.table;
        batch = now'.batch;
        chunk = now'.chunk;
        batch_covered = covered_by (key_places m.new) progress.applier_holds (is_locked m.new all) ghost.batch (λ key is. locked_more m.new own all key within (ap (λ (t : Row → Bool). t key) (sym now.granted.applier_holds) ∙ is)) now'.batch_covered;
        chunk_covered = now'.chunk_covered;
        disjoint = now'.disjoint;
      };
      granted = record { apart = apart; applier_holds = refl; copier_holds = now.granted.copier_holds; taken = now.granted.taken; batch = covered_more m.new own all ghost.batch within now.granted.batch; chunk = now.granted.chunk };
    } where
      less : (key : Row) (b : Bool) → progress.applier_holds key ≡ b → is_locked m.new all key ≡ false → b ≡ false
      less key true is free = absurd (true≢false (sym (locked_more m.new own all key within (ap (λ (t : Row → Bool). t key) (sym now.granted.applier_holds) ∙ is)) ∙ free))
      less key false is free = refl

pub copier_waits_no_more : (m : Migration) (rows : List Row) (log : List RowEvent) (done half : Row → Bool) (own others all : List Lock) (taken : List Row) (progress : Progress Row) (ghost : GhostRows) → IsJoined m rows log done half own others taken progress ghost → Within others all → Apart own all
    → IsJoined m rows log done half own all taken progress ghost
copier_waits_no_more m rows log done half own others all taken progress ghost now within apart =
    record {
      under_way = now.under_way;
      granted = record { apart = apart; applier_holds = now.granted.applier_holds; copier_holds = now.granted.copier_holds; taken = λ key among. locked_more m.new others all key within (now.granted.taken key among); batch = now.granted.batch; chunk = covered_more m.new others all ghost.chunk within now.granted.chunk };
    }

-- ---- the walk over events of other tables

pub walk_joins : (m : Migration) (rows : List Row) (log : List RowEvent) (done : Row → Bool) (own others : List Lock) (taken : List Row) (progress : Progress Row) (ghost : GhostRows) (steps : ℕ) → IsPlanned m rows → progress.reached + steps ≤ progress.end → OthersOnly m.name log progress.reached steps
    → IsJoined m rows log done (λ _. false) own others taken progress ghost → IsJoined m rows log done (λ _. false) own others taken (record progress { reached = progress.reached + steps }) ghost
walk_joins m rows log done own others taken progress ghost zero planned within only now =
    let same : progress.reached ≡ progress.reached + 0 = omega arith in
    subst (λ (r : ℕ). IsJoined m rows log done (λ _. false) own others taken (record progress { reached = r }) ghost) same now
walk_joins m rows log done own others taken progress ghost (suc steps) planned within only now =
    let less : progress.reached < progress.end = omega (arith, within) in
    let end : progress.end ≡ length log = now.under_way.end in
    let one = step m.name m.schema log rows progress.reached (omega (arith, less, end)) now.under_way.log_fits in
    let next : IsJoined m rows log done (λ _. false) own others taken (record progress { reached = progress.reached + 1 }) ghost =
    record {
      under_way = event_rests m rows log done progress ghost one (only progress.reached one.event (omega arith) (omega arith) one.there) (under_way_timeline m rows log done (λ _. false) progress ghost planned now.under_way) less now.under_way;
      granted = regranted m own others taken progress (record progress { reached = progress.reached + 1 }) ghost refl refl now.granted;
    } in
    let same : (progress.reached + 1) + steps ≡ progress.reached + (suc steps) = omega arith in
    subst (λ (r : ℕ). IsJoined m rows log done (λ _. false) own others taken (record progress { reached = r }) ghost) same
    (walk_joins m rows log done own others taken (record progress { reached = progress.reached + 1 }) ghost steps planned (omega (arith, within)) (λ i event low high there. only i event (omega (arith, low)) (omega (arith, high)) there) next)

-- ---- commits

-- *The batch's COMMIT*; also a read of the log where no event of the table was told, with an empty batch
pub batch_ends : (m : Migration) (rows : List Row) (log : List RowEvent) (done : Row → Bool) (own others : List Lock) (taken : List Row) (progress : Progress Row) (ghost : GhostRows) → IsPlanned m rows → IsJoined m rows log done (λ _. false) own others taken progress ghost
    → IsJoined m rows log done (λ _. false) [] others taken (record progress { position = progress.reached; applier_holds = λ _. false }) (record ghost { committed = rows_after_all (key_places m.new) ghost.batch ghost.committed; batch = [] })
batch_ends m rows log done own others taken progress ghost planned now =
    record {
      under_way = batch_goes_on m rows log done progress ghost planned.new_key now.under_way;
      granted = record { apart = none_apart others; applier_holds = sym (none_locked m.new); copier_holds = now.granted.copier_holds; taken = now.granted.taken; batch = tt; chunk = now.granted.chunk };
    }

pub batch_lost : (m : Migration) (rows : List Row) (log : List RowEvent) (done half : Row → Bool) (own others : List Lock) (taken : List Row) (progress : Progress Row) (ghost : GhostRows) → IsPlanned m rows → IsJoined m rows log done half own others taken progress ghost
    → IsJoined m rows log done (λ _. false) [] others taken (record progress { reached = progress.position; applier_holds = λ _. false }) (record ghost { batch = [] })
batch_lost m rows log done half own others taken progress ghost planned now =
    record {
      under_way = batch_goes_back m rows log done half progress ghost (under_way_timeline m rows log done half progress ghost planned now.under_way) now.under_way;
      granted = record { apart = none_apart others; applier_holds = sym (none_locked m.new); copier_holds = now.granted.copier_holds; taken = now.granted.taken; batch = tt; chunk = now.granted.chunk };
    }

-- a COMMIT of the batch that was done and lost: the position stays as the applier has it
pub batch_unknown : (m : Migration) (rows : List Row) (log : List RowEvent) (done : Row → Bool) (own others : List Lock) (taken : List Row) (progress : Progress Row) (ghost : GhostRows) → IsPlanned m rows → IsJoined m rows log done (λ _. false) own others taken progress ghost
    → IsJoined m rows log done (λ _. false) [] others taken (record progress { reached = progress.position; applier_holds = λ _. false }) (record ghost { committed = rows_after_all (key_places m.new) ghost.batch ghost.committed; batch = [] })
batch_unknown m rows log done own others taken progress ghost planned now =
    let then = batch_ends m rows log done own others taken progress ghost planned now in
    let from : progress.position ≤ progress.reached = now.under_way.are.from in
    record {
      under_way = places_go_back m rows log done (λ _. false) (record progress { position = progress.reached; applier_holds = λ _. false }) (record ghost { committed = rows_after_all (key_places m.new) ghost.batch ghost.committed; batch = [] }) progress.position progress.position
          (under_way_timeline m rows log done (λ _. false) (record progress { position = progress.reached; applier_holds = λ _. false }) (record ghost { committed = rows_after_all (key_places m.new) ghost.batch ghost.committed; batch = [] }) planned then.under_way) from from (omega arith) then.under_way;
      granted = regranted m [] others taken (record progress { position = progress.reached; applier_holds = λ _. false }) (record progress { reached = progress.position; applier_holds = λ _. false }) (record ghost { committed = rows_after_all (key_places m.new) ghost.batch ghost.committed; batch = [] }) refl refl then.granted;
    }

-- behind the chunk's COMMIT the copier holds nothing
chunk_granted : (m : Migration) (own others : List Lock) (taken : List Row) (progress : Progress Row) (ghost : GhostRows) → AreGranted m own others taken progress ghost
    → AreGranted m own [] [] (record progress { copier_holds = λ _. false }) (record ghost { committed = rows_after_all (key_places m.new) ghost.chunk ghost.committed; chunk = [] })
chunk_granted m own others taken progress ghost granted =
    record { apart = apart-turn [] own (none_apart own); applier_holds = granted.applier_holds; copier_holds = sym none_among; taken = λ key among. absurd (true≢false (sym among ∙ ap (λ (t : Row → Bool). t key) none_among)); batch = granted.batch; chunk = tt }

-- *The chunk's COMMIT*, when all its keys are taken
pub chunk_ends : (m : Migration) (rows : List Row) (log : List RowEvent) (left following : Option Span) (keys : List Row) (half : Row → Bool) (own others : List Lock) (taken : List Row) (progress : Progress Row) (ghost : GhostRows) → IsPlanned m rows → ((key : Row) → is_among taken key ≡ is_among keys key)
    → IsJoined m rows log (is_done_in left following keys) half own others taken progress ghost
    → IsJoined m rows log (is_done following) half own [] [] (record progress { copier_holds = λ _. false }) (record ghost { committed = rows_after_all (key_places m.new) ghost.chunk ghost.committed; chunk = [] })
chunk_ends m rows log left following keys half own others taken progress ghost planned all now =
    record {
      under_way = chunk_commits_on m rows log left following keys half progress ghost planned (now.granted.copier_holds ∙ fun_ext all) now.under_way;
      granted = chunk_granted m own others taken progress ghost now.granted;
    }

pub chunk_lost : (m : Migration) (rows : List Row) (log : List RowEvent) (left following : Option Span) (keys : List Row) (half : Row → Bool) (own others : List Lock) (taken : List Row) (progress : Progress Row) (ghost : GhostRows) → IsJoined m rows log (is_done_in left following keys) half own others taken progress ghost
    → IsJoined m rows log (is_done left) half own [] [] (record progress { copier_holds = λ _. false }) (record ghost { chunk = [] })
chunk_lost m rows log left following keys half own others taken progress ghost now =
    record {
      under_way = chunk_rolls_back_on m rows log left following keys half progress ghost now.under_way;
      granted = record { apart = apart-turn [] own (none_apart own); applier_holds = now.granted.applier_holds; copier_holds = sym none_among; taken = λ key among. absurd (true≢false (sym among ∙ ap (λ (t : Row → Bool). t key) none_among)); batch = now.granted.batch; chunk = tt };
    }

-- a COMMIT of the chunk that was done and lost: the chunk is to be done again
pub chunk_unknown : (m : Migration) (rows : List Row) (log : List RowEvent) (left following : Option Span) (keys : List Row) (half : Row → Bool) (own others : List Lock) (taken : List Row) (progress : Progress Row) (ghost : GhostRows) → IsPlanned m rows
    → IsJoined m rows log (is_done_in left following keys) half own others taken progress ghost
    → IsJoined m rows log (is_done left) half own [] [] (record progress { copier_holds = λ _. false }) (record ghost { committed = rows_after_all (key_places m.new) ghost.chunk ghost.committed; chunk = [] })
chunk_unknown m rows log left following keys half own others taken progress ghost planned now =
    record {
      under_way = chunk_is_to_repeat m rows log left following keys half progress ghost planned now.under_way;
      granted = chunk_granted m own others taken progress ghost now.granted;
    }

-- ---- any commit

pub log_joins : (m : Migration) (rows : List Row) (log more : List RowEvent) (done half : Row → Bool) (own others : List Lock) (taken : List Row) (progress : Progress Row) (ghost : GhostRows) → IsPlanned m rows → LogFits m.name m.schema (rows_at m.name (key_places m.schema) rows log (length log)) more
    → IsJoined m rows log done half own others taken progress ghost → IsJoined m rows (log ++ more) done half own others taken (record progress { end = length (log ++ more) }) ghost
log_joins m rows log more done half own others taken progress ghost planned leads now =
    record { under_way = log_goes_on m rows log more done half progress ghost planned.old_key planned.keeps planned.table leads now.under_way; granted = regranted m own others taken progress (record progress { end = length (log ++ more) }) ghost refl refl now.granted }

-- the range is copied
pub all_joins : (m : Migration) (rows : List Row) (log : List RowEvent) (half : Row → Bool) (own others : List Lock) (taken : List Row) (progress : Progress Row) (ghost : GhostRows) (top : Row) → IsJoined m rows log (is_done (Some (record { low = Open top; high = Closed top }))) half own others taken progress ghost
    → IsJoined m rows log (is_done None) half own others taken progress ghost
all_joins m rows log half own others taken progress ghost top now =
    record { under_way = with_done m rows log (is_done (Some (record { low = Open top; high = Closed top }))) (is_done None) half progress ghost (all_done m rows log half progress ghost top now.under_way.are) now.under_way; granted = now.granted }
