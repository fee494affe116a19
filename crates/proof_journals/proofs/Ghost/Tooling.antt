-- One law for each kind of entry, by where the copier and the applier are.
use Rattle.std.proofs.Common.{◌≡◌, ℕ, suc, Bool, true, false, List, [], ◌∷◌, ◌++◌, length, filter, take, find, Some, None, Ok, refl, sym, ap, ◌∙◌, subst}
use Rattle.std.specs.Prelude.{◌==◌}
use Rattle.std.specs.List.{slice_get}
use Rattle.std.specs.Ordering.{is_le}
use Rattle.base_values.specs.KeyOrder.{compare_keys}
use Rattle.base_values.specs.declared.span.Bound.{Bound}
use Rattle.base_values.specs.declared.span.Bound.TheVariants.{Open, Closed}
use Rattle.base_values.specs.Spans.{has}
use Rattle.base_values.specs.GhoSchema.Rows.{key_of, key_places}
use Rattle.base_values.specs.RowConversion.ConvertedRows.{converted_row}
use Rattle.base_values.specs.declared.event.RowEvent.{RowEvent}
use Rattle.base_values.specs.declared.event.Change.{Change}
use Rattle.base_values.specs.declared.mysql_errors.TheConstants.{ER_DUP_ENTRY}
use Rattle.table_store.specs.Databases.{find_table}
use Rattle.table_store.specs.RowLists.{is_at}
use Rattle.server_model.specs.declared.work.Work.{Work}
use Rattle.server_model.specs.declared.work.Work.TheVariants as works
use Rattle.tool_program.specs.EventApplier.Appliers.{Doing}
use Rattle.tool_program.specs.EventApplier.Appliers.Doing.{Putting, Removing, Changing}
use Rattle.proof_journals.proofs.Ghost.Chunks.{filter_two, nearer, up_to}
use Rattle.proof_journals.proofs.Ghost.Copying.{begins_span, commits_chunk, copied_all, copies_next, half_beside, span_stays}
use Rattle.proof_journals.proofs.Ghost.Doing.{AppliedHalf, AppliedWhole, Removed, change_does, end_does, half_stays, put_does, removal_does, remove_does, second_does, unfit_does, whole_stays}
use Rattle.proof_journals.proofs.Ghost.Doing.Removed.{halfway, wholly}
use Rattle.proof_journals.proofs.Ghost.Joining.{delete_work, unfit_work, update_work}
use Rattle.proof_journals.proofs.Ghost.Keeping.{batch_keeps, batch_keeps_back, batch_keeps_lost, chunk_keeps_back, chunk_keeps_lost, commit_keeps, other_keeps}
use Rattle.proof_journals.proofs.Ghost.Reading.{position_moves, read_whole}
use Rattle.proof_journals.proofs.Ghost.Stepping.{refused_keeps}
use Rattle.proof_journals.specs.Ghost.Doings.{IsHalf, IsWhole, planned}
use Rattle.proof_journals.specs.Ghost.Given.{IsGiven}
use Rattle.proof_journals.specs.Ghost.HeldKeys.{Clustered, is_locked}
use Rattle.proof_journals.specs.Ghost.Invariant.{GhostInvariant, IsServed, NotOf}
use Rattle.proof_journals.specs.Ghost.Joined.{IsJoined}
use Rattle.proof_journals.specs.Ghost.OwnChanges.{EventsReported, IsReported, own_changes}
use Rattle.proof_journals.specs.Ghost.Statements.{DoesWork}
use Rattle.proof_journals.specs.Ghost.Tool.{AfterRemoval, AfterStatement, ApplyStands, ApplyState, CopyStands, CopyState, InChunk, IsIdle, StandsHalf, ToolInvariant, done_in, half_in, taken_in}
use Rattle.proof_journals.specs.Ghost.Tool.AfterRemoval.{gone_half, gone_whole}
use Rattle.proof_journals.specs.Ghost.Tool.ApplyState.{Half, Idle, Whole}
use Rattle.proof_journals.specs.Ghost.Tool.CopyState.{Taking, Waiting}
use Rattle.proof_journals.specs.Ghost.Relation.Views.{Progress}
use Rattle.proof_journals.specs.Ghost.Rows.Moments.{Row, rows_after_all, rows_at}
use Rattle.proof_journals.specs.Ghost.Rows.Timelines.{IsPlanned, Migration}
use Rattle.proof_journals.specs.Ghost.Rows.Views.{chunk_view, GhostRows, ghost_row, is_among, view_of}
use Rattle.proof_journals.specs.Scenes.{Besides, SessionHold, Stored, no_hold}
use Rattle.server_model.specs.Answers.{refuses}
use Rattle.server_model.specs.Chunks.{keys_of}
use Rattle.server_model.specs.Operations.{Operation, after_events}
use Rattle.server_model.specs.StatementResults.{only, tells}
use Rattle.server_model.proofs.LockedRows.Finding.{NamesWithin}
use Rattle.server_model.proofs.LockedRows.Points.{among-within}
use Rattle.server_model.specs.LockedRows.Agreement.{Within}
use Rattle.server_model.specs.LockedRows.Coverage.{Apart}

-- ---- what grows with the log

whole_grows : (m : Migration) (now after : Stored) (writes : List RowEvent) (reached end next : ℕ) (todo : List Doing) → end ≡ length now.log → after.log ≡ now.log ++ writes → IsWhole m now.log reached end next todo → IsWhole m after.log reached (length after.log) next todo
whole_grows m now after writes reached end next todo same log whole =
    subst (λ (l : List RowEvent). IsWhole m l reached (length l) next todo) (sym log) (whole_stays m now.log writes reached next todo (subst (λ (e : ℕ). IsWhole m now.log reached e next todo) same whole))

half_grows : (m : Migration) (now after : Stored) (writes : List RowEvent) (reached end next : ℕ) (before row : Row) (rest : List Doing) → end ≡ length now.log → after.log ≡ now.log ++ writes → IsHalf m now.log reached end next before row rest → IsHalf m after.log reached (length after.log) next before row rest
half_grows m now after writes reached end next before row rest same log half =
    subst (λ (l : List RowEvent). IsHalf m l reached (length l) next before row rest) (sym log) (half_stays m now.log writes reached next before row rest (subst (λ (e : ℕ). IsHalf m now.log reached e next before row rest) same half))

-- the applier, when the log grows, and the new table's committed rows where it holds no key
apply_grows : (m : Migration) (now after : Stored) (writes : List RowEvent) (progress then : Progress Row) (ghost ghost' : GhostRows) (own own' : SessionHold) (apply : ApplyState) → progress.end ≡ length now.log → after.log ≡ now.log ++ writes → own' ≡ own → then.reached ≡ progress.reached → then.position ≡ progress.position → then.end ≡ length after.log → ghost'.batch ≡ ghost.batch
    → ((key : Row) → is_locked m.new own.locks key ≡ true → ghost_row m (view_of m ghost) key ≡ None → ghost_row m (view_of m ghost') key ≡ None) → ApplyStands m now progress ghost own apply → ApplyStands m after then ghost' own' apply
apply_grows m now after writes progress then ghost ghost' own own' Idle end log same reached position last batch view stands = record { rests = same ∙ stands.rests; reached = reached ∙ stands.reached ∙ sym position; empty = batch ∙ stands.empty }
apply_grows m now after writes progress then ghost ghost' own own' (Whole next todo) end log same reached position last batch view stands =
    rw (reached, last) (whole_grows m now after writes progress.reached progress.end next todo end log stands)
apply_grows m now after writes progress then ghost ghost' own own' (Half next before row rest) end log same reached position last batch view stands =
    record {
      half = rw (reached, last) (half_grows m now after writes progress.reached progress.end next before row rest end log stands.half);
      locked = ap (λ (s : SessionHold). is_locked m.new s.locks (key_of (key_places m.schema) before)) same ∙ stands.locked;
      empty = view (key_of (key_places m.schema) before) stands.locked stands.empty;
    }

-- the applier, when the copier writes
apply_moves : (m : Migration) (now : Stored) (progress then : Progress Row) (ghost ghost' : GhostRows) (own own' : SessionHold) (apply : ApplyState) → own' ≡ own → then.reached ≡ progress.reached → then.position ≡ progress.position → then.end ≡ progress.end → ghost'.batch ≡ ghost.batch → ghost'.committed ≡ ghost.committed
    → ApplyStands m now progress ghost own apply → ApplyStands m now then ghost' own' apply
apply_moves m now progress then ghost ghost' own own' Idle same reached position last batch rows stands = record { rests = same ∙ stands.rests; reached = reached ∙ stands.reached ∙ sym position; empty = batch ∙ stands.empty }
apply_moves m now progress then ghost ghost' own own' (Whole next todo) same reached position last batch rows stands = rw (reached, last) stands
apply_moves m now progress then ghost ghost' own own' (Half next before row rest) same reached position last batch rows stands =
    record { half = rw (reached, last) stands.half; locked = ap (λ (s : SessionHold). is_locked m.new s.locks (key_of (key_places m.schema) before)) same ∙ stands.locked; empty = rw (batch, rows) stands.empty }

-- the copier, when another session commits
near_same : (places : List ℕ) (low : Bound) (high far : Row) (a b : List Row) → is_le (compare_keys high far) ≡ true → filter (λ row. has (record { low = low; high = Closed far }) (key_of places row)) a ≡ filter (λ row. has (record { low = low; high = Closed far }) (key_of places row)) b
    → filter (λ row. has (record { low = low; high = Closed high }) (key_of places row)) a ≡ filter (λ row. has (record { low = low; high = Closed high }) (key_of places row)) b
near_same places low high far a b within same =
    sym (filter_two (up_to places high) (λ row. has (record { low = low; high = Closed far }) (key_of places row)) (λ row. has (record { low = low; high = Closed high }) (key_of places row)) a (λ row. nearer low high far (key_of places row) within))
    ∙ ap (filter (up_to places high)) same
    ∙ filter_two (up_to places high) (λ row. has (record { low = low; high = Closed far }) (key_of places row)) (λ row. has (record { low = low; high = Closed high }) (key_of places row)) b (λ row. nearer low high far (key_of places row) within)

copy_grows : (m : Migration) (at : Clustered m.schema) (rows : List Row) (done' half' next next_half : Row → Bool) (taken other : List Row) (progress later : Progress Row) (ghost ghost' : GhostRows) (copier applier number : ℕ) (now after : Stored) (hold holds : ℕ → SessionHold) (copy : CopyState) → IsPlanned m rows → IsServed now hold
    → GhostInvariant m rows done' half' taken progress ghost copier applier now hold → GhostInvariant m rows next next_half other later ghost' copier applier after holds → (copier == number) ≡ false → holds copier ≡ hold copier → after.tables ≡ after_events now.tables (hold number).writes
    → CopyStands m at rows now (hold copier) copy → CopyStands m at rows after (holds copier) copy
copy_grows m at rows done' half' next next_half taken other progress later ghost ghost' copier applier number now after hold holds (Waiting left) planned served kept then differ same tables stands = same ∙ stands
copy_grows m at rows done' half' next next_half taken other progress later ghost ghost' copier applier number now after hold holds (Taking low high top keys copied) planned served kept then differ same tables stands =
    rw same (record {
      far = stands.far;
      within = stands.within;
      holds = stands.holds;
      reported = stands.reported ∙ ap (keys_of (key_places m.schema)) (near_same (key_places m.schema) low high stands.far (rows_at m.name (key_places m.schema) rows now.log (length now.log)) (rows_at m.name (key_places m.schema) rows after.log (length after.log)) stands.within
          (span_stays m rows done' half' next next_half taken other progress later ghost ghost' copier applier number now after hold holds at (record { low = low; high = Closed stands.far }) planned served kept then differ stands.holds tables));
    })

-- ---- other sessions

-- *A client commits*, or the tool's other sessions
pub client_commits : (m : Migration) (at : Clustered m.schema) (rows : List Row) (copy : CopyState) (apply : ApplyState) (progress : Progress Row) (ghost : GhostRows) (copier applier number : ℕ) (now after : Stored) (hold holds : ℕ → SessionHold) → IsPlanned m rows → IsServed now hold → ToolInvariant m at rows copy apply progress ghost copier applier now hold
    → (copier == number) ≡ false → (applier == number) ≡ false → NotOf m.new.name (hold number).writes → Besides number hold holds no_hold → after.tables ≡ after_events now.tables (hold number).writes → after.log ≡ now.log ++ (hold number).writes
    → ToolInvariant m at rows copy apply (record progress { end = length after.log }) ghost copier applier after holds
client_commits m at rows copy apply progress ghost copier applier number now after hold holds planned served tool not_copier not_applier others besides tables log =
    let then = commit_keeps m rows (done_in copy) (half_in m apply) (taken_in copy) progress ghost copier applier number now after hold holds planned served tool.kept not_copier not_applier others besides tables log in
    record {
      kept = then;
      copying = copy_grows m at rows (done_in copy) (half_in m apply) (done_in copy) (half_in m apply) (taken_in copy) (taken_in copy) progress (record progress { end = length after.log }) ghost ghost copier applier number now after hold holds copy planned served tool.kept then not_copier (besides.there copier not_copier) tables tool.copying;
      applying = apply_grows m now after (hold number).writes progress (record progress { end = length after.log }) ghost ghost (hold applier) (holds applier) apply tool.kept.joined.under_way.end log (besides.there applier not_applier) refl refl refl refl (λ key is empty. empty) tool.applying;
      two = tool.two;
      other = tool.other;
    }

-- ---- the copier

-- *the chunk's begin*
pub tool_begins : (m : Migration) (at : Clustered m.schema) (rows : List Row) (low : Bound) (high top : Row) (keys : List Row) (apply : ApplyState) (progress : Progress Row) (ghost : GhostRows) (copier applier : ℕ) (now : Stored) (hold holds : ℕ → SessionHold) (own : SessionHold) → ToolInvariant m at rows (Waiting (Some (record { low = low; high = Closed top }))) apply progress ghost copier applier now hold
    → Besides copier hold holds own → Within (hold copier).locks own.locks → Apart own.locks (hold applier).locks → own.writes ≡ (hold copier).writes → InChunk m at rows now own low high keys
    → ToolInvariant m at rows (Taking low high top keys 0) apply progress ghost copier applier now holds
tool_begins m at rows low high top keys apply progress ghost copier applier now hold holds own tool besides within apart wrote chunk =
    let end : progress.end ≡ length now.log = tool.kept.joined.under_way.end in
    record {
      kept = begins_span m rows (half_in m apply) progress ghost copier applier now hold holds own keys low high top tool.kept tool.other besides within apart wrote
          (chunk.reported ∙ ap (λ (n : ℕ). keys_of (key_places m.schema) (filter (λ row. has (record { low = low; high = Closed high }) (key_of (key_places m.schema) row)) (rows_at m.name (key_places m.schema) rows now.log n))) (sym end));
      copying = rw besides.here chunk;
      applying = apply_moves m now progress progress ghost ghost (hold applier) (holds applier) apply (besides.there applier tool.other) refl refl refl refl refl tool.applying;
      two = tool.two;
      other = tool.other;
    }

-- *a row of the chunk*
pub tool_copies : (m : Migration) (at : Clustered m.schema) (rows : List Row) (low : Bound) (high top : Row) (keys : List Row) (n : ℕ) (apply : ApplyState) (progress : Progress Row) (ghost : GhostRows) (copier applier : ℕ) (now : Stored) (hold holds : ℕ → SessionHold) (own : SessionHold) (task : Operation) (key row made : Row) → IsPlanned m rows → IsServed now hold
    → ToolInvariant m at rows (Taking low high top keys n) apply progress ghost copier applier now hold → slice_get keys n ≡ Some key → DoesWork m task (works.Copy made) → IsGiven now hold copier task own → NamesWithin (hold copier).names own.names → Besides copier hold holds own
    → find (is_at (key_places m.schema) key) (rows_at m.name (key_places m.schema) rows now.log progress.end) ≡ Some row → converted_row m.columns row ≡ Ok made
    → ToolInvariant m at rows (Taking low high top keys (suc n)) apply (record progress { copier_holds = is_among (key ∷ take n keys) }) (record ghost { chunk = ghost.chunk ++ (tells m.new (chunk_view m ghost) (works.Copy made)).changes }) copier applier now holds
tool_copies m at rows low high top keys n apply progress ghost copier applier now hold holds own task key row made planned served tool next is given named besides found imaged =
    let chunk : InChunk m at rows now (hold copier) low high keys = tool.copying in
    record {
      kept = copies_next m rows (done_in (Taking low high top keys n)) (half_in m apply) keys n progress ghost copier applier now hold holds own task key row made planned served tool.kept tool.other next is given besides found imaged;
      copying = rw besides.here (record { far = chunk.far; within = chunk.within; holds = record { among = among-within _ (hold copier).locks own.locks chunk.holds.among given.kept; named = named m.name chunk.holds.named }; reported = chunk.reported });
      applying = apply_moves m now progress (record progress { copier_holds = is_among (key ∷ take n keys) }) ghost (record ghost { chunk = ghost.chunk ++ (tells m.new (chunk_view m ghost) (works.Copy made)).changes }) (hold applier) (holds applier) apply (besides.there applier tool.other) refl refl refl refl refl tool.applying;
      two = tool.two;
      other = tool.other;
    }

-- *the chunk's COMMIT*
pub tool_commits_chunk : (m : Migration) (at : Clustered m.schema) (rows : List Row) (low : Bound) (high top : Row) (keys : List Row) (apply : ApplyState) (progress : Progress Row) (ghost : GhostRows) (copier applier : ℕ) (now after : Stored) (hold holds : ℕ → SessionHold) → IsPlanned m rows → IsServed now hold
    → ToolInvariant m at rows (Taking low high top keys (length keys)) apply progress ghost copier applier now hold → Besides copier hold holds no_hold → after.tables ≡ after_events now.tables (hold copier).writes → after.log ≡ now.log ++ (hold copier).writes
    → ToolInvariant m at rows (Waiting (Some (record { low = Open high; high = Closed top }))) apply (record progress { end = length after.log; copier_holds = λ _. false }) (record ghost { committed = rows_after_all (key_places m.new) ghost.chunk ghost.committed; chunk = [] }) copier applier after holds
tool_commits_chunk m at rows low high top keys apply progress ghost copier applier now after hold holds planned served tool besides tables log =
    record {
      kept = commits_chunk m rows (Some (record { low = low; high = Closed top })) (Some (record { low = Open high; high = Closed top })) keys (half_in m apply) progress ghost copier applier now after hold holds planned served tool.kept tool.other besides tables log;
      copying = besides.here;
      applying = apply_grows m now after (hold copier).writes progress (record progress { end = length after.log; copier_holds = λ _. false }) ghost (record ghost { committed = rows_after_all (key_places m.new) ghost.chunk ghost.committed; chunk = [] }) (hold applier) (holds applier) apply tool.kept.joined.under_way.end log (besides.there applier tool.other) refl refl refl refl
          (λ key locked empty. half_beside m rows now.log (done_in (Taking low high top keys (length keys))) (half_in m apply) (hold applier).locks (hold copier).locks (take (length keys) keys) progress ghost key tool.kept.joined locked empty) tool.applying;
      two = tool.two;
      other = tool.other;
    }

-- the chunk that ended at the greatest key was the last
pub tool_copied : (m : Migration) (at : Clustered m.schema) (rows : List Row) (top : Row) (apply : ApplyState) (progress : Progress Row) (ghost : GhostRows) (copier applier : ℕ) (now : Stored) (hold : ℕ → SessionHold) → ToolInvariant m at rows (Waiting (Some (record { low = Open top; high = Closed top }))) apply progress ghost copier applier now hold
    → ToolInvariant m at rows (Waiting None) apply progress ghost copier applier now hold
tool_copied m at rows top apply progress ghost copier applier now hold tool =
    record { kept = copied_all m rows (half_in m apply) progress ghost copier applier now hold top tool.kept; copying = tool.copying; applying = tool.applying; two = tool.two; other = tool.other }

-- *The copier's session is lost, times out or rolls back*
pub tool_loses_chunk : (m : Migration) (at : Clustered m.schema) (rows : List Row) (low : Bound) (high top : Row) (keys : List Row) (n : ℕ) (apply : ApplyState) (progress : Progress Row) (ghost : GhostRows) (copier applier : ℕ) (now : Stored) (hold holds : ℕ → SessionHold) → ToolInvariant m at rows (Taking low high top keys n) apply progress ghost copier applier now hold
    → Besides copier hold holds no_hold → ToolInvariant m at rows (Waiting (Some (record { low = low; high = Closed top }))) apply (record progress { copier_holds = λ _. false }) (record ghost { chunk = [] }) copier applier now holds
tool_loses_chunk m at rows low high top keys n apply progress ghost copier applier now hold holds tool besides =
    record {
      kept = chunk_keeps_back m rows (Some (record { low = low; high = Closed top })) (Some (record { low = Open high; high = Closed top })) keys (half_in m apply) (take n keys) progress ghost copier applier now hold holds tool.kept tool.other besides;
      copying = besides.here;
      applying = apply_moves m now progress (record progress { copier_holds = λ _. false }) ghost (record ghost { chunk = [] }) (hold applier) (holds applier) apply (besides.there applier tool.other) refl refl refl refl refl tool.applying;
      two = tool.two;
      other = tool.other;
    }

-- *the chunk's COMMIT done and lost*: the chunk begins again
pub tool_repeats_chunk : (m : Migration) (at : Clustered m.schema) (rows : List Row) (low : Bound) (high top : Row) (keys : List Row) (n : ℕ) (apply : ApplyState) (progress : Progress Row) (ghost : GhostRows) (copier applier : ℕ) (now after : Stored) (hold holds : ℕ → SessionHold) → IsPlanned m rows → IsServed now hold
    → ToolInvariant m at rows (Taking low high top keys n) apply progress ghost copier applier now hold → Besides copier hold holds no_hold → after.tables ≡ after_events now.tables (hold copier).writes → after.log ≡ now.log ++ (hold copier).writes
    → ToolInvariant m at rows (Waiting (Some (record { low = low; high = Closed top }))) apply (record progress { end = length after.log; copier_holds = λ _. false }) (record ghost { committed = rows_after_all (key_places m.new) ghost.chunk ghost.committed; chunk = [] }) copier applier after holds
tool_repeats_chunk m at rows low high top keys n apply progress ghost copier applier now after hold holds planned served tool besides tables log =
    record {
      kept = chunk_keeps_lost m rows (Some (record { low = low; high = Closed top })) (Some (record { low = Open high; high = Closed top })) keys (half_in m apply) (take n keys) progress ghost copier applier now after hold holds planned served tool.kept tool.other besides tables log;
      copying = besides.here;
      applying = apply_grows m now after (hold copier).writes progress (record progress { end = length after.log; copier_holds = λ _. false }) ghost (record ghost { committed = rows_after_all (key_places m.new) ghost.chunk ghost.committed; chunk = [] }) (hold applier) (holds applier) apply tool.kept.joined.under_way.end log (besides.there applier tool.other) refl refl refl refl
          (λ key locked empty. half_beside m rows now.log (done_in (Taking low high top keys n)) (half_in m apply) (hold applier).locks (hold copier).locks (take n keys) progress ghost key tool.kept.joined locked empty) tool.applying;
      two = tool.two;
      other = tool.other;
    }

-- ---- the applier

-- *the log read with events of the table*: what is to be done is planned
pub tool_reads : (m : Migration) (at : Clustered m.schema) (rows : List Row) (copy : CopyState) (progress : Progress Row) (ghost : GhostRows) (copier applier : ℕ) (now : Stored) (hold : ℕ → SessionHold) (reported : EventsReported) → ToolInvariant m at rows copy Idle progress ghost copier applier now hold → IsReported m.name now.log progress.position reported
    → ToolInvariant m at rows copy (Whole reported.next (planned m (own_changes m.name reported.events))) progress ghost copier applier now hold
tool_reads m at rows copy progress ghost copier applier now hold reported tool is =
    let idle : IsIdle progress ghost (hold applier) = tool.applying in
    let whole : IsWhole m now.log progress.position (length now.log) reported.next (planned m (own_changes m.name reported.events)) = read_whole m now.log progress.position reported is in
    record {
      kept = tool.kept;
      copying = tool.copying;
      applying = subst (λ (e : ℕ). IsWhole m now.log progress.reached e reported.next (planned m (own_changes m.name reported.events))) (sym tool.kept.joined.under_way.end) (subst (λ (r : ℕ). IsWhole m now.log r (length now.log) reported.next (planned m (own_changes m.name reported.events))) (sym idle.reached) whole);
      two = tool.two;
      other = tool.other;
    }

-- *the log read with none*: the position moves
pub tool_passes : (m : Migration) (at : Clustered m.schema) (rows : List Row) (copy : CopyState) (progress : Progress Row) (ghost : GhostRows) (copier applier : ℕ) (now : Stored) (hold : ℕ → SessionHold) (reported : EventsReported) → IsPlanned m rows → ToolInvariant m at rows copy Idle progress ghost copier applier now hold → IsReported m.name now.log progress.position reported → planned m (own_changes m.name reported.events) ≡ []
    → ToolInvariant m at rows copy Idle (record progress { position = reported.next; reached = reported.next; applier_holds = λ _. false }) (record ghost { batch = [] }) copier applier now hold
tool_passes m at rows copy progress ghost copier applier now hold reported plan tool is none =
    let idle : IsIdle progress ghost (hold applier) = tool.applying in
    let read : ToolInvariant m at rows copy (Whole reported.next (planned m (own_changes m.name reported.events))) progress ghost copier applier now hold = tool_reads m at rows copy progress ghost copier applier now hold reported tool is in
    let whole : IsWhole m now.log progress.reached progress.end reported.next [] = subst (λ (t : List Doing). IsWhole m now.log progress.reached progress.end reported.next t) none read.applying in
    let empty : GhostInvariant m rows (done_in copy) (λ _. false) (taken_in copy) progress (record ghost { batch = [] }) copier applier now hold = subst (λ (b : List Change). GhostInvariant m rows (done_in copy) (λ _. false) (taken_in copy) progress (record ghost { batch = b }) copier applier now hold) idle.empty tool.kept in
    record {
      kept = position_moves m rows (done_in copy) (taken_in copy) progress ghost copier applier now hold reported.next plan empty idle.rests whole;
      copying = tool.copying;
      applying = record { rests = idle.rests; reached = refl; empty = refl };
      two = tool.two;
      other = tool.other;
    }

copy_rests : (m : Migration) (at : Clustered m.schema) (rows : List Row) (now : Stored) (own own' : SessionHold) (copy : CopyState) → own' ≡ own → CopyStands m at rows now own copy → CopyStands m at rows now own' copy
copy_rests m at rows now own own' copy same stands = subst (λ (s : SessionHold). CopyStands m at rows now s copy) (sym same) stands

after_whole : (m : Migration) (at : Clustered m.schema) (rows : List Row) (copy : CopyState) (apply : ApplyState) (progress : Progress Row) (ghost : GhostRows) (changes : List Change) (copier applier : ℕ) (now : Stored) (hold holds : ℕ → SessionHold) (own : SessionHold) (next : ℕ) (rest : List Doing) → ToolInvariant m at rows copy apply progress ghost copier applier now hold → Besides applier hold holds own
    → AppliedWhole m rows (done_in copy) (taken_in copy) progress ghost changes copier applier now holds own next rest → AfterStatement m at rows copy (Whole next rest) progress ghost changes copier applier now holds own
after_whole m at rows copy apply progress ghost changes copier applier now hold holds own next rest tool besides done =
    record { reached = done.reached; tool = record { kept = done.kept; copying = copy_rests m at rows now (hold copier) (holds copier) copy (besides.there copier tool.two) tool.copying; applying = done.whole; two = tool.two; other = tool.other } }

after_half : (m : Migration) (at : Clustered m.schema) (rows : List Row) (copy : CopyState) (apply : ApplyState) (progress : Progress Row) (ghost : GhostRows) (changes : List Change) (copier applier : ℕ) (now : Stored) (hold holds : ℕ → SessionHold) (own : SessionHold) (next : ℕ) (before row : Row) (rest : List Doing) → ToolInvariant m at rows copy apply progress ghost copier applier now hold → Besides applier hold holds own
    → AppliedHalf m rows (done_in copy) (taken_in copy) progress ghost changes copier applier now holds own next before row rest → AfterStatement m at rows copy (Half next before row rest) progress ghost changes copier applier now holds own
after_half m at rows copy apply progress ghost changes copier applier now hold holds own next before row rest tool besides done =
    record {
      reached = done.reached;
      tool = record {
        kept = done.kept;
        copying = copy_rests m at rows now (hold copier) (holds copier) copy (besides.there copier tool.two) tool.copying;
        applying = record { half = done.half; locked = ap (λ (s : SessionHold). is_locked m.new s.locks (key_of (key_places m.schema) before)) besides.here ∙ done.locked; empty = done.empty };
        two = tool.two;
        other = tool.other;
      };
    }

-- *REPLACE of a row that was written*
pub tool_puts : (m : Migration) (at : Clustered m.schema) (rows : List Row) (copy : CopyState) (progress : Progress Row) (ghost : GhostRows) (copier applier : ℕ) (now : Stored) (hold holds : ℕ → SessionHold) (own : SessionHold) (task : Operation) (next : ℕ) (row made : Row) (rest : List Doing) → IsPlanned m rows → IsServed now hold
    → ToolInvariant m at rows copy (Whole next (Putting row ∷ rest)) progress ghost copier applier now hold → converted_row m.columns row ≡ Ok made → DoesWork m task (works.Replace made) → IsGiven now hold applier task own → Besides applier hold holds own
    → AfterStatement m at rows copy (Whole next rest) progress ghost (tells m.new (view_of m ghost) (works.Replace made)).changes copier applier now holds own
tool_puts m at rows copy progress ghost copier applier now hold holds own task next row made rest plan served tool imaged is given besides =
    after_whole m at rows copy (Whole next (Putting row ∷ rest)) progress ghost (tells m.new (view_of m ghost) (works.Replace made)).changes copier applier now hold holds own next rest tool besides
    (put_does m rows (done_in copy) (taken_in copy) progress ghost copier applier now hold holds own task next row made rest plan served tool.kept tool.two tool.applying imaged is given besides)

-- *a batch's UPDATE in place*, not refused
pub tool_changes : (m : Migration) (at : Clustered m.schema) (rows : List Row) (copy : CopyState) (progress : Progress Row) (ghost : GhostRows) (copier applier : ℕ) (now : Stored) (hold holds : ℕ → SessionHold) (own : SessionHold) (task : Operation) (next : ℕ) (before row made : Row) (rest : List Doing) (plan : IsPlanned m rows) → IsServed now hold
    → ToolInvariant m at rows copy (Whole next (Changing before row ∷ rest)) progress ghost copier applier now hold → converted_row m.columns row ≡ Ok made → DoesWork m task (update_work m rows plan (key_of (key_places m.schema) before) made) → IsGiven now hold applier task own → Besides applier hold holds own
    → (tells m.new (view_of m ghost) (update_work m rows plan (key_of (key_places m.schema) before) made) ≡ only (refuses ER_DUP_ENTRY) → ⊥)
    → AfterStatement m at rows copy (Whole next rest) progress ghost (tells m.new (view_of m ghost) (update_work m rows plan (key_of (key_places m.schema) before) made)).changes copier applier now holds own
tool_changes m at rows copy progress ghost copier applier now hold holds own task next before row made rest plan served tool imaged is given besides done =
    after_whole m at rows copy (Whole next (Changing before row ∷ rest)) progress ghost (tells m.new (view_of m ghost) (update_work m rows plan (key_of (key_places m.schema) before) made)).changes copier applier now hold holds own next rest tool besides
    (change_does m rows (done_in copy) (taken_in copy) progress ghost copier applier now hold holds own task next before row made rest plan served tool.kept tool.two tool.applying imaged is given besides done)

-- *a batch's UPDATE of a row that has no image*, answered Ok(0)
pub tool_changes_none : (m : Migration) (at : Clustered m.schema) (rows : List Row) (copy : CopyState) (progress : Progress Row) (ghost : GhostRows) (copier applier : ℕ) (now : Stored) (hold holds : ℕ → SessionHold) (own : SessionHold) (task : Operation) (next : ℕ) (before row : Row) (fault : _) (rest : List Doing) (plan : IsPlanned m rows) → IsServed now hold
    → ToolInvariant m at rows copy (Whole next (Changing before row ∷ rest)) progress ghost copier applier now hold → DoesWork m task (unfit_work m rows plan (key_of (key_places m.schema) before) fault) → IsGiven now hold applier task own → Besides applier hold holds own → ghost_row m (view_of m ghost) (key_of (key_places m.schema) before) ≡ None
    → AfterStatement m at rows copy (Whole next rest) progress ghost (tells m.new (view_of m ghost) (unfit_work m rows plan (key_of (key_places m.schema) before) fault)).changes copier applier now holds own
tool_changes_none m at rows copy progress ghost copier applier now hold holds own task next before row fault rest plan served tool is given besides none =
    after_whole m at rows copy (Whole next (Changing before row ∷ rest)) progress ghost (tells m.new (view_of m ghost) (unfit_work m rows plan (key_of (key_places m.schema) before) fault)).changes copier applier now hold holds own next rest tool besides
    (unfit_does m rows (done_in copy) (taken_in copy) progress ghost copier applier now hold holds own task next before row fault rest plan served tool.kept tool.two tool.applying is given besides none)

-- *UPDATE refused with ER_DUP_ENTRY*
pub tool_refused : (m : Migration) (at : Clustered m.schema) (rows : List Row) (copy : CopyState) (progress : Progress Row) (ghost : GhostRows) (copier applier : ℕ) (now : Stored) (hold holds : ℕ → SessionHold) (own : SessionHold) (task : Operation) (work : Work) (next : ℕ) (todo : List Doing) → IsServed now hold
    → ToolInvariant m at rows copy (Whole next todo) progress ghost copier applier now hold → DoesWork m task work → IsGiven now hold applier task own → Besides applier hold holds own → (tells m.new (view_of m ghost) work).changes ≡ []
    → ToolInvariant m at rows copy (Whole next todo) (record progress { applier_holds = is_locked m.new own.locks }) (record ghost { batch = ghost.batch ++ [] }) copier applier now holds
tool_refused m at rows copy progress ghost copier applier now hold holds own task work next todo served tool is given besides none =
    record {
      kept = refused_keeps m rows (done_in copy) (λ _. false) (taken_in copy) progress ghost copier applier now hold holds own task work served tool.kept tool.two is given besides none;
      copying = copy_rests m at rows now (hold copier) (holds copier) copy (besides.there copier tool.two) tool.copying;
      applying = tool.applying;
      two = tool.two;
      other = tool.other;
    }

-- *the DELETE behind it*
pub tool_removes_again : (m : Migration) (at : Clustered m.schema) (rows : List Row) (copy : CopyState) (progress : Progress Row) (ghost : GhostRows) (copier applier : ℕ) (now : Stored) (hold holds : ℕ → SessionHold) (own : SessionHold) (task : Operation) (next : ℕ) (before row : Row) (rest : List Doing) (plan : IsPlanned m rows) → IsServed now hold
    → ToolInvariant m at rows copy (Whole next (Changing before row ∷ rest)) progress ghost copier applier now hold → DoesWork m task (delete_work m rows plan (key_of (key_places m.schema) before)) → IsGiven now hold applier task own → Besides applier hold holds own
    → AfterStatement m at rows copy (Half next before row rest) progress ghost (tells m.new (view_of m ghost) (delete_work m rows plan (key_of (key_places m.schema) before))).changes copier applier now holds own
tool_removes_again m at rows copy progress ghost copier applier now hold holds own task next before row rest plan served tool is given besides =
    after_half m at rows copy (Whole next (Changing before row ∷ rest)) progress ghost (tells m.new (view_of m ghost) (delete_work m rows plan (key_of (key_places m.schema) before))).changes copier applier now hold holds own next before row rest tool besides
    (removal_does m rows (done_in copy) (taken_in copy) progress ghost copier applier now hold holds own task next before row rest plan served tool.kept tool.two tool.applying is given besides)

removed_then : (m : Migration) (at : Clustered m.schema) (rows : List Row) (copy : CopyState) (apply : ApplyState) (progress : Progress Row) (ghost : GhostRows) (changes : List Change) (copier applier : ℕ) (now : Stored) (hold holds : ℕ → SessionHold) (own : SessionHold) (next : ℕ) (row : Row) (rest : List Doing) → ToolInvariant m at rows copy apply progress ghost copier applier now hold → Besides applier hold holds own
    → Removed m rows (done_in copy) (taken_in copy) progress ghost changes copier applier now holds own next row rest → AfterRemoval m at rows copy progress ghost changes copier applier now holds own next row rest
removed_then m at rows copy apply progress ghost changes copier applier now hold holds own next row rest tool besides (wholly done) = gone_whole (after_whole m at rows copy apply progress ghost changes copier applier now hold holds own next rest tool besides done)
removed_then m at rows copy apply progress ghost changes copier applier now hold holds own next row rest tool besides (halfway new more is done) = gone_half new more is (after_half m at rows copy apply progress ghost changes copier applier now hold holds own next row new more tool besides done)

pub tool_removes : (m : Migration) (at : Clustered m.schema) (rows : List Row) (copy : CopyState) (progress : Progress Row) (ghost : GhostRows) (copier applier : ℕ) (now : Stored) (hold holds : ℕ → SessionHold) (own : SessionHold) (task : Operation) (next : ℕ) (row : Row) (rest : List Doing) (plan : IsPlanned m rows) → IsServed now hold
    → ToolInvariant m at rows copy (Whole next (Removing row ∷ rest)) progress ghost copier applier now hold → DoesWork m task (delete_work m rows plan (key_of (key_places m.schema) row)) → IsGiven now hold applier task own → Besides applier hold holds own
    → AfterRemoval m at rows copy progress ghost (tells m.new (view_of m ghost) (delete_work m rows plan (key_of (key_places m.schema) row))).changes copier applier now holds own next row rest
tool_removes m at rows copy progress ghost copier applier now hold holds own task next row rest plan served tool is given besides =
    removed_then m at rows copy (Whole next (Removing row ∷ rest)) progress ghost (tells m.new (view_of m ghost) (delete_work m rows plan (key_of (key_places m.schema) row))).changes copier applier now hold holds own next row rest tool besides
    (remove_does m rows (done_in copy) (taken_in copy) progress ghost copier applier now hold holds own task next row rest plan served tool.kept tool.two tool.applying is given besides)

-- *the REPLACE behind a DELETE*
pub tool_puts_second : (m : Migration) (at : Clustered m.schema) (rows : List Row) (copy : CopyState) (progress : Progress Row) (ghost : GhostRows) (copier applier : ℕ) (now : Stored) (hold holds : ℕ → SessionHold) (own : SessionHold) (task : Operation) (next : ℕ) (before row made : Row) (rest : List Doing) → IsPlanned m rows → IsServed now hold
    → ToolInvariant m at rows copy (Half next before row rest) progress ghost copier applier now hold → converted_row m.columns row ≡ Ok made → DoesWork m task (works.Replace made) → IsGiven now hold applier task own → Besides applier hold holds own
    → AfterStatement m at rows copy (Whole next rest) progress ghost (tells m.new (view_of m ghost) (works.Replace made)).changes copier applier now holds own
tool_puts_second m at rows copy progress ghost copier applier now hold holds own task next before row made rest plan served tool imaged is given besides =
    let half : StandsHalf m now progress ghost (hold applier) next before row rest = tool.applying in
    after_whole m at rows copy (Half next before row rest) progress ghost (tells m.new (view_of m ghost) (works.Replace made)).changes copier applier now hold holds own next rest tool besides
    (second_does m rows (done_in copy) (taken_in copy) progress ghost copier applier now hold holds own task next before row made rest plan served tool.kept tool.two half.half half.locked half.empty imaged is given besides)

-- *the batch's COMMIT*
pub tool_commits_batch : (m : Migration) (at : Clustered m.schema) (rows : List Row) (copy : CopyState) (progress : Progress Row) (ghost : GhostRows) (copier applier : ℕ) (now after : Stored) (hold holds : ℕ → SessionHold) (next : ℕ) → IsPlanned m rows → IsServed now hold → ToolInvariant m at rows copy (Whole next []) progress ghost copier applier now hold
    → Besides applier hold holds no_hold → after.tables ≡ after_events now.tables (hold applier).writes → after.log ≡ now.log ++ (hold applier).writes
    → ToolInvariant m at rows copy Idle (record progress { position = next; reached = next; end = length after.log; applier_holds = λ _. false }) (record ghost { committed = rows_after_all (key_places m.new) ghost.batch ghost.committed; batch = [] }) copier applier after holds
tool_commits_batch m at rows copy progress ghost copier applier now after hold holds next plan served tool besides tables log =
    let walked = end_does m rows (done_in copy) (taken_in copy) progress ghost copier applier now hold next plan tool.kept tool.applying in
    let then = batch_keeps m rows (done_in copy) (taken_in copy) (record progress { reached = next }) ghost copier applier now after hold holds plan served walked tool.two besides tables log in
    record {
      kept = then;
      copying = copy_grows m at rows (done_in copy) (λ _. false) (done_in copy) (λ _. false) (taken_in copy) (taken_in copy) progress (record progress { position = next; reached = next; end = length after.log; applier_holds = λ _. false }) ghost (record ghost { committed = rows_after_all (key_places m.new) ghost.batch ghost.committed; batch = [] }) copier applier applier now after hold holds copy plan served tool.kept then tool.two (besides.there copier tool.two) tables tool.copying;
      applying = record { rests = besides.here; reached = refl; empty = refl };
      two = tool.two;
      other = tool.other;
    }

-- *the batch's COMMIT done and lost*: the batch begins again
pub tool_repeats_batch : (m : Migration) (at : Clustered m.schema) (rows : List Row) (copy : CopyState) (progress : Progress Row) (ghost : GhostRows) (copier applier : ℕ) (now after : Stored) (hold holds : ℕ → SessionHold) (next : ℕ) → IsPlanned m rows → IsServed now hold → ToolInvariant m at rows copy (Whole next []) progress ghost copier applier now hold
    → Besides applier hold holds no_hold → after.tables ≡ after_events now.tables (hold applier).writes → after.log ≡ now.log ++ (hold applier).writes
    → ToolInvariant m at rows copy Idle (record progress { reached = progress.position; end = length after.log; applier_holds = λ _. false }) (record ghost { committed = rows_after_all (key_places m.new) ghost.batch ghost.committed; batch = [] }) copier applier after holds
tool_repeats_batch m at rows copy progress ghost copier applier now after hold holds next plan served tool besides tables log =
    let then = batch_keeps_lost m rows (done_in copy) (taken_in copy) progress ghost copier applier now after hold holds plan served tool.kept tool.two besides tables log in
    record {
      kept = then;
      copying = copy_grows m at rows (done_in copy) (λ _. false) (done_in copy) (λ _. false) (taken_in copy) (taken_in copy) progress (record progress { reached = progress.position; end = length after.log; applier_holds = λ _. false }) ghost (record ghost { committed = rows_after_all (key_places m.new) ghost.batch ghost.committed; batch = [] }) copier applier applier now after hold holds copy plan served tool.kept then tool.two (besides.there copier tool.two) tables tool.copying;
      applying = record { rests = besides.here; reached = refl; empty = refl };
      two = tool.two;
      other = tool.other;
    }

-- *The applier's session is lost, times out or rolls back*
pub tool_loses_batch : (m : Migration) (at : Clustered m.schema) (rows : List Row) (copy : CopyState) (apply : ApplyState) (progress : Progress Row) (ghost : GhostRows) (copier applier : ℕ) (now : Stored) (hold holds : ℕ → SessionHold) → IsPlanned m rows → ToolInvariant m at rows copy apply progress ghost copier applier now hold → Besides applier hold holds no_hold
    → ToolInvariant m at rows copy Idle (record progress { reached = progress.position; applier_holds = λ _. false }) (record ghost { batch = [] }) copier applier now holds
tool_loses_batch m at rows copy apply progress ghost copier applier now hold holds plan tool besides =
    record {
      kept = batch_keeps_back m rows (done_in copy) (half_in m apply) (taken_in copy) progress ghost copier applier now hold holds plan tool.kept tool.two besides;
      copying = copy_rests m at rows now (hold copier) (holds copier) copy (besides.there copier tool.two) tool.copying;
      applying = record { rests = besides.here; reached = refl; empty = refl };
      two = tool.two;
      other = tool.other;
    }

-- *Another session goes on*
pub tool_rests : (m : Migration) (at : Clustered m.schema) (rows : List Row) (copy : CopyState) (apply : ApplyState) (progress : Progress Row) (ghost : GhostRows) (copier applier number : ℕ) (now : Stored) (hold holds : ℕ → SessionHold) (own : SessionHold) → ToolInvariant m at rows copy apply progress ghost copier applier now hold → (copier == number) ≡ false → (applier == number) ≡ false → Besides number hold holds own
    → ToolInvariant m at rows copy apply progress ghost copier applier now holds
tool_rests m at rows copy apply progress ghost copier applier number now hold holds own tool not_copier not_applier besides =
    record {
      kept = other_keeps m rows (done_in copy) (half_in m apply) (taken_in copy) progress ghost copier applier number now hold holds own tool.kept not_copier not_applier besides;
      copying = copy_rests m at rows now (hold copier) (holds copier) copy (besides.there copier not_copier) tool.copying;
      applying = subst (λ (s : SessionHold). ApplyStands m now progress ghost s apply) (sym (besides.there applier not_applier)) tool.applying;
      two = tool.two;
      other = tool.other;
    }

-- *Whole tables are made, dropped or renamed*, neither the migrated nor the new one
pub tool_moves : (m : Migration) (at : Clustered m.schema) (rows : List Row) (copy : CopyState) (apply : ApplyState) (progress : Progress Row) (ghost : GhostRows) (copier applier : ℕ) (now after : Stored) (hold : ℕ → SessionHold) → ToolInvariant m at rows copy apply progress ghost copier applier now hold → after.log ≡ now.log
    → find_table m.name after.tables ≡ find_table m.name now.tables → find_table m.new.name after.tables ≡ find_table m.new.name now.tables → ToolInvariant m at rows copy apply progress ghost copier applier after hold
tool_moves m at rows copy apply progress ghost copier applier now after hold tool log old new =
    let k : GhostInvariant m rows (done_in copy) (half_in m apply) (taken_in copy) progress ghost copier applier now hold = tool.kept in
    record {
      kept = record {
        joined = subst (λ (l : List RowEvent). IsJoined m rows l (done_in copy) (half_in m apply) (hold applier).locks (hold copier).locks (taken_in copy) progress ghost) (sym log) k.joined;
        old = rw log (old ∙ k.old);
        new = new ∙ k.new;
        batch = k.batch;
        chunk = k.chunk;
        differ = k.differ;
      };
      copying = copy_moved copy tool.copying;
      applying = apply_moved apply tool.applying;
      two = tool.two;
      other = tool.other;
    } where
      copy_moved : (c : CopyState) → CopyStands m at rows now (hold copier) c → CopyStands m at rows after (hold copier) c
      copy_moved (Waiting left) stands = stands
      copy_moved (Taking low high top keys n) stands = record { far = stands.far; within = stands.within; holds = stands.holds; reported = rw log stands.reported }

      apply_moved : (a : ApplyState) → ApplyStands m now progress ghost (hold applier) a → ApplyStands m after progress ghost (hold applier) a
      apply_moved Idle stands = stands
      apply_moved (Whole next todo) stands = rw log stands
      apply_moved (Half next before row rest) stands = record { half = rw log stands.half; locked = stands.locked; empty = stands.empty }
