-- Runs keep the tool's invariant, turn by turn.
use Rattle.std.proofs.Common.{◌≡◌, ℕ, List, [], ◌∷◌, length, Some, None, Result, Ok, Err, refl, sym, ap, ◌∙◌, subst}
use Rattle.std.specs.Prelude.{find}
use Rattle.base_values.specs.GhoSchema.ClusteredKey.{clustered_place}
use Rattle.base_values.specs.GhoSchema.Rows.{key_of, key_places}
use Rattle.base_values.specs.declared.event.Change.{Change}
use Rattle.table_store.specs.Databases.{find_table}
use Rattle.table_store.specs.RowLists.{is_at}
use Rattle.server_model.specs.declared.answer.Answer.{Answer}
use Rattle.server_model.specs.declared.work.StatementResult.{StatementResult}
use Rattle.server_model.specs.Answers.{refuses}
use Rattle.server_model.specs.Operations.{after_events}
use Rattle.server_model.specs.Rows.{rows_met}
use Rattle.server_model.specs.StatementResults.{TableResult, result_or_refusal, tells, updates}
use Rattle.tool_program.specs.EventApplier.Appliers.{Doing}
use Rattle.tool_program.specs.EventApplier.Appliers.Doing.{Putting, Removing, Changing}
use Rattle.proof_journals.specs.Scenes.{SessionHold, Stored}
use Rattle.proof_journals.specs.Ghost.Rows.Moments.{Row, rows_at}
use Rattle.proof_journals.specs.Ghost.Rows.Timelines.{IsPlanned, Migration}
use Rattle.proof_journals.specs.Ghost.Rows.Views.{view_of}
use Rattle.proof_journals.specs.Ghost.HeldKeys.{Clustered}
use Rattle.proof_journals.specs.Ghost.Doings.{planned}
use Rattle.proof_journals.specs.Ghost.Invariant.{IsServed}
use Rattle.proof_journals.specs.Ghost.Laws.{RunsKeep}
use Rattle.proof_journals.specs.Ghost.OwnChanges.{own_changes}
use Rattle.proof_journals.specs.Ghost.ToolTurns.{KeptTool, KeptAt, ToolMoment, ToolStands, ToolTurn, ApplierStays, CopierStays}
use Rattle.proof_journals.specs.Ghost.ToolTurns.ApplyPlan.{Resting, Planned, Returning}
use Rattle.proof_journals.specs.Ghost.ToolTurns.ToolStands.{at_rest, at_work, halfway, returns}
use Rattle.proof_journals.specs.Ghost.ToolTurns.ToolTurn.{other_commits, other_does_single, other_goes_on, tables_move, chunk_begins, row_copies, chunk_commits, range_ends, chunk_is_lost, chunk_repeats, batch_is_read, batch_is_passed, row_is_put, row_is_removed, row_is_changed, unfit_row_is_missed, change_is_refused, refused_row_is_removed, row_returns, batch_commits, batch_repeats, batch_is_lost}
use Rattle.proof_journals.specs.Ghost.Statements.{by_key, update_at}
use Rattle.proof_journals.specs.Ghost.Tool.{ApplyState, CopyState, AfterStatement, AfterRemoval}
use Rattle.proof_journals.specs.Ghost.Tool.AfterRemoval.{gone_whole, gone_half}
use Rattle.proof_journals.specs.Ghost.Tool.CopyState.{Waiting}
use Rattle.proof_journals.specs.Ghost.Tool.ApplyState.{Idle, Whole, Half}
use Rattle.proof_journals.proofs.Ghost.Granting.{operation_served}
use Rattle.proof_journals.proofs.Ghost.Keeping.{view_found}
use Rattle.proof_journals.proofs.Ghost.Placed as placed
use Rattle.proof_journals.proofs.Ghost.Saying.{applier_says}
use Rattle.proof_journals.proofs.Ghost.Tooling.{client_commits, tool_begins, tool_commits_batch, tool_commits_chunk, tool_copied, tool_copies, tool_loses_batch, tool_loses_chunk, tool_moves, tool_passes, tool_puts, tool_puts_second, tool_reads, tool_refused, tool_repeats_batch, tool_repeats_chunk, tool_rests}
use Rattle.proof_journals.specs.Ghost.FittingEvents.{EventsFit}
use Rattle.base_values.specs.declared.event.RowEvent.{RowEvent}
use Rattle.base_values.specs.declared.mysql_errors.TheConstants.{ER_DUP_ENTRY}

-- the invariant at another copy state and moment, which are those of a moment
pub kept_at : (m : Migration) (at : Clustered m.schema) (rows : List Row) (copier applier : ℕ) (after : ToolMoment) (copy : CopyState) (apply : ApplyState) (position : ℕ) → after.copy ≡ copy → after.position ≡ position → KeptTool m at rows copy apply position copier applier after.stored after.hold → KeptAt m at rows copier applier after apply
kept_at m at rows copier applier after copy apply position same place kept = rw (same, place) kept

-- ---- turns of the copier and of others: the applier stays where it is

pub stands_over : (m : Migration) (at : Clustered m.schema) (rows : List Row) (copier applier : ℕ) (before after : ToolMoment) → ApplierStays before after → ((apply : ApplyState) → KeptAt m at rows copier applier before apply → KeptAt m at rows copier applier after apply) → ToolStands m at rows copier applier before
    → ToolStands m at rows copier applier after
stands_over m at rows copier applier before after stays keeps (at_rest is kept) = at_rest (stays.0 ∙ is) (keeps Idle kept)
stands_over m at rows copier applier before after stays keeps (at_work next todo is kept) = at_work next todo (stays.0 ∙ is) (keeps (Whole next todo) kept)
stands_over m at rows copier applier before after stays keeps (halfway next old row rest is kept) = halfway next old row rest (stays.0 ∙ is) (keeps (Half next old row rest) kept)
stands_over m at rows copier applier before after stays keeps (returns next old row rest is kept) = returns next old row rest (stays.0 ∙ is) (keeps (Half next old row rest) kept)

-- ---- turns of the applier, by what it has to do

rests_at : (m : Migration) (at : Clustered m.schema) (rows : List Row) (copier applier : ℕ) (now : ToolMoment) → now.plan ≡ Resting → ToolStands m at rows copier applier now → KeptAt m at rows copier applier now Idle
rests_at m at rows copier applier now resting (at_rest is kept) = kept
rests_at m at rows copier applier now resting (at_work next todo is kept) = absurd (let no : Resting ≡ Planned next todo = sym resting ∙ is in cc)
rests_at m at rows copier applier now resting (halfway next old row rest is kept) = absurd (let no : Resting ≡ Planned next (Putting row ∷ rest) = sym resting ∙ is in cc)
rests_at m at rows copier applier now resting (returns next old row rest is kept) = absurd (let no : Resting ≡ Returning next old row rest = sym resting ∙ is in cc)

-- no REPLACE comes first: no event is half applied
abbrev pub NoPutFirst : List Doing → Type 0
NoPutFirst [] = Unit {0}
NoPutFirst (Putting row ∷ rest) = ⊥
NoPutFirst (Removing row ∷ rest) = Unit {0}
NoPutFirst (Changing old row ∷ rest) = Unit {0}

pub works_at : (m : Migration) (at : Clustered m.schema) (rows : List Row) (copier applier : ℕ) (now : ToolMoment) (next : ℕ) (todo : List Doing) → now.plan ≡ Planned next todo → NoPutFirst todo → ToolStands m at rows copier applier now → KeptAt m at rows copier applier now (Whole next todo)
works_at m at rows copier applier now next todo planned first (at_rest is kept) = absurd (let no : Resting ≡ Planned next todo = sym is ∙ planned in cc)
works_at m at rows copier applier now next todo planned first (at_work next' todo' is kept) =
    let both : Planned next' todo' ≡ Planned next todo = sym is ∙ planned in
    let one : next' ≡ next = cc in
    let two : todo' ≡ todo = cc in
    subst (λ (n : ℕ). KeptAt m at rows copier applier now (Whole n todo)) one (subst (λ (t : List Doing). KeptAt m at rows copier applier now (Whole next' t)) two kept)
works_at m at rows copier applier now next todo planned first (halfway next' old row rest is kept) =
    let both : Planned next' (Putting row ∷ rest) ≡ Planned next todo = sym is ∙ planned in
    let two : Putting row ∷ rest ≡ todo = cc in
    absurd (subst NoPutFirst (sym two) first)
works_at m at rows copier applier now next todo planned first (returns next' old row rest is kept) = absurd (let no : Returning next' old row rest ≡ Planned next todo = sym is ∙ planned in cc)

-- a REPLACE comes first: of a row that was written, or behind a DELETE
puts_at : (P : Type 0) (m : Migration) (at : Clustered m.schema) (rows : List Row) (copier applier : ℕ) (now : ToolMoment) (next : ℕ) (row : Row) (rest : List Doing) → now.plan ≡ Planned next (Putting row ∷ rest) → (KeptAt m at rows copier applier now (Whole next (Putting row ∷ rest)) → P)
    → ((old : Row) → KeptAt m at rows copier applier now (Half next old row rest) → P) → ToolStands m at rows copier applier now → P
puts_at P m at rows copier applier now next row rest planned whole half (at_rest is kept) = absurd (let no : Resting ≡ Planned next (Putting row ∷ rest) = sym is ∙ planned in cc)
puts_at P m at rows copier applier now next row rest planned whole half (at_work next' todo' is kept) =
    let both : Planned next' todo' ≡ Planned next (Putting row ∷ rest) = sym is ∙ planned in
    let one : next' ≡ next = cc in
    let two : todo' ≡ Putting row ∷ rest = cc in
    whole (subst (λ (n : ℕ). KeptAt m at rows copier applier now (Whole n (Putting row ∷ rest))) one (subst (λ (t : List Doing). KeptAt m at rows copier applier now (Whole next' t)) two kept))
puts_at P m at rows copier applier now next row rest planned whole half (halfway next' old row' rest' is kept) =
    let both : Planned next' (Putting row' ∷ rest') ≡ Planned next (Putting row ∷ rest) = sym is ∙ planned in
    let one : next' ≡ next = cc in
    let two : row' ≡ row = cc in
    let three : rest' ≡ rest = cc in
    half old (subst (λ (n : ℕ). KeptAt m at rows copier applier now (Half n old row rest)) one (subst (λ (r : Row). KeptAt m at rows copier applier now (Half next' old r rest)) two (subst (λ (l : List Doing). KeptAt m at rows copier applier now (Half next' old row' l)) three kept)))
puts_at P m at rows copier applier now next row rest planned whole half (returns next' old row' rest' is kept) = absurd (let no : Returning next' old row' rest' ≡ Planned next (Putting row ∷ rest) = sym is ∙ planned in cc)

returns_at : (m : Migration) (at : Clustered m.schema) (rows : List Row) (copier applier : ℕ) (now : ToolMoment) (next : ℕ) (old row : Row) (rest : List Doing) → now.plan ≡ Returning next old row rest → ToolStands m at rows copier applier now → KeptAt m at rows copier applier now (Half next old row rest)
returns_at m at rows copier applier now next old row rest returning (at_rest is kept) = absurd (let no : Resting ≡ Returning next old row rest = sym is ∙ returning in cc)
returns_at m at rows copier applier now next old row rest returning (at_work next' todo' is kept) = absurd (let no : Planned next' todo' ≡ Returning next old row rest = sym is ∙ returning in cc)
returns_at m at rows copier applier now next old row rest returning (halfway next' old' row' rest' is kept) = absurd (let no : Planned next' (Putting row' ∷ rest') ≡ Returning next old row rest = sym is ∙ returning in cc)
returns_at m at rows copier applier now next old row rest returning (returns next' old' row' rest' is kept) =
    let both : Returning next' old' row' rest' ≡ Returning next old row rest = sym is ∙ returning in
    let one : next' ≡ next = cc in
    let two : old' ≡ old = cc in
    let three : row' ≡ row = cc in
    let four : rest' ≡ rest = cc in
    subst (λ (n : ℕ). KeptAt m at rows copier applier now (Half n old row rest)) one (subst (λ (o : Row). KeptAt m at rows copier applier now (Half next' o row rest)) two
    (subst (λ (r : Row). KeptAt m at rows copier applier now (Half next' old' r rest)) three (subst (λ (l : List Doing). KeptAt m at rows copier applier now (Half next' old' row' l)) four kept)))

-- behind a statement
after_statement : (m : Migration) (at : Clustered m.schema) (rows : List Row) (copier applier : ℕ) (before after : ToolMoment) (apply apply' : ApplyState) (changes : List Change) (own : SessionHold) (kept : KeptAt m at rows copier applier before apply) → after.stored ≡ before.stored → CopierStays before after → after.position ≡ before.position
    → AfterStatement m at rows before.copy apply' kept.progress kept.ghost changes copier applier before.stored after.hold own → KeptAt m at rows copier applier after apply'
after_statement m at rows copier applier before after apply apply' changes own kept stored copy place done =
    kept_at m at rows copier applier after before.copy apply' before.position copy place
    (subst (λ (s : Stored). KeptTool m at rows before.copy apply' before.position copier applier s after.hold) (sym stored) (record { progress = _; ghost = _; here = kept.here; tool = done.tool }))

-- what an UPDATE is answered tells whether it was refused
refused_none : (result : Result (List Change) Answer) → (result_or_refusal result).answer ≡ refuses ER_DUP_ENTRY → (result_or_refusal result).changes ≡ []
refused_none (Ok all) is = absurd cc
refused_none (Err refusal) is = refl

update_refused : (m : Migration) (rows : List Row) (place : ℕ) (key made : Row) → (tells m.new rows (update_at place key made)).answer ≡ refuses ER_DUP_ENTRY → (tells m.new rows (update_at place key made)).changes ≡ []
unfolding tells
update_refused m rows place key made is = refused_none (updates m.new (Rattle.std.specs.Prelude.map Some made) (rows_met m.new (by_key place key) rows) rows) is

still_at : (m : Migration) (at : Clustered m.schema) (rows : List Row) (copier applier : ℕ) (before after : ToolMoment) (copy : CopyState) (apply : ApplyState) (position : ℕ) → after.stored ≡ before.stored → after.copy ≡ copy → after.position ≡ position
    → KeptTool m at rows copy apply position copier applier before.stored after.hold → KeptAt m at rows copier applier after apply
still_at m at rows copier applier before after copy apply position stored same place kept =
    kept_at m at rows copier applier after copy apply position same place (subst (λ (s : Stored). KeptTool m at rows copy apply position copier applier s after.hold) (sym stored) kept)

copy_at : (m : Migration) (at : Clustered m.schema) (rows : List Row) (copier applier : ℕ) (now : ToolMoment) (copy : CopyState) (apply : ApplyState) → now.copy ≡ copy → KeptAt m at rows copier applier now apply → KeptTool m at rows copy apply now.position copier applier now.stored now.hold
copy_at m at rows copier applier now copy apply is kept = subst (λ (c : CopyState). KeptTool m at rows c apply now.position copier applier now.stored now.hold) is kept

pub any_kept : (P : Type 0) (m : Migration) (at : Clustered m.schema) (rows : List Row) (copier applier : ℕ) (now : ToolMoment) → ((apply : ApplyState) → KeptAt m at rows copier applier now apply → P) → ToolStands m at rows copier applier now → P
any_kept P m at rows copier applier now keeps (at_rest is kept) = keeps Idle kept
any_kept P m at rows copier applier now keeps (at_work next todo is kept) = keeps (Whole next todo) kept
any_kept P m at rows copier applier now keeps (halfway next old row rest is kept) = keeps (Half next old row rest) kept
any_kept P m at rows copier applier now keeps (returns next old row rest is kept) = keeps (Half next old row rest) kept

-- behind a DELETE
after_removal : (m : Migration) (at : Clustered m.schema) (rows : List Row) (copier applier : ℕ) (before after : ToolMoment) (next : ℕ) (row : Row) (rest : List Doing) (apply : ApplyState) (changes : List Change) (own : SessionHold) (kept : KeptAt m at rows copier applier before apply) → after.stored ≡ before.stored → CopierStays before after
    → after.position ≡ before.position → after.plan ≡ Planned next rest → AfterRemoval m at rows before.copy kept.progress kept.ghost changes copier applier before.stored after.hold own next row rest → ToolStands m at rows copier applier after
after_removal m at rows copier applier before after next row rest apply changes own kept stored copy place planned (gone_whole done) = at_work next rest planned (after_statement m at rows copier applier before after apply (Whole next rest) changes own kept stored copy place done)
after_removal m at rows copier applier before after next row rest apply changes own kept stored copy place planned (gone_half new more is done) =
    halfway next row new more (planned ∙ ap (Planned next) is) (after_statement m at rows copier applier before after apply (Half next row new more) changes own kept stored copy place done)

-- EACH TURN

pub turn_keeps : (m : Migration) (at : Clustered m.schema) (rows : List Row) (place copier applier : ℕ) → IsPlanned m rows → clustered_place m.new ≡ Some place → (before after : ToolMoment) → IsServed before.stored before.hold → ToolStands m at rows copier applier before → ToolTurn m at rows place copier applier before after
    → ToolStands m at rows copier applier after
turn_keeps m at rows place copier applier plan is before after served stands (other_commits number not_copier not_applier none commits copy stays) =
    stands_over m at rows copier applier before after stays (λ apply kept.
    kept_at m at rows copier applier after before.copy apply before.position copy stays.1 (record {
      progress = record (kept.progress) { end = length after.stored.log };
      ghost = kept.ghost;
      here = kept.here;
      tool = client_commits m at rows before.copy apply kept.progress kept.ghost copier applier number before.stored after.stored before.hold after.hold plan served
          kept.tool not_copier not_applier none commits.besides commits.tables commits.log;
    })) stands
turn_keeps m at rows place copier applier plan is before after served stands (other_does_single number middle own operation not_copier not_applier sound given named mine besides none commits copy stays) =
    stands_over m at rows copier applier before after stays (λ apply kept.
    kept_at m at rows copier applier after before.copy apply before.position copy stays.1 (record {
      progress = record (kept.progress) { end = length after.stored.log };
      ghost = kept.ghost;
      here = kept.here;
      tool = client_commits m at rows before.copy apply kept.progress kept.ghost copier applier number before.stored after.stored middle after.hold plan (operation_served before.stored before.hold middle number operation own served sound given named mine besides)
          (tool_rests m at rows before.copy apply kept.progress kept.ghost copier applier number before.stored before.hold middle own kept.tool not_copier not_applier besides) not_copier not_applier none commits.besides commits.tables commits.log;
    })) stands
turn_keeps m at rows place copier applier plan is before after served stands (other_goes_on number own not_copier not_applier besides stored copy stays) =
    stands_over m at rows copier applier before after stays (λ apply kept.
    still_at m at rows copier applier before after before.copy apply before.position stored copy stays.1 (record {
      progress = kept.progress;
      ghost = kept.ghost;
      here = kept.here;
      tool = tool_rests m at rows before.copy apply kept.progress kept.ghost copier applier number before.stored before.hold after.hold own kept.tool not_copier not_applier besides;
    })) stands
turn_keeps m at rows place copier applier plan is before after served stands (tables_move log old new hold copy stays) =
    stands_over m at rows copier applier before after stays (λ apply kept.
    kept_at m at rows copier applier after before.copy apply before.position copy stays.1 (subst (λ (h : ℕ → SessionHold). KeptTool m at rows before.copy apply before.position copier applier after.stored h) (sym hold) (record {
      progress = kept.progress;
      ghost = kept.ghost;
      here = kept.here;
      tool = tool_moves m at rows before.copy apply kept.progress kept.ghost copier applier before.stored after.stored before.hold kept.tool log old new;
    }))) stands
turn_keeps m at rows place copier applier plan is before after served stands (chunk_begins own low high top keys waiting besides within apart wrote chunk stored copy stays) =
    stands_over m at rows copier applier before after stays (λ apply was.
    let kept = copy_at m at rows copier applier before _ apply waiting was in
    still_at m at rows copier applier before after _ apply before.position stored copy stays.1 (record {
      progress = kept.progress;
      ghost = kept.ghost;
      here = kept.here;
      tool = tool_begins m at rows low high top keys apply kept.progress kept.ghost copier applier before.stored before.hold after.hold own kept.tool besides within apart wrote chunk;
    })) stands
turn_keeps m at rows place copier applier plan is before after served stands (row_copies own operation low high top keys n key row made taking next does done named found imaged copy stays) =
    stands_over m at rows copier applier before after stays (λ apply was.
    let kept = copy_at m at rows copier applier before _ apply taking was in
    let tool = kept.tool in
    still_at m at rows copier applier before after _ apply before.position done.stored copy stays.1 (record {
      progress = _;
      ghost = _;
      here = kept.here;
      tool = tool_copies m at rows low high top keys n apply kept.progress kept.ghost copier applier before.stored before.hold after.hold own operation key row made plan served tool next does done.given named done.besides
          (subst (λ (i : ℕ). find (is_at (key_places m.schema) key) (rows_at m.name (key_places m.schema) rows before.stored.log i) ≡ Some row) (sym tool.kept.joined.under_way.end) found) imaged;
    })) stands
turn_keeps m at rows place copier applier plan is before after served stands (chunk_commits low high top keys taking commits copy stays) =
    stands_over m at rows copier applier before after stays (λ apply was.
    let kept = copy_at m at rows copier applier before _ apply taking was in
    kept_at m at rows copier applier after _ apply before.position copy stays.1 (record {
      progress = _;
      ghost = _;
      here = kept.here;
      tool = tool_commits_chunk m at rows low high top keys apply kept.progress kept.ghost copier applier before.stored after.stored before.hold after.hold plan served kept.tool commits.besides commits.tables commits.log;
    })) stands
turn_keeps m at rows place copier applier plan is before after served stands (range_ends top waiting stored hold copy stays) =
    stands_over m at rows copier applier before after stays (λ apply was.
    let kept = copy_at m at rows copier applier before _ apply waiting was in
    still_at m at rows copier applier before after _ apply before.position stored copy stays.1 (subst (λ (h : ℕ → SessionHold). KeptTool m at rows (Waiting None) apply before.position copier applier before.stored h) (sym hold) (record {
      progress = kept.progress;
      ghost = kept.ghost;
      here = kept.here;
      tool = tool_copied m at rows top apply kept.progress kept.ghost copier applier before.stored before.hold kept.tool;
    }))) stands
turn_keeps m at rows place copier applier plan is before after served stands (chunk_is_lost low high top keys n taking besides stored copy stays) =
    stands_over m at rows copier applier before after stays (λ apply was.
    let kept = copy_at m at rows copier applier before _ apply taking was in
    still_at m at rows copier applier before after _ apply before.position stored copy stays.1 (record {
      progress = _;
      ghost = _;
      here = kept.here;
      tool = tool_loses_chunk m at rows low high top keys n apply kept.progress kept.ghost copier applier before.stored before.hold after.hold kept.tool besides;
    })) stands
turn_keeps m at rows place copier applier plan is before after served stands (chunk_repeats low high top keys n taking commits copy stays) =
    stands_over m at rows copier applier before after stays (λ apply was.
    let kept = copy_at m at rows copier applier before _ apply taking was in
    kept_at m at rows copier applier after _ apply before.position copy stays.1 (record {
      progress = _;
      ghost = _;
      here = kept.here;
      tool = tool_repeats_chunk m at rows low high top keys n apply kept.progress kept.ghost copier applier before.stored after.stored before.hold after.hold plan served kept.tool commits.besides commits.tables commits.log;
    })) stands
turn_keeps m at rows place copier applier plan is before after served stands (batch_is_read reported resting read stored hold copy planned_so stays) =
    let kept = rests_at m at rows copier applier before resting stands in
    at_work reported.next (planned m (own_changes m.name reported.events)) planned_so
    (still_at m at rows copier applier before after before.copy _ before.position stored copy stays (subst (λ (h : ℕ → SessionHold). KeptTool m at rows before.copy (Whole reported.next (planned m (own_changes m.name reported.events))) before.position copier applier before.stored h) (sym hold) (record {
      progress = kept.progress;
      ghost = kept.ghost;
      here = kept.here;
      tool = tool_reads m at rows before.copy kept.progress kept.ghost copier applier before.stored before.hold reported kept.tool (rw kept.here read);
    })))
turn_keeps m at rows place copier applier plan is before after served stands (batch_is_passed reported resting read none stored hold copy planned_so moves) =
    let kept = rests_at m at rows copier applier before resting stands in
    at_rest planned_so
    (still_at m at rows copier applier before after before.copy Idle reported.next stored copy moves (subst (λ (h : ℕ → SessionHold). KeptTool m at rows before.copy Idle reported.next copier applier before.stored h) (sym hold) (record {
      progress = _;
      ghost = _;
      here = refl;
      tool = tool_passes m at rows before.copy kept.progress kept.ghost copier applier before.stored before.hold reported plan kept.tool (rw kept.here read) none;
    })))
turn_keeps m at rows place copier applier plan is before after served stands (row_is_put own operation next row made rest planned_was imaged does done copy planned_so stays) =
    puts_at (ToolStands m at rows copier applier after) m at rows copier applier before next row rest planned_was
    (λ kept. at_work next rest planned_so (after_statement m at rows copier applier before after _ (Whole next rest) _ own kept done.stored copy stays
    (tool_puts m at rows before.copy kept.progress kept.ghost copier applier before.stored before.hold after.hold own operation next row made rest plan served kept.tool imaged does done.given done.besides)))
    (λ old kept. at_work next rest planned_so (after_statement m at rows copier applier before after _ (Whole next rest) _ own kept done.stored copy stays
    (tool_puts_second m at rows before.copy kept.progress kept.ghost copier applier before.stored before.hold after.hold own operation next old row made rest plan served kept.tool imaged does done.given done.besides)))
    stands
turn_keeps m at rows place copier applier plan is before after served stands (row_is_removed own operation next row rest planned_was does done copy planned_so stays) =
    let kept = works_at m at rows copier applier before next (Removing row ∷ rest) planned_was tt stands in
    after_removal m at rows copier applier before after next row rest _ _ own kept done.stored copy stays planned_so
    (placed.row_is_removed m at rows before.copy kept.progress kept.ghost copier applier before.stored before.hold after.hold own operation next row rest place plan is served kept.tool does done.given done.besides)
turn_keeps m at rows place copier applier plan is before after served stands (row_is_changed own operation next old row made rest planned_was imaged does answered done copy planned_so stays) =
    let kept = works_at m at rows copier applier before next (Changing old row ∷ rest) planned_was tt stands in
    let statement_result = applier_says m rows _ _ _ kept.progress kept.ghost copier applier before.stored before.hold operation (update_at place (key_of (key_places m.schema) old) made) served kept.tool.kept does.table does.does in
    at_work next rest planned_so (after_statement m at rows copier applier before after _ (Whole next rest) _ own kept done.stored copy stays
    (placed.row_is_changed m at rows before.copy kept.progress kept.ghost copier applier before.stored before.hold after.hold own operation next old row made rest place plan is served kept.tool imaged does done.given done.besides
    (λ refused. answered (ap (λ (s : StatementResult). s.answer) statement_result.said ∙ ap (λ (t : TableResult). t.answer) refused))))
turn_keeps m at rows place copier applier plan is before after served stands (unfit_row_is_missed own operation next old row fault rest planned_was does none done copy planned_so stays) =
    let kept = works_at m at rows copier applier before next (Changing old row ∷ rest) planned_was tt stands in
    let tool = kept.tool in
    let invariant = tool.kept in
    let seen : find_table m.new.name (after_events before.stored.tables (before.hold applier).writes) ≡ Some (record { schema = m.new; rows = view_of m kept.ghost }) =
    ap (λ (w : List RowEvent). find_table m.new.name (after_events before.stored.tables w)) invariant.batch
    ∙ view_found m.new kept.ghost.committed kept.ghost.batch before.stored.tables served.well_formed (subst (EventsFit before.stored.tables) invariant.batch (served.fits applier)) invariant.new in
    at_work next rest planned_so (after_statement m at rows copier applier before after _ (Whole next rest) _ own kept done.stored copy stays
    (placed.unfit_row_is_missed m at rows before.copy kept.progress kept.ghost copier applier before.stored before.hold after.hold own operation next old row fault rest place plan is served kept.tool does done.given done.besides (none (view_of m kept.ghost) seen)))
turn_keeps m at rows place copier applier plan is before after served stands (change_is_refused own operation next old row made rest planned_was does answered done copy stays) =
    let kept = works_at m at rows copier applier before next (Changing old row ∷ rest) planned_was tt stands in
    let statement_result = applier_says m rows _ _ _ kept.progress kept.ghost copier applier before.stored before.hold operation (update_at place (key_of (key_places m.schema) old) made) served kept.tool.kept does.table does.does in
    at_work next (Changing old row ∷ rest) (stays.0 ∙ planned_was)
    (still_at m at rows copier applier before after before.copy _ before.position done.stored copy stays.1 (record {
      progress = _;
      ghost = _;
      here = kept.here;
      tool = tool_refused m at rows before.copy kept.progress kept.ghost copier applier before.stored before.hold after.hold own operation (update_at place (key_of (key_places m.schema) old) made) next (Changing old row ∷ rest) served kept.tool does done.given done.besides
          (update_refused m (view_of m kept.ghost) place (key_of (key_places m.schema) old) made (sym (ap (λ (s : StatementResult). s.answer) statement_result.said) ∙ answered));
    }))
turn_keeps m at rows place copier applier plan is before after served stands (refused_row_is_removed own operation next old row rest planned_was does done copy planned_so stays) =
    let kept = works_at m at rows copier applier before next (Changing old row ∷ rest) planned_was tt stands in
    returns next old row rest planned_so (after_statement m at rows copier applier before after _ (Half next old row rest) _ own kept done.stored copy stays
    (placed.refused_row_is_removed m at rows before.copy kept.progress kept.ghost copier applier before.stored before.hold after.hold own operation next old row rest place plan is served kept.tool does done.given done.besides))
turn_keeps m at rows place copier applier plan is before after served stands (row_returns own operation next old row made rest returning imaged does done copy planned_so stays) =
    let kept = returns_at m at rows copier applier before next old row rest returning stands in
    at_work next rest planned_so (after_statement m at rows copier applier before after _ (Whole next rest) _ own kept done.stored copy stays
    (tool_puts_second m at rows before.copy kept.progress kept.ghost copier applier before.stored before.hold after.hold own operation next old row made rest plan served kept.tool imaged does done.given done.besides))
turn_keeps m at rows place copier applier plan is before after served stands (batch_commits next planned_was commits copy planned_so moves) =
    let kept = works_at m at rows copier applier before next [] planned_was tt stands in
    at_rest planned_so (kept_at m at rows copier applier after before.copy Idle next copy moves (record {
      progress = _;
      ghost = _;
      here = refl;
      tool = tool_commits_batch m at rows before.copy kept.progress kept.ghost copier applier before.stored after.stored before.hold after.hold next plan served kept.tool commits.besides commits.tables commits.log;
    }))
turn_keeps m at rows place copier applier plan is before after served stands (batch_repeats next planned_was commits copy planned_so stays) =
    let kept = works_at m at rows copier applier before next [] planned_was tt stands in
    at_rest planned_so (kept_at m at rows copier applier after before.copy Idle before.position copy stays (record {
      progress = _;
      ghost = _;
      here = kept.here;
      tool = tool_repeats_batch m at rows before.copy kept.progress kept.ghost copier applier before.stored after.stored before.hold after.hold next plan served kept.tool commits.besides commits.tables commits.log;
    }))
turn_keeps m at rows place copier applier plan is before after served stands (batch_is_lost besides stored copy planned_so stays) =
    any_kept (ToolStands m at rows copier applier after) m at rows copier applier before
    (λ apply kept. at_rest planned_so (still_at m at rows copier applier before after before.copy Idle before.position stored copy stays (record {
      progress = _;
      ghost = _;
      here = kept.here;
      tool = tool_loses_batch m at rows before.copy apply kept.progress kept.ghost copier applier before.stored before.hold after.hold plan kept.tool besides;
    }))) stands

-- *Runs keep the tool's invariant.*
pub runs_keep : RunsKeep
runs_keep m at rows place copier applier plan is first [] stands run = stands
runs_keep m at rows place copier applier plan is first (next ∷ others) stands run =
    runs_keep m at rows place copier applier plan is next others (turn_keeps m at rows place copier applier plan is first next run.0 stands run.1) run.2
