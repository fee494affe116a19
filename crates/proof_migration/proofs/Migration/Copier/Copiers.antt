-- Each turn of the copier keeps the tool standing.
use Rattle.proof_migration.proofs.ToolServes.{filled_so}
use Rattle.std.proofs.Common.{◌≡◌, ◌<◌, ℕ, zero, suc, ◌+◌, ◌==◌, nat_lt, Bool, true, false, cond, List, [], ◌∷◌, ◌++◌, length, take, filter, Option, Some, None, Result, Ok, Err, refl, sym, ap, ◌∙◌, subst, inl, arith}
use Rattle.std.specs.List.{AllByRecursion, list_any, slice_get}
use Rattle.std.specs.Str.{bytes_eq}
use Rattle.std.specs.Ordering.{is_eq}
use Rattle.std.proofs.lemmas.Bool.{false≢true}
use Rattle.std.proofs.lemmas.List.{append-nil}
use Rattle.base_values.specs.declared.span.Bound.{Bound}
use Rattle.base_values.specs.declared.span.Bound.TheVariants.{Open, Closed}
use Rattle.base_values.specs.declared.span.Span.{Span}
use Rattle.base_values.specs.KeyOrder.{compare_keys}
use Rattle.base_values.specs.Spans.{has}
use Rattle.base_values.specs.StoredValues.{error_number}
use Rattle.base_values.proofs.Orders.{tied_keys}
use Rattle.base_values.specs.GhoSchema.ClusteredKey.{clustered_place}
use Rattle.base_values.specs.GhoSchema.Rows.{key_of, key_places}
use Rattle.base_values.specs.GhoSchema.Tables.{Ascends, IsRow}
use Rattle.base_values.specs.declared.row_conversion.conversion_fault.UnfitAt.{UnfitAt}
use Rattle.base_values.specs.declared.row_conversion.map.MapColumn.{MapColumn}
use Rattle.base_values.specs.RowConversion.ConvertedRows.{converted_row}
use Rattle.base_values.specs.declared.event.RowEvent.{RowEvent}
use Rattle.server_locks.specs.declared.row_locks.lock.Lock.{Lock}
use Rattle.table_store.specs.Databases.{Database, TableRows, find_table}
use Rattle.table_store.specs.RowLists.{is_at}
use Rattle.table_store.proofs.Orders.{is_Equal}
use Rattle.server_model.specs.declared.answer.Answer.{Answer}
use Rattle.server_model.specs.declared.answer.Answer.TheVariants as answers
use Rattle.server_model.specs.declared.entry.Entry.{Entry}
use Rattle.server_model.specs.declared.need.Need.{Need}
use Rattle.server_model.specs.declared.request.Request.{Request}
use Rattle.server_model.specs.declared.request.Request.TheVariants as requests
use Rattle.server_model.specs.declared.session.Limits.{Limits}
use Rattle.server_model.specs.declared.work.Work.TheVariants as works
use Rattle.server_model.specs.Answers.{ok, refuses, refuses_value}
use Rattle.server_model.specs.Chunks.{chunk_end, keys_of, last_of, span_keys}
use Rattle.server_model.specs.Effects.{Effect, begins, effect, effect_within, of_table, result_effect}
use Rattle.server_model.specs.Effects.Effect.{Rests, Grows, Writes}
use Rattle.server_model.specs.Entries.{answer_at}
use Rattle.server_model.specs.Operations.{Operation, after_events, copy_operation, copy_work, operation_needs, operation_result}
use Rattle.server_model.specs.Blockers.{need_within, span_lock, span_needs}
use Rattle.server_model.specs.Needs.{lock_on}
use Rattle.server_model.specs.EarlierAnswers.{end_in, keys_in}
use Rattle.server_model.specs.States.{State}
use Rattle.base_values.specs.ToolNames.{ghost_name}
use Rattle.base_values.specs.declared.mysql_errors.TheConstants.{ER_TABLE_NOT_LOCKED}
use Rattle.tool_program.specs.JournalWords.Journals.{opens}
use Rattle.tool_program.proofs.JournalWords.Answers.{answer_here}
use Rattle.tool_program.specs.declared.chunk_copier.copier.Chunk.{Chunk}
use Rattle.tool_program.specs.declared.chunk_copier.copier.Copier.{Copier}
use Rattle.tool_program.specs.declared.chunk_copier.copier.CopyRange.{CopyRange}
use Rattle.tool_program.specs.declared.chunk_copier.copier.CopyStep.{CopyStep}
use Rattle.tool_program.specs.declared.chunk_copier.copier.CopyStep.TheVariants.{Choosing, Spanning, Copying, Committing}
use Rattle.tool_program.specs.ChunkCopier.Copiers.{call_at, copies, is_top, low_end, progress, took}
use Rattle.server_model.specs.LockedRows.Agreement.{Among}
use Rattle.server_model.specs.LockedRows.Coverage.{Apart}
use Rattle.server_model.proofs.LockedRows.Points.{among-right, within-itself, within-left, within-right}
use Rattle.server_model.proofs.LockedRows.Tests.{are_one}
use Rattle.proof_journals.proofs.Answering.{apart_both}
use Rattle.proof_journals.proofs.Journals.{journal_holds}
use Rattle.proof_journals.proofs.Kept.{apart-turn}
use Rattle.proof_journals.proofs.Words.{names_last, names_left}
use Rattle.proof_journals.specs.Scenes.{Besides, Scene, SessionHold, no_hold}
use Rattle.proof_journals.specs.Holdings.{face_of, stored}
use Rattle.proof_journals.specs.Turns.{inner, scene_state, reported_at}
use Rattle.proof_journals.specs.Ghost.Rows.Moments.{Row, rows_at}
use Rattle.proof_journals.specs.Ghost.Rows.Timelines.{IsPlanned, Migration}
use Rattle.proof_journals.specs.Ghost.HeldKeys.{Clustered}
use Rattle.proof_journals.specs.Ghost.FittingEvents.{EventsFit}
use Rattle.proof_journals.specs.Ghost.Invariant.{IsServed, NotOf}
use Rattle.proof_journals.specs.Ghost.EffectStates.{EffectLeaves, effect_answer, is_lost, reported_done, undone_hold, unless_lost, was_done, where_done, with_grant}
use Rattle.proof_journals.specs.Ghost.ToolTurns.{ApplyPlan, ToolMoment, ToolStands}
use Rattle.proof_journals.specs.Ghost.ToolTurns.ToolTurn.{chunk_begins, row_copies, chunk_commits, range_ends, chunk_is_lost, chunk_repeats}
use Rattle.proof_journals.specs.Ghost.Given.{IsGiven}
use Rattle.proof_journals.specs.Ghost.Statements.{DoesWork}
use Rattle.proof_journals.specs.Ghost.Tool.{CopyStands, CopyState, HoldsSpan, InChunk, SomeRow, ToolInvariant}
use Rattle.proof_journals.specs.Ghost.Tool.CopyState.{Waiting, Taking}
use Rattle.proof_journals.proofs.Ghost.Leaving.{effects_are_done, holds_of}
use Rattle.proof_journals.proofs.Ghost.Joining.{table_exists}
use Rattle.proof_journals.proofs.Ghost.Keeping.{found_besides, view_found}
use Rattle.proof_journals.proofs.Ghost.Starting.{chunk_reported, key_reported}
use Rattle.proof_journals.proofs.Ghost.Running.{any_kept, turn_keeps}
use Rattle.proof_journals.proofs.Ghost.Turns.{writes_fit}
use Rattle.proof_journals.proofs.Ghost.Undone.{effects_answer, undone_is_left}
use Rattle.proof_migration.specs.Migration.Copier.CopierPlace.{CopierKnows, IsChunkReported, StepKnows, copy_state, left_of, moment_of, taking_of}
use Rattle.proof_migration.specs.Migration.Copier.Laws.{CopierStands, CopiersKeep, IsCopierTurn}
use Rattle.proof_migration.proofs.Migration.Copier.Rows.{after_none, span_keys_are, Counted, NewSeen, copied_says, copies_converted_row, copy_is, found_all, next_within, not_of, refused_says, refuses_converted_row, unfit_progress}
use Rattle.proof_migration.proofs.Migration.Copier.Chunks.{keys_are, left_more, same_answer, state_more, taking_more, taking_state}
use Rattle.proof_migration.proofs.Migration.Copier.Knowing.{Asks, Heard, IsBad, IsNoKeys, IsQuiet, IsWaiting, RestsAfter, Undone, asks_at, bad_took, after_more, chunk_more, heard_as, low_more, quiet_took, rests_after, took_at, step_more, undone_as, waiting_state}
use Rattle.proof_migration.proofs.Migration.Copier.Knowing.Heard.{heard_so, lost_so}
use Rattle.proof_migration.proofs.Migration.Copier.Knowing.Undone.{waits_so, ends_so}
use Rattle.proof_migration.proofs.Migration.Copier.Served.{seen_of, Deeded, deeded, stands_same}
use Rattle.proof_migration.proofs.Migration.Copier.Served.Deeded.{outside_so, within_so}

-- the turn of the copier, and where it stands before it
module _ (m : Migration) (at : Clustered m.schema) (rows : List Row) (place : ℕ) (planned : IsPlanned m rows) (is_place : clustered_place m.new ≡ Some place) (limits : Limits) (scene : Scene) (journal : List Entry) (entry : Entry) (copier : Copier) (request : Request) (plan : ApplyPlan) (position applier : ℕ)
    (turn : IsCopierTurn m limits scene journal entry copier request) (was : CopierStands m at rows limits scene journal copier plan position entry.session applier) (asks : Asks journal copier request) where
  abbrev before : State
  before = scene_state limits scene journal

  abbrev after : State
  after = scene_state limits scene (journal ++ entry ∷ [])

  abbrev number : ℕ
  number = entry.session

  abbrev longer : List Entry
  longer = journal ++ entry ∷ []

  abbrev following : Copier
  following = took (length journal + 1) copier entry.answer

  abbrev Goal : Copier → Type 0
  Goal one = CopierStands m at rows limits scene longer one plan position number applier

  abbrev own : SessionHold
  own = holds_of before number

  abbrev now : ToolMoment
  now = moment_of before (copy_state journal copier) plan position

  -- WHAT IS KNOWN

  known : (step : CopyStep) → copier.step ≡ step → StepKnows journal copier.range step
  known step here = subst (StepKnows journal copier.range) here was.knows.step

  stepped_knows : (step : CopyStep) → StepKnows longer copier.range step → CopierKnows longer (record copier { step = step })
  stepped_knows step knows = record { following = after_more journal (entry ∷ []) copier.following was.knows.following; step = knows; sized = was.knows.sized }

  served : IsServed (stored before) (holds_of before)
  served = writes_fit limits scene journal turn.run

  -- NOTHING MOVES

  -- the record stays, and so does what the session holds
  stays : (held : SessionHold) → stored after ≡ stored before → Besides number (holds_of before) (holds_of after) held → held ≡ own → following ≡ copier → Goal following
  stays held same besides keeps is =
      subst Goal (sym is)
      (record {
        stands = stands_same m at rows number applier before after (copy_state journal copier) (copy_state longer copier) plan position number held same besides keeps (state_more journal (entry ∷ []) copier asks.range copier.step asks.is asks.going refl was.knows) was.stands;
        knows = record { following = after_more journal (entry ∷ []) copier.following was.knows.following; step = step_more journal (entry ∷ []) copier.range copier.step was.knows.step; sized = was.knows.sized };
      })

  -- BETWEEN CHUNKS

  here_waiting : IsWaiting copier.step → copy_state journal copier ≡ Waiting (Some (left_of journal copier asks.range))
  here_waiting waits = waiting_state journal copier asks.range copier.step asks.is asks.going refl waits

  rests_own : IsWaiting copier.step → own ≡ no_hold
  rests_own waits =
      any_kept (own ≡ no_hold) m at rows number applier now (λ apply kept. subst (λ (c : CopyState). CopyStands m at rows (stored before) own c) (here_waiting waits) kept.tool.copying) was.stands

  waiting_goal : (held : SessionHold) → IsWaiting copier.step → RestsAfter longer copier following → stored after ≡ stored before → Besides number (holds_of before) (holds_of after) held → held ≡ own → Goal following
  waiting_goal held waits rests same besides keeps =
      subst Goal (sym rests.is)
      (record {
        stands =
            stands_same m at rows number applier before after (copy_state journal copier) (copy_state longer (record copier { step = rests.step })) plan position number held same besides keeps
            (waiting_state longer (record copier { step = rests.step }) asks.range rests.step asks.is asks.going refl rests.waits ∙ ap (λ (s : Span). Waiting (Some s)) (left_more journal (entry ∷ []) copier asks.range was.knows) ∙ sym (here_waiting waits))
            was.stands;
        knows = stepped_knows rests.step rests.knows;
      })

  -- THE SESSION ENDS

  -- the record behind a loss or a time-out, with what is left again
  choosing_state : copy_state longer (record copier { step = Choosing }) ≡ Waiting (Some (left_of journal copier asks.range))
  choosing_state = waiting_state longer (record copier { step = Choosing }) asks.range Choosing asks.is asks.going refl tt ∙ ap (λ (s : Span). Waiting (Some s)) (left_more journal (entry ∷ []) copier asks.range was.knows)

  lost_chunk : (chunk : Chunk) (n : ℕ) → copy_state journal copier ≡ taking_of journal copier asks.range chunk n → stored after ≡ stored before → Besides number (holds_of before) (holds_of after) no_hold → IsBad entry.answer → Goal following
  lost_chunk chunk n taking same besides bad =
      subst Goal (sym (bad_took (length journal + 1) copier entry.answer bad))
      (record {
        stands =
            turn_keeps m at rows place number applier planned is_place now (moment_of after (copy_state longer (record copier { step = Choosing })) plan position) served was.stands
            (chunk_is_lost (low_end journal asks.range copier.following) (end_in (answer_at journal chunk.reported)) (asks.range).top (keys_in (answer_at journal chunk.reported)) n taking besides same choosing_state (refl, refl));
        knows = stepped_knows Choosing tt;
      })

  ends : (step : CopyStep) → copier.step ≡ step → stored after ≡ stored before → Besides number (holds_of before) (holds_of after) no_hold → IsBad entry.answer → Goal following
  ends Choosing here same besides bad = waiting_goal no_hold (subst IsWaiting (sym here) tt) (record { step = Choosing; is = bad_took (length journal + 1) copier entry.answer bad; waits = tt; knows = tt }) same besides (sym (rests_own (subst IsWaiting (sym here) tt)))
  ends (Spanning reported size) here same besides bad =
      waiting_goal no_hold (subst IsWaiting (sym here) tt) (record { step = Choosing; is = bad_took (length journal + 1) copier entry.answer bad; waits = tt; knows = tt }) same besides (sym (rests_own (subst IsWaiting (sym here) tt)))
  ends (Copying chunk copied) here same besides bad = lost_chunk chunk copied (taking_state journal copier asks.range (Copying chunk copied) asks.is asks.going here) same besides bad
  ends (Committing chunk) here same besides bad = lost_chunk chunk (length (keys_in (answer_at journal chunk.reported))) (taking_state journal copier asks.range (Committing chunk) asks.is asks.going here) same besides bad

  -- WHAT WAS NOT DONE

  undone : reported_done (reported_at entry.side entry.answer entry.missed) ≡ false → Goal following
  undone none = by (undone_as entry.side entry.answer (inner before entry) entry.missed turn.reported.answer none)
    where
      left : (stored after ≡ stored before) × Besides number (holds_of before) (holds_of after) (undone_hold entry.side entry.answer own)
      left = undone_is_left limits scene journal entry request turn.run turn.reported turn.uncut turn.asked none

      by : Undone entry.side entry.answer → Goal following
      by (waits_so keeps quiet heard waits) = stays (undone_hold entry.side entry.answer own) left.0 left.1 (keeps own) (quiet_took (length journal + 1) copier entry.answer quiet)
      by (ends_so nothing bad) = ends copier.step refl left.0 (subst (Besides number (holds_of before) (holds_of after)) (nothing own) left.1) bad

  -- WHAT WAS DONE

  abbrev effect_now : Effect
  effect_now = effect (where_done entry.asked number (opens entry before)) number request

  abbrev lost : Bool
  lost = is_lost entry.side

  module _ (given : Answer) (reported : reported_at entry.side entry.answer entry.missed ≡ Some given) (done : was_done given ≡ true) where
    left : EffectLeaves effect_now lost number (stored before) (stored after) (holds_of before) (holds_of after)
    left =
        subst (λ (r : Request). EffectLeaves (effect (where_done entry.asked number (opens entry before)) number r) lost number (stored before) (stored after) (holds_of before) (holds_of after)) (filled_so (opens entry before) number request turn.tool)
        (effects_are_done limits scene journal entry request given turn.run turn.reported turn.asked reported done)

    says_so : given ≡ effect_answer effect_now
    says_so =
        effects_answer limits scene journal entry request given turn.run turn.reported turn.asked reported done
        ∙ ap (λ (r : Request). effect_answer (effect (where_done entry.asked number (opens entry before)) number r)) (filled_so (opens entry before) number request turn.tool)

    heard : Heard entry.side entry.answer given
    heard = heard_as entry.side entry.answer (inner before entry) given entry.missed turn.reported.answer reported

    lost_own : (held : SessionHold) → lost ≡ true → Besides number (holds_of before) (holds_of after) (unless_lost lost held) → Besides number (holds_of before) (holds_of after) no_hold
    lost_own held is besides = subst (λ (b : Bool). Besides number (holds_of before) (holds_of after) (unless_lost b held)) is besides

    kept_own : (held : SessionHold) → lost ≡ false → Besides number (holds_of before) (holds_of after) (unless_lost lost held) → Besides number (holds_of before) (holds_of after) held
    kept_own held is besides = subst (λ (b : Bool). Besides number (holds_of before) (holds_of after) (unless_lost b held)) is besides

    -- the session is lost behind a deed that commits nothing
    lost_goal : (held : SessionHold) → lost ≡ true → entry.answer ≡ answers.Lost → stored after ≡ stored before → Besides number (holds_of before) (holds_of after) (unless_lost lost held) → Goal following
    lost_goal held is answer same besides = ends copier.step refl same (lost_own held is besides) (subst IsBad (sym answer) tt)

    rests_left : (x : Answer) → effect_now ≡ Rests x → (stored after ≡ stored before) × Besides number (holds_of before) (holds_of after) (unless_lost lost own)
    rests_left x is = subst (λ (d : Effect). EffectLeaves d lost number (stored before) (stored after) (holds_of before) (holds_of after)) is left

    -- outside the locked tables
    outside_goal : effect_now ≡ Rests (refuses ER_TABLE_NOT_LOCKED) → Goal following
    outside_goal is = by heard
      where
        by : Heard entry.side entry.answer given → Goal following
        by (heard_so side unlost same) =
            stays own (rests_left (refuses ER_TABLE_NOT_LOCKED) is).0 (kept_own own unlost (rests_left (refuses ER_TABLE_NOT_LOCKED) is).1) refl
            (quiet_took (length journal + 1) copier entry.answer (subst IsQuiet (sym (ap effect_answer is) ∙ sym says_so ∙ same) tt))
        by (lost_so is_so answer) = lost_goal own is_so answer (rests_left (refuses ER_TABLE_NOT_LOCKED) is).0 (rests_left (refuses ER_TABLE_NOT_LOCKED) is).1

    -- ChunkEnd
    no_keys : (found : Option TableRows) (low : Bound) (top : Row) (size : ℕ) → IsNoKeys (of_table found (λ t. answers.End (chunk_end low top size t)))
    no_keys None low top size = tt
    no_keys (Some table) low top size = tt

    chooses : copier.step ≡ Choosing → Goal following
    chooses here = by (deeded entry before request)
      where
        asked : request ≡ requests.ChunkEnd copier.table (low_end journal asks.range copier.following) (asks.range).top copier.size
        asked = let e : Some (requests.ChunkEnd copier.table (low_end journal asks.range copier.following) (asks.range).top copier.size) ≡ Some request = ap (call_at journal copier asks.range) (sym here) ∙ asks.call in let same : requests.ChunkEnd copier.table (low_end journal asks.range copier.following) (asks.range).top copier.size ≡ request = cc in sym same

        waits : IsWaiting copier.step
        waits = subst IsWaiting (sym here) tt

        at_rest : (x : Answer) → effect_now ≡ Rests x → IsNoKeys x → Heard entry.side entry.answer given → Goal following
        at_rest x is none (heard_so side unlost same) =
            waiting_goal own waits
            (rests_after longer (length journal + 1) copier Choosing entry.answer here tt tt was.knows.sized (answer_here journal entry) (subst IsNoKeys (sym (ap effect_answer is) ∙ sym says_so ∙ same) none))
            (rests_left x is).0 (kept_own own unlost (rests_left x is).1) refl
        at_rest x is none (lost_so is_so answer) = lost_goal own is_so answer (rests_left x is).0 (rests_left x is).1

        by : Deeded before number request effect_now → Goal following
        by (outside_so is) = outside_goal is
        by (within_so there tables log is) =
            at_rest (of_table (find_table copier.table there.tables) (λ t. answers.End (chunk_end (low_end journal asks.range copier.following) (asks.range).top copier.size t)))
            (is ∙ ap (effect_within (face_of before.sessions number).busy (seen_of before number) there) asked)
            (no_keys (find_table copier.table there.tables) (low_end journal asks.range copier.following) (asks.range).top copier.size) heard

    -- Commit
    module _ (chunk : Chunk) (here : copier.step ≡ Committing chunk) where
      commit_asked : request ≡ requests.Commit
      commit_asked = let e : Some requests.Commit ≡ Some request = ap (call_at journal copier asks.range) (sym here) ∙ asks.call in let same : requests.Commit ≡ request = cc in sym same

      chunk_reported_so : IsChunkReported journal copier.range chunk
      chunk_reported_so = known (Committing chunk) here

      abbrev all_keys : List Row
      all_keys = keys_in (answer_at journal chunk.reported)

      abbrev chunk_end_now : Row
      chunk_end_now = end_in (answer_at journal chunk.reported)

      taking_all : copy_state journal copier ≡ Taking (low_end journal asks.range copier.following) chunk_end_now (asks.range).top all_keys (length all_keys)
      taking_all = taking_state journal copier asks.range (Committing chunk) asks.is asks.going here

      abbrev committed_now : Copier
      committed_now = record copier { number = copier.number + 1; following = Some chunk.reported; is_copied = chunk.is_last; step = Choosing }

      reported_longer : IsChunkReported longer copier.range chunk
      reported_longer = chunk_more journal (entry ∷ []) copier.range chunk chunk_reported_so

      committed_knows : CopierKnows longer committed_now
      committed_knows = record { following = record { answer = _; is = reported_longer.reported }; step = tt; sized = was.knows.sized }

      end_longer : end_in (answer_at longer chunk.reported) ≡ chunk_end_now
      end_longer = ap end_in (same_answer journal (entry ∷ []) copier.range chunk chunk_reported_so)

      abbrev over : ToolMoment
      over = moment_of after (Waiting (Some (record { low = Open chunk_end_now; high = Closed (asks.range).top }))) plan position

      took_ok : took (length journal + 1) copier ok ≡ committed_now
      took_ok = took_at (length journal + 1) copier (Committing chunk) ok here tt

      is_top_so : chunk.is_last ≡ true → is_eq (compare_keys chunk_reported_so.end (asks.range).top) ≡ true
      is_top_so is = ap (λ (r : Option CopyRange). is_top r chunk_reported_so.end) (sym asks.is) ∙ sym chunk_reported_so.last ∙ is

      top_is : chunk.is_last ≡ true → chunk_end_now ≡ (asks.range).top
      top_is is = ap end_in chunk_reported_so.reported ∙ tied_keys chunk_reported_so.end (asks.range).top (is_Equal (compare_keys chunk_reported_so.end (asks.range).top) (is_top_so is))

      module _ (tables : (stored after).tables ≡ after_events before.tables own.writes) (log : (stored after).log ≡ before.log ++ own.writes) (besides : Besides number (holds_of before) (holds_of after) no_hold) where
        stands_over : ToolStands m at rows number applier over
        stands_over =
            turn_keeps m at rows place number applier planned is_place now over served was.stands
            (chunk_commits (low_end journal asks.range copier.following) chunk_end_now (asks.range).top all_keys taking_all (record { besides = besides; tables = tables; log = log }) refl (refl, refl))

        goes_on : (last : Bool) → chunk.is_last ≡ last → ToolStands m at rows number applier (moment_of after (copy_state longer committed_now) plan position)
        goes_on false is =
            subst (λ (c : CopyState). ToolStands m at rows number applier (moment_of after c plan position))
            (sym (waiting_state longer committed_now asks.range Choosing asks.is is refl tt ∙ ap (λ (e : Row). Waiting (Some (record { low = Open e; high = Closed (asks.range).top }))) end_longer)) stands_over
        goes_on true is =
            subst (λ (c : CopyState). ToolStands m at rows number applier (moment_of after c plan position)) (sym (let copied : copy_state longer committed_now ≡ Waiting None = rw is refl in copied))
            (turn_keeps m at rows place number applier planned is_place over (moment_of after (Waiting None) plan position) (writes_fit limits scene longer turn.more) stands_over
            (range_ends (asks.range).top (ap (λ (e : Row). Waiting (Some (record { low = Open e; high = Closed (asks.range).top }))) (top_is is)) refl refl refl (refl, refl)))

        committed_goal : entry.answer ≡ ok → Goal following
        committed_goal answer = subst Goal (sym (ap (λ (a : Answer). took (length journal + 1) copier a) answer ∙ took_ok)) (record { stands = goes_on chunk.is_last refl; knows = committed_knows })

        repeats_goal : entry.answer ≡ answers.Lost → Goal following
        repeats_goal answer =
            subst Goal (sym (bad_took (length journal + 1) copier entry.answer (subst IsBad (sym answer) tt)))
            (record {
              stands =
                  turn_keeps m at rows place number applier planned is_place now (moment_of after (copy_state longer (record copier { step = Choosing })) plan position) served was.stands
                  (chunk_repeats (low_end journal asks.range copier.following) chunk_end_now (asks.range).top all_keys (length all_keys) taking_all (record { besides = besides; tables = tables; log = log }) choosing_state (refl, refl));
              knows = stepped_knows Choosing tt;
            })

      writes_goal : effect_now ≡ Writes ok [] → Goal following
      writes_goal is = each heard
        where
          all : ((stored after).tables ≡ after_events before.tables (own.writes ++ [])) × ((stored after).log ≡ before.log ++ (own.writes ++ [])) × Besides number (holds_of before) (holds_of after) no_hold
          all = subst (λ (d : Effect). EffectLeaves d lost number (stored before) (stored after) (holds_of before) (holds_of after)) is left

          tables : (stored after).tables ≡ after_events before.tables own.writes
          tables = all.0 ∙ ap (λ (w : List RowEvent). after_events before.tables w) (append-nil own.writes)

          log : (stored after).log ≡ before.log ++ own.writes
          log = all.1 ∙ ap (λ (w : List RowEvent). before.log ++ w) (append-nil own.writes)

          each : Heard entry.side entry.answer given → Goal following
          each (heard_so side unlost same) = committed_goal tables log all.2 (sym same ∙ says_so ∙ ap effect_answer is)
          each (lost_so is_so answer) = repeats_goal tables log all.2 answer

      commits : Goal following
      commits = by (deeded entry before request)
        where
          by : Deeded before number request effect_now → Goal following
          by (outside_so is) = outside_goal is
          by (within_so there same log is) = writes_goal (is ∙ ap (effect_within (face_of before.sessions number).busy (seen_of before number) there) commit_asked)

    -- BeginSpan
    abbrev rows_now : List Row
    rows_now = rows_at m.name (key_places m.schema) rows before.log (length before.log)

    abbrev old_table : TableRows
    old_table = record { schema = m.schema; rows = rows_now }

    old_found : find_table m.name before.tables ≡ Some old_table
    old_found = any_kept (find_table m.name before.tables ≡ Some old_table) m at rows number applier now (λ apply kept. kept.tool.kept.old) was.stands

    ascends : Ascends (key_places m.schema) rows_now
    ascends =
        any_kept (Ascends (key_places m.schema) rows_now) m at rows number applier now
        (λ apply kept. (table_exists m rows before.log _ _ kept.progress kept.ghost (length before.log) planned kept.tool.kept.joined.under_way).ascends) was.stands

    table_fits : AllByRecursion (IsRow m.schema.columns) rows_now
    table_fits =
        any_kept (AllByRecursion (IsRow m.schema.columns) rows_now) m at rows number applier now
        (λ apply kept. (table_exists m rows before.log _ _ kept.progress kept.ghost (length before.log) planned kept.tool.kept.joined.under_way).rows_fit) was.stands

    other : (applier == number) ≡ false
    other = any_kept ((applier == number) ≡ false) m at rows number applier now (λ apply kept. kept.tool.other) was.stands

    -- the locks are apart from another session's
    all_apart : (need : List Lock) (n : ℕ) → (n == number) ≡ false → Apart need (holds_of before n).locks → Apart (own.locks ++ need) (holds_of before n).locks
    all_apart need n differ free = apart_both own.locks need (holds_of before n).locks (apart-turn (holds_of before n).locks own.locks (served.apart n number differ)) free

    some_keys : (n : ℕ) → (n == 0) ≡ false → 0 < n
    some_keys zero none = absurd cc
    some_keys (suc n) none = omega arith

    module _ (from size : ℕ) (here : copier.step ≡ Spanning from size) where
      abbrev span_now : Span
      span_now = record { low = low_end journal asks.range copier.following; high = Closed (end_in (answer_at journal from)) }

      span_asked : request ≡ requests.BeginSpan m.name span_now size
      span_asked =
          let e : Some (requests.BeginSpan copier.table span_now size) ≡ Some request = ap (call_at journal copier asks.range) (sym here) ∙ asks.call in
          let same : requests.BeginSpan copier.table span_now size ≡ request = cc in sym same ∙ ap (λ (t : List ℕ). requests.BeginSpan t span_now size) turn.table

      spanning_waits : IsWaiting copier.step
      spanning_waits = subst IsWaiting (sym here) tt

      abbrev span_need : Need
      span_need = need_within (seen_of before number) (requests.BeginSpan m.name span_now size)

      abbrev span_granted : SessionHold
      span_granted = with_grant own span_need []

      span_locked : span_need.locks ≡ lock_on m.schema false (record { key = at.place; span = span_now }) ∷ []
      span_locked =
          ap (λ (d : Database). span_needs span_now (find_table m.name d)) (ap (λ (h : SessionHold). after_events before.tables h.writes) (rests_own spanning_waits) ∙ after_none before.tables)
          ∙ ap (span_needs span_now) old_found ∙ ap (span_lock m.schema span_now) at.at

      span_held : HoldsSpan m at span_now span_granted
      span_held =
          record {
            among = subst (λ (l : List Lock). Among (lock_on m.schema false (record { key = at.place; span = span_now })) (own.locks ++ l)) (sym span_locked) (among-right (lock_on m.schema false (record { key = at.place; span = span_now })) own.locks _ (inl refl));
            named = names_last own.names m.name;
          }

      module _ (n : ℕ) (is_size : size ≡ suc n) (answer : entry.answer ≡ span_keys span_now size old_table) (same_stored : stored after ≡ stored before) (besides : Besides number (holds_of before) (holds_of after) span_granted)
          (free : Apart span_need.locks (holds_of before applier).locks) where
        abbrev spanned : List Row
        spanned = keys_of (key_places m.schema) (filter (λ row. has span_now (key_of (key_places m.schema) row)) rows_now)

        abbrev taken : List Row
        taken = take (suc n) spanned

        abbrev high : Row
        high = cond (nat_lt (suc n) (length spanned)) (last_of [] (take (suc n) spanned)) (end_in (answer_at journal from))

        abbrev chunk : Chunk
        chunk = record { reported = length journal + 1; keys = length taken; is_last = is_top copier.range high }

        in_chunk : InChunk m at rows (stored before) span_granted (low_end journal asks.range copier.following) high taken
        in_chunk = chunk_reported m at rows (stored before) span_granted (low_end journal asks.range copier.following) (end_in (answer_at journal from)) n (nat_lt (suc n) (length spanned)) ascends span_held refl

        reported_so : entry.answer ≡ answers.Keys taken high
        reported_so = answer ∙ ap (λ (s : ℕ). span_keys span_now s old_table) is_size ∙ span_keys_are span_now (suc n) old_table

        made_so : following ≡ record copier { step = cond (length taken == 0) (Committing chunk) (Copying chunk 0) }
        made_so = ap (λ (a : Answer). took (length journal + 1) copier a) reported_so ∙ took_at (length journal + 1) copier (Spanning from size) (answers.Keys taken high) here tt

        keys_longer : answer_at longer (length journal + 1) ≡ Some (answers.Keys taken high)
        keys_longer = answer_here journal entry ∙ ap (λ (a : Answer). Some a) reported_so

        chunk_is_reported : IsChunkReported longer copier.range chunk
        chunk_is_reported = record { keys = taken; end = high; reported = keys_longer; counted = refl; last = refl }

        low_longer : low_end longer asks.range copier.following ≡ low_end journal asks.range copier.following
        low_longer = low_more journal (entry ∷ []) asks.range copier.following was.knows.following

        span_state : (empty : Bool) → (length taken == 0) ≡ empty → copy_state longer (record copier { step = cond empty (Committing chunk) (Copying chunk 0) }) ≡ Taking (low_end journal asks.range copier.following) high (asks.range).top taken 0
        span_state true is_empty =
            taking_state longer (record copier { step = Committing chunk }) asks.range (Committing chunk) asks.is asks.going refl
            ∙ ap (λ (a : Option Answer). Taking (low_end longer asks.range copier.following) (end_in a) (asks.range).top (keys_in a) (length (keys_in a))) keys_longer
            ∙ ap (λ (l : Bound). Taking l high (asks.range).top taken (length taken)) low_longer ∙ ap (λ (k : ℕ). Taking (low_end journal asks.range copier.following) high (asks.range).top taken k) (are_one (length taken) 0 is_empty)
        span_state false is_empty =
            taking_state longer (record copier { step = Copying chunk 0 }) asks.range (Copying chunk 0) asks.is asks.going refl
            ∙ ap (λ (a : Option Answer). Taking (low_end longer asks.range copier.following) (end_in a) (asks.range).top (keys_in a) 0) keys_longer ∙ ap (λ (l : Bound). Taking l high (asks.range).top taken 0) low_longer

        span_knows : (empty : Bool) → (length taken == 0) ≡ empty → CopierKnows longer (record copier { step = cond empty (Committing chunk) (Copying chunk 0) })
        span_knows true is_empty = stepped_knows (Committing chunk) chunk_is_reported
        span_knows false is_empty = stepped_knows (Copying chunk 0) (chunk_is_reported, some_keys (length taken) is_empty)

        span_by : (empty : Bool) → (length taken == 0) ≡ empty → Goal (record copier { step = cond (length taken == 0) (Committing chunk) (Copying chunk 0) })
        span_by empty is_empty =
            subst (λ (b : Bool). Goal (record copier { step = cond b (Committing chunk) (Copying chunk 0) })) (sym is_empty)
            (record {
              stands =
                  turn_keeps m at rows place number applier planned is_place now (moment_of after (copy_state longer (record copier { step = cond empty (Committing chunk) (Copying chunk 0) })) plan position) served was.stands
                  (chunk_begins span_granted (low_end journal asks.range copier.following) high (asks.range).top taken (here_waiting spanning_waits) besides (within-left own.locks own.locks span_need.locks (within-itself own.locks)) (all_apart span_need.locks applier other free) (append-nil own.writes) in_chunk same_stored
                  (span_state empty is_empty) (refl, refl));
              knows = span_knows empty is_empty;
            })

        span_goal : Goal following
        span_goal = subst Goal (sym made_so) (span_by (length taken == 0) refl)

      with_size : (s : ℕ) → size ≡ s → 0 < s → entry.answer ≡ span_keys span_now size old_table → stored after ≡ stored before → Besides number (holds_of before) (holds_of after) span_granted → Apart span_need.locks (holds_of before applier).locks → Goal following
      with_size zero is_size some answer same besides free = absurd (let none : 0 < 0 = some in omega (arith, none))
      with_size (suc n) is_size some answer same besides free = span_goal n is_size answer same besides free

      grows_goal : effect_now ≡ Grows (span_keys span_now size old_table) span_need [] → Goal following
      grows_goal is = each heard
        where
          all : (stored after ≡ stored before) × Besides number (holds_of before) (holds_of after) (unless_lost lost span_granted) × ((n : ℕ) → (n == number) ≡ false → Apart span_need.locks (holds_of before n).locks)
          all = subst (λ (d : Effect). EffectLeaves d lost number (stored before) (stored after) (holds_of before) (holds_of after)) is left

          each : Heard entry.side entry.answer given → Goal following
          each (heard_so side unlost same) = with_size size refl (known (Spanning from size) here).1 (sym same ∙ says_so ∙ ap effect_answer is) all.0 (kept_own span_granted unlost all.1) (all.2 applier other)
          each (lost_so is_so answer) = lost_goal span_granted is_so answer all.0 all.1

      begins_chunk : Goal following
      begins_chunk = by (deeded entry before request)
        where
          by : Deeded before number request effect_now → Goal following
          by (outside_so is) = outside_goal is
          by (within_so there same log is) =
              grows_goal
              (is ∙ ap (effect_within (face_of before.sessions number).busy (seen_of before number) there) span_asked ∙ ap (λ (f : Option TableRows). begins f span_now size span_need) (ap (find_table m.name) same ∙ old_found))

    -- CopyRow
    module _ (chunk : Chunk) (copied : ℕ) (here : copier.step ≡ Copying chunk copied) where
      abbrev chunk_keys : List Row
      chunk_keys = keys_in (answer_at journal chunk.reported)

      abbrev chunk_top : Row
      chunk_top = end_in (answer_at journal chunk.reported)

      chunk_known : IsChunkReported journal copier.range chunk
      chunk_known = (known (Copying chunk copied) here).0

      taking_some : copy_state journal copier ≡ Taking (low_end journal asks.range copier.following) chunk_top (asks.range).top chunk_keys copied
      taking_some = taking_state journal copier asks.range (Copying chunk copied) asks.is asks.going here

      inside_chunk : InChunk m at rows (stored before) own (low_end journal asks.range copier.following) chunk_top chunk_keys
      inside_chunk =
          any_kept (InChunk m at rows (stored before) own (low_end journal asks.range copier.following) chunk_top chunk_keys) m at rows number applier now
          (λ apply kept. subst (λ (c : CopyState). CopyStands m at rows (stored before) own c) taking_some kept.tool.copying) was.stands

      busy_by : (b : Bool) → (face_of before.sessions number).busy ≡ b → b ≡ true
      busy_by true is = refl
      busy_by false is =
          let rests = ((journal_holds limits scene journal turn.run).holds.fits number).rests is in
          absurd (false≢true (sym (ap (λ (h : SessionHold). list_any (bytes_eq m.name) h.names) rests.0) ∙ inside_chunk.holds.named))

      is_busy : (face_of before.sessions number).busy ≡ true
      is_busy = busy_by (face_of before.sessions number).busy refl

      module _ (key : Row) (next_key : slice_get chunk_keys copied ≡ Some key) where
        row_asked : request ≡ requests.CopyRow m.name m.new.name m.columns key
        row_asked =
            let e : Some (requests.CopyRow copier.table (ghost_name copier.table) copier.map key) ≡ Some request = ap (copies copier) (sym next_key) ∙ ap (call_at journal copier asks.range) (sym here) ∙ asks.call in
            let same : requests.CopyRow copier.table (ghost_name copier.table) copier.map key ≡ request = cc in
            sym same ∙ ap (λ (t : List ℕ). requests.CopyRow t (ghost_name t) copier.map key) turn.table ∙ ap (λ (g : List ℕ). requests.CopyRow m.name g copier.map key) (sym turn.new_name) ∙ ap (λ (c : List MapColumn). requests.CopyRow m.name m.new.name c key) turn.map

        abbrev seen : Database
        seen = seen_of before number

        abbrev operation : Operation
        operation = copy_operation seen m.name m.new.name m.columns key

        abbrev row_need : Need
        row_need = need_within seen (requests.CopyRow m.name m.new.name m.columns key)

        abbrev row_granted : SessionHold
        row_granted = with_grant own row_need (operation_result seen operation).events

        row_there : SomeRow (key_places m.schema) key rows_now
        row_there =
            any_kept (SomeRow (key_places m.schema) key rows_now) m at rows number applier now
            (λ apply kept. key_reported m at rows (low_end journal asks.range copier.following) chunk_top (asks.range).top chunk_keys copied apply kept.progress kept.ghost number applier (stored before) (holds_of before) copied key planned
            (subst (λ (c : CopyState). ToolInvariant m at rows c apply kept.progress kept.ghost number applier (stored before) (holds_of before)) taking_some kept.tool) next_key) was.stands

        old_seen : find_table m.name seen ≡ Some old_table
        old_seen =
            any_kept (find_table m.name seen ≡ Some old_table) m at rows number applier now
            (λ apply kept. found_besides m.name own.writes before.tables (subst (NotOf m.name) (sym kept.tool.kept.chunk) (not_of m.name m.new.name kept.ghost.chunk kept.tool.kept.differ)) ∙ kept.tool.kept.old) was.stands

        new_seen : NewSeen m seen
        new_seen =
            any_kept (NewSeen m seen) m at rows number applier now
            (λ apply kept. record {
              rows = _;
              is =
                  ap (λ (w : List RowEvent). find_table m.new.name (after_events before.tables w)) kept.tool.kept.chunk
                  ∙ view_found m.new kept.ghost.committed kept.ghost.chunk before.tables served.well_formed (subst (EventsFit before.tables) kept.tool.kept.chunk (served.fits number)) kept.tool.kept.new;
            }) was.stands

        work_is : operation.work m.new ≡ copy_work (Some (converted_row m.columns row_there.0)) m.new
        work_is = copy_is seen m.name m.new.name m.columns key row_there.0 old_table m.new old_seen row_there.1

        module _ (is : effect_now ≡ Grows (operation_result seen operation).answer row_need (operation_result seen operation).events) where
          row_all : (stored after ≡ stored before) × Besides number (holds_of before) (holds_of after) (unless_lost lost row_granted) × ((n : ℕ) → (n == number) ≡ false → Apart row_need.locks (holds_of before n).locks)
          row_all = subst (λ (d : Effect). EffectLeaves d lost number (stored before) (stored after) (holds_of before) (holds_of after)) is left

          unfit : (fault : UnfitAt) → converted_row m.columns row_there.0 ≡ Err fault → entry.answer ≡ (operation_result seen operation).answer → ⊥
          unfit fault imaged answer =
              turn.fits fault.column (error_number fault.unfit)
              (ap (progress copier) (answer ∙ refused_says seen operation m.new new_seen.rows (refuses_value fault) new_seen.is (work_is ∙ refuses_converted_row m.new m.columns row_there.0 fault imaged)) ∙ unfit_progress copier chunk copied (error_number fault.unfit) fault.column here)

          module _ (made : Row) (imaged : converted_row m.columns row_there.0 ≡ Ok made) (besides : Besides number (holds_of before) (holds_of after) row_granted) (answer : entry.answer ≡ (operation_result seen operation).answer) where
            row_fits : IsRow m.new.columns made
            row_fits = planned.fits row_there.0 made (found_all (IsRow m.schema.columns) (is_at (key_places m.schema) key) rows_now row_there.0 table_fits row_there.1) imaged

            does : DoesWork m operation (works.Copy made)
            does = record { table = refl; does = work_is ∙ copies_converted_row m.new m.columns row_there.0 made row_fits imaged }

            gives : IsGiven (stored before) (holds_of before) number operation row_granted
            gives =
                record {
                  kept = within-left own.locks own.locks row_need.locks (within-itself own.locks);
                  needed = within-right (operation_needs seen operation) own.locks row_need.locks (within-itself row_need.locks);
                  apart = λ n differ. all_apart row_need.locks n differ (row_all.2 n differ);
                  wrote = refl;
                }

            counted : Counted seen operation
            counted = copied_says seen operation m.new new_seen.rows made new_seen.is does.does

            copied_so : following ≡ record copier { step = cond ((copied + 1) == chunk.keys) (Committing chunk) (Copying chunk (copied + 1)) }
            copied_so = ap (λ (a : Answer). took (length journal + 1) copier a) (answer ∙ counted.is) ∙ took_at (length journal + 1) copier (Copying chunk copied) (answers.Ok counted.count) here tt

            known_longer : IsChunkReported longer copier.range chunk
            known_longer = chunk_more journal (entry ∷ []) copier.range chunk chunk_known

            next_one : copied + 1 ≡ suc copied
            next_one = omega arith

            row_state : (full : Bool) → ((copied + 1) == chunk.keys) ≡ full → copy_state longer (record copier { step = cond full (Committing chunk) (Copying chunk (copied + 1)) }) ≡ Taking (low_end journal asks.range copier.following) chunk_top (asks.range).top chunk_keys (suc copied)
            row_state true is_full =
                taking_state longer (record copier { step = Committing chunk }) asks.range (Committing chunk) asks.is asks.going refl
                ∙ ap (λ (a : Option Answer). taking_of longer copier asks.range chunk (length (keys_in a))) (same_answer journal (entry ∷ []) copier.range chunk chunk_known)
                ∙ taking_more journal (entry ∷ []) copier asks.range chunk (length chunk_keys) was.knows chunk_known
                ∙ ap (λ (k : ℕ). Taking (low_end journal asks.range copier.following) chunk_top (asks.range).top chunk_keys k)
                (ap (λ (l : List Row). length l) (keys_are journal copier.range chunk chunk_known) ∙ sym chunk_known.counted ∙ sym (are_one (copied + 1) chunk.keys is_full) ∙ next_one)
            row_state false is_full =
                taking_state longer (record copier { step = Copying chunk (copied + 1) }) asks.range (Copying chunk (copied + 1)) asks.is asks.going refl
                ∙ taking_more journal (entry ∷ []) copier asks.range chunk (copied + 1) was.knows chunk_known ∙ ap (λ (k : ℕ). Taking (low_end journal asks.range copier.following) chunk_top (asks.range).top chunk_keys k) next_one

            row_knows : (full : Bool) → ((copied + 1) == chunk.keys) ≡ full → CopierKnows longer (record copier { step = cond full (Committing chunk) (Copying chunk (copied + 1)) })
            row_knows true is_full = stepped_knows (Committing chunk) known_longer
            row_knows false is_full = stepped_knows (Copying chunk (copied + 1)) (known_longer, next_within copied chunk.keys (known (Copying chunk copied) here).1 is_full)

            row_by : (full : Bool) → ((copied + 1) == chunk.keys) ≡ full → Goal (record copier { step = cond ((copied + 1) == chunk.keys) (Committing chunk) (Copying chunk (copied + 1)) })
            row_by full is_full =
                subst (λ (b : Bool). Goal (record copier { step = cond b (Committing chunk) (Copying chunk (copied + 1)) })) (sym is_full)
                (record {
                  stands =
                      turn_keeps m at rows place number applier planned is_place now (moment_of after (copy_state longer (record copier { step = cond full (Committing chunk) (Copying chunk (copied + 1)) })) plan position) served was.stands
                      (row_copies row_granted operation (low_end journal asks.range copier.following) chunk_top (asks.range).top chunk_keys copied key row_there.0 made taking_some next_key does (record { given = gives; besides = besides; stored = row_all.0 }) (names_left own.names row_need.names) row_there.1 imaged
                      (row_state full is_full) (refl, refl));
                  knows = row_knows full is_full;
                })

            copied_goal : Goal following
            copied_goal = subst Goal (sym copied_so) (row_by ((copied + 1) == chunk.keys) refl)

          by_converted_row : (said : Result Row UnfitAt) → converted_row m.columns row_there.0 ≡ said → Besides number (holds_of before) (holds_of after) row_granted → entry.answer ≡ (operation_result seen operation).answer → Goal following
          by_converted_row (Ok made) imaged besides answer = copied_goal made imaged besides answer
          by_converted_row (Err fault) imaged besides answer = absurd (unfit fault imaged answer)

          row_grows : Heard entry.side entry.answer given → Goal following
          row_grows (heard_so side unlost same) = by_converted_row (converted_row m.columns row_there.0) refl (kept_own row_granted unlost row_all.1) (sym same ∙ says_so ∙ ap effect_answer is)
          row_grows (lost_so is_so answer) = lost_goal row_granted is_so answer row_all.0 row_all.1

        row_deeded : Deeded before number request effect_now → Goal following
        row_deeded (outside_so is) = outside_goal is
        row_deeded (within_so there same log is) =
            row_grows (is ∙ ap (effect_within (face_of before.sessions number).busy seen there) row_asked ∙ ap (λ (b : Bool). result_effect b row_need (operation_result seen operation)) is_busy) heard

      by_key : (found : Option Row) → slice_get chunk_keys copied ≡ found → Goal following
      by_key None next = absurd (let e : None ≡ Some request = ap (copies copier) (sym next) ∙ ap (call_at journal copier asks.range) (sym here) ∙ asks.call in cc)
      by_key (Some key) next = row_deeded key next (deeded entry before request)

      copies_row : Goal following
      copies_row = by_key (slice_get chunk_keys copied) refl

    by_step : (step : CopyStep) → copier.step ≡ step → Goal following
    by_step Choosing here = chooses here
    by_step (Spanning from size) here = begins_chunk from size here
    by_step (Copying chunk copied) here = copies_row chunk copied here
    by_step (Committing chunk) here = commits chunk here

  done_goal : (given : Option Answer) → reported_at entry.side entry.answer entry.missed ≡ given → reported_done given ≡ true → Goal following
  done_goal None reported done = absurd (let no : false ≡ true = done in cc)
  done_goal (Some given) reported done = by_step given reported done copier.step refl

  goal : (b : Bool) → reported_done (reported_at entry.side entry.answer entry.missed) ≡ b → Goal following
  goal true is = done_goal (reported_at entry.side entry.answer entry.missed) refl is
  goal false is = undone is

-- *Copiers keep the relation*
pub copiers_keep : CopiersKeep
copiers_keep m at rows place planned is_place limits scene journal entry copier request plan position applier turn was =
    goal m at rows place planned is_place limits scene journal entry copier request plan position applier turn was (asks_at journal copier request turn.given) (reported_done (reported_at entry.side entry.answer entry.missed)) refl
