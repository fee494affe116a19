-- The text of a whole journal's trace is read as that trace.
use Rattle.std.proofs.Common.{◌≡◌, ◌≤◌, ◌<◌, ℕ, ◌+◌, ◌^◌, Bool, true, false, List, [], ◌∷◌, ◌++◌, length, Some, Ok, refl, sym, ap, ◌∙◌, subst, arith, append_assoc}
use Rattle.std.specs.List.{AllByRecursion}
use Rattle.std.specs.Str.{IsUtf8}
use Rattle.std.proofs.lemmas.List.{length-append, length-map, take-append-drop, take_all}
use Rattle.base_values.specs.declared.value.Value.{Value}
use Rattle.base_values.specs.GhoSchema.Rows.{key_places}
use Rattle.base_values.proofs.SchemaRules.Lists.{All-weaker}
use Rattle.table_store.specs.Databases.{TableRows, find_table}
use Rattle.server_model.specs.LockedRows.Databases.{IsWellFormedDatabase}
use Rattle.server_model.specs.declared.entry.Entry.{Entry}
use Rattle.server_model.specs.declared.outcome.Cause.{Cause}
use Rattle.server_model.specs.declared.outcome.Cause.TheVariants as causes
use Rattle.server_model.specs.declared.outcome.Verdict.{Verdict}
use Rattle.server_model.specs.declared.outcome.Verdict.TheVariants as verdicts
use Rattle.plan_data.specs.PlanData.{PlanData, old_schema}
use Rattle.plan_reader.specs.Plans.{read}
use Rattle.table_print.specs.Names.{names_line}
use Rattle.tool_program.specs.EventApplier.Appliers.{doing_at, row_done}
use Rattle.tool_program.specs.JournalWords.Journals.{IsFaithful, state_at}
use Rattle.tool_program.specs.JournalWords.Serials.{tables_left}
use Rattle.tool_program.specs.JournalWords.Sessions.{NumbersSessions}
use Rattle.tool_program.specs.Verdicts.{has_ended, verdict_of}
use Rattle.tool_finish.specs.Callable.{IsFinishable}
use Rattle.tool_finish.specs.Finishes.{IsFinish, IsFinishTurn, finish_verdict, stage_behind}
use Rattle.tool_finish.specs.WholeJournals.{IsUnfitBehind, StandsBehind, finish_in, row_at, run_in, verdict_at}
use Rattle.tool_finish.specs.declared.stage.Stage.{Stage}
use Rattle.tool_finish.specs.declared.stage.Stage.TheVariants.{Applying, Copying}
use Rattle.proof_journals.specs.Machine.Runnable.{IsRunnable}
use Rattle.proof_journals.specs.Plans.{IsSerialPlan}
use Rattle.proof_journals.specs.Run.Kept.{IsKept}
use Rattle.proof_journals.proofs.ServerTurns.Agreements.{along_front}
use Rattle.proof_migration.proofs.Program.Follows.{own_table}
use Rattle.proof_migration.specs.Migration.Planning.{migration_of}
use Rattle.proof_migration.proofs.ToolPhase.Unaltered.Away.{unaltered_front}
use Rattle.proof_plain.specs.Plain.{PlainRow}
use Rattle.proof_plain.specs.Plans.{IsShort, PlainPlan}
use Rattle.proof_plain.proofs.Journals.{PlainRun, all_plain}
use Rattle.proof_plain.proofs.Requests.{doing_plain}
use Rattle.proof_plain.proofs.Statements.{found_plain}
use Rattle.proof_literals.proofs.Finals.{journal_short, sessions_front}
use Rattle.proof_literals.proofs.ReadLimits.{small_plan}
use Rattle.proof_plans.specs.ReadPlans.Laws.{WasRead}
use Rattle.proof_resume.specs.Starts.Laws.{KeptRunsAreFinishable}
use Rattle.proof_audit.specs.Wholes.{AreNewTools, HasItsCause, IsWhole, MayGoOn}
use Rattle.proof_audit.proofs.Wholes.{ended_verdict, gone_on_verdict, kept_cause, kept_verdict, kept_whole, none_unfinished, whole_before}
use Rattle.run_audit.specs.declared.trace.Audit.TheVariants.{Yes}
use Rattle.run_audit.specs.Audits.{audited}
use Rattle.run_audit.specs.Lines.{line_of, lines_of, trace_of}
use Rattle.top_trace.specs.Texts.{trace_text}
use Rattle.top_trace_reader.specs.declared.whole.TheConstants.{TRACE_LIMIT}
use Rattle.top_trace_reader.specs.Traces.{read_trace}
use Rattle.law_texts.specs.PrintedTraces.{CanPrintCause, CanPrintTrace, CanPrintVerdict, PrintedTracesAreRead, text_of}
use Rattle.proof_resume.proofs.Finish.Verdicts.{reverted_finishes_did_not}
use Rattle.law_traces.specs.AcceptedPlans.{AcceptedPlanLaws}
use Rattle.law_traces.specs.Laws.{WholeTracesAreAudited}
use Rattle.law_traces.specs.Printed.{HasOneLineNames, HasPlainNames, HaveOneLineNames, PrintedTracesAreAudited, WholePrintedTracesAreAudited, tables_at, whole_text, whole_trace}
use Rattle.law_traces.proofs.BehindKeys.{behind_keyed}
use Rattle.law_traces.proofs.BehindPlain.{PlainBehind}
use Rattle.law_traces.proofs.BehindSessions.{run_made, small_behind}
use Rattle.law_traces.proofs.Names.{left_lines, wholes_stay}
use Rattle.law_traces.proofs.PlainValues.{done_plain, key_plain, row_found, values_print, verdict_prints}
use Rattle.law_traces.proofs.PrintedCauses.{number_fits}
use Rattle.law_traces.proofs.PrintedCauses as causes_print
use Rattle.law_traces.proofs.PrintedRuns.{lines_short, table_prints, turns_print}
use Rattle.law_traces.proofs.WholePrints.{WholePrints, behind_begins, goes, whole_prints}
use Rattle.law_traces.proofs.WholeRuns.{at, few_run, is, of, plain, runs, serial, tries}

-- ---- the verdict of a new tool

module _ (plan : PlanData) (plainly : PlainPlan plan) (run_of : IsRunnable plan) (serial_of : IsSerialPlan plan) (run turns : List Entry) (kept : IsKept plan run) (run_short : IsShort run) (finishable : IsFinishable plan run) (are : AreNewTools plan run turns) (whole : IsWhole plan (run ++ turns)) (few : length (run ++ turns) ≤ 2 ^ 31)
    (small : AllByRecursion (λ (entry : Entry). entry.session < 2 ^ 64) turns) where
  -- so plain it is behind the first of its turns
  front_plain : (before after : List Entry) → turns ≡ before ++ after → PlainBehind plan (run ++ before) (stage_behind plan run before)
  unfolding IsFinish
  front_plain before after is =
      (goes plan plainly run_of serial_of run kept run_short finishable [] before
      (along_front (IsFinishTurn plan run) run before after (subst (IsFinish plan run) is are.finish)) (front_kept (run ++ before) (subst (IsFaithful plan) whole_is are.faithful)) (whole_before plan (run ++ before) after (subst (IsWhole plan) whole_is whole)) shorter
      (sessions_front before after (subst (λ (all : List Entry). AllByRecursion (λ (entry : Entry). entry.session < 2 ^ 64) all) is small)) (behind_begins plan plainly run_of serial_of run kept run_short finishable)).1 where
        whole_is : run ++ turns ≡ (run ++ before) ++ after
        whole_is = ap (λ (all : List Entry). run ++ all) is ∙ sym (append_assoc run before after)

        front_kept : (front : List Entry) → IsFaithful plan (front ++ after) → IsFaithful plan front
        front_kept front faithful = along_front _ [] front after faithful

        shorter : length (run ++ before) ≤ 2 ^ 31
        shorter =
            let long : length ((run ++ before) ++ after) ≡ length (run ++ before) + length after = length-append (run ++ before) after in
            let same : length (run ++ turns) ≡ length ((run ++ before) ++ after) = ap (λ (all : List Entry). length all) whole_is in omega (arith, long, same, few)

  -- the row that is converted is plain
  row_plain : (before : List Entry) (stage : Stage) (key row : List Value) → PlainBehind plan (run ++ before) (stage_behind plan run before) → row_at plan (run ++ before) stage key ≡ Some row → PlainRow row
  row_plain before (Copying copier applier) key row now is =
      row_found plan plainly run_of serial_of (find_table plan.table (state_at plan (run ++ before)).tables) key row (found_plain plan.table (state_at plan (run ++ before)).tables now.state.tables) is
  row_plain before (Applying applier) key row now is =
      let same : row_done (doing_at (run ++ before) applier applier.step) ≡ row = cc in
      subst PlainRow same (done_plain plan plainly run_of serial_of (doing_at (run ++ before) applier applier.step) (doing_plain (run ++ before) applier applier.step now.answers))
  row_plain before stage key row now is = absurd cc

  turn_small : (turn : ℕ) (before : List Entry) (entry : Entry) (after : List Entry) → turns ≡ before ++ entry ∷ after → turn ≡ length (run ++ before) + 1 → turn < 2 ^ 64
  turn_small turn before entry after is at =
      let whole_is : run ++ turns ≡ (run ++ before) ++ entry ∷ after = ap (λ (all : List Entry). run ++ all) is ∙ sym (append_assoc run before (entry ∷ after)) in
      let long : length ((run ++ before) ++ entry ∷ after) ≡ length (run ++ before) + length (entry ∷ after) = length-append (run ++ before) (entry ∷ after) in
      let same : length (run ++ turns) ≡ length ((run ++ before) ++ entry ∷ after) = ap (λ (all : List Entry). length all) whole_is in omega (arith, long, same, few, at)

  -- the key of an unfit row has a value, if the tables are well formed then
  abbrev Keyed : (turn : ℕ) (key : List Value) (column : List ℕ) (number : ℕ) → IsUnfitBehind plan run turns turn key column number → Type 0
  Keyed turn key column number unfit = IsWellFormedDatabase (tables_at plan (run ++ unfit.before)) → 0 < length key

  unfit_prints : (turn : ℕ) (key : List Value) (column : List ℕ) (number : ℕ) → (unfit : IsUnfitBehind plan run turns turn key column number) → Keyed turn key column number unfit → CanPrintCause (causes.Unfit turn key column number)
  unfit_prints turn key column number unfit keyed =
      let now : PlainBehind plan (run ++ unfit.before) (stage_behind plan run unfit.before) = front_plain unfit.before (unfit.entry ∷ unfit.following) unfit.turns_are in (
        turn_small turn unfit.before unfit.entry unfit.following unfit.turns_are unfit.turn_is,
        (
          keyed now.serving.well_formed,
          values_print key
              (subst PlainRow unfit.keyed (key_plain plan plainly run_of serial_of (key_places (old_schema plan)) unfit.row (row_plain unfit.before (stage_behind plan run unfit.before) key unfit.row now unfit.concerned))),
        ),
        subst (λ (n : ℕ). n < 2 ^ 16) unfit.numbered (number_fits unfit.unfit),
      )

  behind_verdict : ((cause : Cause) → finish_verdict plan run turns ≡ verdicts.Reverted cause → StandsBehind plan run turns cause)
      → ((turn : ℕ) (key : List Value) (column : List ℕ) (number : ℕ) → finish_verdict plan run turns ≡ verdicts.Reverted (causes.Unfit turn key column number) → (unfit : IsUnfitBehind plan run turns turn key column number) → Keyed turn key column number unfit)
      → CanPrintVerdict (finish_verdict plan run turns)
  behind_verdict stands keyed = by (finish_verdict plan run turns) refl where
    by : (verdict : Verdict) → finish_verdict plan run turns ≡ verdict → CanPrintVerdict verdict
    by verdicts.Done same = tt
    by verdicts.Unfinished same = tt
    by (verdicts.Reverted (causes.Unfit turn key column number)) same =
        let unfit = stands (causes.Unfit turn key column number) same in unfit_prints turn key column number unfit (keyed turn key column number same unfit)
    by (verdicts.Reverted (causes.Spent task tried)) same = absurd (stands (causes.Spent task tried) same)
    by (verdicts.Reverted (causes.Panic turn)) same = absurd (stands (causes.Panic turn) same)

-- ---- a whole journal

module _ (known : AcceptedPlanLaws) (may_finish : KeptRunsAreFinishable) (reads : PrintedTracesAreRead) (audits : WholeTracesAreAudited) (bytes : List ℕ) (plan : PlanData) (journal : List Entry) (read_is : read bytes ≡ Ok plan) (text : IsUtf8 plan.table) (whole : IsWhole plan journal) (cause : HasItsCause plan journal)
    (numbered : NumbersSessions (run_in plan journal)) (made : (state_at plan journal).made < 2 ^ 32) (named : HasPlainNames plan) (utf8 : IsUtf8 (whole_text bytes plan journal)) (limit : length (whole_text bytes plan journal) ≤ TRACE_LIMIT) where
  was : WasRead plan
  was = record { bytes = bytes; is = read_is; text = text }

  abbrev run : List Entry
  run = run_in plan journal

  abbrev turns : List Entry
  turns = finish_in plan journal

  parts : run ++ turns ≡ journal
  parts = take-append-drop plan.options.turn_limit journal

  lines : length (lines_of journal) ≤ TRACE_LIMIT
  unfolding trace_of trace_text
  lines = let least : length (lines_of journal) ≤ length (whole_text bytes plan journal) = lines_short bytes (whole_trace plan journal) (names_line (tables_at plan journal)) in omega (arith, least, limit)

  few : length journal ≤ 2 ^ 31
  few = let same : length (lines_of journal) ≡ length journal = length-map journal line_of in omega (arith, lines, same)

  short : IsShort run
  short = journal_short plan run (small_plan bytes plan read_is) whole.kept numbered (few_run known plan was journal)

  finishable : AreNewTools plan run turns → IsFinishable plan run
  finishable are = may_finish plan (migration_of (is known plan was).table.schema (is known plan was).new) (at known plan was) (is known plan was).table.rows (of known plan was) (tries known plan was) (own_table plan (is known plan was)) run whole.kept are.checkpoint

  some_turns : (entry : Entry) (rest : List Entry) → turns ≡ entry ∷ rest → AreNewTools plan run turns
  some_turns entry rest some = subst (AreNewTools plan run) (sym some) (subst (MayGoOn plan run) some whole.goes_on)

  -- a new tool's sessions have small numbers
  small : (behind : List Entry) → turns ≡ behind → AllByRecursion (λ (entry : Entry). entry.session < 2 ^ 64) turns
  small [] none = subst (λ (all : List Entry). AllByRecursion (λ (entry : Entry). entry.session < 2 ^ 64) all) (sym none) tt
  small (entry ∷ rest) some =
      let are : AreNewTools plan run turns = some_turns entry rest some in
      small_behind plan run turns whole.kept.sessions are.finish are.faithful (subst (λ (all : List Entry). (state_at plan all).made < 2 ^ 32) (sym parts) made)

  prints : WholePrints plan journal
  prints = whole_prints plan journal (plain known plan was) (runs known plan was) (serial known plan was) whole short (λ entry rest some. finishable (some_turns entry rest some)) few (small turns refl)

  names : HaveOneLineNames (tables_at plan journal)
  names = wholes_stay plan named (known.accepted bytes plan read_is) (runs known plan was) journal whole

  -- the run's verdict, or the new tool's
  run_verdict : CanPrintVerdict (verdict_of plan run)
  run_verdict =
      let now : PlainRun plan run = all_plain plan run (plain known plan was) (runs known plan was) (serial known plan was) whole.kept short in
      let most = short.turns in
      causes_print.verdict_prints plan run (verdict_of plan run) (omega (arith, most)) (tries known plan was).some
      (verdict_prints plan (plain known plan was) (runs known plan was) (serial known plan was) (is known plan was) known.again run whole.kept short now (λ one verdict. known.causes plan run one was whole.kept verdict)) (λ one verdict. known.causes plan run one was whole.kept verdict)

  tool_verdict : (behind : List Entry) → turns ≡ behind → CanPrintVerdict (finish_verdict plan run turns)
  tool_verdict [] none = subst CanPrintVerdict (sym (ap (finish_verdict plan run) none ∙ none_unfinished plan run)) tt
  tool_verdict (entry ∷ rest) some =
      let are : AreNewTools plan run turns = some_turns entry rest some in
      behind_verdict plan (plain known plan was) (runs known plan was) (serial known plan was) run turns whole.kept short (finishable are) are (subst (IsWhole plan) (sym parts) whole) (subst (λ (all : List Entry). length all ≤ 2 ^ 31) (sym parts) few) (small turns refl) cause
      (λ turn key column number is_verdict unfit formed.
      behind_keyed plan (is known plan was) known.again (runs known plan was) (serial known plan was) (tries known plan was) (plain known plan was) run whole.kept short are.checkpoint
      (unaltered_front plan run turns (reverted_finishes_did_not plan run turns (causes.Unfit turn key column number) (runs known plan was) (serial known plan was) whole.kept are.finish are.faithful is_verdict)) turns are.finish are.faithful turn key column number unfit formed)

  ended : CanPrintVerdict (verdict_at plan journal)
  ended = by (has_ended plan run) refl where
    by : (b : Bool) → has_ended plan run ≡ b → CanPrintVerdict (verdict_at plan journal)
    by true over = subst CanPrintVerdict (sym (ended_verdict plan journal over)) run_verdict
    by false going = subst CanPrintVerdict (sym (gone_on_verdict plan journal going)) (tool_verdict turns refl)

  can_print : CanPrintTrace plan (whole_trace plan journal) (tables_left plan (tables_at plan journal))
  unfolding trace_of
  can_print =
      let clients = (known.accepted bytes plan read_is).few in
      record {
        few = omega (arith, clients);
        short = omega (arith, lines);
        turns = turns_print plan [] journal whole tt prints.lines;
        ended = ended;
        printed = refl;
        tables = table_prints (tables_left plan (tables_at plan journal)) (left_lines plan (tables_at plan journal) names) prints.rows;
      }

  same : text_of bytes (whole_trace plan journal) (tables_at plan journal) ≡ whole_text bytes plan journal
  unfolding trace_text
  same = refl

  pub whole_read : (read_trace (whole_text bytes plan journal) ≡ Ok (plan, whole_trace plan journal)) × (audited plan (whole_trace plan journal) ≡ Yes)
  whole_read = (
    subst (λ (printed : List ℕ). read_trace printed ≡ Ok (plan, whole_trace plan journal)) same
        (reads bytes plan (whole_trace plan journal) (tables_left plan (tables_at plan journal)) (tables_at plan journal) read_is can_print (All-weaker (λ (table : TableRows). HasOneLineNames table.schema) _ (λ table its. its.0) (tables_at plan journal) names) (subst IsUtf8 (sym same) utf8)
        (subst (λ (printed : List ℕ). length printed ≤ TRACE_LIMIT) (sym same) limit)),
    audits plan journal was whole cause,
  )

-- *Printed whole traces are audited yes*
pub printed_wholes : AcceptedPlanLaws → KeptRunsAreFinishable → PrintedTracesAreRead → WholeTracesAreAudited → WholePrintedTracesAreAudited
printed_wholes known may_finish reads audits bytes plan journal is text whole cause numbered made named utf8 limit = whole_read known may_finish reads audits bytes plan journal is text whole cause numbered made named utf8 limit

-- ---- a run alone

-- *Printed traces are audited yes*: a run's journal is whole
pub printed_audited : WholePrintedTracesAreAudited → PrintedTracesAreAudited
printed_audited wholes bytes plan journal is text kept within numbered named =
    subst Printed (kept_verdict plan journal within)
    (wholes bytes plan journal is text (kept_whole plan journal within kept) (kept_cause plan journal within) (subst NumbersSessions (sym (take_all plan.options.turn_limit journal within)) numbered)
    (run_made plan journal kept numbered (journal_short plan journal (small_plan bytes plan is) kept numbered within)) named) where
      Printed : Verdict → Type 0
      Printed verdict =
          IsUtf8 (trace_text bytes plan journal verdict (tables_at plan journal)) → length (trace_text bytes plan journal verdict (tables_at plan journal)) ≤ TRACE_LIMIT
          → (read_trace (trace_text bytes plan journal verdict (tables_at plan journal)) ≡ Ok (plan, trace_of plan journal verdict (tables_at plan journal))) × (audited plan (trace_of plan journal verdict (tables_at plan journal)) ≡ Yes)
