-- The values of each kept journal of a plan that was read are plain.
use Rattle.std.proofs.Common.{◌≡◌, ◌<◌, ℕ, ◌-◌, ◌^◌, Bool, true, false, not, cond, List, [], ◌∷◌, ◌++◌, zero, suc, append_assoc, Option, Some, None, refl, sym, ap, ◌∙◌, subst}
use Rattle.std.specs.Prelude.{drop, filter, is_some, take}
use Rattle.std.specs.List.{AllByRecursion, flat_map, list_any, slice_get}
use Rattle.std.specs.Option.{option_to_list}
use Rattle.base_script.specs.declared.actor.Actor.{Actor}
use Rattle.base_script.specs.declared.actor.Actor.TheVariants.{Op, Insp, Copy, Apply, Lock, Ren, Client}
use Rattle.base_script.specs.declared.actor.Side.{Side}
use Rattle.base_script.specs.declared.actor.Side.TheVariants.{Before, After}
use Rattle.base_values.specs.declared.value.Value.{Value}
use Rattle.base_values.specs.declared.value.Value.TheVariants.{Null, Num, Text, Blob}
use Rattle.base_values.specs.GhoSchema.Rows.{key_of, key_places}
use Rattle.base_values.specs.Laws.{StoresAgain}
use Rattle.base_values.specs.ToolNames.{is_tool_name}
use Rattle.base_values.proofs.SchemaRules.Lists.{All-append}
use Rattle.table_store.specs.Databases.{Database, TableRows, find_table}
use Rattle.table_store.specs.RowLists.{is_at}
use Rattle.server_model.specs.declared.answer.Answer.{Answer}
use Rattle.server_model.specs.declared.answer.Answer.TheVariants as answers
use Rattle.server_model.specs.declared.entry.Asked.{Asked}
use Rattle.server_model.specs.declared.entry.Asked.TheVariants.{Call, Poll, Command, Cut}
use Rattle.server_model.specs.declared.entry.Entry.{Entry}
use Rattle.server_model.specs.declared.outcome.Cause.{Cause}
use Rattle.server_model.specs.declared.outcome.Cause.TheVariants as causes
use Rattle.server_model.specs.declared.outcome.Task.{Task}
use Rattle.server_model.specs.declared.outcome.Task.TheVariants as tasks
use Rattle.server_model.specs.declared.outcome.Verdict.{Verdict}
use Rattle.server_model.specs.declared.outcome.Verdict.TheVariants as verdicts
use Rattle.server_model.specs.Entries.{is_client}
use Rattle.server_model.specs.LockedRows.Databases.{WhereFound}
use Rattle.server_model.specs.States.{State}
use Rattle.server_model.specs.PlainServer.{given_at, serves}
use Rattle.plan_data.specs.PlanData.{PlanData, old_schema}
use Rattle.tool_program.specs.EventApplier.Appliers.{Doing, Putting, Removing, Changing, doing_at, row_done}
use Rattle.tool_program.specs.Failures.{IsUnfit, Stands, applied_row, concerned, row_in}
use Rattle.tool_program.specs.JournalWords.Histories.{history, is_alter}
use Rattle.tool_program.specs.JournalWords.Journals.{heard, inner_answer, missed, opens, state_at}
use Rattle.tool_program.specs.JournalWords.Serials.{tables_left}
use Rattle.tool_program.specs.Tools.{Moment, Reason, CopyUnfit, ApplyUnfit, Spent, Panicked, SettingUp, Migrating, ToolPhase, moment}
use Rattle.tool_program.specs.Verdicts.{has_ended, reverted_by, verdict_of}
use Rattle.proof_journals.specs.Machine.Runnable.{IsRunnable}
use Rattle.proof_journals.specs.Plans.{IsSerialPlan}
use Rattle.proof_journals.specs.Run.Kept.{IsKept}
use Rattle.proof_journals.proofs.Machine.Journals.{all_together}
use Rattle.proof_plans.specs.Laws.{AcceptedCausesStand}
use Rattle.proof_plans.specs.ReadPlans.Laws.{ReadPlansAreAlterable, ReadPlansAreRunnable, ReadPlansAreSerial, WasRead}
use Rattle.proof_plans.specs.ReadPlans.Schemas.{ReadPlansAreAccepted}
use Rattle.proof_migration.specs.ToolPhase.Runnable.{IsAlterable}
use Rattle.proof_migration.proofs.Program.Turns.Follows.{kept_front}
use Rattle.proof_audit.proofs.Wholes.{run_next}
use Rattle.proof_plain.specs.Plain.{IsPlain, PlainAnswer, PlainRow, PlainTable, ShownRow, SmallIf}
use Rattle.proof_plain.specs.Plans.{IsShort, PlainPlan, SmallReason}
use Rattle.proof_literals.proofs.Finals.{PlainTurn, ShownTable, journal_short, plan_plain, table_shown, turn_plain}
use Rattle.proof_plain.proofs.Journals.{DrawnAnswer, PlainRun, all_plain, short_front}
use Rattle.proof_literals.proofs.ReadLimits.{small_plan}
use Rattle.proof_plain.proofs.Requests.{DoingIf, PlainAnswers, doing_plain}
use Rattle.proof_plain.proofs.UnfitKeys.{unfit_keyed}
use Rattle.proof_plain.proofs.Statements.{PlainIfThere, found_plain, found_row}
use Rattle.proof_schemas.specs.Printed.Laws.{CanPrintValue}
use Rattle.run_audit.specs.declared.line.LineAnswer.{LineAnswer}
use Rattle.run_audit.specs.Lines.{drawn_shown, heard_answer, line_answer, line_of, lines_of, missed_answer, trace_of}
use Rattle.law_texts.specs.PrintedTraces.{CanDraw, CanPrintAnswer, CanPrintRow, CanPrintTask}
use Rattle.law_traces.specs.Printed.{HasPlainVerdict, ValuesArePlain, tables_at}

-- ---- values

value_prints : (value : Value) → IsPlain value → CanPrintValue value
value_prints Null plain = tt
value_prints (Num number) plain = plain
value_prints (Text text) plain = tt
value_prints (Blob blob) plain = plain

pub values_print : (row : List Value) → PlainRow row → AllByRecursion CanPrintValue row
values_print [] plain = tt
values_print (value ∷ row) plain = (value_prints value plain.0, values_print row plain.1)

pub rows_print : (rows : List (List Value)) → AllByRecursion ShownRow rows → AllByRecursion CanPrintRow rows
rows_print [] shown = tt
rows_print (row ∷ rows) shown = ((shown.0.0, values_print row shown.0.1), rows_print rows shown.1)

-- ---- a line

heard_prints : (client : Bool) (answer : Answer) → PlainAnswer answer → CanPrintAnswer (heard_answer client answer)
heard_prints client (answers.Ok count) plain = plain
heard_prints client (answers.Refused number column) plain = plain
heard_prints true (answers.Rows rows) plain = (plain.0, rows_print rows plain.1)
heard_prints false (answers.Rows rows) plain = tt
heard_prints client (answers.Waits by) plain = plain
heard_prints client (answers.TimedOut waited) plain = plain
heard_prints client answers.Lost plain = tt
heard_prints client answer plain = tt

missed_prints : (missed : Option Answer) → CanPrintAnswer (missed_answer missed)
missed_prints (Some (answers.Waits by)) = tt
missed_prints (Some (answers.Refused number column)) = tt
missed_prints (Some (answers.TimedOut waited)) = tt
missed_prints missed = tt

pub line_prints : (client : Bool) (side : Option Side) (answer : Answer) (missed : Option Answer) → PlainAnswer answer → CanPrintAnswer (line_answer client side answer missed)
line_prints client None answer missed plain = heard_prints client answer plain
line_prints client (Some Before) answer missed plain = heard_prints client answer plain
line_prints client (Some After) answer missed plain = missed_prints missed

-- what drew a number shows it
heard_draws : (client : Bool) (answer : Answer) (n : ℕ) → DrawnAnswer (Some answer) → n < 2 ^ 64 → CanDraw (heard_answer client answer) (drawn_shown (Some n) (heard_answer client answer))
heard_draws client (answers.Ok count) n drew small = (refl, small)
heard_draws client (answers.Refused number column) n drew small = (refl, small)
heard_draws client (answers.Rows rows) n drew small = absurd drew.1
heard_draws client answer n drew small = absurd cc

missed_draws : (answer : Answer) (n : ℕ) → DrawnAnswer (Some answer) → n < 2 ^ 64 → CanDraw (missed_answer (Some answer)) (drawn_shown (Some n) (missed_answer (Some answer)))
missed_draws (answers.Ok count) n drew small = (refl, small)
missed_draws (answers.Refused number column) n drew small = tt
missed_draws (answers.Rows rows) n drew small = absurd drew.1
missed_draws answer n drew small = absurd cc

-- where the session was lost before the call was done nothing is drawn
lost_draws : (asked : Asked) (answer : Answer) → DrawnAnswer (given_at (Some Before) asked answer) → ⊥
lost_draws (Call request) answer drew = drew
lost_draws Poll answer drew = drew
lost_draws (Command word) answer drew = drew
lost_draws Cut answer drew = drew

inner_draws : (client : Bool) (side : Option Side) (asked : Asked) (given : Answer) (n : ℕ) → DrawnAnswer (given_at side asked given) → n < 2 ^ 64
    → CanDraw (line_answer client side (heard side (given_at side asked given)) (missed side (given_at side asked given))) (drawn_shown (Some n) (line_answer client side (heard side (given_at side asked given)) (missed side (given_at side asked given))))
inner_draws client (Some Before) asked given n drew small = absurd (lost_draws asked given drew)
inner_draws client None Cut given n drew small = absurd drew
inner_draws client None (Call request) given n drew small = heard_draws client given n drew small
inner_draws client None Poll given n drew small = heard_draws client given n drew small
inner_draws client None (Command word) given n drew small = heard_draws client given n drew small
inner_draws client (Some After) Cut given n drew small = absurd drew
inner_draws client (Some After) (Call request) given n drew small = missed_draws given n drew small
inner_draws client (Some After) Poll given n drew small = missed_draws given n drew small
inner_draws client (Some After) (Command word) given n drew small = missed_draws given n drew small

pub no_draw : (said : LineAnswer) → CanDraw said (drawn_shown None said)
no_draw said = tt

module _ (plan : PlanData) (plain : PlainPlan plan) (runs : IsRunnable plan) (serial : IsSerialPlan plan) where
  abbrev LinePrints : Entry → Type 0
  LinePrints entry = CanPrintAnswer (line_of entry).answer × CanDraw (line_of entry).answer (line_of entry).drawn

  turn_prints : (before : List Entry) (entry : Entry) (later : List Entry) → IsKept plan (before ++ entry ∷ later) → PlainTurn plan before entry → LinePrints entry
  unfolding inner_answer
  turn_prints before entry later kept turn = (line_prints (is_client entry.actor) entry.side entry.answer entry.missed turn.answer, by entry.draw refl) where
    given : Answer
    given = (serves (opens entry (state_at plan before)) entry.session entry.asked).answer

    said : LineAnswer
    said = line_answer (is_client entry.actor) entry.side entry.answer entry.missed

    same : said ≡ line_answer (is_client entry.actor) entry.side (heard entry.side (given_at entry.side entry.asked given)) (missed entry.side (given_at entry.side entry.asked given))
    same =
        let answered = (run_next plan before entry later kept).answered in
        ap (λ (a : Answer). line_answer (is_client entry.actor) entry.side a entry.missed) answered.answer
        ∙ ap (λ (m : Option Answer). line_answer (is_client entry.actor) entry.side (heard entry.side (given_at entry.side entry.asked given)) m) answered.missed

    by : (draw : Option ℕ) → entry.draw ≡ draw → CanDraw said (drawn_shown draw said)
    by None is = no_draw said
    by (Some n) is =
        subst (λ (s : LineAnswer). CanDraw s (drawn_shown (Some n) s)) (sym same)
        (inner_draws (is_client entry.actor) entry.side entry.asked given n (turn.drawn (ap is_some is)) (subst SmallIf is turn.draw))

  pub lines_print : (before later : List Entry) → IsKept plan (before ++ later) → IsShort (before ++ later) → AllByRecursion (λ line. CanPrintAnswer line.answer × CanDraw line.answer line.drawn) (lines_of later)
  lines_print before [] kept short = tt
  lines_print before (entry ∷ later) kept short =
      let same = append_assoc before (entry ∷ []) later in (
        turn_prints before entry later kept (turn_plain plan plain runs serial before entry later kept short),
        lines_print (before ++ entry ∷ []) later (subst (IsKept plan) (sym same) kept) (subst IsShort (sym same) short),
      )

  -- ---- the tables

  abbrev HaveRows : Database → Type 0
  HaveRows tables = AllByRecursion (λ table. AllByRecursion CanPrintRow table.rows) tables

  table_prints : (found : Option TableRows) → WhereFound (ShownTable plan plain runs serial) found → HaveRows (option_to_list found)
  table_prints None shown = tt
  table_prints (Some table) shown = (rows_print table.rows shown, tt)

  tables_print : (journal : List Entry) → IsKept plan journal → PlainRun plan journal → (some : Database) → HaveRows (flat_map (λ table. option_to_list (find_table table.schema.name (tables_at plan journal))) some)
  tables_print journal kept now [] = tt
  tables_print journal kept now (table ∷ some) =
      All-append (λ (one : TableRows). AllByRecursion CanPrintRow one.rows) (option_to_list (find_table table.schema.name (tables_at plan journal))) _
      (table_prints (find_table table.schema.name (tables_at plan journal)) (table_shown plan plain runs serial journal table.schema.name kept now)) (tables_print journal kept now some)

  pub left_print : (journal : List Entry) → IsKept plan journal → PlainRun plan journal → HaveRows (tables_left plan (tables_at plan journal))
  unfolding tables_left
  left_print journal kept now = tables_print journal kept now (filter (λ table. not (is_tool_name plan.table table.schema.name)) plan.tables)

  -- ---- the verdict

  task_prints : (task : Task) (turns : List ℕ) → SmallReason (Some (Spent task turns)) → CanPrintTask task
  task_prints (tasks.Chunk number) turns small = small
  task_prints (tasks.Batch position) turns small = small
  task_prints tasks.Setup turns small = tt
  task_prints tasks.CutOver turns small = tt

  spent_prints : (journal : List Entry) (task : Task) (turns : List ℕ) → SmallReason (moment plan journal).tool.reason → verdict_of plan journal ≡ verdicts.Reverted (causes.Spent task turns) → CanPrintTask task
  unfolding verdict_of
  spent_prints journal task turns small is = by (has_ended plan journal) (list_any is_alter (history plan journal)) (moment plan journal).tool.reason small is where
    by : (ended altered : Bool) (reason : Option Reason) → SmallReason reason
        → cond ended (cond altered verdicts.Done (reverted_by plan journal (moment plan journal).tool reason)) verdicts.Unfinished ≡ verdicts.Reverted (causes.Spent task turns) → CanPrintTask task
    by false altered reason small is = absurd cc
    by true true reason small is = absurd cc
    by true false None small is = absurd cc
    by true false (Some (Spent one tries)) small is = let same : one ≡ task = cc in subst CanPrintTask same (task_prints one tries small)
    by true false (Some (CopyUnfit turn place number)) small is = absurd cc
    by true false (Some (ApplyUnfit turn place number)) small is = absurd cc
    by true false (Some (Panicked turn)) small is = absurd cc

  -- the key of a plain row
  pub key_plain : (places : List ℕ) (row : List Value) → PlainRow row → PlainRow (key_of places row)
  unfolding key_of
  key_plain [] row plain = tt
  key_plain (place ∷ places) row plain = All-append IsPlain (option_to_list (slice_get row place)) (key_of places row) (by place row plain) (key_plain places row plain) where
    by : (place : ℕ) (row : List Value) → PlainRow row → PlainRow (option_to_list (slice_get row place))
    by place [] plain = tt
    by zero (value ∷ row) plain = (plain.0, tt)
    by (suc place) (value ∷ row) plain = by place row plain.1

  pub row_found : (found : Option TableRows) (key row : List Value) → WhereFound PlainTable found → row_in found key ≡ Some row → PlainRow row
  row_found None key row plain is = absurd cc
  row_found (Some table) key row plain is = subst PlainIfThere is (found_row (is_at (key_places table.schema) key) table.rows plain.rows)

  pub done_plain : (doing : Option Doing) → DoingIf doing → PlainRow (row_done doing)
  done_plain None plain = tt
  done_plain (Some (Putting row)) plain = plain
  done_plain (Some (Removing row)) plain = plain
  done_plain (Some (Changing before after)) plain = plain.1

  row_applied : (journal : List Entry) (phase : ToolPhase) (row : List Value) → PlainAnswers journal → applied_row journal phase ≡ Some row → PlainRow row
  row_applied journal (SettingUp setup tries) row all is = absurd cc
  row_applied journal (Migrating work) row all is = let same : row_done (doing_at journal work.applier work.applier.step) ≡ row = cc in subst PlainRow same (done_plain (doing_at journal work.applier work.applier.step) (doing_plain journal work.applier work.applier.step all))

  row_concerned : (journal : List Entry) (actor : Actor) (key row : List Value) → IsKept plan journal → PlainRun plan journal → concerned plan journal (moment plan journal) actor key ≡ Some row → PlainRow row
  row_concerned journal Copy key row kept now is =
      let server = (all_together plan journal kept.faithful kept.follows).server in
      row_found (find_table plan.table (state_at plan journal).tables) key row (found_plain plan.table (state_at plan journal).tables now.state.tables) (ap (λ (s : State). row_in (find_table plan.table s.tables) key) (sym server) ∙ is)
  row_concerned journal Apply key row kept now is = row_applied journal (moment plan journal).tool.tool_phase row now.answers is
  row_concerned journal Op key row kept now is = absurd cc
  row_concerned journal Insp key row kept now is = absurd cc
  row_concerned journal Lock key row kept now is = absurd cc
  row_concerned journal Ren key row kept now is = absurd cc
  row_concerned journal (Client c) key row kept now is = absurd cc

  unfit_prints : (journal : List Entry) (turn : ℕ) (key : List Value) (column : List ℕ) (number : ℕ) → IsKept plan journal → IsShort journal → IsUnfit plan journal turn key column number → PlainRow key
  unfit_prints journal turn key column number kept short unfit =
      let front : List Entry = take (turn - 1) journal in
      let whole : front ++ drop (turn - 1) journal ≡ journal = take_drop (turn - 1) journal in
      let front_kept : IsKept plan front = kept_front plan front (drop (turn - 1) journal) (subst (IsKept plan) (sym whole) kept) in
      let now : PlainRun plan front = all_plain plan front plain runs serial front_kept (short_front front (drop (turn - 1) journal) (subst IsShort (sym whole) short)) in
      let row : PlainRow unfit.row = row_concerned front unfit.entry.actor key unfit.row front_kept now (ap (λ (m : Moment). concerned plan front m unfit.entry.actor key) (sym unfit.is.moment) ∙ unfit.concerned) in
      subst PlainRow unfit.keyed (key_plain (key_places (old_schema plan)) unfit.row row) where
        take_drop : (n : ℕ) (all : List Entry) → take n all ++ drop n all ≡ all
        take_drop zero all = refl
        take_drop (suc n) [] = refl
        take_drop (suc n) (entry ∷ all) = ap (λ (rest : List Entry). entry ∷ rest) (take_drop n all)

  pub verdict_prints : IsAlterable plan → StoresAgain → (journal : List Entry) → IsKept plan journal → IsShort journal → PlainRun plan journal → ((cause : Cause) → verdict_of plan journal ≡ verdicts.Reverted cause → Stands plan journal cause) → HasPlainVerdict (verdict_of plan journal)
  unfolding Stands
  verdict_prints alterable again journal kept short now stands = by (verdict_of plan journal) refl where
    by : (verdict : Verdict) → verdict_of plan journal ≡ verdict → HasPlainVerdict verdict
    by verdicts.Done is = tt
    by verdicts.Unfinished is = tt
    by (verdicts.Reverted (causes.Panic turn)) is = tt
    by (verdicts.Reverted (causes.Spent task turns)) is = spent_prints journal task turns now.tool.reason is
    by (verdicts.Reverted (causes.Unfit turn key column number)) is =
        let unfit : IsUnfit plan journal turn key column number = stands (causes.Unfit turn key column number) is in
        (unfit_keyed plan alterable again runs serial journal kept turn key column number is unfit, values_print key (unfit_prints journal turn key column number kept short unfit))

-- *Values are plain*
pub values_plain : ReadPlansAreAccepted → ReadPlansAreAlterable → ReadPlansAreRunnable → ReadPlansAreSerial → AcceptedCausesStand → StoresAgain → ValuesArePlain
unfolding trace_of
values_plain accepted alterable runnable serials causes again bytes plan journal is text kept within numbered =
    let was : WasRead plan = record { bytes = bytes; is = is; text = text } in
    let limits = small_plan bytes plan is in
    let runs : IsRunnable plan = runnable plan was in
    let serial : IsSerialPlan plan = serials bytes plan is in
    let plain : PlainPlan plan = plan_plain bytes plan is (accepted bytes plan is) runs in
    let short : IsShort journal = journal_short plan journal limits kept numbered within in
    let now : PlainRun plan journal = all_plain plan journal plain runs serial kept short in
    record {
      answers = lines_print plan plain runs serial [] journal kept short;
      verdict = verdict_prints plan plain runs serial (alterable bytes plan is) again journal kept short now (λ cause verdict. causes plan journal cause was kept verdict);
      rows = left_print plan plain runs serial journal kept now;
    }
