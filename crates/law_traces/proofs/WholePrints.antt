-- The values in the trace of a whole journal can be printed: those of the run's turns, and those of a new tool's behind them.
use Rattle.std.proofs.Common.{◌≡◌, ℕ, ◌+◌, ◌^◌, ◌<◌, ◌≤◌, Bool, true, false, not, cond, List, [], ◌∷◌, ◌++◌, length, Option, Some, None, refl, sym, ap, ◌∙◌, subst, append_assoc, append-nil, arith}
use Rattle.std.specs.Prelude.{filter, is_some}
use Rattle.std.specs.List.{AllByRecursion, flat_map}
use Rattle.std.specs.Option.{option_to_list}
use Rattle.std.proofs.lemmas.List.{length-append, map-append, take-append-drop}
use Rattle.base_values.specs.ToolNames.{is_tool_name}
use Rattle.base_values.proofs.SchemaRules.Lists.{All-append}
use Rattle.table_store.specs.Databases.{Database, TableRows, find_table}
use Rattle.server_model.specs.Entries.{is_client}
use Rattle.server_model.specs.LockedRows.Coverage.{IsWellFormedTable}
use Rattle.server_model.specs.LockedRows.Databases.{IsWellFormedDatabase, WhereFound}
use Rattle.server_model.specs.declared.entry.Entry.{Entry}
use Rattle.plan_data.specs.PlanData.{PlanData}
use Rattle.tool_program.specs.JournalWords.Journals.{IsAnswered, IsFaithful, state_at}
use Rattle.tool_program.specs.JournalWords.Serials.{tables_left}
use Rattle.tool_program.specs.JournalWords.Sessions.{KeepsSessions}
use Rattle.tool_finish.specs.Callable.{IsFinishable}
use Rattle.tool_finish.specs.Finishes.{IsFinish, IsFinishTurn, first_live, losing, stage_behind}
use Rattle.tool_finish.specs.WholeJournals.{finish_in, run_in}
use Rattle.tool_finish.specs.declared.stage.Stage.TheVariants.{Listing, Losing}
use Rattle.proof_journals.specs.Machine.Runnable.{IsRunnable}
use Rattle.proof_journals.specs.Plans.{IsSerialPlan}
use Rattle.proof_journals.specs.Run.Kept.{IsKept}
use Rattle.proof_journals.proofs.Ghost.Turns.{along_next}
use Rattle.proof_journals.proofs.ServerTurns.Agreements.{along_front}
use Rattle.proof_migration.proofs.HeldNames.Holders.{all_held_well}
use Rattle.proof_plain.specs.Plain.{PlainAnswer, PlainDatabase, PlainTable}
use Rattle.proof_plain.specs.Plans.{IsShort, PlainPlan}
use Rattle.proof_plain.proofs.Journals.{PlainRun, all_plain}
use Rattle.proof_plain.proofs.Statements.{columns_some, found_plain, rows_length, whole_rows}
use Rattle.proof_resume.proofs.Finish.Prompt.{finishes_keep_sessions}
use Rattle.proof_audit.specs.Wholes.{AreNewTools, IsWhole, MayGoOn}
use Rattle.proof_audit.proofs.Wholes.{whole_before}
use Rattle.run_audit.specs.Lines.{drawn_shown, line_of, lines_of}
use Rattle.law_texts.specs.PrintedTraces.{CanDraw, CanPrintAnswer, CanPrintRow}
use Rattle.law_traces.specs.Printed.{tables_at}
use Rattle.law_traces.proofs.BehindPlain.{PlainBehind, PlainStage, goes_plain, said_plain}
use Rattle.law_traces.proofs.Draws.{undrawn}
use Rattle.law_traces.proofs.NewTools.{IsBehindTurn, of_stage}
use Rattle.law_traces.proofs.PlainValues.{left_print, line_prints, lines_print, no_draw, rows_print}

-- ---- tables that are left

abbrev pub HaveRows : Database → Type 0
HaveRows tables = AllByRecursion (λ table. AllByRecursion CanPrintRow table.rows) tables

found_rows : (found : Option TableRows) → WhereFound PlainTable found → WhereFound IsWellFormedTable found → HaveRows (option_to_list found)
found_rows None plain is = tt
found_rows (Some table) plain is = (rows_print table.rows (whole_rows (length table.schema.columns) table.rows (columns_some table is, rows_length table.schema.columns table.rows is.is_table.rows_fit) plain.rows), tt)

left_rows : (plan : PlanData) (tables : Database) → PlainDatabase tables → IsWellFormedDatabase tables → HaveRows (tables_left plan tables)
unfolding tables_left
left_rows plan tables plain formed = by (filter (λ table. not (is_tool_name plan.table table.schema.name)) plan.tables) where
  by : (some : Database) → HaveRows (flat_map (λ table. option_to_list (find_table table.schema.name tables)) some)
  by [] = tt
  by (table ∷ some) =
      All-append (λ (one : TableRows). AllByRecursion CanPrintRow one.rows) (option_to_list (find_table table.schema.name tables)) _
      (found_rows (find_table table.schema.name tables) (found_plain table.schema.name tables plain) (formed.each table.schema.name)) (by some)

-- ---- a new tool's turns

-- its answer is plain, and it drew nothing
abbrev pub SaysPlain : Entry → Type 0
SaysPlain entry = PlainAnswer entry.answer × (entry.draw ≡ None)

none_drawn : (draw : Option ℕ) → (is_some draw ≡ true → ⊥) → draw ≡ None
none_drawn None never = refl
none_drawn (Some number) never = absurd (never refl)

abbrev pub LinePrints : Entry → Type 0
LinePrints entry = CanPrintAnswer (line_of entry).answer × CanDraw (line_of entry).answer (line_of entry).drawn

abbrev pub LinesPrint : List Entry → Type 0
LinesPrint journal = AllByRecursion (λ line. CanPrintAnswer line.answer × CanDraw line.answer line.drawn) (lines_of journal)

says_prints : (entry : Entry) → SaysPlain entry → LinePrints entry
says_prints entry says = (
  line_prints (is_client entry.actor) entry.side entry.answer entry.missed says.0,
  subst (λ (draw : Option ℕ). CanDraw (line_of entry).answer (drawn_shown draw (line_of entry).answer)) (sym says.1) (no_draw (line_of entry).answer),
)

all_print : (turns : List Entry) → AllByRecursion SaysPlain turns → LinesPrint turns
all_print [] all = tt
all_print (entry ∷ turns) all = (says_prints entry all.0, all_print turns all.1)

abbrev pub Small : List Entry → Type 0
Small turns = AllByRecursion (λ entry. entry.session < 2 ^ 64) turns

module _ (plan : PlanData) (plain : PlainPlan plan) (runs : IsRunnable plan) (serial : IsSerialPlan plan) (run : List Entry) (kept : IsKept plan run) (run_short : IsShort run) (finishable : IsFinishable plan run) where
  abbrev pub At : List Entry → Type 0
  At turns = PlainBehind plan (run ++ turns) (stage_behind plan run turns)

  plainly : PlainRun plan run
  plainly = all_plain plan run plain runs serial kept run_short

  pub behind_begins : At []
  unfolding stage_behind
  behind_begins =
      subst (λ (journal : List Entry). PlainBehind plan journal (losing plan run)) (sym (append-nil run))
      (record { state = plainly.state; few = plainly.few; answers = plainly.answers; serving = (all_held_well plan run runs serial kept).serving; stage_is = by (is_some (first_live plan run)) }) where
        by : (b : Bool) → PlainStage plan (cond b Losing Listing)
        by true = tt
        by false = tt

  pub goes : (turns rest : List Entry) → IsFinish plan run (turns ++ rest) → IsFaithful plan (run ++ (turns ++ rest)) → IsWhole plan (run ++ (turns ++ rest)) → length (run ++ (turns ++ rest)) ≤ 2 ^ 31 → Small rest → At turns → AllByRecursion SaysPlain rest × At (turns ++ rest)
  unfolding IsFinish
  goes turns [] finish faithful whole few small now = (tt, subst At (sym (append-nil turns)) now)
  goes turns (entry ∷ rest) finish faithful whole few small now =
      let regroup : (turns ++ entry ∷ []) ++ rest ≡ turns ++ entry ∷ rest = append_assoc turns (entry ∷ []) rest in
      let all_as : (run ++ turns) ++ entry ∷ rest ≡ run ++ (turns ++ entry ∷ rest) = append_assoc run turns (entry ∷ rest) in
      let all : IsFaithful plan ((run ++ turns) ++ entry ∷ rest) = subst (IsFaithful plan) (sym all_as) faithful in
      let turn : IsFinishTurn plan run (run ++ turns) entry = along_next (IsFinishTurn plan run) run turns entry rest finish in
      let answered : IsAnswered (state_at plan (run ++ turns)) entry = along_next (λ some one. IsAnswered (state_at plan some) one) [] (run ++ turns) entry rest all in
      let front : IsFaithful plan (run ++ turns) = along_front (λ some one. IsAnswered (state_at plan some) one) [] (run ++ turns) (entry ∷ rest) all in
      let some : IsFinish plan run (turns ++ entry ∷ []) = along_front (IsFinishTurn plan run) run (turns ++ entry ∷ []) rest (subst (IsFinish plan run) (sym regroup) finish) in
      let begun : IsFinish plan run turns = along_front (IsFinishTurn plan run) run turns (entry ∷ rest) finish in
      let sessions : KeepsSessions (run ++ turns) = finishes_keep_sessions plan run turns kept.sessions begun in
      let next_whole : IsWhole plan ((run ++ turns) ++ entry ∷ []) =
      whole_before plan ((run ++ turns) ++ entry ∷ []) rest (subst (IsWhole plan) (sym (append_assoc (run ++ turns) (entry ∷ []) rest ∙ all_as)) whole) in
      let behind : IsBehindTurn plan entry = record { unlost = turn.side; its = of_stage plan (run ++ turns) entry _ turn.given } in
      let long : length ((run ++ turns) ++ entry ∷ rest) ≡ length (run ++ turns) + length (entry ∷ rest) = length-append (run ++ turns) (entry ∷ rest) in
      let same : length ((run ++ turns) ++ entry ∷ rest) ≡ length (run ++ (turns ++ entry ∷ rest)) = ap (λ (journal : List Entry). length journal) all_as in
      let short : length (run ++ turns) + 1 ≤ 2 ^ 31 = omega (arith, long, same, few) in
      let said : PlainAnswer entry.answer = said_plain plan plain run turns entry finishable front sessions some turn answered short small.0 now in
      let then : At (turns ++ entry ∷ []) =
      subst (λ (journal : List Entry). PlainBehind plan journal (stage_behind plan run (turns ++ entry ∷ []))) (append_assoc run turns (entry ∷ [])) (goes_plain plan plain run turns entry finishable front sessions some turn answered short small.0 now) in
      let later =
      goes (turns ++ entry ∷ []) rest (subst (IsFinish plan run) (sym regroup) finish) (subst (λ (t : List Entry). IsFaithful plan (run ++ t)) (sym regroup) faithful) (subst (λ (t : List Entry). IsWhole plan (run ++ t)) (sym regroup) whole)
      (subst (λ (t : List Entry). length (run ++ t) ≤ 2 ^ 31) (sym regroup) few) small.1 then in
      (((said, none_drawn entry.draw (undrawn plan (run ++ turns) entry next_whole behind)), later.0), subst At regroup later.1)

-- ---- a whole journal

pub record WholePrints (plan : PlanData) (journal : List Entry) : Type 0 where
  pub lines : LinesPrint journal
  pub rows : HaveRows (tables_left plan (tables_at plan journal))

module _ (plan : PlanData) (plain : PlainPlan plan) (runs : IsRunnable plan) (serial : IsSerialPlan plan) (run : List Entry) (kept : IsKept plan run) (run_short : IsShort run) where
  run_prints : WholePrints plan run
  run_prints = record { lines = lines_print plan plain runs serial [] run kept run_short; rows = left_print plan plain runs serial run kept (all_plain plan run plain runs serial kept run_short) }

  behind_prints : (turns : List Entry) → IsFinishable plan run → AreNewTools plan run turns → IsWhole plan (run ++ turns) → length (run ++ turns) ≤ 2 ^ 31 → Small turns → WholePrints plan (run ++ turns)
  behind_prints turns finishable are whole few small =
      let gone = goes plan plain runs serial run kept run_short finishable [] turns are.finish are.faithful whole few small (behind_begins plan plain runs serial run kept run_short finishable) in
      let now : PlainBehind plan (run ++ turns) (stage_behind plan run turns) = gone.1 in
      record {
        lines =
            subst (λ lines. AllByRecursion (λ line. CanPrintAnswer line.answer × CanDraw line.answer line.drawn) lines) (sym (map-append line_of run turns))
            (All-append (λ line. CanPrintAnswer line.answer × CanDraw line.answer line.drawn) (lines_of run) (lines_of turns) run_prints.lines (all_print turns gone.0));
        rows = left_rows plan (tables_at plan (run ++ turns)) now.state.tables now.serving.well_formed;
      }

  all_prints : (turns : List Entry) → ((entry : Entry) (some : List Entry) → turns ≡ entry ∷ some → IsFinishable plan run) → MayGoOn plan run turns → IsWhole plan (run ++ turns) → length (run ++ turns) ≤ 2 ^ 31 → Small turns → WholePrints plan (run ++ turns)
  all_prints [] finishable goes_on whole few small = subst (WholePrints plan) (sym (append-nil run)) run_prints
  all_prints (entry ∷ turns) finishable goes_on whole few small = behind_prints (entry ∷ turns) (finishable entry turns refl) goes_on whole few small

-- *A whole journal prints*
pub whole_prints : (plan : PlanData) (journal : List Entry) → PlainPlan plan → IsRunnable plan → IsSerialPlan plan → IsWhole plan journal → IsShort (run_in plan journal) → ((entry : Entry) (some : List Entry) → finish_in plan journal ≡ entry ∷ some → IsFinishable plan (run_in plan journal)) → length journal ≤ 2 ^ 31
    → AllByRecursion (λ entry. entry.session < 2 ^ 64) (finish_in plan journal) → WholePrints plan journal
whole_prints plan journal plain runs serial whole short finishable few small =
    let same : run_in plan journal ++ finish_in plan journal ≡ journal = take-append-drop plan.options.turn_limit journal in
    subst (WholePrints plan) same
    (all_prints plan plain runs serial (run_in plan journal) whole.kept short (finish_in plan journal) finishable whole.goes_on (subst (IsWhole plan) (sym same) whole) (subst (λ (all : List Entry). length all ≤ 2 ^ 31) (sym same) few) small)
