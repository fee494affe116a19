-- What holds of the lines of a whole journal. (This project's rule.)
use Rattle.std.specs.Prelude.{◌≡◌, ◌≤◌, ◌<◌, ℕ, length, true, false, List, [], ◌∷◌, ◌++◌, map, is_some, Option, Some, None}
use Rattle.base_script.specs.declared.actor.Actor.{Actor}
use Rattle.base_script.specs.declared.actor.Actor.TheVariants.{Client}
use Rattle.base_script.specs.declared.actor.Side.TheVariants.{After}
use Rattle.server_model.specs.declared.answer.Answer.TheVariants.{Refused}
use Rattle.server_model.specs.declared.entry.Entry.{Entry}
use Rattle.server_model.specs.Entries.{is_client}
use Rattle.server_model.specs.States.{is_in_transaction, session_of, writes_of}
use Rattle.server_model.specs.declared.outcome.Cause.{Cause}
use Rattle.server_model.specs.declared.outcome.Verdict.TheVariants.{Done, Reverted}
use Rattle.std.specs.List.{list_any}
use Rattle.run_audit.specs.declared.trace.Audit.TheVariants.{Yes}
use Rattle.plan_data.specs.PlanData.{PlanData}
use Rattle.tool_program.specs.JournalWords.Clients.{client_at}
use Rattle.tool_program.specs.JournalWords.Histories.{entry_adds, history, is_alter}
use Rattle.tool_program.specs.JournalWords.Journals.{opens, state_at}
use Rattle.tool_program.specs.JournalWords.Serials.{IsSerial, tables_left}
use Rattle.tool_program.specs.JournalWords.Sessions.{live_session}
use Rattle.proof_journals.specs.Machine.Scripts.{ScriptsFit}
use Rattle.proof_journals.specs.Run.Kept.{IsKept}
use Rattle.tool_program.specs.Failures.{IsPanic, Stands}
use Rattle.tool_program.specs.Verdicts.{verdict_of}
use Rattle.tool_finish.specs.Finishes.{finish_verdict}
use Rattle.tool_finish.specs.WholeJournals.{finish_in, run_in, verdict_at}
use Rattle.run_audit.specs.Audits.{audited, first_other, is_panic_at, item_of, first_draws, judged, judged_in, line_at, opening_tables, tables_reached, unended, wrong_turns}
use Rattle.run_audit.specs.Lines.{line_of, lines_of, printed_table, trace_of}
use Rattle.run_audit.specs.Rules.{alters_in, client_reached, has_session, keeps_losses, keeps_script}
use Rattle.proof_audit.specs.Wholes.{HasItsCause, IsWhole}

-- *The lines tell how far clients are*.
abbrev pub LinesTellClients : Type 0
LinesTellClients = (plan : PlanData) (journal : List Entry) (c : ℕ) → ScriptsFit plan → IsKept plan journal → client_reached plan (lines_of journal) c ≡ client_at plan journal c

-- *The lines tell who has a session*.
abbrev pub LinesTellSessions : Type 0
LinesTellSessions = (plan : PlanData) (journal : List Entry) (actor : Actor) → IsKept plan journal → has_session (lines_of journal) actor ≡ is_some (live_session journal actor)

-- ... and so do those of a whole journal
abbrev pub WholeLinesTellClients : Type 0
WholeLinesTellClients = (plan : PlanData) (journal : List Entry) (c : ℕ) → ScriptsFit plan → IsWhole plan journal → client_reached plan (lines_of journal) c ≡ client_at plan journal c

abbrev pub WholeLinesTellSessions : Type 0
WholeLinesTellSessions = (plan : PlanData) (journal : List Entry) (actor : Actor) → IsWhole plan journal → has_session (lines_of journal) actor ≡ is_some (live_session journal actor)

-- *The lines keep the rules* of scripts, and in the turns that the plan allows those of losses and commands, turn by turn.
pub record KeepsRules (plan : PlanData) (before : List Entry) (entry : Entry) : Type 0 where
  pub script : keeps_script plan (lines_of before) (line_of entry) ≡ true
  pub losses : length before < plan.options.turn_limit → keeps_losses plan (lines_of before) (line_of entry) ≡ true

abbrev pub LinesKeepRules : Type 0
LinesKeepRules = (plan : PlanData) (before : List Entry) (entry : Entry) (later : List Entry) → ScriptsFit plan → IsWhole plan (before ++ entry ∷ later) → KeepsRules plan before entry

-- what a turn of the tool's adds to what is judged is what it adds to the history
abbrev pub MarksAgree : PlanData → Type 0
MarksAgree plan = (before : List Entry) (entry : Entry) → IsWhole plan (before ++ entry ∷ []) → is_client entry.actor ≡ false → map item_of (judged_in plan (lines_of before) (line_of entry) entry.actor) ≡ entry_adds plan before entry

-- a call that was refused, and whose session was lost after it, changes no table
abbrev pub RefusalsKeepTables : PlanData → Type 0
RefusalsKeepTables plan =
    (before : List Entry) (entry : Entry) (number : ℕ) (column : Option ℕ) → IsWhole plan (before ++ entry ∷ []) → entry.side ≡ Some After → entry.missed ≡ Some (Refused number column) → (state_at plan (before ++ entry ∷ [])).tables ≡ (state_at plan before).tables

-- each whole journal of the plan is serial
abbrev pub WholesAreSerial : PlanData → Type 0
WholesAreSerial plan = (journal : List Entry) → IsWhole plan journal → IsSerial plan journal

-- *The lines are serial*: no turn is wrong, and the tables that they reach are those that are left, as they are
-- printed.
pub record AreSerialLines (plan : PlanData) (journal : List Entry) : Type 0 where
  pub turns : wrong_turns plan (opening_tables plan) (judged plan (lines_of journal)) ≡ []
  pub reached : tables_reached plan (opening_tables plan) (judged plan (lines_of journal)) ≡ tables_left plan (state_at plan journal).tables
  pub printed : first_other (map printed_table (tables_left plan (state_at plan journal).tables)) (tables_reached plan (opening_tables plan) (judged plan (lines_of journal))) ≡ None

abbrev pub LinesAreSerial : Type 0
LinesAreSerial = (plan : PlanData) (journal : List Entry) → ScriptsFit plan → WholesAreSerial plan → MarksAgree plan → RefusalsKeepTables plan → IsWhole plan journal → AreSerialLines plan journal

-- *The lines end*: a run that has ended left no script that wasn't gone through, by its lines.
abbrev pub LinesEnd : Type 0
LinesEnd = (plan : PlanData) (journal : List Entry) → ScriptsFit plan → IsWhole plan journal → unended plan (trace_of plan journal (verdict_at plan journal) (state_at plan journal).tables) ≡ []

-- *The lines tell of a panic*: its turn is the operator's, and that command is panic.
abbrev pub LinesTellPanic : Type 0
LinesTellPanic = (plan : PlanData) (journal : List Entry) (turn : ℕ) → IsKept plan journal → length journal ≤ plan.options.turn_limit → IsPanic plan journal turn → is_panic_at plan (lines_of journal) turn (line_at (lines_of journal) turn) ≡ true

-- a line does the ALTER exactly where its turn adds it to the history
abbrev pub LinesTellAlters : PlanData → Type 0
LinesTellAlters plan = (before : List Entry) (entry : Entry) → IsWhole plan (before ++ entry ∷ []) → alters_in (lines_of before) (line_of entry) ≡ list_any is_alter (entry_adds plan before entry)

-- the actor is a client, whose next line draws a number with its table as it is left
abbrev pub MayDraw : PlanData → List Entry → Actor → Type 0
MayDraw plan before (Client c) = first_draws (tables_left plan (state_at plan before).tables) (client_at plan before c).left ≡ true
MayDraw plan before actor = ⊥

-- a number is drawn there alone
abbrev pub DrawsAsLeft : PlanData → Type 0
DrawsAsLeft plan = (before : List Entry) (entry : Entry) → IsWhole plan (before ++ entry ∷ []) → is_some entry.draw ≡ true → MayDraw plan before entry.actor

-- what the verdict of a new tool tells: where it is done the history has the ALTER, and where it reverted it hasn't, and the cause is in
-- the journal
pub record FinishTells (plan : PlanData) (journal : List Entry) : Type 0 where
  pub done : finish_verdict plan (run_in plan journal) (finish_in plan journal) ≡ Done → list_any is_alter (history plan journal) ≡ true
  pub reverted : (cause : Cause) → finish_verdict plan (run_in plan journal) (finish_in plan journal) ≡ Reverted cause → list_any is_alter (history plan journal) ≡ false
  pub stands : HasItsCause plan journal

-- *Serial traces are audited yes*: of a plan whose whole journals are serial, the trace of one whose cause stands and whose new tool, where
-- one came, tells of the ALTER, with its verdict and the tables at its end.
abbrev pub SerialTracesAreAudited : Type 0
SerialTracesAreAudited =
    (plan : PlanData) (journal : List Entry) → ScriptsFit plan → WholesAreSerial plan → LinesTellAlters plan → DrawsAsLeft plan → IsWhole plan journal → ((cause : Cause) → verdict_of plan (run_in plan journal) ≡ Reverted cause → Stands plan (run_in plan journal) cause) → FinishTells plan journal
    → audited plan (trace_of plan journal (verdict_at plan journal) (state_at plan journal).tables) ≡ Yes

-- a session outside a transaction has written nothing
abbrev pub IdleWroteNothing : PlanData → Type 0
IdleWroteNothing plan =
    (before : List Entry) (entry : Entry) → IsWhole plan (before ++ entry ∷ []) → is_in_transaction (session_of entry.session (opens entry (state_at plan before)).sessions) ≡ false → writes_of (session_of entry.session (opens entry (state_at plan before)).sessions) ≡ []

-- *Refusals keep tables*, where that is so.
abbrev pub RefusalsKeep : Type 0
RefusalsKeep = (plan : PlanData) → IdleWroteNothing plan → RefusalsKeepTables plan

-- *Idle sessions wrote nothing*, of every plan.
abbrev pub IdleWriteNothing : Type 0
IdleWriteNothing = (plan : PlanData) → IdleWroteNothing plan
