-- *Audited trace*: the first rule that a trace breaks, if it breaks one. What clients were answered is judged by *serial*, the
-- history being that of the lines. (This project's rule.)
use Rattle.std.specs.Prelude.{ℕ, ◌-◌, ◌==◌, nat_lt, min, Bool, true, false, not, ◌&&◌, ◌||◌, if◌then◌else◌, List, [], ◌∷◌, ◌++◌, drop, take, length, is_some, Option, Some, None}
use Rattle.std.specs.List.{list_all, slice_get}
use Rattle.std.specs.Str.{bytes_eq}
use Rattle.base_values.specs.declared.value.Value.{Value}
use Rattle.table_store.specs.Databases.{Database, TableRows, find_table}
use Rattle.base_script.specs.declared.actor.Actor.{Actor}
use Rattle.base_script.specs.declared.actor.Actor.TheVariants.{Copy, Apply, Client}
use Rattle.base_script.specs.declared.operator.OperatorWord.{OperatorWord}
use Rattle.base_script.specs.declared.operator.OperatorWord.TheVariants.{Panic}
use Rattle.base_script.specs.declared.script.ScriptLine.{ScriptLine}
use Rattle.base_script.specs.declared.script.ScriptWord.{ScriptWord}
use Rattle.base_script.specs.declared.script.ScriptWord.TheVariants as words
use Rattle.base_script.specs.declared.statement.Statement.{Statement}
use Rattle.server_model.specs.declared.outcome.Cause.{Cause}
use Rattle.server_model.specs.declared.outcome.Cause.TheVariants as causes
use Rattle.server_model.specs.declared.outcome.Verdict.{Verdict}
use Rattle.server_model.specs.declared.outcome.Verdict.TheVariants as verdicts
use Rattle.server_model.specs.declared.transaction.Reply.{Reply}
use Rattle.server_model.specs.declared.transaction.Reply.TheVariants.{Ok, Error, Rows}
use Rattle.server_model.specs.Along.{gathered}
use Rattle.server_model.specs.Alone.{alone}
use Rattle.server_model.specs.Checks.{draws}
use Rattle.server_model.specs.Entries.{same_actor}
use Rattle.server_model.specs.Operations.{table_of}
use Rattle.server_model.specs.Rows.{same_row}
use Rattle.plan_data.specs.PlanData.{PlanData}
use Rattle.tool_program.specs.JournalWords.Clients.{Became, Marked, with_draw}
use Rattle.tool_program.specs.JournalWords.Histories.{HistoryItem, Past, Txn, Alter, client_ends}
use Rattle.tool_program.specs.JournalWords.KeptPlans.{words_of}
use Rattle.tool_program.specs.JournalWords.Serials.{altered_database, tables_left}
use Rattle.run_audit.specs.Lines.{printed_table}
use Rattle.run_audit.specs.declared.line.LineAnswer.{LineAnswer}
use Rattle.run_audit.specs.declared.line.LineAnswer.TheVariants as line_answers
use Rattle.run_audit.specs.declared.line.TraceLine.{TraceLine}
use Rattle.run_audit.specs.declared.trace.Audit.{Audit}
use Rattle.run_audit.specs.declared.trace.Audit.TheVariants as audits
use Rattle.run_audit.specs.declared.trace.Trace.{Trace}
use Rattle.run_audit.specs.Rules.{alters_in, became_by, broken_turns, client_reached, commands_in, has_altered, all_are_over, is_astray, is_cut, is_loss, is_word, next_turn, turn_if}

-- ---- the history of the lines

-- what is judged: a transaction that ended, with the turns of its replies; or the ALTER, with its turn
pub data Judged : Type 0 where
  Ended : Past → List ℕ → Judged
  Altered : ℕ → Judged

abbrev pub item_of : Judged → HistoryItem
item_of (Ended past turns) = Txn past
item_of (Altered turn) = Alter

abbrev pub reply_turn : ℕ → Became → List ℕ
reply_turn turn (Marked mark (Some reply)) = turn ∷ []
reply_turn turn other = []

abbrev pub reply_turn_in : PlanData → ℕ → List TraceLine → TraceLine → List ℕ
reply_turn_in plan number before line =
    if same_actor line.actor (Client number) && not (client_reached plan before number).is_lost then reply_turn (next_turn before) (became_by (client_reached plan before number) line) else []

-- the turns in which a client got its replies
unfoldable pub reply_turns : PlanData → List TraceLine → ℕ → List ℕ
reply_turns plan lines number = gathered (reply_turn_in plan number) [] lines

-- the last of a list, so many
abbrev pub last_of : ℕ → List ℕ → List ℕ
last_of count turns = drop (length turns - count) turns

-- a transaction's replies are the last that its client got
abbrev pub judged_of : List ℕ → List HistoryItem → List Judged
judged_of turns [] = []
judged_of turns (Txn past ∷ items) = Ended past (last_of (length past.replies) turns) ∷ judged_of turns items
judged_of turns (Alter ∷ items) = judged_of turns items

abbrev pub judged_in : PlanData → List TraceLine → TraceLine → Actor → List Judged
judged_in plan before line (Client number) =
    if (client_reached plan before number).is_lost then []
    else judged_of (reply_turns plan (before ++ line ∷ []) number) (client_ends number (with_draw line.drawn (client_reached plan before number)) (became_by (client_reached plan before number) line))
judged_in plan before line actor = if alters_in before line && not (has_altered before) then Altered (next_turn before) ∷ [] else []

-- the lines before the first that is astray
unfoldable pub straight_lines : PlanData → List TraceLine → List TraceLine → List TraceLine
straight_lines plan before [] = []
straight_lines plan before (line ∷ lines) = if is_astray plan before line.asked line.actor then [] else line ∷ straight_lines plan (before ++ line ∷ []) lines

-- *What is judged*, in the order of the turns that ended it
unfoldable pub judged : PlanData → List TraceLine → List Judged
judged plan lines = gathered (λ before line. judged_in plan before line line.actor) [] (straight_lines plan [] lines)

-- ---- serial

unfoldable pub same_rows : List (List Value) → List (List Value) → Bool
same_rows [] [] = true
same_rows (row ∷ rows) (other ∷ others) = same_row row other && same_rows rows others
same_rows rows others = false

abbrev pub same_reply : Reply → Reply → Bool
same_reply (Ok count) (Ok other) = count == other
same_reply (Error number) (Error other) = number == other
same_reply (Rows rows) (Rows others) = same_rows rows others
same_reply reply other = false

-- the turns whose replies are others than these
unfoldable pub mismatches : List ℕ → List Reply → List Reply → List ℕ
mismatches turns [] [] = []
mismatches (turn ∷ turns) (reply ∷ given) (other ∷ alone) = if same_reply reply other then mismatches turns given alone else turn ∷ mismatches turns given alone
mismatches turns given alone = turns

abbrev pub after_alter : ℕ → (Database → List ℕ) → Option Database → List ℕ
after_alter turn rest None = turn ∷ []
after_alter turn rest (Some after) = rest after

-- *Wrong turns*: those whose replies aren't what their transactions have alone, one at a time; and the ALTER's, where it can't
-- be done: nothing after that is judged
unfoldable pub wrong_turns : PlanData → Database → List Judged → List ℕ
wrong_turns plan tables [] = []
wrong_turns plan tables (Ended past turns ∷ items) = mismatches turns past.replies (alone tables past.txn.lines).replies ++ wrong_turns plan (alone tables past.txn.lines).tables items
wrong_turns plan tables (Altered turn ∷ items) = after_alter turn (λ after. wrong_turns plan after items) (altered_database plan tables)

abbrev pub or_these : (Database → Database) → Database → Option Database → Database
or_these rest tables None = tables
or_these rest tables (Some after) = rest after

-- *Tables reached*
unfoldable pub tables_reached : PlanData → Database → List Judged → Database
tables_reached plan tables [] = tables
tables_reached plan tables (Ended past turns ∷ items) = tables_reached plan (alone tables past.txn.lines).tables items
tables_reached plan tables (Altered turn ∷ items) = or_these (λ after. tables_reached plan after items) tables (altered_database plan tables)

abbrev pub opening_tables : PlanData → Database
opening_tables plan = tables_left plan plan.tables

-- ---- numbers that are drawn

abbrev pub draws_in : Option TableRows → Statement → Bool
draws_in None statement = false
draws_in (Some table) statement = draws table.schema statement

abbrev pub word_draws : Database → ScriptWord → Bool
word_draws tables (words.Do statement) = draws_in (find_table (table_of statement) tables) statement
word_draws tables word = false

abbrev pub first_draws : Database → List ScriptLine → Bool
first_draws tables [] = false
first_draws tables (line ∷ lines) = word_draws tables line.word

-- *May draw*: the actor's next line draws a number, with the schema that its table has after these lines.
abbrev pub may_draw : PlanData → List TraceLine → Actor → Bool
may_draw plan before (Client number) = first_draws (tables_reached plan (opening_tables plan) (judged plan before)) (client_reached plan before number).left
may_draw plan before actor = false

-- the line has a number that no statement drew there
abbrev pub misdraws : PlanData → List TraceLine → TraceLine → Bool
misdraws plan before line = is_some line.drawn && not (may_draw plan before line.actor)

-- *Misdrawn turns*
unfoldable pub misdrawn_turns : PlanData → List TraceLine → List ℕ
misdrawn_turns plan lines = gathered (λ before line. turn_if (misdraws plan before line) before) [] lines

-- ---- the rules in their order

abbrev pub is_unfinished : Verdict → Bool
is_unfinished verdicts.Unfinished = true
is_unfinished verdict = false

-- the turn after the last, where a run that ended left a script that wasn't gone through
abbrev pub unended : PlanData → Trace → List ℕ
unended plan trace =
    if not (is_unfinished trace.verdict) && not (nat_lt plan.options.turn_limit (length trace.lines)) && not (all_are_over plan trace.lines 1 plan.clients) then next_turn trace.lines ∷ [] else []

abbrev pub least_with : ℕ → Option ℕ → Option ℕ
least_with turn None = Some turn
least_with turn (Some other) = Some (min turn other)

-- the least of these
unfoldable pub least : List ℕ → Option ℕ
least [] = None
least (turn ∷ turns) = least_with turn (least turns)

abbrev pub bad_turns : PlanData → Trace → List ℕ
bad_turns plan trace = broken_turns plan trace.lines ++ wrong_turns plan (opening_tables plan) (judged plan trace.lines) ++ misdrawn_turns plan trace.lines ++ unended plan trace

-- the first of these tables that isn't printed so, text by text, in their order; more may be printed after them
unfoldable pub first_other : List (List ℕ) → Database → Option (List ℕ)
first_other printed [] = None
first_other [] (table ∷ tables) = Some table.schema.name
first_other (text ∷ printed) (table ∷ tables) = if bytes_eq text (printed_table table) then first_other printed tables else Some table.schema.name

abbrev pub line_at : List TraceLine → ℕ → Option TraceLine
line_at lines turn = if turn == 0 then None else slice_get lines (turn - 1)

abbrev pub is_panic : Option OperatorWord → Bool
is_panic (Some Panic) = true
is_panic word = false

-- a command of the operator's, in a turn that the plan allows, and it is panic
abbrev pub is_panic_at : PlanData → List TraceLine → ℕ → Option TraceLine → Bool
is_panic_at plan lines turn None = false
is_panic_at plan lines turn (Some line) = is_word line.asked && not (nat_lt plan.options.turn_limit turn) && is_panic (slice_get (words_of plan) (commands_in (take (turn - 1) lines)))

-- a value of the copier or the applier was refused with this number
abbrev pub is_refusal : ℕ → LineAnswer → Bool
is_refusal number (line_answers.Error other) = number == other
is_refusal number said = false

abbrev pub is_mover : Actor → Bool
is_mover Copy = true
is_mover Apply = true
is_mover actor = false

abbrev pub is_unfit_at : ℕ → Option TraceLine → Bool
is_unfit_at number None = false
is_unfit_at number (Some line) = is_mover line.actor && is_refusal number line.answer

abbrev pub is_over_after : ℕ → LineAnswer → Bool
is_over_after polls (line_answers.TimedOut waited) = waited == polls
is_over_after polls said = false

abbrev pub is_apply : Actor → Bool
is_apply Apply = true
is_apply actor = false

-- a try may have failed there: a loss, a wait that was over, or a turn of the applier's
abbrev pub may_fail_at : PlanData → Option TraceLine → Bool
may_fail_at plan None = false
may_fail_at plan (Some line) = is_loss line.answer || is_cut line.asked || is_over_after plan.options.tool_wait line.answer || is_apply line.actor

abbrev pub cause_holds : PlanData → List TraceLine → Cause → Bool
cause_holds plan lines (causes.Unfit turn key column number) = is_unfit_at number (line_at lines turn)
cause_holds plan lines (causes.Spent task turns) = list_all (λ turn. may_fail_at plan (line_at lines turn)) turns
cause_holds plan lines (causes.Panic turn) = is_panic_at plan lines turn (line_at lines turn)

-- *The verdict holds*
abbrev pub verdict_holds : PlanData → List TraceLine → Verdict → Bool
verdict_holds plan lines verdicts.Done = has_altered lines
verdict_holds plan lines (verdicts.Reverted cause) = not (has_altered lines) && cause_holds plan lines cause
verdict_holds plan lines verdicts.Unfinished = true

abbrev pub first_no : Option ℕ → Option (List ℕ) → Bool → Audit
first_no (Some turn) table verdict = audits.Line turn
first_no None (Some name) verdict = audits.Table name
first_no None None false = audits.Verdict
first_no None None true = audits.Yes

-- *Audited trace*
unfoldable pub audited : PlanData → Trace → Audit
audited plan trace =
    first_no (least (bad_turns plan trace)) (first_other trace.tables (tables_reached plan (opening_tables plan) (judged plan trace.lines))) (verdict_holds plan trace.lines trace.verdict)
