-- Worked traces, and what an audit answers of them: of the trace of a run yes; and of one in which something else is written, the
-- first that is wrong.
use Rattle.std.proofs.Common.{◌≡◌, ℕ, ◌+◌, pos, Bool, true, false, List, [], ◌∷◌, ◌++◌, take, drop, None, refl, codes}
use Rattle.base_values.specs.declared.value.Value.TheVariants.{Num}
use Rattle.base_values.specs.declared.kind.Kind.TheVariants.{Int}
use Rattle.table_store.specs.Databases.{Database}
use Rattle.base_script.specs.declared.actor.Actor.TheVariants.{Client}
use Rattle.base_script.specs.declared.script.ScriptWord.TheVariants as words
use Rattle.base_script.specs.declared.statement.Statement.TheVariants as statements
use Rattle.server_model.specs.declared.request.Request.TheVariants as requests
use Rattle.server_model.specs.declared.answer.Answer.TheVariants as answers
use Rattle.server_model.specs.declared.entry.Entry.{Entry}
use Rattle.server_model.specs.declared.entry.Asked.TheVariants.{Call}
use Rattle.server_model.specs.declared.outcome.Cause.TheVariants as causes
use Rattle.server_model.specs.declared.outcome.Verdict.TheVariants as verdicts
use Rattle.plan_data.specs.PlanData.{PlanData}
use Rattle.tool_program.specs.JournalWords.Journals.{state_at}
use Rattle.tool_program.specs.Verdicts.{verdict_of}
use Rattle.run_audit.specs.declared.line.LineAnswer.{LineAnswer}
use Rattle.run_audit.specs.declared.line.LineAnswer.TheVariants as line_answers
use Rattle.run_audit.specs.declared.line.TraceLine.{TraceLine}
use Rattle.run_audit.specs.declared.trace.Audit.TheVariants.{Yes, Line, Table, Verdict as NoVerdict}
use Rattle.run_audit.specs.declared.trace.Trace.{Trace}
use Rattle.run_audit.specs.Audits as z0
use Rattle.run_audit.specs.Audits.{audited}
use Rattle.run_audit.specs.Lines as z1
use Rattle.run_audit.specs.Lines.{lines_of, trace_of}
use Rattle.run_audit.specs.Rules as z2
use Rattle.test_worked.proofs.Computing.{computing}
use Rattle.test_worked.proofs.Reports.{printing}
use Rattle.test_worked.proofs.SmallPlans1.{plan_after_chunk, journal_after_chunk, plan_lost_lock, journal_lost_lock, plan_one_try, journal_one_try}
use Rattle.test_worked.proofs.SmallPlans2.{plan_panic, journal_panic}

-- what a proof by computing opens of an audit
unfoldable auditing : Bool
unfolding z0.reply_turns z0.straight_lines z0.judged z0.same_rows z0.mismatches z0.wrong_turns z0.tables_reached z0.least z0.first_other z0.audited z1.trace_of z2.client_reached z2.all_are_over z2.has_session z2.due_cut_among z2.has_renamed z2.alter_turns z2.broken_turns z0.misdrawn_turns
auditing = true

-- the trace of a run
abbrev traced : PlanData → List Entry → Trace
traced plan journal = trace_of plan journal (verdict_of plan journal) (state_at plan journal).tables

-- it with another answer in one turn
abbrev answer_first : LineAnswer → List TraceLine → List TraceLine
answer_first answer [] = []
answer_first answer (line ∷ lines) = record line { answer = answer } ∷ lines

abbrev with_answer : ℕ → LineAnswer → Trace → Trace
with_answer before answer trace = record trace { lines = take before trace.lines ++ answer_first answer (drop before trace.lines) }

-- it without one turn
abbrev without_line : ℕ → Trace → Trace
without_line before trace = record trace { lines = take before trace.lines ++ drop (before + 1) trace.lines }

-- ---- one turn of a client's

-- a client's INSERT into an empty table, in the one turn that the plan allows
abbrev empty_table : Database
empty_table = record { schema = record { name = codes "t"; columns = (record { name = codes "id"; kind = Int 4 false; nullable = false; default = None; auto = false } ∷ []); uniques = (record { name = None; places = (0 ∷ []) } ∷ []); indexes = []; comment = []; start = None }; rows = [] } ∷ []

abbrev plan_one_turn : PlanData
plan_one_turn = record plan_after_chunk {
  tables = empty_table;
  clients = ((record { line = 1; word = (words.Do (statements.Insert (codes "t") None ((Num (pos 4)) ∷ []) None)) } ∷ []) ∷ []);
  options = record (plan_after_chunk.options) { turn_limit = 1 };
}

abbrev journal_one_turn : List Entry
journal_one_turn = record { actor = (Client 1); session = 1; asked = Call (requests.Do (statements.Insert (codes "t") None ((Num (pos 4)) ∷ []) None)); side = None; answer = answers.Ok 1; missed = None; draw = None } ∷ []

yes_one_turn : audited plan_one_turn (traced plan_one_turn journal_one_turn) ≡ Yes
unfolding computing printing auditing
yes_one_turn = refl

other_table : audited plan_one_turn (record (traced plan_one_turn journal_one_turn) { tables = codes "table t (id)\n(5)\n" ∷ [] }) ≡ Table (codes "t")
unfolding computing printing auditing
other_table = refl

other_count : audited plan_one_turn (with_answer 0 (line_answers.Ok 2) (traced plan_one_turn journal_one_turn)) ≡ Line 1
unfolding computing printing auditing
other_count = refl

-- ---- whole runs

yes_after_chunk : audited plan_after_chunk (traced plan_after_chunk journal_after_chunk) ≡ Yes
unfolding computing printing auditing
yes_after_chunk = refl

-- the client's DELETE, which waited, is answered by another count
other_reply : audited plan_after_chunk (with_answer 11 (line_answers.Ok 2) (traced plan_after_chunk journal_after_chunk)) ≡ Line 12
unfolding computing printing auditing
other_reply = refl

-- its session was lost before the DELETE was done: then its row would be left
lost_reply : audited plan_after_chunk (with_answer 11 line_answers.Lost (traced plan_after_chunk journal_after_chunk)) ≡ Table (codes "t")
unfolding computing printing auditing
lost_reply = refl

-- its poll is left out: the run ended, and it is still waiting
no_poll : audited plan_after_chunk (without_line 11 (traced plan_after_chunk journal_after_chunk)) ≡ Line 28
unfolding computing printing auditing
no_poll = refl

other_verdict : audited plan_after_chunk (record (traced plan_after_chunk journal_after_chunk) { verdict = verdicts.Reverted (causes.Panic 1) }) ≡ NoVerdict
unfolding computing printing auditing
other_verdict = refl

yes_lost_lock : audited plan_lost_lock (traced plan_lost_lock journal_lost_lock) ≡ Yes
unfolding computing printing auditing
yes_lost_lock = refl

yes_one_try : audited plan_one_try (traced plan_one_try journal_one_try) ≡ Yes
unfolding computing printing auditing
yes_one_try = refl

yes_panic : audited plan_panic (traced plan_panic journal_panic) ≡ Yes
unfolding computing printing auditing
yes_panic = refl
