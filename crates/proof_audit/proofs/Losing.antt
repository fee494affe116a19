-- Serial histories end in one database; and a transaction whose last line was lost has the same replies, whether that line was
-- done or not, and where it wasn't leaves the database as it was.
use Rattle.std.proofs.Common.{◌≡◌, Bool, true, false, ◌&&◌, ◌||◌, List, [], ◌∷◌, ◌++◌, refl, sym, ap, ◌∙◌, subst}
use Rattle.base_values.proofs.SchemaRules.Steps.{some_is}
use Rattle.table_store.specs.Databases.{Database}
use Rattle.base_script.specs.declared.actor.Side.{Side}
use Rattle.base_script.specs.declared.actor.Side.TheVariants.{Before, After}
use Rattle.base_script.specs.declared.script.ScriptWord.{ScriptWord}
use Rattle.server_model.specs.declared.transaction.Mark.TheVariants as marks
use Rattle.server_model.specs.declared.transaction.TxnLine.{TxnLine}
use Rattle.server_model.specs.Alone.{Ran, line_replies, line_events, lines_run, nothing_ran, is_done, is_commit, is_statement, commit_was_done, stays, outcome_if, alone}
use Rattle.server_model.specs.Operations.{after_events}
use Rattle.plan_data.specs.PlanData.{PlanData}
use Rattle.tool_program.specs.JournalWords.Histories.{HistoryItem, Past, Txn, Alter}
use Rattle.tool_program.specs.JournalWords.Serials.{Leads, Serial}

-- ---- serial histories

pub leads_to_one : (plan : PlanData) (item : HistoryItem) (before one other : Database) → Leads plan item before one → Leads plan item before other → one ≡ other
leads_to_one plan (Txn past) before one other leads too = leads.1 ∙ sym too.1
leads_to_one plan Alter before one other leads too = some_is one other (sym leads ∙ too)

-- a history leads to one database
pub serial_is_one : (plan : PlanData) (before : Database) (items : List HistoryItem) (one other : Database) → Serial plan before items one → Serial plan before items other → one ≡ other
serial_is_one plan before [] one other is too = is ∙ sym too
serial_is_one plan before (item ∷ items) one other is too =
    let between : is.0 ≡ too.0 = leads_to_one plan item before is.0 too.0 is.1 too.1 in
    serial_is_one plan too.0 items one other (subst (λ (tables : Database). Serial plan tables items one) between is.2) too.2

-- one thing more
pub serial_more : (plan : PlanData) (before : Database) (items : List HistoryItem) (item : HistoryItem) (between after : Database) → Serial plan before items between → Leads plan item between after → Serial plan before (items ++ item ∷ []) after
serial_more plan before [] item between after is leads = (after, subst (λ (tables : Database). Leads plan item tables after) is leads, refl)
serial_more plan before (first ∷ items) item between after is leads = (is.0, is.1, serial_more plan is.0 items item between after is.2 leads)

-- ---- a last line that was lost

abbrev pub lost_line : ScriptWord → Side → List TxnLine
lost_line word side = record { word = word; mark = marks.Lost side } ∷ []

and_false : (b : Bool) → (b && false) ≡ false
and_false true = refl
and_false false = refl

last_decides : (first last : TxnLine) (lines : List TxnLine) → commit_was_done first (lines ++ last ∷ []) ≡ (is_commit last.word && is_done last.mark)
last_decides first last [] = refl
last_decides first last (next ∷ lines) = last_decides next last lines

nothing_stays : (lines : List TxnLine) (word : ScriptWord) → stays (lines ++ lost_line word Before) ≡ false
nothing_stays [] word = and_false (is_statement word || is_commit word)
nothing_stays (line ∷ []) word = and_false (is_commit word)
nothing_stays (line ∷ (next ∷ lines)) word = last_decides next (record { word = word; mark = marks.Lost Before }) lines ∙ and_false (is_commit word)

-- the lines with one more
run_with : Database → Ran → TxnLine → Ran
run_with tables ran line =
    record { replies = ran.replies ++ line_replies (after_events tables ran.writes) line.word line.mark; writes = ran.writes ++ line_events (after_events tables ran.writes) line.word line.mark }

run_more : (tables : Database) (ran : Ran) (lines : List TxnLine) (line : TxnLine) → lines_run tables ran (lines ++ line ∷ []) ≡ run_with tables (lines_run tables ran lines) line
unfolding lines_run run_with
run_more tables ran [] line = refl
run_more tables ran (first ∷ lines) line = run_more tables (run_with tables ran first) lines line

lost_replies : (tables : Database) (lines : List TxnLine) (word drawn : ScriptWord) (one other : Side) → (lines_run tables nothing_ran (lines ++ lost_line word one)).replies ≡ (lines_run tables nothing_ran (lines ++ lost_line drawn other)).replies
unfolding run_with
lost_replies tables lines word drawn one other =
    ap (λ (ran : Ran). ran.replies) (run_more tables nothing_ran lines (record { word = word; mark = marks.Lost one })) ∙ sym (ap (λ (ran : Ran). ran.replies) (run_more tables nothing_ran lines (record { word = drawn; mark = marks.Lost other })))

outcome_replies : (b : Bool) (tables : Database) (ran : Ran) → (outcome_if b tables ran).replies ≡ ran.replies
outcome_replies true tables ran = refl
outcome_replies false tables ran = refl

-- it has the same replies on whichever side the line was lost, with a number or without
pub alone_replies : (tables : Database) (lines : List TxnLine) (word drawn : ScriptWord) (one other : Side) → (alone tables (lines ++ lost_line word one)).replies ≡ (alone tables (lines ++ lost_line drawn other)).replies
unfolding alone
alone_replies tables lines word drawn one other =
    outcome_replies (stays (lines ++ lost_line word one)) tables (lines_run tables nothing_ran (lines ++ lost_line word one))
    ∙ lost_replies tables lines word drawn one other
    ∙ sym (outcome_replies (stays (lines ++ lost_line drawn other)) tables (lines_run tables nothing_ran (lines ++ lost_line drawn other)))

-- where it wasn't done, nothing of the transaction stays
pub alone_leaves : (tables : Database) (lines : List TxnLine) (word : ScriptWord) → (alone tables (lines ++ lost_line word Before)).tables ≡ tables
unfolding alone
alone_leaves tables lines word = ap (λ (b : Bool). (outcome_if b tables (lines_run tables nothing_ran (lines ++ lost_line word Before))).tables) (nothing_stays lines word)

-- *A lost line that was refused*: where the transaction with its last line done leads from a database to that same database, so it
-- does with that line not done
pub refused_leads : (plan : PlanData) (one other : Past) (tables : Database) (lines : List TxnLine) (drawn word : ScriptWord) → one.txn.lines ≡ lines ++ lost_line drawn After → other.txn.lines ≡ lines ++ lost_line word Before → one.replies ≡ other.replies
    → Leads plan (Txn one) tables tables → Leads plan (Txn other) tables tables
refused_leads plan one other tables lines drawn word one_is other_is same leads = (
  sym same ∙ leads.0 ∙ ap (λ (all : List TxnLine). (alone tables all).replies) one_is ∙ alone_replies tables lines drawn word After Before ∙ sym (ap (λ (all : List TxnLine). (alone tables all).replies) other_is),
  sym (alone_leaves tables lines word) ∙ sym (ap (λ (all : List TxnLine). (alone tables all).tables) other_is),
)
