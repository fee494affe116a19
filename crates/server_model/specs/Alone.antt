-- *A transaction alone*: the lines of one ended transaction run one after the other on a database, with nobody beside it
-- (MySQL's manual, "START TRANSACTION, COMMIT, and ROLLBACK Statements"; what a lost or timed-out line does is this
-- project's rule). Lines and marks decide everything; how the transaction is said to have ended decides nothing.
use Rattle.std.specs.Prelude.{Bool, true, false, ◌&&◌, ◌||◌, List, [], ◌∷◌, ◌++◌, option_to_list, Option, Some, None}
use Rattle.base_values.specs.declared.event.RowEvent.{RowEvent}
use Rattle.base_values.specs.declared.mysql_errors.TheConstants.{ER_LOCK_WAIT_TIMEOUT}
use Rattle.table_store.specs.Databases.{Database}
use Rattle.base_script.specs.declared.actor.Side.TheVariants.{Before, After}
use Rattle.base_script.specs.declared.script.ScriptWord.{ScriptWord}
use Rattle.base_script.specs.declared.script.ScriptWord.TheVariants as words
use Rattle.server_model.specs.declared.transaction.Mark.{Mark}
use Rattle.server_model.specs.declared.transaction.Mark.TheVariants as marks
use Rattle.server_model.specs.declared.transaction.TxnLine.{TxnLine}
use Rattle.server_model.specs.declared.transaction.Reply.{Reply}
use Rattle.server_model.specs.declared.transaction.Reply.TheVariants as replies
use Rattle.server_model.specs.declared.answer.Answer.{Answer}
use Rattle.server_model.specs.declared.work.StatementResult.{StatementResult}
use Rattle.server_model.specs.declared.answer.Answer.TheVariants as answers
use Rattle.server_model.specs.Answers.{ok}
use Rattle.server_model.specs.Operations.{statement_result, after_events}

-- what a client sees of an answer; none where it isn't one of a client's
abbrev pub reply_of : Answer → Option Reply
reply_of (answers.Ok count) = Some (replies.Ok count)
reply_of (answers.Rows rows) = Some (replies.Rows rows)
reply_of (answers.Refused number column) = Some (replies.Error number)
reply_of (answers.TimedOut waited) = Some (replies.Error ER_LOCK_WAIT_TIMEOUT)
reply_of answer = None

-- what a line says: BEGIN, COMMIT and ROLLBACK are answered ok 0
abbrev pub line_says : Database → ScriptWord → StatementResult
line_says tables (words.Do statement) = statement_result tables statement
line_says tables word = record { answer = ok; events = [] }

-- what a line writes, by its mark: one that timed out or was lost before it was done does nothing
abbrev pub line_events : Database → ScriptWord → Mark → List RowEvent
line_events tables word marks.Answered = (line_says tables word).events
line_events tables word marks.TimedOut = []
line_events tables word (marks.Lost Before) = []
line_events tables word (marks.Lost After) = (line_says tables word).events

-- what a line is answered, by its mark: ER_LOCK_WAIT_TIMEOUT where it timed out, nothing where its session was lost
abbrev pub line_replies : Database → ScriptWord → Mark → List Reply
line_replies tables word marks.Answered = option_to_list (reply_of (line_says tables word).answer)
line_replies tables word marks.TimedOut = replies.Error ER_LOCK_WAIT_TIMEOUT ∷ []
line_replies tables word (marks.Lost side) = []

-- replies, and the events that were written
pub record Ran : Type 0 where
  pub replies : List Reply
  pub writes : List RowEvent

-- the lines run one after the other, on the database with what was written so far
unfoldable pub lines_run : Database → Ran → List TxnLine → Ran
lines_run tables ran [] = ran
lines_run tables ran (line ∷ lines) =
    lines_run tables
    (record { replies = ran.replies ++ line_replies (after_events tables ran.writes) line.word line.mark; writes = ran.writes ++ line_events (after_events tables ran.writes) line.word line.mark }) lines

abbrev pub nothing_ran : Ran
nothing_ran = record { replies = []; writes = [] }

-- the line was done: it was answered, or its session was lost after it
abbrev pub is_done : Mark → Bool
is_done marks.Answered = true
is_done marks.TimedOut = false
is_done (marks.Lost Before) = false
is_done (marks.Lost After) = true

abbrev pub is_commit : ScriptWord → Bool
is_commit words.Commit = true
is_commit word = false

abbrev pub is_statement : ScriptWord → Bool
is_statement (words.Do statement) = true
is_statement word = false

-- the last of the lines is a COMMIT that was done
abbrev pub commit_was_done : TxnLine → List TxnLine → Bool
commit_was_done line [] = is_commit line.word && is_done line.mark
commit_was_done line (next ∷ lines) = commit_was_done next lines

-- What a transaction wrote stays where it is a single statement that was done, or ended by a COMMIT that was done.
abbrev pub stays : List TxnLine → Bool
stays [] = false
stays (line ∷ []) = (is_statement line.word || is_commit line.word) && is_done line.mark
stays (line ∷ (next ∷ lines)) = commit_was_done next lines

-- replies, the database afterwards, and what was committed
pub record Outcome : Type 0 where
  pub replies : List Reply
  pub tables : Database
  pub committed : List RowEvent

abbrev pub outcome_if : Bool → Database → Ran → Outcome
outcome_if true tables ran = record { replies = ran.replies; tables = after_events tables ran.writes; committed = ran.writes }
outcome_if false tables ran = record { replies = ran.replies; tables = tables; committed = [] }

-- *A transaction alone*
unfoldable pub alone : Database → List TxnLine → Outcome
alone tables lines = outcome_if (stays lines) tables (lines_run tables nothing_ran lines)
