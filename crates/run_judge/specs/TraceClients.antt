-- What is kept of the clients of a trace. (This project's rule.)
use Rattle.std.specs.Prelude.{◌≡◌, ◌≤◌, ◌==◌, ℕ, Bool, true, false, not, ◌&&◌, if◌then◌else◌, List, [], ◌∷◌, drop, length, Option, Some, None}
use Rattle.base_script.specs.declared.script.ScriptLine.{ScriptLine}
use Rattle.base_script.specs.declared.script.ScriptWord.{ScriptWord}
use Rattle.base_script.specs.declared.script.ScriptWord.TheVariants as words
use Rattle.server_model.specs.declared.transaction.Mark.{Mark}
use Rattle.server_model.specs.declared.transaction.Mark.TheVariants.{TimedOut}
use Rattle.server_model.specs.declared.transaction.TxnLine.{TxnLine}
use Rattle.run_actors.specs.declared.client_turns.outcome.LineOutcome.{LineOutcome}
use Rattle.run_actors.specs.declared.client_turns.outcome.LineOutcome.TheVariants.{Marked}
use Rattle.run_actors.specs.declared.client_turns.actor_state.ClientState.{ClientState}
use Rattle.run_actors.specs.ClientTurns.DrawnLines.{left_drawn}
use Rattle.tool_program.specs.JournalWords.Clients.{Reached, is_inside}
use Rattle.run_audit.specs.Audits.{Judged, Ended, last_of}
use Rattle.run_judge.specs.declared.trace_client.RepliedTxn.{RepliedTxn}
use Rattle.run_judge.specs.declared.trace_client.TraceClient.{TraceClient}
use Rattle.run_judge.specs.Replies.{replies_of, turns_of}

-- *Reached*: the state has how far the client is in this script, whose next line drew this number, where it drew one
pub record IsReachedWith (script : List ScriptLine) (drawn : Option ℕ) (state : ClientState) (client : Reached) : Type 0 where
  pub left : client.left ≡ left_drawn drawn (drop state.place script)
  pub inside : is_inside client.lines ≡ state.is_inside
  pub waits : client.waits ≡ state.waits
  pub lost : client.is_lost ≡ state.is_lost

-- the number after what became of the line: a line that got its mark stands in its transaction with it
abbrev pub drawn_after : LineOutcome → Option ℕ → Option ℕ
drawn_after (Marked mark) drawn = None
drawn_after outcome drawn = drawn

-- *Followed*: what is kept says how far the client is in its script, and has the lines of its open transaction and the replies to
-- them, which are the last of those that it got in these turns
pub record IsFollowed (script : List ScriptLine) (kept : TraceClient) (client : Reached) (turns : List ℕ) : Type 0 where
  pub reached : IsReachedWith script kept.drawn kept.state client
  pub lines : client.lines ≡ kept.txn.lines
  pub replies : client.replies ≡ replies_of kept.txn.replies
  pub turns_are : turns_of kept.txn.replies ≡ last_of (length client.replies) turns
  pub enough : length client.replies ≤ length turns
  pub idle : client.lines ≡ [] → client.replies ≡ []

-- a transaction without lines
abbrev pub no_txn : RepliedTxn
no_txn = record { lines = []; replies = [] }

-- the line that gets a mark, where one is left
abbrev pub marked_line : Mark → List ScriptLine → List TxnLine
marked_line mark [] = []
marked_line mark (line ∷ lines) = record { word = line.word; mark = mark } ∷ []

abbrev pub outcome_line : LineOutcome → List ScriptLine → List TxnLine
outcome_line (Marked mark) left = marked_line mark left
outcome_line outcome left = []

abbrev pub is_begin : ScriptWord → Bool
is_begin words.Begin = true
is_begin word = false

abbrev pub begins : List ScriptLine → Bool
begins [] = false
begins (line ∷ lines) = is_begin line.word

abbrev pub is_time_out : LineOutcome → Bool
is_time_out (Marked TimedOut) = true
is_time_out outcome = false

-- a BEGIN timed out, so that its transaction is left out
abbrev pub skips : LineOutcome → Bool → List ScriptLine → Bool
skips outcome inside left = not inside && is_time_out outcome && begins left

-- the transaction ended that was open
abbrev pub has_ended : TraceClient → Bool
has_ended kept = not kept.state.is_inside && not (length kept.txn.lines == 0)

abbrev pub ended_txn : TraceClient → Option RepliedTxn
ended_txn kept = if has_ended kept then Some kept.txn else None

abbrev pub without_ended : TraceClient → TraceClient
without_ended kept = if has_ended kept then record kept { txn = no_txn } else kept

-- what is judged is this transaction, where there is one
abbrev pub AreJudged : List Judged → Option RepliedTxn → Type 0
AreJudged [] None = Unit {0}
AreJudged (Ended past turns ∷ []) (Some txn) = (past.txn.lines ≡ txn.lines) × (past.replies ≡ replies_of txn.replies) × (turns ≡ turns_of txn.replies)
AreJudged items ended = ⊥
