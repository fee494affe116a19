-- The lines of a journal tell which actors have a session, how many turns each took, and how many commands were taken.
use Rattle.std.proofs.Common.{◌≡◌, ℕ, ◌+◌, Bool, true, false, not, ◌&&◌, List, [], ◌∷◌, ◌++◌, is_some, cond, Option, Some, None, refl, sym, ap, ◌∙◌}
use Rattle.std.specs.Prelude.{count_by}
use Rattle.std.proofs.lemmas.List.{map-append}
use Rattle.std.proofs.lemmas.List.Sums.{fold-append, sum_by-cons}
use Rattle.base_script.specs.declared.actor.Actor.{Actor}
use Rattle.base_script.specs.declared.actor.Side.{Side}
use Rattle.base_script.specs.declared.actor.Side.TheVariants.{Before, After}
use Rattle.server_model.specs.declared.request.Request.{Request}
use Rattle.server_model.specs.declared.request.Request.TheVariants as requests
use Rattle.server_model.specs.declared.answer.Answer.{Answer}
use Rattle.server_model.specs.declared.answer.Answer.TheVariants as answers
use Rattle.server_model.specs.declared.entry.Asked.{Asked}
use Rattle.server_model.specs.declared.entry.Asked.TheVariants.{Call, Poll, Command, Cut}
use Rattle.server_model.specs.declared.entry.Entry.{Entry}
use Rattle.server_model.specs.Along.{Along, Along-keeps}
use Rattle.server_model.specs.Entries.{is_client, is_command, same_actor}
use Rattle.server_model.specs.Entries as entries
use Rattle.tool_program.specs.JournalWords.Journals.{turns_of}
use Rattle.tool_program.specs.JournalWords.KeptPlans.{commands_taken}
use Rattle.tool_program.specs.JournalWords.Sessions.{live_session, session_in, session_left}
use Rattle.run_actors.proofs.More.{live_more}
use Rattle.run_audit.specs.declared.line.LineAnswer.{LineAnswer}
use Rattle.run_audit.specs.declared.line.TraceLine.{TraceLine}
use Rattle.run_audit.specs.Lines.{asked_of, heard_answer, missed_answer, line_answer, line_of, lines_of}
use Rattle.run_audit.specs.Rules.{is_cut, is_word, is_loss, keeps_session, session_step, has_session, turns_in, commands_in}

-- where a session is lost in a turn, its answer is lost
pub record IsLostRightly (entry : Entry) : Type 0 where
  pub sided : (side : Side) → entry.side ≡ Some side → entry.answer ≡ answers.Lost
  pub cut : entry.asked ≡ Cut → entry.answer ≡ answers.Lost

-- ---- one turn

pub missed_is_loss : (missed : Option Answer) → is_loss (missed_answer missed) ≡ true
missed_is_loss None = refl
missed_is_loss (Some (answers.Waits by)) = refl
missed_is_loss (Some (answers.Refused number column)) = refl
missed_is_loss (Some (answers.TimedOut waited)) = refl
missed_is_loss (Some answer) = refl

call_keeps : (request : Request) (said : LineAnswer) → keeps_session (asked_of (Call request)) said ≡ not (is_loss said)
call_keeps (requests.Rename pairs) said = refl
call_keeps request said = refl

-- an answer that was heard is a loss exactly where it is lost
heard_left : (client : Bool) (request : Request) (answer : Answer) (session : ℕ) → not (is_loss (heard_answer client answer)) ≡ is_some (session_left (Call request) answer session)
heard_left true request (answers.Rows rows) session = refl
heard_left false request (answers.Rows rows) session = refl
heard_left client request answers.Lost session = refl
heard_left client request answer session = refl

polled_left : (client : Bool) (answer : Answer) (session : ℕ) → not (is_loss (heard_answer client answer)) ≡ is_some (session_left Poll answer session)
polled_left true (answers.Rows rows) session = refl
polled_left false (answers.Rows rows) session = refl
polled_left client answers.Lost session = refl
polled_left client answer session = refl

called_left : (client : Bool) (request : Request) (side : Option Side) (answer : Answer) (missed : Option Answer) (session : ℕ) → ((one : Side) → side ≡ Some one → answer ≡ answers.Lost)
    → not (is_loss (line_answer client side answer missed)) ≡ is_some (session_left (Call request) answer session)
called_left client request None answer missed session lost = heard_left client request answer session
called_left client request (Some Before) answer missed session lost = heard_left client request answer session
called_left client request (Some After) answer missed session lost = ap not (missed_is_loss missed) ∙ sym (ap (λ (a : Answer). is_some (session_left (Call request) a session)) (lost After refl))

poll_left : (client : Bool) (side : Option Side) (answer : Answer) (missed : Option Answer) (session : ℕ) → ((one : Side) → side ≡ Some one → answer ≡ answers.Lost)
    → not (is_loss (line_answer client side answer missed)) ≡ is_some (session_left Poll answer session)
poll_left client None answer missed session lost = polled_left client answer session
poll_left client (Some Before) answer missed session lost = polled_left client answer session
poll_left client (Some After) answer missed session lost = ap not (missed_is_loss missed) ∙ sym (ap (λ (a : Answer). is_some (session_left Poll a session)) (lost After refl))

left_alike : (client : Bool) (asked : Asked) (side : Option Side) (answer : Answer) (missed : Option Answer) (session : ℕ) → ((one : Side) → side ≡ Some one → answer ≡ answers.Lost) → (asked ≡ Cut → answer ≡ answers.Lost)
    → keeps_session (asked_of asked) (line_answer client side answer missed) ≡ is_some (session_left asked answer session)
left_alike client (Call request) side answer missed session lost cut = call_keeps request (line_answer client side answer missed) ∙ called_left client request side answer missed session lost
left_alike client Poll side answer missed session lost cut = poll_left client side answer missed session lost
left_alike client (Command word) side answer missed session lost cut = refl
left_alike client Cut side answer missed session lost cut = sym (ap (λ (a : Answer). is_some (session_left Cut a session)) (cut refl))

-- ---- all turns

has_more : (lines : List TraceLine) (line : TraceLine) (actor : Actor) → has_session (lines ++ line ∷ []) actor ≡ session_step actor (has_session lines actor) line
unfolding has_session
has_more lines line actor = fold-append (session_step actor) false lines (line ∷ [])

line_alike : (entry : Entry) (actor : Actor) (old : Option ℕ) → IsLostRightly entry → session_step actor (is_some old) (line_of entry) ≡ is_some (session_in actor old entry)
line_alike entry actor old rightly = by (same_actor entry.actor actor) where
  by : (b : Bool) → cond b (keeps_session (asked_of entry.asked) (line_answer (is_client entry.actor) entry.side entry.answer entry.missed)) (is_some old) ≡ is_some (cond b (session_left entry.asked entry.answer entry.session) old)
  by true = left_alike (is_client entry.actor) entry.asked entry.side entry.answer entry.missed entry.session rightly.sided rightly.cut
  by false = refl

-- *The lines tell who has a session*
pub lines_tell_sessions : (journal : List Entry) (actor : Actor) → Along (λ before entry. IsLostRightly entry) [] journal → has_session (lines_of journal) actor ≡ is_some (live_session journal actor)
unfolding has_session live_session
lines_tell_sessions journal actor turns = Along-keeps _ (λ before. has_session (lines_of before) actor ≡ is_some (live_session before actor)) step [] journal turns refl where
  step : (before : List Entry) (entry : Entry) → IsLostRightly entry → has_session (lines_of before) actor ≡ is_some (live_session before actor) → has_session (lines_of (before ++ entry ∷ [])) actor ≡ is_some (live_session (before ++ entry ∷ []) actor)
  step before entry rightly same =
      ap (λ (lines : List TraceLine). has_session lines actor) (map-append line_of before (entry ∷ []))
      ∙ has_more (lines_of before) (line_of entry) actor
      ∙ ap (λ (old : Bool). session_step actor old (line_of entry)) same
      ∙ line_alike entry actor (live_session before actor) rightly
      ∙ sym (ap is_some (live_more before entry actor))

-- ---- counts

pub cut_alike : (asked : Asked) → is_cut (asked_of asked) ≡ entries.is_cut asked
cut_alike (Call (requests.Rename pairs)) = refl
cut_alike (Call request) = refl
cut_alike Poll = refl
cut_alike (Command word) = refl
cut_alike Cut = refl

word_alike : (asked : Asked) → is_word (asked_of asked) ≡ is_command asked
word_alike (Call (requests.Rename pairs)) = refl
word_alike (Call request) = refl
word_alike Poll = refl
word_alike (Command word) = refl
word_alike Cut = refl

counts_alike : (p : TraceLine → Bool) (q : Entry → Bool) (journal : List Entry) → ((entry : Entry) → p (line_of entry) ≡ q entry) → count_by p (lines_of journal) ≡ count_by q journal
counts_alike p q [] same = refl
counts_alike p q (entry ∷ journal) same =
    sum_by-cons (λ line. cond (p line) 1 0) (line_of entry) (lines_of journal)
    ∙ ap (λ (b : Bool). cond b 1 0 + count_by p (lines_of journal)) (same entry)
    ∙ ap (λ (n : ℕ). cond (q entry) 1 0 + n) (counts_alike p q journal same)
    ∙ sym (sum_by-cons (λ one. cond (q one) 1 0) entry journal)

-- *The lines tell how many turns each actor took*
pub lines_tell_turns : (journal : List Entry) (actor : Actor) → turns_in actor (lines_of journal) ≡ turns_of actor journal
lines_tell_turns journal actor = counts_alike (λ line. same_actor line.actor actor && not (is_cut line.asked)) (λ entry. same_actor entry.actor actor && not (entries.is_cut entry.asked)) journal
    (λ entry. ap (λ (b : Bool). same_actor entry.actor actor && not b) (cut_alike entry.asked))

-- *The lines tell how many commands were taken*
pub lines_tell_commands : (journal : List Entry) → commands_in (lines_of journal) ≡ commands_taken journal
lines_tell_commands journal = counts_alike (λ line. is_word line.asked) (λ entry. is_command entry.asked) journal (λ entry. word_alike entry.asked)
