-- What a client's session hears is an answer of a line; what its entry has is so.
use Rattle.proof_journals.proofs.Serves.{filled_word, filled_asks}
use Rattle.std.proofs.Common.{◌≡◌, ℕ, Bool, true, false, Option, Some, None, refl, sym, ap, ◌∙◌, subst}
use Rattle.base_script.specs.declared.actor.Side.{Side}
use Rattle.base_script.specs.declared.actor.Side.TheVariants.{Before, After}
use Rattle.base_script.specs.declared.script.ScriptWord.{ScriptWord}
use Rattle.base_script.specs.declared.script.ScriptWord.TheVariants as words
use Rattle.server_model.specs.declared.answer.Answer.{Answer}
use Rattle.server_model.specs.declared.answer.Answer.TheVariants as answers
use Rattle.server_model.specs.declared.entry.Asked.{Asked}
use Rattle.server_model.specs.declared.entry.Asked.TheVariants.{Call, Poll, Command, Cut}
use Rattle.server_model.specs.declared.need.Need.{Need}
use Rattle.server_model.specs.declared.request.Request.{Request}
use Rattle.server_model.specs.declared.request.Request.TheVariants as requests
use Rattle.server_model.specs.declared.session.Waiting.{Waiting}
use Rattle.server_model.specs.declared.transaction.Mark.TheVariants as marks
use Rattle.server_model.specs.declared.work.StatementResult.{StatementResult}
use Rattle.server_model.specs.Operations.{statement_result}
use Rattle.server_model.specs.States.{State, session_of, is_in_transaction, view, waiting_of}
use Rattle.server_model.specs.Blockers.{need, need_within, blocker}
use Rattle.server_model.specs.Effects.{result_effect, effect_within, effect_unless, is_outside}
use Rattle.server_model.specs.PlainServer.{does, done, did, called_unless, calls, is_over, polled_over, polled_unless, polled_of, polls, serves, without_waiting}
use Rattle.tool_program.specs.JournalWords.Journals.{may_lose}
use Rattle.tool_program.specs.JournalWords.Clients.{Reached, lost_side, word_asks}
use Rattle.proof_journals.specs.Turns.{answer_at, missed_at, was_given, mark_lost, request_of}
use Rattle.proof_journals.proofs.Replies.{IsReply, line_replies_so}
use Rattle.proof_journals.proofs.Progress.{IsLineAnswer, HeardSo, Heard, CutOff, LostAt, AsksNext, Calls, Polls, IsCut, LineWaits, not_waiting}

reply_line : (answer : Answer) → IsReply answer → IsLineAnswer answer
reply_line (answers.Ok count) is = tt
reply_line (answers.Rows rows) is = tt
reply_line (answers.Refused number column) is = tt
reply_line other is = absurd is

result_reply : (busy : Bool) (need : Need) (result : StatementResult) (state : State) (number : ℕ) → IsReply result.answer → IsReply (does (result_effect busy need result) state number).answer
result_reply true need result state number is = is
result_reply false need result state number is = is

within_reply : (state : State) (number : ℕ) (word : ScriptWord) → IsReply (does (effect_within (is_in_transaction (session_of number state.sessions)) (view number state) state (word_asks word)) state number).answer
within_reply state number words.Begin = tt
within_reply state number words.Commit = tt
within_reply state number words.Rollback = tt
within_reply state number (words.Do statement) =
    result_reply (is_in_transaction (session_of number state.sessions)) (need_within (view number state) (requests.Do statement)) (statement_result (view number state) statement) state number (line_replies_so (view number state) (words.Do statement))

did_reply : (state : State) (number : ℕ) (word : ScriptWord) → IsReply (did state number (word_asks word)).answer
unfolding did
did_reply state number word = at (is_outside (session_of number state.sessions) (word_asks word)) where
  at : (b : Bool) → IsReply (does (effect_unless b (is_in_transaction (session_of number state.sessions)) (view number state) state (word_asks word)) state number).answer
  at true = tt
  at false = within_reply state number word

done_reply : (state : State) (number : ℕ) (word : ScriptWord) → IsReply (done state number (word_asks word)).answer
done_reply state number word = subst (λ (r : Request). IsReply (did state number r).answer) (sym (filled_asks state number word)) (did_reply state number (filled_word state number word))

called_line : (state : State) (number : ℕ) (word : ScriptWord) → IsLineAnswer (calls state number (word_asks word)).answer
unfolding calls
called_line state number word = at (blocker state number (need state number (word_asks word))) where
  at : (by : Option ℕ) → IsLineAnswer (called_unless by state number (word_asks word)).answer
  at None = reply_line (done state number (word_asks word)).answer (done_reply state number word)
  at (Some by) = tt

polled_line : (state : State) (number : ℕ) (word : ScriptWord) → request_of (waiting_of number state.waiting) ≡ Some (word_asks word) → IsLineAnswer (polls state number).answer
unfolding polls
polled_line state number word is = at (waiting_of number state.waiting) is where
  over : (b : Bool) (by : ℕ) → IsLineAnswer (polled_over b by state number).answer
  over true by = tt
  over false by = tt

  each : (request : Request) → request ≡ word_asks word → (by : Option ℕ) → IsLineAnswer (polled_unless by state number request).answer
  each request same None = subst (λ (r : Request). IsLineAnswer (done (without_waiting number state) number r).answer) (sym same) (reply_line (done (without_waiting number state) number (word_asks word)).answer (done_reply (without_waiting number state) number word))
  each request same (Some by) = over (is_over state number) by

  at : (waiting : Option Waiting) → request_of waiting ≡ Some (word_asks word) → IsLineAnswer (polled_of waiting state number).answer
  at None none = absurd (cc)
  at (Some waiting) some = each waiting.request (cc) (blocker state number (need state number waiting.request))

-- the server's answer to what a client asks is a line's
given_line : (state : State) (number : ℕ) (client : Reached) (asked : Asked) → (asked ≡ Cut → ⊥) → LineWaits client (request_of (waiting_of number state.waiting)) → AsksNext client asked → IsLineAnswer (serves state number asked).answer
given_line state number client asked called waits (Calls line lines free left asks) = subst (λ (a : Asked). IsLineAnswer (serves state number a).answer) (sym asks) (called_line state number line.word)
given_line state number client asked called waits (Polls held asks) =
    not_waiting client (request_of (waiting_of number state.waiting)) _ waits held (λ line lines left some. subst (λ (a : Asked). IsLineAnswer (serves state number a).answer) (sym asks) (polled_line state number line.word some))
given_line state number client asked called waits (IsCut asks) = absurd (called asks)

missed_so : (given : Answer) → IsLineAnswer given → mark_lost (was_given (Some given)) ≡ marks.Lost (lost_side (Some After) (Some given))
missed_so (answers.Ok count) is = refl
missed_so (answers.Rows rows) is = refl
missed_so (answers.Refused number column) is = refl
missed_so (answers.Waits by) is = refl
missed_so (answers.TimedOut waited) is = refl
missed_so other is = absurd is

not_cut : (asked : Asked) → may_lose asked ≡ true → asked ≡ Cut → ⊥
not_cut (Call request) may same = cc
not_cut Poll may same = cc
not_cut (Command word) may same = cc
not_cut Cut may same = cc

-- what a client's entry has
pub heard_so : (state : State) (number : ℕ) (client : Reached) (side : Option Side) (asked : Asked) (answer : Answer) (missed : Option Answer) → (may_lose asked ≡ false → side ≡ None)
    → answer ≡ answer_at side (serves state number asked).answer → missed ≡ missed_at side (serves state number asked).answer → LineWaits client (request_of (waiting_of number state.waiting)) → AsksNext client asked → HeardSo side asked answer missed
heard_so state number client side asked answer missed sides is also waits asks = by asked refl side refl where
  line : (asked ≡ Cut → ⊥) → IsLineAnswer (serves state number asked).answer
  line called = given_line state number client asked called waits asks

  side_by : (asked ≡ Cut → ⊥) → (s : Option Side) → side ≡ s → HeardSo side asked answer missed
  side_by called None none = Heard none (subst IsLineAnswer (sym (is ∙ ap (λ (s : Option Side). answer_at s (serves state number asked).answer) none)) (line called))
  side_by called (Some Before) some =
      LostAt Before called some (is ∙ ap (λ (s : Option Side). answer_at s (serves state number asked).answer) some)
      (record { same = ap (λ (m : Option Answer). mark_lost (was_given m)) (also ∙ ap (λ (s : Option Side). missed_at s (serves state number asked).answer) some) })
  side_by called (Some After) some =
      LostAt After called some (is ∙ ap (λ (s : Option Side). answer_at s (serves state number asked).answer) some)
      (record { same = subst (λ (m : Option Answer). mark_lost (was_given m) ≡ marks.Lost (lost_side (Some After) m)) (sym (also ∙ ap (λ (s : Option Side). missed_at s (serves state number asked).answer) some)) (missed_so (serves state number asked).answer (line called)) })

  by : (a : Asked) → asked ≡ a → (s : Option Side) → side ≡ s → HeardSo side asked answer missed
  by Cut cut s same = CutOff (sides (ap may_lose cut)) cut
  by (Call request) call s same = side_by (λ cut. not_cut (Call request) refl (sym call ∙ cut)) s same
  by Poll call s same = side_by (λ cut. not_cut Poll refl (sym call ∙ cut)) s same
  by (Command word) call s same = side_by (λ cut. command_cut (sym call ∙ cut)) s same where
    command_cut : Command word ≡ Cut → ⊥
    command_cut both = cc
