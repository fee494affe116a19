-- A client and its session go together, whatever number its line drew.
use Rattle.std.proofs.Common.{◌≡◌, ℕ, Bool, true, false, cond, List, [], ◌∷◌, ◌++◌, Option, Some, None, refl, sym, ap, ◌∙◌, subst}
use Rattle.std.proofs.lemmas.Bool.{false≢true}
use Rattle.base_script.specs.declared.actor.Side.{Side}
use Rattle.base_script.specs.declared.actor.Side.TheVariants.{Before, After}
use Rattle.base_script.specs.declared.script.ScriptLine.{ScriptLine}
use Rattle.base_script.specs.declared.script.ScriptWord.{ScriptWord}
use Rattle.base_script.specs.declared.script.ScriptWord.TheVariants as words
use Rattle.server_model.specs.declared.answer.Answer.{Answer}
use Rattle.server_model.specs.declared.answer.Answer.TheVariants as answers
use Rattle.server_model.specs.declared.entry.Asked.{Asked}
use Rattle.server_model.specs.declared.entry.Asked.TheVariants.{Call, Poll, Command, Cut}
use Rattle.server_model.specs.declared.transaction.Mark.{Mark}
use Rattle.server_model.specs.declared.transaction.Mark.TheVariants as marks
use Rattle.server_model.specs.declared.transaction.Reply.{Reply}
use Rattle.server_model.specs.declared.transaction.TxnEnd.{TxnEnd}
use Rattle.server_model.specs.declared.transaction.TxnLine.{TxnLine}
use Rattle.server_model.specs.States.{State}
use Rattle.server_model.specs.PlainServer.{serves}
use Rattle.server_model.specs.Counting.{is_answered, drawn_if}
use Rattle.tool_program.specs.JournalWords.Clients.{word_numbered, lines_drawn, with_draw, Reached, Became, Marked, became_of, became_in, is_inside, ends_with, closes, after_transaction, left_after, kept_unless, with_line, marked, client_after}
use Rattle.proof_journals.specs.Machine.Standings.{Standing}
use Rattle.proof_journals.specs.Machine.Scripts.{LinesFit}
use Rattle.proof_journals.specs.Turns.{answer_at, drawn_side}
use Rattle.proof_journals.proofs.Machine.Clients.{ClientStands}
use Rattle.proof_journals.proofs.Progress.{line_numbered}

ends_same : (inside : Bool) (n : ℕ) (word : ScriptWord) (mark : Mark) → ends_with inside (word_numbered (Some n) word) mark ≡ ends_with inside word mark
ends_same inside n words.Begin mark = refl
ends_same inside n words.Commit mark = refl
ends_same inside n words.Rollback mark = refl
ends_same true n (words.Do statement) marks.Answered = refl
ends_same false n (words.Do statement) marks.Answered = refl
ends_same inside n (words.Do statement) marks.TimedOut = refl
ends_same inside n (words.Do statement) (marks.Lost side) = refl

closes_same : (n : ℕ) (word : ScriptWord) → closes (word_numbered (Some n) word) ≡ closes word
closes_same n words.Begin = refl
closes_same n words.Commit = refl
closes_same n words.Rollback = refl
closes_same n (words.Do statement) = refl

left_same : (inside : Bool) (n : ℕ) (mark : Mark) (line : ScriptLine) (lines : List ScriptLine) → left_after inside mark (line_numbered n line) lines ≡ left_after inside mark line lines
left_same true n marks.Answered line lines = refl
left_same true n marks.TimedOut line lines = ap (λ (b : Bool). cond b lines (after_transaction lines)) (closes_same n line.word)
left_same true n (marks.Lost side) line lines = refl
left_same false n marks.Answered line lines = refl
left_same false n marks.TimedOut line lines = refl
left_same false n (marks.Lost side) line lines = refl

kept_same : (ended : Option TxnEnd) (lines : List TxnLine) (a b : TxnLine) → is_inside (kept_unless ended (lines ++ a ∷ [])) ≡ is_inside (kept_unless ended (lines ++ b ∷ []))
kept_same (Some ended) lines a b = refl
kept_same None [] a b = refl
kept_same None (line ∷ lines) a b = refl

inside_same : (client : Reached) (n : ℕ) (word : ScriptWord) (mark : Mark) → is_inside (kept_unless (ends_with (is_inside client.lines) word mark) (with_line client word mark))
    ≡ is_inside (kept_unless (ends_with (is_inside client.lines) (word_numbered (Some n) word) mark) (with_line client (word_numbered (Some n) word) mark))
inside_same client n word mark =
    kept_same (ends_with (is_inside client.lines) word mark) client.lines (record { word = word; mark = mark }) (record { word = word_numbered (Some n) word; mark = mark })
    ∙ ap (λ (e : Option TxnEnd). is_inside (kept_unless e (with_line client (word_numbered (Some n) word) mark))) (sym (ends_same (is_inside client.lines) n word mark))

marked_stands : (client : Reached) (n : ℕ) (mark : Mark) (reply : Option Reply) (standing : Standing) (left : List ScriptLine) → client.left ≡ left → ClientStands (marked client mark reply left) standing → ClientStands (marked (with_draw (Some n) client) mark reply (lines_drawn n left)) standing
marked_stands client n mark reply standing [] is stands =
    record {
      busy = stands.busy;
      locked = stands.locked;
      free = stands.free;
      held = λ waits. absurd (nothing (stands.held waits).0 (stands.held waits).1 (sym is ∙ (stands.held waits).2));
      left = λ going. subst (λ (l : List ScriptLine). LinesFit (is_inside client.lines) (lines_drawn n l)) (sym is) tt;
    }
  where
    nothing : (line : ScriptLine) (lines : List ScriptLine) → [] ≡ line ∷ lines → ⊥
    nothing line lines same = cc
marked_stands client n mark reply standing (line ∷ lines) is stands =
    record {
      busy = stands.busy ∙ inside_same client n line.word mark;
      locked = stands.locked;
      free = stands.free;
      held = λ waits. absurd (false≢true waits);
      left = λ going.
          subst (λ (b : Bool). LinesFit b (left_after (is_inside client.lines) mark (line_numbered n line) lines)) (inside_same client n line.word mark)
          (subst (LinesFit (is_inside (kept_unless (ends_with (is_inside client.lines) line.word mark) (with_line client line.word mark)))) (sym (left_same (is_inside client.lines) n mark line lines)) (stands.left going));
    }

answered_became : (answer : Answer) → is_answered answer ≡ true → (mark : Mark) × (reply : Option Reply) × (became_of answer ≡ Marked mark reply)
answered_became (answers.Ok count) is = (marks.Answered, _, refl)
answered_became (answers.Rows rows) is = (marks.Answered, _, refl)
answered_became (answers.Refused number column) is = (marks.Answered, _, refl)
answered_became (answers.Keys keys end) is = absurd (false≢true is)
answered_became (answers.Ends range) is = absurd (false≢true is)
answered_became (answers.End key) is = absurd (false≢true is)
answered_became (answers.At count) is = absurd (false≢true is)
answered_became (answers.Events events next) is = absurd (false≢true is)
answered_became (answers.Tables tables) is = absurd (false≢true is)
answered_became (answers.Waiting waiters) is = absurd (false≢true is)
answered_became (answers.Waits by) is = absurd (false≢true is)
answered_became (answers.TimedOut waited) is = absurd (false≢true is)
answered_became answers.Lost is = absurd (false≢true is)

drawn_is_answered : (answered : Bool) (offer : Option ℕ) (n : ℕ) → drawn_if answered offer ≡ Some n → answered ≡ true
drawn_is_answered true offer n is = refl
drawn_is_answered false offer n is = absurd cc

reported_became : (answer given : Answer) (asks : Option ℕ) (n : ℕ) → answer ≡ given → drawn_if (is_answered given) asks ≡ Some n → (mark : Mark) × (reply : Option Reply) × (became_of answer ≡ Marked mark reply)
reported_became answer given asks n same is = answered_became answer (ap is_answered same ∙ drawn_is_answered (is_answered given) asks n is)

drawn_marked : (waits : Bool) (side : Option Side) (state : State) (number : ℕ) (asked : Asked) (answer : Answer) (missed : Option Answer) (n : ℕ) → answer ≡ answer_at side (serves state number asked).answer → drawn_side side state number asked ≡ Some n
    → (mark : Mark) × (reply : Option Reply) × (became_in waits asked side answer missed ≡ Marked mark reply)
drawn_marked waits None state number (Call request) answer missed n same is = reported_became answer (serves state number (Call request)).answer _ n same is
drawn_marked waits None state number Poll answer missed n same is = reported_became answer (serves state number Poll).answer _ n same is
drawn_marked waits None state number (Command word) answer missed n same is = absurd cc
drawn_marked waits None state number Cut answer missed n same is = absurd cc
drawn_marked waits (Some Before) state number asked answer missed n same is = absurd cc
drawn_marked waits (Some After) state number (Call request) answer missed n same is = (_, _, refl)
drawn_marked waits (Some After) state number Poll answer missed n same is = (_, _, refl)
drawn_marked waits (Some After) state number (Command word) answer missed n same is = absurd cc
drawn_marked waits (Some After) state number Cut answer missed n same is = absurd cc

-- *A client's turn with the number that its line drew*
pub drawn_stands : (client : Reached) (draw : Option ℕ) (side : Option Side) (state : State) (number : ℕ) (asked : Asked) (answer : Answer) (missed : Option Answer) (standing : Standing) → answer ≡ answer_at side (serves state number asked).answer → draw ≡ drawn_side side state number asked
    → ClientStands (client_after (became_in client.waits asked side answer missed) client) standing → ClientStands (client_after (became_in client.waits asked side answer missed) (with_draw draw client)) standing
drawn_stands client None side state number asked answer missed standing same drew stands = stands
drawn_stands client (Some n) side state number asked answer missed standing same drew stands =
    let one = drawn_marked client.waits side state number asked answer missed n same (sym drew) in
    subst (λ (b : Became). ClientStands (client_after b (with_draw (Some n) client)) standing) (sym one.2)
    (marked_stands client n one.0 one.1 standing client.left refl (subst (λ (b : Became). ClientStands (client_after b client) standing) one.2 stands))
