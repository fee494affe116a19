-- After the lines of a journal each client is as far as after the journal, where no client has a turn after its loss and
-- each that heard an answer heard one of a client's.
use Rattle.std.proofs.Common.{◌≡◌, ◌≢◌, ℕ, Bool, true, false, List, [], ◌∷◌, ◌++◌, cond, unwrap_or, Option, Some, None, refl, sym, ap, ◌∙◌, subst, arith}
use Rattle.std.proofs.lemmas.List.{map-append}
use Rattle.std.proofs.lemmas.List.Sums.{fold-append}
use Rattle.std.proofs.lemmas.Bool.Decides.{nat_tests}
use Rattle.base_script.specs.declared.actor.Actor.{Actor}
use Rattle.base_script.specs.declared.actor.Actor.TheVariants.{Client}
use Rattle.base_script.specs.declared.actor.Side.{Side}
use Rattle.base_script.specs.declared.actor.Side.TheVariants.{Before, After}
use Rattle.base_script.specs.declared.script.ScriptLine.{ScriptLine}
use Rattle.base_script.specs.declared.script.ScriptWord.{ScriptWord}
use Rattle.base_script.specs.declared.script.ScriptWord.TheVariants as words
use Rattle.server_model.specs.declared.transaction.Mark.TheVariants as marks
use Rattle.server_model.specs.declared.transaction.Reply.{Reply}
use Rattle.server_model.specs.declared.request.Request.{Request}
use Rattle.server_model.specs.declared.request.Request.TheVariants as requests
use Rattle.server_model.specs.declared.answer.Answer.{Answer}
use Rattle.server_model.specs.declared.answer.Answer.TheVariants as answers
use Rattle.server_model.specs.declared.entry.Asked.{Asked}
use Rattle.server_model.specs.declared.entry.Asked.TheVariants.{Call, Poll, Command, Cut}
use Rattle.server_model.specs.declared.entry.Entry.{Entry}
use Rattle.server_model.specs.Along.{Along, Along-keeps}
use Rattle.server_model.specs.Entries.{is_client, same_actor}
use Rattle.plan_data.specs.PlanData.{PlanData}
use Rattle.tool_program.specs.JournalWords.Clients.{Became, Nothing, Waits, Marked, Broken, Reached, after_turn, became, became_in, became_of, client_after, client_at, cut_off, is_inside, left_after, lines_drawn, lost_side, marked, new_client, script_of, with_draw, word_numbered}
use Rattle.run_audit.specs.declared.line.LineAsked.{LineAsked}
use Rattle.run_audit.specs.declared.line.LineAsked.TheVariants as asks
use Rattle.run_audit.specs.declared.line.LineAnswer.TheVariants as line_answers
use Rattle.run_audit.specs.declared.line.TraceLine.{TraceLine}
use Rattle.run_audit.specs.Lines.{asked_of, drawn_shown, heard_answer, missed_answer, line_answer, line_of, lines_of}
use Rattle.run_audit.specs.Rules.{became_of_line, client_after_line, client_step, client_reached, left_by, left_outside}
use Rattle.proof_journals.proofs.Linking.{client_more}

-- the answer is one that a client hears
abbrev pub IsClients : Answer → Type 0
IsClients (answers.Ok count) = Unit {0}
IsClients (answers.Rows rows) = Unit {0}
IsClients (answers.Refused number column) = Unit {0}
IsClients (answers.Waits by) = Unit {0}
IsClients (answers.TimedOut waited) = Unit {0}
IsClients answer = ⊥

-- the wait was over
abbrev pub IsTimeout : Answer → Type 0
IsTimeout (answers.TimedOut waited) = Unit {0}
IsTimeout answer = ⊥

-- no BEGIN is answered so
abbrev pub NoBegin : List ScriptLine → Answer → Type 0
NoBegin left answer = (line : ScriptLine) (lines : List ScriptLine) → left ≡ line ∷ lines → IsTimeout answer → line.word ≢ words.Begin

-- *A client's turn*: it wasn't lost before, and what it heard of a call is a client's
pub record IsClientTurn (plan : PlanData) (before : List Entry) (entry : Entry) (c : ℕ) : Type 0 where
  pub lives : (client_at plan before c).is_lost ≡ false
  pub heard : entry.asked ≢ Cut → entry.side ≡ None → IsClients entry.answer
  pub timed : entry.asked ≢ Cut → entry.side ≡ None → NoBegin (client_at plan before c).left entry.answer
  pub lost : entry.side ≡ Some Before → entry.answer ≡ answers.Lost
  pub uncut : entry.asked ≡ Cut → entry.draw ≡ None

abbrev pub AreClientTurns : PlanData → List Entry → Type 0
AreClientTurns plan journal = Along (λ before entry. (c : ℕ) → entry.actor ≡ Client c → IsClientTurn plan before entry c) [] journal

-- ---- what is left

abbrev IsTimedOut : Became → Type 0
IsTimedOut (Marked marks.TimedOut reply) = Unit {0}
IsTimedOut became = ⊥

outside_same : (word : ScriptWord) (lines : List ScriptLine) → word ≢ words.Begin → left_outside word lines ≡ lines
outside_same words.Begin lines other = absurd (other refl)
outside_same words.Commit lines other = refl
outside_same words.Rollback lines other = refl
outside_same (words.Do statement) lines other = refl

left_same : (client : Reached) (reply : Option Reply) (inside : Bool) (left : List ScriptLine) → is_inside client.lines ≡ inside → ((line : ScriptLine) (lines : List ScriptLine) → left ≡ line ∷ lines → line.word ≢ words.Begin)
    → left_by (Marked marks.TimedOut reply) inside left (marked client marks.TimedOut reply left).left ≡ (marked client marks.TimedOut reply left).left
left_same client reply true left is other = refl
left_same client reply false [] is other = refl
left_same client reply false (line ∷ lines) is other = outside_same line.word lines (other line lines refl) ∙ sym (ap (λ (b : Bool). left_after b marks.TimedOut line lines) is)

-- a run leaves the same, where no BEGIN timed out
line_same : (became : Became) (client : Reached) → (IsTimedOut became → (line : ScriptLine) (lines : List ScriptLine) → client.left ≡ line ∷ lines → line.word ≢ words.Begin) → client_after_line became client ≡ client_after became client
line_same Nothing client other = refl
line_same Waits client other = refl
line_same Broken client other = refl
line_same (Marked marks.Answered reply) client other = refl
line_same (Marked (marks.Lost side) reply) client other = refl
line_same (Marked marks.TimedOut reply) client other =
    ap (λ (left : List ScriptLine). record (client_after (Marked marks.TimedOut reply) client) { left = left }) (left_same client reply (is_inside client.lines) client.left refl (other tt))

timeout_heard : (answer : Answer) → IsTimedOut (became_of answer) → IsTimeout answer
timeout_heard (answers.TimedOut waited) is = tt
timeout_heard answer is = absurd is

cut_in_time : (waits : Bool) → IsTimedOut (cut_off waits) → ⊥
cut_in_time true is = is
cut_in_time false is = is

-- ---- one turn

-- how a line was lost decides nothing of how far the client is
after_lost : (inside : Bool) (side : Side) (line : ScriptLine) (lines : List ScriptLine) → left_after inside (marks.Lost side) line lines ≡ lines
after_lost true side line lines = refl
after_lost false side line lines = refl

lost_alike : (client : Reached) (one other : Side) (left : List ScriptLine) → marked client (marks.Lost one) None left ≡ marked client (marks.Lost other) None left
lost_alike client one other [] = refl
lost_alike client one other (line ∷ lines) =
    ap (λ (rest : List ScriptLine). record { left = rest; begun = (marked client (marks.Lost one) None (line ∷ lines)).begun; lines = []; replies = []; waits = false; is_lost = true })
    (after_lost (is_inside client.lines) one line lines ∙ sym (after_lost (is_inside client.lines) other line lines))

-- what became of a line that was lost after its call
after_alike : (client : Reached) (missed : Option Answer) (kind : LineAsked) → kind ≢ asks.Cut → client_after_line (became_of_line client.waits kind (missed_answer missed)) client ≡ client_after (Marked (marks.Lost (lost_side (Some After) missed)) None) client
after_alike client missed asks.Cut not_cut = absurd (not_cut refl)
after_alike client None asks.Call not_cut = lost_alike client After Before client.left
after_alike client (Some (answers.Waits by)) asks.Call not_cut = refl
after_alike client (Some (answers.TimedOut waited)) asks.Call not_cut = refl
after_alike client (Some (answers.Refused number column)) asks.Call not_cut = lost_alike client Before After client.left
after_alike client (Some answer) asks.Call not_cut = refl
after_alike client None asks.Rename not_cut = lost_alike client After Before client.left
after_alike client (Some (answers.Waits by)) asks.Rename not_cut = refl
after_alike client (Some (answers.TimedOut waited)) asks.Rename not_cut = refl
after_alike client (Some (answers.Refused number column)) asks.Rename not_cut = lost_alike client Before After client.left
after_alike client (Some answer) asks.Rename not_cut = refl
after_alike client None asks.Poll not_cut = lost_alike client After Before client.left
after_alike client (Some (answers.Waits by)) asks.Poll not_cut = refl
after_alike client (Some (answers.TimedOut waited)) asks.Poll not_cut = refl
after_alike client (Some (answers.Refused number column)) asks.Poll not_cut = lost_alike client Before After client.left
after_alike client (Some answer) asks.Poll not_cut = refl
after_alike client None asks.Word not_cut = lost_alike client After Before client.left
after_alike client (Some (answers.Waits by)) asks.Word not_cut = refl
after_alike client (Some (answers.TimedOut waited)) asks.Word not_cut = refl
after_alike client (Some (answers.Refused number column)) asks.Word not_cut = lost_alike client Before After client.left
after_alike client (Some answer) asks.Word not_cut = refl

-- what became of a line whose answer was heard
pub heard_alike : (waits : Bool) (answer : Answer) (kind : LineAsked) → kind ≢ asks.Cut → IsClients answer → became_of_line waits kind (heard_answer true answer) ≡ became_of answer
heard_alike waits answer asks.Cut not_cut is = absurd (not_cut refl)
heard_alike waits (answers.Ok count) asks.Call not_cut is = refl
heard_alike waits (answers.Rows rows) asks.Call not_cut is = refl
heard_alike waits (answers.Refused number column) asks.Call not_cut is = refl
heard_alike waits (answers.Waits by) asks.Call not_cut is = refl
heard_alike waits (answers.TimedOut waited) asks.Call not_cut is = refl
heard_alike waits answer asks.Call not_cut is = absurd is
heard_alike waits (answers.Ok count) asks.Rename not_cut is = refl
heard_alike waits (answers.Rows rows) asks.Rename not_cut is = refl
heard_alike waits (answers.Refused number column) asks.Rename not_cut is = refl
heard_alike waits (answers.Waits by) asks.Rename not_cut is = refl
heard_alike waits (answers.TimedOut waited) asks.Rename not_cut is = refl
heard_alike waits answer asks.Rename not_cut is = absurd is
heard_alike waits (answers.Ok count) asks.Poll not_cut is = refl
heard_alike waits (answers.Rows rows) asks.Poll not_cut is = refl
heard_alike waits (answers.Refused number column) asks.Poll not_cut is = refl
heard_alike waits (answers.Waits by) asks.Poll not_cut is = refl
heard_alike waits (answers.TimedOut waited) asks.Poll not_cut is = refl
heard_alike waits answer asks.Poll not_cut is = absurd is
heard_alike waits (answers.Ok count) asks.Word not_cut is = refl
heard_alike waits (answers.Rows rows) asks.Word not_cut is = refl
heard_alike waits (answers.Refused number column) asks.Word not_cut is = refl
heard_alike waits (answers.Waits by) asks.Word not_cut is = refl
heard_alike waits (answers.TimedOut waited) asks.Word not_cut is = refl
heard_alike waits answer asks.Word not_cut is = absurd is

pub before_alike : (waits : Bool) (answer : Answer) (missed : Option Answer) (kind : LineAsked) → kind ≢ asks.Cut → answer ≡ answers.Lost → became_of_line waits kind (line_answer true (Some Before) answer missed) ≡ Marked (marks.Lost Before) None
before_alike waits answer missed asks.Cut not_cut is = absurd (not_cut refl)
before_alike waits answer missed asks.Call not_cut is = rw is refl
before_alike waits answer missed asks.Rename not_cut is = rw is refl
before_alike waits answer missed asks.Poll not_cut is = rw is refl
before_alike waits answer missed asks.Word not_cut is = rw is refl

-- what became of the line of a call or a poll
abbrev pub became_side : Option Side → Answer → Option Answer → Became
became_side None answer missed = became_of answer
became_side (Some side) answer missed = Marked (marks.Lost (lost_side (Some side) missed)) None

call_alike : (client : Reached) (kind : LineAsked) (side : Option Side) (answer : Answer) (missed : Option Answer) → kind ≢ asks.Cut → (side ≡ None → IsClients answer) → (side ≡ None → NoBegin client.left answer) → (side ≡ Some Before → answer ≡ answers.Lost)
    → client_after_line (became_of_line client.waits kind (line_answer true side answer missed)) client ≡ client_after (became_side side answer missed) client
call_alike client kind None answer missed not_cut heard timed lost =
    ap (λ (b : Became). client_after_line b client) (heard_alike client.waits answer kind not_cut (heard refl)) ∙ line_same (became_of answer) client (λ is line lines left. timed refl line lines left (timeout_heard answer is))
call_alike client kind (Some Before) answer missed not_cut heard timed lost = ap (λ (b : Became). client_after_line b client) (before_alike client.waits answer missed kind not_cut (lost refl))
call_alike client kind (Some After) answer missed not_cut heard timed lost = after_alike client missed kind not_cut

pub request_not_cut : (request : Request) → asked_of (Call request) ≢ asks.Cut
request_not_cut (requests.Rename pairs) is = absurd cc
request_not_cut request is = absurd cc

pub side_alike : (client : Reached) (asked : Asked) (side : Option Side) (answer : Answer) (missed : Option Answer) → asked ≢ Cut → became_side side answer missed ≡ became_in client.waits asked side answer missed
side_alike client Cut side answer missed not_cut = absurd (not_cut refl)
side_alike client (Call request) None answer missed not_cut = refl
side_alike client (Call request) (Some side) answer missed not_cut = refl
side_alike client Poll None answer missed not_cut = refl
side_alike client Poll (Some side) answer missed not_cut = refl
side_alike client (Command word) None answer missed not_cut = refl
side_alike client (Command word) (Some side) answer missed not_cut = refl

turn_alike : (client : Reached) (asked : Asked) (side : Option Side) (answer : Answer) (missed : Option Answer) → (asked ≢ Cut → side ≡ None → IsClients answer) → (asked ≢ Cut → side ≡ None → NoBegin client.left answer) → (side ≡ Some Before → answer ≡ answers.Lost)
    → client_after_line (became_of_line client.waits (asked_of asked) (line_answer true side answer missed)) client ≡ client_after (became_in client.waits asked side answer missed) client
turn_alike client Cut side answer missed heard timed lost = line_same (cut_off client.waits) client (λ is. absurd (cut_in_time client.waits is))
turn_alike client (Call request) side answer missed heard timed lost =
    call_alike client (asked_of (Call request)) side answer missed (request_not_cut request) (heard (λ is. absurd cc)) (timed (λ is. absurd cc)) lost ∙ ap (λ (b : Became). client_after b client) (side_alike client (Call request) side answer missed (λ is. absurd cc))
turn_alike client Poll side answer missed heard timed lost =
    call_alike client asks.Poll side answer missed (λ is. absurd cc) (heard (λ is. absurd cc)) (timed (λ is. absurd cc)) lost ∙ ap (λ (b : Became). client_after b client) (side_alike client Poll side answer missed (λ is. absurd cc))
turn_alike client (Command word) side answer missed heard timed lost =
    call_alike client asks.Word side answer missed (λ is. absurd cc) (heard (λ is. absurd cc)) (timed (λ is. absurd cc)) lost ∙ ap (λ (b : Became). client_after b client) (side_alike client (Command word) side answer missed (λ is. absurd cc))

-- ---- with the number that its line drew

-- a line that drew isn't a BEGIN
drawn_no_begin : (number : ℕ) (answer : Answer) (left : List ScriptLine) → NoBegin left answer → NoBegin (lines_drawn number left) answer
drawn_no_begin number answer [] none line lines is over = absurd cc
drawn_no_begin number answer (first ∷ rest) none line lines is over =
    subst (λ (word : ScriptWord). word ≢ words.Begin) (first_word (record first { word = word_numbered (Some number) first.word }) line rest lines is) (by first.word (none first rest refl over)) where
      first_word : (one other : ScriptLine) (ones others : List ScriptLine) → one ∷ ones ≡ other ∷ others → one.word ≡ other.word
      first_word one other ones others same = let head : one ≡ other = cc in ap (λ (l : ScriptLine). l.word) head

      by : (word : ScriptWord) → word ≢ words.Begin → word_numbered (Some number) word ≢ words.Begin
      by words.Begin off same = off same
      by words.Commit off same = off same
      by words.Rollback off same = off same
      by (words.Do statement) off same = cc

-- a client whose line was lost is as far, whether it drew or not
lost_drawn : (client : Reached) (number : ℕ) (one other : Side) (left : List ScriptLine) → client.left ≡ left → marked client (marks.Lost one) None left ≡ marked (with_draw (Some number) client) (marks.Lost other) None (lines_drawn number left)
lost_drawn client number one other [] none = ap (λ (l : List ScriptLine). record client { left = l }) (none ∙ sym (ap (lines_drawn number) none))
lost_drawn client number one other (line ∷ lines) is =
    ap (λ (rest : List ScriptLine). record { left = rest; begun = (marked client (marks.Lost one) None (line ∷ lines)).begun; lines = []; replies = []; waits = false; is_lost = true })
    (after_lost (is_inside client.lines) one line lines ∙ sym (after_lost (is_inside client.lines) other (record line { word = word_numbered (Some number) line.word }) lines))

-- what a line says was heard or missed shows its number, but of a call that was refused and lost
pub heard_shown : (draw : Option ℕ) (answer : Answer) → drawn_shown draw (heard_answer true answer) ≡ draw
heard_shown None answer = refl
heard_shown (Some number) (answers.Ok count) = refl
heard_shown (Some number) (answers.Refused code column) = refl
heard_shown (Some number) (answers.Rows rows) = refl
heard_shown (Some number) (answers.Waits by) = refl
heard_shown (Some number) (answers.TimedOut waited) = refl
heard_shown (Some number) answers.Lost = refl
heard_shown (Some number) answer = refl

-- what became of a line whose call was refused and lost
refused_lost : (waits : Bool) (kind : LineAsked) → kind ≢ asks.Cut → became_of_line waits kind line_answers.LostRefused ≡ Marked (marks.Lost Before) None
refused_lost waits asks.Cut not_cut = absurd (not_cut refl)
refused_lost waits asks.Call not_cut = refl
refused_lost waits asks.Rename not_cut = refl
refused_lost waits asks.Poll not_cut = refl
refused_lost waits asks.Word not_cut = refl

abbrev IsAlike : Option ℕ → Reached → Bool → LineAsked → Option Side → Answer → Option Answer → Reached → Type 0
IsAlike draw client waits kind side answer missed after =
    client_after_line (became_of_line waits kind (line_answer true side answer missed)) (with_draw (drawn_shown draw (line_answer true side answer missed)) client) ≡ after

-- a turn that drew, but a loss between calls
numbered_alike : (client : Reached) (number : ℕ) (kind : LineAsked) (side : Option Side) (answer : Answer) (missed : Option Answer) → kind ≢ asks.Cut
    → client_after_line (became_of_line client.waits kind (line_answer true side answer missed)) (with_draw (Some number) client) ≡ client_after (became_side side answer missed) (with_draw (Some number) client)
    → IsAlike (Some number) client client.waits kind side answer missed (client_after (became_side side answer missed) (with_draw (Some number) client))
numbered_alike client number kind None answer missed not_cut alike =
    ap (λ (draw : Option ℕ). client_after_line (became_of_line client.waits kind (heard_answer true answer)) (with_draw draw client)) (heard_shown (Some number) answer) ∙ alike
numbered_alike client number kind (Some Before) answer missed not_cut alike =
    ap (λ (draw : Option ℕ). client_after_line (became_of_line client.waits kind (heard_answer true answer)) (with_draw draw client)) (heard_shown (Some number) answer) ∙ alike
numbered_alike client number kind (Some After) answer None not_cut alike = alike
numbered_alike client number kind (Some After) answer (Some (answers.Waits by)) not_cut alike = alike
numbered_alike client number kind (Some After) answer (Some (answers.Refused code column)) not_cut alike =
    ap (λ (b : Became). client_after_line b client) (refused_lost client.waits kind not_cut) ∙ lost_drawn client number Before After client.left refl
numbered_alike client number kind (Some After) answer (Some (answers.TimedOut waited)) not_cut alike =
    ap (λ (b : Became). client_after_line b client) (refused_lost client.waits kind not_cut) ∙ lost_drawn client number Before Before client.left refl
numbered_alike client number kind (Some After) answer (Some other) not_cut alike = alike

drawn_alike : (draw : Option ℕ) (client : Reached) (asked : Asked) (side : Option Side) (answer : Answer) (missed : Option Answer) → (asked ≢ Cut → side ≡ None → IsClients answer) → (asked ≢ Cut → side ≡ None → NoBegin client.left answer) → (side ≡ Some Before → answer ≡ answers.Lost) → (asked ≡ Cut → draw ≡ None)
    → IsAlike draw client client.waits (asked_of asked) side answer missed (client_after (became_in client.waits asked side answer missed) (with_draw draw client))
drawn_alike None client asked side answer missed heard timed lost uncut = turn_alike client asked side answer missed heard timed lost
drawn_alike (Some number) client Cut side answer missed heard timed lost uncut = let none : Some number ≡ None = uncut refl in absurd (cc none)
drawn_alike (Some number) client (Call request) side answer missed heard timed lost uncut =
    numbered_alike client number (asked_of (Call request)) side answer missed (request_not_cut request)
    (call_alike (with_draw (Some number) client) (asked_of (Call request)) side answer missed (request_not_cut request) (heard (λ is. absurd cc)) (λ none. drawn_no_begin number answer client.left (timed (λ is. absurd cc) none)) lost)
    ∙ ap (λ (b : Became). client_after b (with_draw (Some number) client)) (side_alike client (Call request) side answer missed (λ is. absurd cc))
drawn_alike (Some number) client Poll side answer missed heard timed lost uncut =
    numbered_alike client number asks.Poll side answer missed (λ is. absurd cc)
    (call_alike (with_draw (Some number) client) asks.Poll side answer missed (λ is. absurd cc) (heard (λ is. absurd cc)) (λ none. drawn_no_begin number answer client.left (timed (λ is. absurd cc) none)) lost)
    ∙ ap (λ (b : Became). client_after b (with_draw (Some number) client)) (side_alike client Poll side answer missed (λ is. absurd cc))
drawn_alike (Some number) client (Command word) side answer missed heard timed lost uncut =
    numbered_alike client number asks.Word side answer missed (λ is. absurd cc)
    (call_alike (with_draw (Some number) client) asks.Word side answer missed (λ is. absurd cc) (heard (λ is. absurd cc)) (λ none. drawn_no_begin number answer client.left (timed (λ is. absurd cc) none)) lost)
    ∙ ap (λ (b : Became). client_after b (with_draw (Some number) client)) (side_alike client (Command word) side answer missed (λ is. absurd cc))

-- ---- all turns

client_of : (actor : Actor) (c : ℕ) → actor ≡ Client c → is_client actor ≡ true
client_of actor c is = ap is_client is

pub same_client : (actor : Actor) (c : ℕ) → same_actor actor (Client c) ≡ true → actor ≡ Client c
same_client (Client n) c same = let one : n ≡ c = grind (arith, nat_tests) in ap Client one
same_client actor c same = absurd cc

pub reached_more : (plan : PlanData) (lines : List TraceLine) (line : TraceLine) (c : ℕ) → client_reached plan (lines ++ line ∷ []) c ≡ client_step c (client_reached plan lines c) line
unfolding client_reached
reached_more plan lines line c = fold-append (client_step c) (new_client (unwrap_or (script_of c plan) [])) lines (line ∷ [])

-- one client after one turn
line_alike : (client : Reached) (entry : Entry) (c : ℕ) → (entry.actor ≡ Client c → client.is_lost ≡ false) → (entry.actor ≡ Client c → entry.asked ≢ Cut → entry.side ≡ None → IsClients entry.answer) → (entry.actor ≡ Client c → entry.asked ≢ Cut → entry.side ≡ None → NoBegin client.left entry.answer) → (entry.actor ≡ Client c → entry.side ≡ Some Before → entry.answer ≡ answers.Lost)
    → (entry.actor ≡ Client c → entry.asked ≡ Cut → entry.draw ≡ None) → client_step c client (line_of entry) ≡ after_turn c client entry
line_alike client entry c lives heard timed lost uncut = by (same_actor entry.actor (Client c)) refl where
  after_line : Bool → Reached
  after_line client_is =
      client_after_line (became_of_line client.waits (asked_of entry.asked) (line_answer client_is entry.side entry.answer entry.missed)) (with_draw (drawn_shown entry.draw (line_answer client_is entry.side entry.answer entry.missed)) client)

  by : (b : Bool) → same_actor entry.actor (Client c) ≡ b → cond b (cond client.is_lost client (after_line (is_client entry.actor))) client ≡ cond b (client_after (became client entry) (with_draw entry.draw client)) client
  by false other = refl
  by true same =
      let is : entry.actor ≡ Client c = same_client entry.actor c same in
      ap (λ (b : Bool). cond b client (after_line (is_client entry.actor))) (lives is) ∙ ap after_line (client_of entry.actor c is)
      ∙ drawn_alike entry.draw client entry.asked entry.side entry.answer entry.missed (heard is) (timed is) (lost is) (uncut is)

-- *The lines tell how far clients are*
pub lines_tell_clients : (plan : PlanData) (journal : List Entry) (c : ℕ) → AreClientTurns plan journal → client_reached plan (lines_of journal) c ≡ client_at plan journal c
unfolding client_reached client_at
lines_tell_clients plan journal c turns = Along-keeps _ (λ before. client_reached plan (lines_of before) c ≡ client_at plan before c) step [] journal turns refl where
  step : (before : List Entry) (entry : Entry) → ((c : ℕ) → entry.actor ≡ Client c → IsClientTurn plan before entry c) → client_reached plan (lines_of before) c ≡ client_at plan before c
      → client_reached plan (lines_of (before ++ entry ∷ [])) c ≡ client_at plan (before ++ entry ∷ []) c
  step before entry turn same =
      ap (λ (lines : List TraceLine). client_reached plan lines c) (map-append line_of before (entry ∷ []))
      ∙ reached_more plan (lines_of before) (line_of entry) c
      ∙ ap (λ (client : Reached). client_step c client (line_of entry)) same
      ∙ line_alike (client_at plan before c) entry c (λ is. (turn c is).lives) (λ is. (turn c is).heard) (λ is. (turn c is).timed) (λ is. (turn c is).lost) (λ is. (turn c is).uncut)
      ∙ sym (client_more plan before entry c)
