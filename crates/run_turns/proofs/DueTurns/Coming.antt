-- What comes with a turn that is due: whose it is, what is asked, and in which session.
use Rattle.std.proofs.Common.{◌≡◌, ℕ, ◌+◌, ◌==◌, Bool, true, false, ◌&&◌, List, [], ◌∷◌, length, cond, Option, Some, None, refl, sym, ap, ◌∙◌, subst}
use Rattle.std.specs.Prelude.{is_some}
use Rattle.std.specs.List.{slice_get}
use Rattle.std.proofs.lemmas.Bool.{false≢true}
use Rattle.std.proofs.lemmas.Option.{same_Some}
use Rattle.base_script.specs.declared.actor.Actor.{Actor}
use Rattle.base_script.specs.declared.actor.Actor.TheVariants.{Op, Insp, Copy, Apply, Lock, Ren, Client}
use Rattle.base_script.specs.declared.loss.Loss.{Loss}
use Rattle.base_script.specs.declared.loss.Loss.TheVariants.{Nth, Turn as AtTurn}
use Rattle.base_script.specs.declared.operator.OperatorWord.{OperatorWord}
use Rattle.base_script.specs.declared.script.ScriptLine.{ScriptLine}
use Rattle.server_model.specs.declared.entry.Asked.{Asked}
use Rattle.server_model.specs.declared.entry.Asked.TheVariants.{Call, Poll, Command, Cut}
use Rattle.server_model.specs.declared.entry.Entry.{Entry}
use Rattle.server_model.specs.declared.request.Request.{Request}
use Rattle.server_model.specs.Entries.{is_cut}
use Rattle.plan_data.specs.PlanData.{PlanData}
use Rattle.tool_program.specs.JournalWords.Clients.{client_at, line_asks, client_asks}
use Rattle.tool_program.specs.JournalWords.Journals.{turns_of, may_lose}
use Rattle.tool_program.specs.JournalWords.KeptPlans.{words_of, or_first, cut_by, cut_among, cut_due, struck_among, side_due}
use Rattle.tool_program.specs.JournalWords.Sessions.{live_session}
use Rattle.tool_program.specs.Tools.{moment}
use Rattle.tool_program.specs.Programs.{waits, tool_call, calls, commands, tool_asks, given}
use Rattle.run_turns.specs.declared.due_turns.migration_run.turn.Turn.{Turn}
use Rattle.run_turns.specs.DueTurns.Due.{own_turn, given_turn, cut_turn, due_by, due}

-- a turn that is due: a session is lost between calls, or what is given to the actor is asked
pub data Comes (plan : PlanData) (journal : List Entry) (actor : Actor) (turn : Turn) : Type 0 where
  Cuts : cut_due plan journal ≡ Some turn.actor → turn.side ≡ None → turn.asked ≡ Cut → Comes plan journal actor turn
  Gives : cut_due plan journal ≡ None → turn.actor ≡ actor → given plan journal turn.actor ≡ Some turn.asked → turn.side ≡ side_due plan journal turn.actor → Comes plan journal actor turn

pub comes : (plan : PlanData) (journal : List Entry) (actor : Actor) (turn : Turn) → due plan journal actor ≡ Some turn → Comes plan journal actor turn
unfolding due
comes plan journal actor turn is = by (cut_due plan journal) refl is
  where
    gives : (asked : Option Asked) → cut_due plan journal ≡ None → given plan journal actor ≡ asked → given_turn plan journal actor asked ≡ Some turn → Comes plan journal actor turn
    gives None none given_so same = absurd (cc)
    gives (Some asked) none given_so same = subst (Comes plan journal actor) (same_Some (own_turn plan journal actor asked) turn same) (Gives none refl given_so refl)

    by : (cut : Option Actor) → cut_due plan journal ≡ cut → due_by plan journal actor cut ≡ Some turn → Comes plan journal actor turn
    by (Some other) at same = subst (Comes plan journal actor) (same_Some (cut_turn other) turn same) (Cuts at refl refl)
    by None none same = gives (given plan journal actor) none refl same

-- WHAT IS GIVEN IS A CALL, A POLL OR A COMMAND

line_called : (waiting : Bool) (left : List ScriptLine) (asked : Asked) → line_asks waiting left ≡ Some asked → may_lose asked ≡ true
line_called waiting [] asked is = absurd (cc)
line_called true (line ∷ left) asked is = let same : Poll ≡ asked = cc in subst (λ (a : Asked). may_lose a ≡ true) same refl
line_called false (line ∷ left) asked is = by (Rattle.tool_program.specs.JournalWords.Clients.word_asks line.word) is
  where
    by : (request : Request) → Some (Call request) ≡ Some asked → may_lose asked ≡ true
    by request is = let same : Call request ≡ asked = cc in subst (λ (a : Asked). may_lose a ≡ true) same refl

client_called : (plan : PlanData) (journal : List Entry) (client : ℕ) (asked : Asked) → client_asks plan journal client ≡ Some asked → may_lose asked ≡ true
unfolding client_asks
client_called plan journal client asked is = by (client_at plan journal client).is_lost is
  where
    by : (lost : Bool) → cond lost None (line_asks (client_at plan journal client).waits (client_at plan journal client).left) ≡ Some asked → may_lose asked ≡ true
    by true is = absurd (cc)
    by false is = line_called (client_at plan journal client).waits (client_at plan journal client).left asked is

calls_called : (request : Option Request) (asked : Asked) → calls request ≡ Some asked → may_lose asked ≡ true
calls_called None asked is = absurd (cc)
calls_called (Some request) asked is = let same : Call request ≡ asked = cc in subst (λ (a : Asked). may_lose a ≡ true) same refl

asked_called : (waiting : Bool) (request : Option Request) (asked : Asked) → cond waiting (Some Poll) (calls request) ≡ Some asked → may_lose asked ≡ true
asked_called true request asked is = let same : Poll ≡ asked = cc in subst (λ (a : Asked). may_lose a ≡ true) same refl
asked_called false request asked is = calls_called request asked is

tool_called : (plan : PlanData) (journal : List Entry) (actor : Actor) (asked : Asked) → tool_asks plan journal (moment plan journal) actor ≡ Some asked → may_lose asked ≡ true
tool_called plan journal actor asked is =
    asked_called (waits (moment plan journal).server (live_session journal actor)) (tool_call plan (moment plan journal).server journal (moment plan journal).tool (moment plan journal).tool.tool_phase actor) asked is

-- it is the operator's command, or else a call or a poll
pub data Asks (actor : Actor) (asked : Asked) : Type 0 where
  Commands : (word : OperatorWord) → actor ≡ Op → asked ≡ Command word → Asks actor asked
  Called : may_lose asked ≡ true → Asks actor asked

operator_asks : (word : Option OperatorWord) (asked : Asked) → commands word ≡ Some asked → Asks Op asked
operator_asks None asked is = absurd (cc)
operator_asks (Some word) asked is = let same : Command word ≡ asked = cc in Commands word refl (sym same)

pub given_asks : (plan : PlanData) (journal : List Entry) (actor : Actor) (asked : Asked) → given plan journal actor ≡ Some asked → Asks actor asked
unfolding given
given_asks plan journal (Client client) asked is = Called (client_called plan journal client asked is)
given_asks plan journal Op asked is = operator_asks (slice_get (words_of plan) (moment plan journal).tool.operator.taken) asked is
given_asks plan journal Insp asked is = Called (tool_called plan journal Insp asked is)
given_asks plan journal Copy asked is = Called (tool_called plan journal Copy asked is)
given_asks plan journal Apply asked is = Called (tool_called plan journal Apply asked is)
given_asks plan journal Lock asked is = Called (tool_called plan journal Lock asked is)
given_asks plan journal Ren asked is = Called (tool_called plan journal Ren asked is)

called_uncut : (asked : Asked) → may_lose asked ≡ true → is_cut asked ≡ false
called_uncut (Call request) is = refl
called_uncut Poll is = refl
called_uncut (Command word) is = refl
called_uncut Cut is = absurd (false≢true is)

pub given_uncut : (plan : PlanData) (journal : List Entry) (actor : Actor) (asked : Asked) → given plan journal actor ≡ Some asked → is_cut asked ≡ false
given_uncut plan journal actor asked is = by (given_asks plan journal actor asked is)
  where
    by : Asks actor asked → is_cut asked ≡ false
    by (Commands word own same) = ap is_cut same
    by (Called called) = called_uncut asked called

-- THE OPERATOR HAS NO SESSION

unstruck : (number : ℕ) (losses : List Loss) → struck_among Op number losses ≡ None
unfolding struck_among
unstruck number [] = refl
unstruck number (loss ∷ losses) = unstruck number losses

pub operator_unstruck : (plan : PlanData) (journal : List Entry) → side_due plan journal Op ≡ None
operator_unstruck plan journal = unstruck (turns_of Op journal + 1) plan.faults

-- WHOSE SESSION IS LOST

-- the actor has a live session
pub record Lives (journal : List Entry) (actor : Actor) : Type 0 where
  pub number : ℕ
  pub is : live_session journal actor ≡ Some number

cut_lives_by : (journal : List Entry) (turn : ℕ) (loss : Loss) (actor : Actor) → cut_by journal turn loss ≡ Some actor → Lives journal actor
cut_lives_by journal turn (Nth other n side) actor is = absurd (cc)
cut_lives_by journal turn (AtTurn number other) actor is = by (number == turn) (live_session journal other) refl is
  where
    by : (b : Bool) (live : Option ℕ) → live_session journal other ≡ live → cond (b && is_some live) (Some other) None ≡ Some actor → Lives journal actor
    by true (Some n) lives is = let same : other ≡ actor = cc in record { number = n; is = subst (λ (a : Actor). live_session journal a ≡ Some n) same lives }
    by true None lives is = absurd (cc)
    by false live lives is = absurd (cc)

cut_lives_among : (journal : List Entry) (losses : List Loss) (actor : Actor) → cut_among journal losses ≡ Some actor → Lives journal actor
unfolding cut_among
cut_lives_among journal [] actor is = absurd (cc)
cut_lives_among journal (loss ∷ losses) actor is = by (cut_by journal (length journal + 1) loss) refl is (cut_lives_among journal losses actor)
  where
    by : (first : Option Actor) → cut_by journal (length journal + 1) loss ≡ first → or_first first (cut_among journal losses) ≡ Some actor → (cut_among journal losses ≡ Some actor → Lives journal actor) → Lives journal actor
    by None none is rest = rest is
    by (Some other) some is rest = cut_lives_by journal (length journal + 1) loss actor (some ∙ is)

pub cut_lives : (plan : PlanData) (journal : List Entry) (actor : Actor) → cut_due plan journal ≡ Some actor → Lives journal actor
cut_lives plan journal actor is = cut_lives_among journal plan.faults actor is
