-- The next turn of a replay is one that its turns before it decide.
use Rattle.std.proofs.Common.{◌≡◌, ◌≢◌, ℕ, ◌+◌, Bool, false, List, Option, Some, None, refl, sym, ap, ◌∙◌, subst}
use Rattle.base_script.specs.declared.actor.Actor.{Actor}
use Rattle.base_script.specs.declared.actor.Side.{Side}
use Rattle.server_model.specs.declared.answer.Answer.{Answer}
use Rattle.server_model.specs.declared.entry.Asked.{Asked}
use Rattle.server_model.specs.declared.entry.Asked.TheVariants.{Call, Poll, Command, Cut}
use Rattle.server_model.specs.declared.entry.Entry.{Entry}
use Rattle.server_model.specs.Answers.{ok}
use Rattle.server_model.specs.Entries.{is_cut}
use Rattle.server_model.specs.States.{State}
use Rattle.plan_data.specs.PlanData.{PlanData}
use Rattle.tool_program.specs.JournalWords.Journals.{drawn_of, inner_answer, heard, missed, IsAnswered, state_at}
use Rattle.tool_program.specs.JournalWords.Sessions.{live_session, sessions_named, IsInSession, IsNumbered}
use Rattle.tool_program.specs.JournalWords.KeptPlans.{cut_due, side_due, IsStruck, IsPlanned}
use Rattle.tool_program.specs.Programs.{given, IsGiven, IsFollowed}
use Rattle.tool_program.specs.Orders.{next_actor, IsNext}

-- what is asked in a turn
pub record Turn : Type 0 where
  pub actor : Actor
  pub session : ℕ
  pub asked : Asked
  pub side : Option Side

abbrev pub turn_of : Entry → Turn
turn_of entry = record { actor = entry.actor; session = entry.session; asked = entry.asked; side = entry.side }

abbrev pub unanswered : Turn → Entry
unanswered turn = record { actor = turn.actor; session = turn.session; asked = turn.asked; side = turn.side; answer = ok; missed = None; draw = None }

-- the entry that the server's answer makes of it
abbrev pub answered : State → Turn → Entry
answered state turn = record {
  actor = turn.actor;
  session = turn.session;
  asked = turn.asked;
  side = turn.side;
  answer = heard turn.side (inner_answer state (unanswered turn));
  missed = missed turn.side (inner_answer state (unanswered turn));
  draw = drawn_of state (unanswered turn) (inner_answer state (unanswered turn));
}

same_inner : (state : State) (entry : Entry) → inner_answer state entry ≡ inner_answer state (unanswered (turn_of entry))
unfolding inner_answer
same_inner state entry = refl

entry_is : (state : State) (entry : Entry) → IsAnswered state entry → entry ≡ answered state (turn_of entry)
entry_is state entry is =
    ap (λ (a : Answer). let e : Entry = record { actor = entry.actor; session = entry.session; asked = entry.asked; side = entry.side; answer = a; missed = entry.missed; draw = entry.draw } in e) (is.answer ∙ ap (heard entry.side) (same_inner state entry))
    ∙ ap (λ (m : Option Answer). let e : Entry = record { actor = entry.actor; session = entry.session; asked = entry.asked; side = entry.side; answer = heard entry.side (inner_answer state (unanswered (turn_of entry))); missed = m; draw = entry.draw } in e) (is.missed ∙ ap (missed entry.side) (same_inner state entry))
    ∙ ap (λ (d : Option ℕ). let e : Entry = record { actor = entry.actor; session = entry.session; asked = entry.asked; side = entry.side; answer = heard entry.side (inner_answer state (unanswered (turn_of entry))); missed = missed entry.side (inner_answer state (unanswered (turn_of entry))); draw = d } in e) (is.draw ∙ ap (drawn_of state entry) (same_inner state entry))

-- the turn's session
abbrev pub session_due : List Entry → Asked → Option ℕ → ℕ
session_due before (Command word) live = 0
session_due before asked (Some session) = session
session_due before Cut None = 0
session_due before asked None = sessions_named before + 1

session_is : (before : List Entry) (entry : Entry) (asked : Asked) (live : Option ℕ) → IsInSession before entry asked live → IsNumbered before entry asked live → entry.session ≡ session_due before asked live
session_is before entry (Command word) live is numbered = is
session_is before entry (Call request) (Some session) is numbered = is
session_is before entry (Call request) None is numbered = numbered
session_is before entry Poll (Some session) is numbered = is
session_is before entry Poll None is numbered = numbered
session_is before entry Cut (Some session) is numbered = is
session_is before entry Cut None is numbered = absurd is

turns_same : (before : List Entry) (one two : Entry) → one.session ≡ session_due before one.asked (live_session before one.actor) → two.session ≡ session_due before two.asked (live_session before two.actor)
    → one.actor ≡ two.actor → one.asked ≡ two.asked → one.side ≡ two.side → turn_of one ≡ turn_of two
turns_same before one two first second actor asked side =
    let session : one.session ≡ two.session =
    first ∙ ap (λ (a : Asked). session_due before a (live_session before one.actor)) asked ∙ ap (λ (a : Actor). session_due before two.asked (live_session before a)) actor ∙ sym second in
    ap (λ (a : Actor). let t : Turn = record { actor = a; session = one.session; asked = one.asked; side = one.side } in t) actor
    ∙ ap (λ (n : ℕ). let t : Turn = record { actor = two.actor; session = n; asked = one.asked; side = one.side } in t) session
    ∙ ap (λ (a : Asked). let t : Turn = record { actor = two.actor; session = two.session; asked = a; side = one.side } in t) asked
    ∙ ap (λ (s : Option Side). let t : Turn = record { actor = two.actor; session = two.session; asked = two.asked; side = s } in t) side

-- what holds of a turn of a replay
pub record IsTurn (plan : PlanData) (before : List Entry) (entry : Entry) : Type 0 where
  pub answered : IsAnswered (state_at plan before) entry
  pub planned : IsPlanned plan before entry
  pub followed : IsFollowed plan before entry
  pub next : IsNext (is_cut entry.asked) (next_actor plan before) entry.actor
  pub numbered : IsNumbered before entry entry.asked (live_session before entry.actor)

is_given : (plan : PlanData) (before : List Entry) (entry : Entry) (asked : Asked) → asked ≢ Cut → IsGiven plan before entry asked → given plan before entry.actor ≡ Some asked
is_given plan before entry (Call request) other is = is
is_given plan before entry Poll other is = is
is_given plan before entry (Command word) other is = is
is_given plan before entry Cut other is = absurd (other refl)

no_cut : (asked : Asked) → asked ≢ Cut → is_cut asked ≡ false
no_cut (Call request) other = refl
no_cut Poll other = refl
no_cut (Command word) other = refl
no_cut Cut other = absurd (other refl)

one_of : {A : Type 0} (o : Option A) (a b : A) → o ≡ Some a → o ≡ Some b → a ≡ b
one_of o a b first second = some_same (sym first ∙ second) where
  some_same : Some a ≡ Some b → a ≡ b
  some_same same = cc

-- *The next turn is one*
pub one_turn : (plan : PlanData) (before : List Entry) (one two : Entry) → IsTurn plan before one → IsTurn plan before two → one ≡ two
one_turn plan before one two first second =
    entry_is (state_at plan before) one first.answered ∙ ap (answered (state_at plan before)) (by (cut_due plan before) first.planned.struck second.planned.struck) ∙ sym (entry_is (state_at plan before) two second.answered) where
      same : one.actor ≡ two.actor → one.asked ≡ two.asked → one.side ≡ two.side → turn_of one ≡ turn_of two
      same = turns_same before one two (session_is before one one.asked (live_session before one.actor) first.followed.session first.numbered) (session_is before two two.asked (live_session before two.actor) second.followed.session second.numbered)

      by : (due : Option Actor) → IsStruck plan before one due → IsStruck plan before two due → turn_of one ≡ turn_of two
      by (Some actor) a b = same (a.0 ∙ sym b.0) (a.1 ∙ sym b.1) (a.2 ∙ sym b.2)
      by None a b =
          let next_one : next_actor plan before ≡ Some one.actor = subst (λ (c : Bool). IsNext c (next_actor plan before) one.actor) (no_cut one.asked a.0) first.next in
          let next_two : next_actor plan before ≡ Some two.actor = subst (λ (c : Bool). IsNext c (next_actor plan before) two.actor) (no_cut two.asked b.0) second.next in
          let actor : one.actor ≡ two.actor = one_of (next_actor plan before) one.actor two.actor next_one next_two in
          let given_two : given plan before one.actor ≡ Some two.asked = ap (given plan before) actor ∙ is_given plan before two two.asked b.0 second.followed.given in
          same actor (one_of (given plan before one.actor) one.asked two.asked (is_given plan before one one.asked a.0 first.followed.given) given_two)
          (a.1 ∙ ap (side_due plan before) actor ∙ sym b.1)
