-- A client that was lost has no session any more.
use Rattle.std.proofs.Common.{◌≡◌, ◌≢◌, ℕ, Bool, true, false, List, [], ◌∷◌, ◌++◌, is_some, cond, Option, Some, None, refl, sym, ap, ◌∙◌, subst, ◌⊎◌, inl, inr}
use Rattle.base_script.specs.declared.actor.Actor.{Actor}
use Rattle.base_script.specs.declared.actor.Actor.TheVariants.{Client}
use Rattle.base_script.specs.declared.actor.Side.{Side}
use Rattle.base_script.specs.declared.script.ScriptLine.{ScriptLine}
use Rattle.server_model.specs.declared.transaction.Mark.{Mark}
use Rattle.server_model.specs.declared.transaction.Mark.TheVariants as marks
use Rattle.server_model.specs.declared.transaction.Reply.{Reply}
use Rattle.server_model.specs.declared.answer.Answer.{Answer}
use Rattle.server_model.specs.declared.answer.Answer.TheVariants as answers
use Rattle.server_model.specs.declared.entry.Asked.{Asked}
use Rattle.server_model.specs.declared.entry.Asked.TheVariants.{Call, Poll, Command, Cut}
use Rattle.server_model.specs.declared.entry.Entry.{Entry}
use Rattle.server_model.specs.Alone.{reply_of}
use Rattle.server_model.specs.Along.{Along, Along-keeps}
use Rattle.server_model.specs.Entries.{same_actor}
use Rattle.plan_data.specs.PlanData.{PlanData}
use Rattle.tool_program.specs.JournalWords.Clients.{Reached, after_turn, became_in, became_of, client_after, client_asks, client_at, is_loss, marked, with_draw}
use Rattle.tool_program.specs.JournalWords.KeptPlans.{TakesNext}
use Rattle.tool_program.specs.JournalWords.Sessions.{IsInSession, IsSeated, live_session, session_left}
use Rattle.run_actors.proofs.More.{live_more}
use Rattle.proof_audit.proofs.Clients.{same_client}
use Rattle.proof_audit.proofs.Sessions.{IsLostRightly}
use Rattle.proof_journals.proofs.Actors.{lost_left}
use Rattle.proof_journals.proofs.Linking.{client_more}

-- ---- what loses a client

record Loses (asked : Asked) (side : Option Side) : Type 0 where
  pub how : (asked ≡ Cut) ⊎ ((one : Side) × (side ≡ Some one))

marked_lost : (client : Reached) (mark : Mark) (reply : Option Reply) (left : List ScriptLine) → is_loss mark ≡ false → client.is_lost ≡ false → (marked client mark reply left).is_lost ≡ true → ⊥
marked_lost client mark reply [] keeps lives lost = cc
marked_lost client mark reply (line ∷ lines) keeps lives lost = cc

heard_lost : (client : Reached) (answer : Answer) → client.is_lost ≡ false → (client_after (became_of answer) client).is_lost ≡ true → ⊥
heard_lost client (answers.Ok count) lives lost = marked_lost client marks.Answered (reply_of (answers.Ok count)) client.left refl lives lost
heard_lost client (answers.Rows rows) lives lost = marked_lost client marks.Answered (reply_of (answers.Rows rows)) client.left refl lives lost
heard_lost client (answers.Refused number column) lives lost = marked_lost client marks.Answered (reply_of (answers.Refused number column)) client.left refl lives lost
heard_lost client (answers.TimedOut waited) lives lost = marked_lost client marks.TimedOut (reply_of (answers.TimedOut waited)) client.left refl lives lost
heard_lost client (answers.Waits by) lives lost = cc
heard_lost client answer lives lost = cc

loses : (client : Reached) (waits : Bool) (asked : Asked) (side : Option Side) (answer : Answer) (missed : Option Answer) → client.is_lost ≡ false → (client_after (became_in waits asked side answer missed) client).is_lost ≡ true → Loses asked side
loses client waits Cut side answer missed lives lost = record { how = inl refl }
loses client waits asked (Some side) answer missed lives lost = record { how = inr (side, refl) }
loses client waits (Call request) None answer missed lives lost = absurd (heard_lost client answer lives lost)
loses client waits Poll None answer missed lives lost = absurd (heard_lost client answer lives lost)
loses client waits (Command word) None answer missed lives lost = absurd (heard_lost client answer lives lost)

drawn_lost : (draw : Option ℕ) (client : Reached) → (with_draw draw client).is_lost ≡ client.is_lost
drawn_lost None client = refl
drawn_lost (Some number) client = refl

-- ---- a loss between calls takes a session that is there

cut_live : (before : List Entry) (entry : Entry) (live : Option ℕ) → IsInSession before entry Cut live → is_some live ≡ true
cut_live before entry None is = absurd is
cut_live before entry (Some session) is = refl

none_live : (live : Option ℕ) → live ≡ None → is_some live ≡ true → ⊥
none_live None none is = cc
none_live (Some session) none is = cc

asks_none : (b : Bool) (asks : Option Asked) (asked : Asked) → b ≡ true → cond b None asks ≡ Some asked → ⊥
asks_none true asks asked is some = cc
asks_none false asks asked is some = cc

-- a client that was lost takes no turn
lost_takes : (plan : PlanData) (before : List Entry) (c : ℕ) (asked : Asked) → TakesNext plan before (Client c) asked → asked ≢ Cut → (client_at plan before c).is_lost ≡ true → ⊥
unfolding client_asks
lost_takes plan before c Cut takes other lost = other refl
lost_takes plan before c (Call request) takes other lost = asks_none (client_at plan before c).is_lost _ (Call request) lost takes
lost_takes plan before c Poll takes other lost = asks_none (client_at plan before c).is_lost _ Poll lost takes
lost_takes plan before c (Command word) takes other lost = asks_none (client_at plan before c).is_lost _ (Command word) lost takes

-- what is asked of each turn
pub record IsLosing (plan : PlanData) (before : List Entry) (entry : Entry) : Type 0 where
  pub rightly : IsLostRightly entry
  pub takes : TakesNext plan before entry.actor entry.asked
  pub seated : IsSeated before entry

abbrev pub LostHaveNone : PlanData → List Entry → Type 0
LostHaveNone plan journal = (c : ℕ) → (client_at plan journal c).is_lost ≡ true → live_session journal (Client c) ≡ None

-- a turn of a client that was lost before it
pub lost_before : (plan : PlanData) (before : List Entry) (entry : Entry) (c : ℕ) → IsLosing plan before entry → LostHaveNone plan before → entry.actor ≡ Client c → (client_at plan before c).is_lost ≡ true → ⊥
lost_before plan before entry c turn none is lost = by entry.asked refl where
  live : entry.asked ≡ Cut → is_some (live_session before (Client c)) ≡ true
  live cut =
      subst (λ (a : Actor). is_some (live_session before a) ≡ true) is
      (cut_live before entry (live_session before entry.actor) (subst (λ (asked : Asked). IsInSession before entry asked (live_session before entry.actor)) cut turn.seated.session))

  takes : TakesNext plan before (Client c) entry.asked
  takes = subst (λ (a : Actor). TakesNext plan before a entry.asked) is turn.takes

  by : (asked : Asked) → entry.asked ≡ asked → ⊥
  by Cut cut = none_live (live_session before (Client c)) (none c lost) (live cut)
  by (Call request) call = lost_takes plan before c entry.asked takes (λ cut. let no : Call request ≡ Cut = sym call ∙ cut in absurd (cc no)) lost
  by Poll poll = lost_takes plan before c entry.asked takes (λ cut. let no : Poll ≡ Cut = sym poll ∙ cut in absurd (cc no)) lost
  by (Command word) command = lost_takes plan before c entry.asked takes (λ cut. let no : Command word ≡ Cut = sym command ∙ cut in absurd (cc no)) lost

-- a client's turn leaves it lost without a session
left_none : (entry : Entry) → IsLostRightly entry → Loses entry.asked entry.side → session_left entry.asked entry.answer entry.session ≡ None
left_none entry rightly loses = by loses.how where
  by : (entry.asked ≡ Cut) ⊎ ((one : Side) × (entry.side ≡ Some one)) → session_left entry.asked entry.answer entry.session ≡ None
  by (inl cut) = ap (λ (a : Answer). session_left entry.asked a entry.session) (rightly.cut cut) ∙ lost_left entry.asked entry.session
  by (inr sided) = ap (λ (a : Answer). session_left entry.asked a entry.session) (rightly.sided sided.0 sided.1) ∙ lost_left entry.asked entry.session

pub lost_step : (plan : PlanData) (before : List Entry) (entry : Entry) → IsLosing plan before entry → LostHaveNone plan before → LostHaveNone plan (before ++ entry ∷ [])
lost_step plan before entry turn none c lost = by (same_actor entry.actor (Client c)) refl where
  Goal : Type 0
  Goal = live_session (before ++ entry ∷ []) (Client c) ≡ None

  -- with the number that its line drew, and after its turn
  drawn : Reached
  drawn = with_draw entry.draw (client_at plan before c)

  after_own : Reached
  after_own = client_after (became_in (client_at plan before c).waits entry.asked entry.side entry.answer entry.missed) drawn

  own : entry.actor ≡ Client c → (b : Bool) → (client_at plan before c).is_lost ≡ b → (after_turn c (client_at plan before c) entry).is_lost ≡ true → same_actor entry.actor (Client c) ≡ true → session_left entry.asked entry.answer entry.session ≡ None
  own is true was after same = absurd (lost_before plan before entry c turn none is was)
  own is false lives after same =
      left_none entry turn.rightly
      (loses drawn (client_at plan before c).waits entry.asked entry.side entry.answer entry.missed (drawn_lost entry.draw (client_at plan before c) ∙ lives)
      (sym (ap (λ (b : Bool). (cond b after_own (client_at plan before c)).is_lost) same) ∙ after))

  by : (b : Bool) → same_actor entry.actor (Client c) ≡ b → Goal
  by true same =
      live_more before entry (Client c)
      ∙ ap (λ (b : Bool). cond b (session_left entry.asked entry.answer entry.session) (live_session before (Client c))) same
      ∙ own (same_client entry.actor c same) (client_at plan before c).is_lost refl (ap (λ (client : Reached). client.is_lost) (sym (client_more plan before entry c)) ∙ lost) same
  by false other =
      live_more before entry (Client c)
      ∙ ap (λ (b : Bool). cond b (session_left entry.asked entry.answer entry.session) (live_session before (Client c))) other
      ∙ none c
      (sym (ap (λ (b : Bool). (cond b after_own (client_at plan before c)).is_lost) other)
      ∙ ap (λ (client : Reached). client.is_lost) (sym (client_more plan before entry c)) ∙ lost)

-- *Lost clients have no session*
pub lost_have_none : (plan : PlanData) (journal : List Entry) → Along (IsLosing plan) [] journal → LostHaveNone plan journal
unfolding live_session client_at
lost_have_none plan journal turns = Along-keeps (IsLosing plan) (LostHaveNone plan) (lost_step plan) [] journal turns (λ c lost. refl)
