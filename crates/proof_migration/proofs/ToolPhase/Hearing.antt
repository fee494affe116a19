-- What an entry's answer has, by what its request does once it isn't blocked: a wait, a time-out and a loss aside.
use Rattle.std.proofs.Common.{◌≡◌, ℕ, Bool, true, false, not, List, Option, Some, None, refl, sym, ap, ◌∙◌, subst}
use Rattle.base_script.specs.declared.actor.Side.{Side}
use Rattle.server_model.specs.declared.answer.Answer.{Answer}
use Rattle.server_model.specs.declared.answer.Answer.TheVariants as answers
use Rattle.server_model.specs.declared.entry.Asked.{Asked}
use Rattle.server_model.specs.declared.entry.Entry.{Entry}
use Rattle.server_model.specs.declared.request.Request.{Request}
use Rattle.server_model.specs.declared.session.Waiting.{Waiting}
use Rattle.server_model.specs.Entries.{is_client, is_command}
use Rattle.server_model.specs.Blockers.{need, blocker}
use Rattle.server_model.specs.PlainServer.{done, without_waiting, called_unless, calls, is_over, polled_over, polled_unless, polled_of, polls, serves}
use Rattle.server_model.specs.States.{State, waiting_of}
use Rattle.plan_data.specs.PlanData.{PlanData}
use Rattle.tool_program.specs.JournalWords.Journals.{opens, state_at}
use Rattle.proof_journals.specs.Scenes.{Stored}
use Rattle.proof_journals.specs.Turns.{request_of}
use Rattle.proof_journals.proofs.Journals.{opened_waits, stored_opened}
use Rattle.proof_journals.specs.Machine.Standings.{standing_of, IsAbout, is_called, is_polled}
use Rattle.proof_journals.proofs.Machine.Seated.{IsKnown, IsServed, own_waiting, own_given, own_missed}

-- the state as the request finds it: the tables and the sessions are those once the entry's session is live
pub record IsFoundBy (found open_now : State) : Type 0 where
  pub tables : found.tables ≡ open_now.tables
  pub sessions : found.sessions ≡ open_now.sessions

-- what holds of an answer whatever was done: of a wait, of a time-out, of a loss
pub record HoldsUndone (P : Answer → Type 0) : Type 0 where
  pub waits : (by : ℕ) → P (answers.Waits by)
  pub timed : (waited : ℕ) → P (answers.TimedOut waited)
  pub lost : P answers.Lost

module _ (P : Answer → Type 0) (undone : HoldsUndone P) (state : State) (number : ℕ) (request : Request) (each : (found : State) → IsFoundBy found state → P (done found number request).answer) where
  called_has : P (calls state number request).answer
  unfolding calls
  called_has = at (blocker state number (need state number request)) where
    at : (blocked : Option ℕ) → P (called_unless blocked state number request).answer
    at None = each state (record { tables = refl; sessions = refl })
    at (Some other) = undone.waits other

  polled_has : request_of (waiting_of number state.waiting) ≡ Some request → P (polls state number).answer
  unfolding polls
  polled_has waits = at (waiting_of number state.waiting) waits where
    over : (b : Bool) (other : ℕ) → P (polled_over b other state number).answer
    over true other = undone.timed _
    over false other = undone.waits other

    unless : (blocked : Option ℕ) → P (polled_unless blocked state number request).answer
    unless None = each (without_waiting number state) (record { tables = refl; sessions = refl })
    unless (Some other) = over (is_over state number) other

    at : (waiting : Option Waiting) → request_of waiting ≡ Some request → P (polled_of waiting state number).answer
    at None none = absurd cc
    at (Some waiting) same =
        let one : waiting.request ≡ request = cc in
        subst (λ (r : Request). P (polled_unless (blocker state number (need state number r)) state number r).answer) (sym one) (unless (blocker state number (need state number request)))

-- *What an entry's answer has*
pub own_answer : (P : Answer → Type 0) → HoldsUndone P → (plan : PlanData) (journal : List Entry) (entry : Entry) (known : IsKnown plan journal) (served : IsServed plan journal entry) (request : Request) → IsAbout request (standing_of plan journal entry.actor) entry.asked
    → ((found : State) → IsFoundBy found (opens entry (state_at plan journal)) → P (done found entry.session request).answer) → P entry.answer
own_answer P undone plan journal entry known served request about each = by entry.side refl where
  open_now : State
  open_now = opens entry (state_at plan journal)

  served_has : IsAbout request (standing_of plan journal entry.actor) entry.asked → P (serves open_now entry.session entry.asked).answer
  served_has (is_called same none) = subst (λ (a : Asked). P (serves open_now entry.session a).answer) (sym same) (called_has P undone open_now entry.session request each)
  served_has (is_polled same some) =
      let waits : request_of (waiting_of entry.session open_now.waiting) ≡ Some request =
      ap (λ (w : List Waiting). request_of (waiting_of entry.session w)) (opened_waits (is_command entry.asked) (not (is_client entry.actor)) entry.session (state_at plan journal)) ∙ own_waiting plan journal entry known served (ap is_command same) ∙ some in
      subst (λ (a : Asked). P (serves open_now entry.session a).answer) (sym same) (polled_has P undone open_now entry.session request each waits)

  by : (side : Option Side) → entry.side ≡ side → P entry.answer
  by (Some side) at_side = subst P (sym (own_missed plan journal entry known served side at_side)) undone.lost
  by None no_side = subst P (own_given plan journal entry known served no_side) (served_has about)

-- the tables are those of the journal's end
pub opened_tables : (plan : PlanData) (journal : List Entry) (entry : Entry) → (opens entry (state_at plan journal)).tables ≡ (state_at plan journal).tables
opened_tables plan journal entry = ap (λ (s : Stored). s.tables) (stored_opened (is_command entry.asked) (not (is_client entry.actor)) entry.session (state_at plan journal))
