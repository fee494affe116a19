-- The greatest number that the server gave is the greatest that the journal names.
use Rattle.std.proofs.Common.{◌≡◌, ◌≤◌, ℕ, Bool, true, false, cond, max, List, [], ◌∷◌, ◌++◌, Option, Some, None, refl, sym, ap, ◌∙◌}
use Rattle.std.specs.Prelude.{is_some}
use Rattle.std.proofs.Math.Nat.{max-eq_left}
use Rattle.base_script.specs.declared.actor.Side.{Side}
use Rattle.base_script.specs.declared.actor.Side.TheVariants.{Before, After}
use Rattle.server_model.specs.Along.{Along-keeps}
use Rattle.server_model.specs.declared.entry.Asked.{Asked}
use Rattle.server_model.specs.declared.entry.Asked.TheVariants.{Call, Poll, Command, Cut}
use Rattle.server_model.specs.declared.entry.Entry.{Entry}
use Rattle.server_model.specs.declared.request.Request.{Request}
use Rattle.server_model.specs.declared.session.Waiting.{Waiting}
use Rattle.server_model.specs.Entries.{is_command}
use Rattle.server_model.specs.States.{State, session_of, waiting_of}
use Rattle.server_model.specs.Blockers.{need, blocker}
use Rattle.server_model.specs.Effects.{Effect, Rests, Grows, Writes, Forgets, Moves, Locks, Unlocks, effect}
use Rattle.server_model.specs.Drawing.{filled}
use Rattle.server_model.specs.PlainServer.{does, done, did, called_unless, calls, is_over, polled_over, polled_unless, polled_of, polls, loses, leaves, serves, without_waiting}
use Rattle.plan_data.specs.PlanData.{PlanData}
use Rattle.tool_program.specs.JournalWords.Journals.{opens, opens_if, state_after, state_at}
use Rattle.tool_program.specs.JournalWords.Sessions.{sessions_named, KeepsSessions}
use Rattle.proof_journals.proofs.Actors.{Placed, Commands, GoesOn, Begins, placed}
use Rattle.proof_journals.specs.Machine.Laws.{SessionsAreNumbered}
use Rattle.proof_journals.proofs.Machine.Seated.{IsKnown, IsServed, known_begins, known_more, state_more}
use Rattle.proof_journals.proofs.Machine.Calling.{served_along}
use Rattle.proof_journals.proofs.Sentry.Sessions.{named_more}

-- A TURN MAKES NO OTHER SESSION

does_made : (one : Effect) (state : State) (number : ℕ) → (does one state number).after.made ≡ state.made
does_made (Rests answer) state number = refl
does_made (Grows answer need events) state number = refl
does_made (Writes answer events) state number = refl
does_made (Forgets answer) state number = refl
does_made (Moves answer tables) state number = refl
does_made (Locks answer names) state number = refl
does_made (Unlocks answer) state number = refl

done_made : (state : State) (number : ℕ) (request : Request) → (done state number request).after.made ≡ state.made
unfolding did
done_made state number request = does_made (effect state number (filled state number request)) state number

served_made : (state : State) (number : ℕ) (asked : Asked) → (serves state number asked).after.made ≡ state.made
unfolding calls polls loses
served_made state number (Call request) = at (blocker state number (need state number request)) where
  at : (by : Option ℕ) → (called_unless by state number request).after.made ≡ state.made
  at None = done_made state number request
  at (Some by) = refl
served_made state number Poll = at (waiting_of number state.waiting) where
  over : (b : Bool) (by : ℕ) → (polled_over b by state number).after.made ≡ state.made
  over true by = refl
  over false by = refl

  unless : (request : Request) (by : Option ℕ) → (polled_unless by state number request).after.made ≡ state.made
  unless request None = done_made (without_waiting number state) number request
  unless request (Some by) = over (is_over state number) by

  at : (waiting : Option Waiting) → (polled_of waiting state number).after.made ≡ state.made
  at None = refl
  at (Some waiting) = unless waiting.request (blocker state number (need state number waiting.request))
served_made state number (Command word) = refl
served_made state number Cut = refl

left_made : (side : Option Side) (state : State) (number : ℕ) (asked : Asked) → (leaves side state number asked).made ≡ state.made
unfolding loses
left_made None state number asked = served_made state number asked
left_made (Some Before) state number asked = refl
left_made (Some After) state number asked = served_made state number asked

-- ONE TURN MORE

pub record IsNumbered (plan : PlanData) (journal : List Entry) : Type 0 where
  pub known : IsKnown plan journal
  pub made : (state_at plan journal).made ≡ sessions_named journal

module _ (plan : PlanData) (journal : List Entry) (entry : Entry) (is : IsNumbered plan journal) (served : IsServed plan journal entry) where
  abbrev now : State
  now = state_at plan journal

  opened_made : Placed journal entry → (opens entry now).made ≡ cond (is_command entry.asked) (sessions_named journal) (max (sessions_named journal) entry.session)
  unfolding opens_if
  opened_made (Commands command zero) = rw command is.made
  opened_made (GoesOn calls live) =
      let lives : is_some (session_of entry.session now.sessions) ≡ true = is.known.live entry.actor entry.session live in
      let below : entry.session ≤ sessions_named journal = (is.known.sessions.own entry.actor entry.session live).1 in
      rw (calls, lives) (is.made ∙ sym (max-eq_left below))
  opened_made (Begins calls uncut live above) =
      let gone : is_some (session_of entry.session now.sessions) ≡ false = ap is_some (is.known.fresh entry.session above) in
      rw (calls, gone) (ap (λ (n : ℕ). max n entry.session) is.made)

  pub numbered_more : IsNumbered plan (journal ++ entry ∷ [])
  numbered_more = record {
    known = known_more plan journal entry is.known served;
    made = ap (λ (s : State). s.made) (state_more plan journal entry) ∙ left_made entry.side (opens entry now) entry.session entry.asked ∙ opened_made (placed journal entry served.seated) ∙ sym (named_more journal entry);
  }

numbered_begins : (plan : PlanData) → IsNumbered plan []
unfolding state_after sessions_named
numbered_begins plan = record { known = known_begins plan; made = refl }

-- *Sessions are numbered*
pub sessions_numbered : SessionsAreNumbered
unfolding KeepsSessions
sessions_numbered plan journal faithful kept =
    let all : IsNumbered plan journal = Along-keeps (IsServed plan) (IsNumbered plan) (λ before entry served is. numbered_more plan before entry is served) [] journal (served_along plan [] journal faithful kept) (numbered_begins plan) in
    record { live = λ actor n lives. all.known.live actor n lives; made = all.made }
