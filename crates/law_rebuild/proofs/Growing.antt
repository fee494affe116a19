-- Turns only add to the log.
use Rattle.std.proofs.Common.{◌≡◌, ℕ, Bool, true, false, not, List, [], ◌∷◌, ◌++◌, Option, Some, None, refl, sym, ap, ◌∙◌, append_assoc, append-nil}
use Rattle.base_values.specs.declared.event.RowEvent.{RowEvent}
use Rattle.base_script.specs.declared.actor.Side.{Side}
use Rattle.base_script.specs.declared.actor.Side.TheVariants.{Before, After}
use Rattle.server_model.specs.declared.entry.Asked.{Asked}
use Rattle.server_model.specs.declared.entry.Asked.TheVariants.{Call, Poll, Command, Cut}
use Rattle.server_model.specs.declared.entry.Entry.{Entry}
use Rattle.server_model.specs.declared.request.Request.{Request}
use Rattle.server_model.specs.declared.session.Waiting.{Waiting}
use Rattle.server_model.specs.Blockers.{blocker, need}
use Rattle.server_model.specs.Drawing.{filled}
use Rattle.server_model.specs.Effects.{Effect, effect}
use Rattle.server_model.specs.Effects.Effect.{Rests, Grows, Writes, Forgets, Moves, Locks, Unlocks}
use Rattle.server_model.specs.Entries.{is_client, is_command}
use Rattle.server_model.specs.PlainServer.{called_unless, calls, did, does, done, is_over, leaves, loses, polled_of, polled_over, polled_unless, polls, serves, without_waiting}
use Rattle.server_model.specs.States.{State, session_of, waiting_of, writes_of}
use Rattle.plan_data.specs.PlanData.{PlanData}
use Rattle.tool_program.specs.JournalWords.Journals.{after_entry, opening, opens, state_after}
use Rattle.proof_journals.specs.Scenes.{Stored}
use Rattle.proof_journals.proofs.Journals.{state_more, stored_opened}
use Rattle.law_rebuild.specs.Laws.{LogsGrow}

-- one log begins with the other
record Longer (before after : List RowEvent) : Type 0 where
  more : List RowEvent
  is : after ≡ before ++ more

same_log : (log : List RowEvent) → Longer log log
same_log log = record { more = []; is = sym (append-nil log) }

then_longer : (a b c : List RowEvent) → Longer a b → Longer b c → Longer a c
then_longer a b c one two = record { more = one.more ++ two.more; is = two.is ∙ ap (λ (l : List RowEvent). l ++ two.more) one.is ∙ append_assoc a one.more two.more }

-- WHAT IS SERVED

does_more : (one : Effect) (state : State) (number : ℕ) → Longer state.log (does one state number).after.log
does_more (Rests answer) state number = same_log state.log
does_more (Grows answer need events) state number = same_log state.log
does_more (Writes answer events) state number = record { more = writes_of (session_of number state.sessions) ++ events; is = refl }
does_more (Forgets answer) state number = same_log state.log
does_more (Moves answer tables) state number = same_log state.log
does_more (Locks answer names) state number = same_log state.log
does_more (Unlocks answer) state number = same_log state.log

done_more : (state : State) (number : ℕ) (request : Request) → Longer state.log (done state number request).after.log
unfolding did
done_more state number request = does_more (effect state number (filled state number request)) state number

calls_more : (state : State) (number : ℕ) (request : Request) → Longer state.log (calls state number request).after.log
unfolding calls
calls_more state number request = by (blocker state number (need state number request)) where
  by : (blocked : Option ℕ) → Longer state.log (called_unless blocked state number request).after.log
  by None = done_more state number request
  by (Some one) = same_log state.log

polls_more : (state : State) (number : ℕ) → Longer state.log (polls state number).after.log
unfolding polls
polls_more state number = by (waiting_of number state.waiting) where
  over : (b : Bool) (one : ℕ) → Longer state.log (polled_over b one state number).after.log
  over true one = same_log state.log
  over false one = same_log state.log

  unless : (waiting : Waiting) (blocked : Option ℕ) → Longer state.log (polled_unless blocked state number waiting.request).after.log
  unless waiting None = done_more (without_waiting number state) number waiting.request
  unless waiting (Some one) = over (is_over state number) one

  by : (waiting : Option Waiting) → Longer state.log (polled_of waiting state number).after.log
  by None = same_log state.log
  by (Some waiting) = unless waiting (blocker state number (need state number waiting.request))

pub lost_log : (number : ℕ) (state : State) → (loses number state).log ≡ state.log
unfolding loses
lost_log number state = refl

lost_more : (number : ℕ) (state : State) (log : List RowEvent) → Longer log state.log → Longer log (loses number state).log
lost_more number state log was = record { more = was.more; is = lost_log number state ∙ was.is }

serves_more : (state : State) (number : ℕ) (asked : Asked) → Longer state.log (serves state number asked).after.log
serves_more state number (Call request) = calls_more state number request
serves_more state number Poll = polls_more state number
serves_more state number (Command word) = same_log state.log
serves_more state number Cut = lost_more number state state.log (same_log state.log)

leaves_more : (side : Option Side) (state : State) (number : ℕ) (asked : Asked) → Longer state.log (leaves side state number asked).log
leaves_more None state number asked = serves_more state number asked
leaves_more (Some Before) state number asked = lost_more number state state.log (same_log state.log)
leaves_more (Some After) state number asked = lost_more number (serves state number asked).after state.log (serves_more state number asked)

-- a session that is opened logs nothing
pub opened_log : (state : State) (entry : Entry) → (opens entry state).log ≡ state.log
opened_log state entry = ap (λ (s : Stored). s.log) (stored_opened (is_command entry.asked) (not (is_client entry.actor)) entry.session state)

entry_more : (state : State) (entry : Entry) → Longer state.log (after_entry state entry).log
entry_more state entry =
    let all = leaves_more entry.side (opens entry state) entry.session entry.asked in
    record { more = all.more; is = all.is ∙ ap (λ (l : List RowEvent). l ++ all.more) (opened_log state entry) }

-- WHOLE JOURNALS

after_more : (plan : PlanData) (journal more : List Entry) → Longer (state_after (opening plan) journal).log (state_after (opening plan) (journal ++ more)).log
after_more plan journal [] = record { more = []; is = ap (λ (j : List Entry). (state_after (opening plan) j).log) (append-nil journal) ∙ sym (append-nil (state_after (opening plan) journal).log) }
after_more plan journal (entry ∷ more) =
    let one = entry_more (state_after (opening plan) journal) entry in
    let here : Longer (state_after (opening plan) journal).log (state_after (opening plan) (journal ++ entry ∷ [])).log = record { more = one.more; is = ap (λ (s : State). s.log) (state_more (opening plan) journal entry) ∙ one.is } in
    let later = after_more plan (journal ++ entry ∷ []) more in
    let all = then_longer (state_after (opening plan) journal).log (state_after (opening plan) (journal ++ entry ∷ [])).log (state_after (opening plan) ((journal ++ entry ∷ []) ++ more)).log here later in
    record { more = all.more; is = ap (λ (j : List Entry). (state_after (opening plan) j).log) (sym (append_assoc journal (entry ∷ []) more)) ∙ all.is }

-- *Logs grow*
pub logs_grow : LogsGrow
logs_grow plan journal more = let all = after_more plan journal more in (all.more, all.is)
