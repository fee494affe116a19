-- The log grows at its end alone, and no turn but the renamer's does the RENAME.
use Rattle.server_model.specs.Drawing.{filled}
use Rattle.std.proofs.Common.{◌≡◌, ℕ, Bool, true, false, not, List, [], ◌∷◌, ◌++◌, Option, Some, None, refl, sym, ap, subst}
use Rattle.std.specs.List.{list_any}
use Rattle.std.proofs.lemmas.List.{append-nil}
use Rattle.base_script.specs.declared.actor.Actor.TheVariants.{Ren}
use Rattle.base_script.specs.declared.actor.Side.{Side}
use Rattle.base_script.specs.declared.actor.Side.TheVariants.{Before, After}
use Rattle.base_values.specs.declared.event.RowEvent.{RowEvent}
use Rattle.server_model.specs.Blockers.{blocker, need}
use Rattle.server_model.specs.Effects.{Effect, Rests, Grows, Writes, Forgets, Moves, Locks, Unlocks, effect}
use Rattle.server_model.specs.Entries.{is_client, is_command}
use Rattle.server_model.specs.PlainServer.{called_unless, calls, does, done, did, is_over, leaves, loses, polled_of, polled_over, polled_unless, polls, serves, without_waiting}
use Rattle.server_model.specs.States.{State, session_of, waiting_of, writes_of}
use Rattle.server_model.specs.declared.entry.Asked.{Asked}
use Rattle.server_model.specs.declared.entry.Asked.TheVariants.{Call, Poll, Command, Cut}
use Rattle.server_model.specs.declared.entry.Entry.{Entry}
use Rattle.server_model.specs.declared.request.Request.{Request}
use Rattle.server_model.specs.declared.session.Waiting.{Waiting}
use Rattle.plan_data.specs.PlanData.{PlanData}
use Rattle.tool_program.specs.JournalWords.Histories.{entry_adds, is_alter}
use Rattle.tool_program.specs.JournalWords.Journals.{opens, state_at}
use Rattle.proof_journals.specs.Machine.Runnable.{IsRunnable}
use Rattle.proof_journals.specs.Plans.{IsSerialPlan}
use Rattle.proof_journals.specs.Run.Kept.{IsKept}
use Rattle.proof_journals.specs.Scenes.{Stored}
use Rattle.proof_journals.specs.ServerTurns.Others.{DefinitionsAreDone}
use Rattle.proof_journals.proofs.Journals.{stored_opened}
use Rattle.proof_journals.proofs.Machine.Seated.{state_more}
use Rattle.proof_migration.specs.ToolPhase.Unaltered.{IsUnaltered}
use Rattle.proof_migration.proofs.Once.Renames.{exchanges, unaltered_more}

-- the log after a turn
pub record IsGrown (before after : List RowEvent) : Type 0 where
  pub events : List RowEvent
  pub is : after ≡ before ++ events

stays : (log : List RowEvent) → IsGrown log log
stays log = record { events = []; is = sym (append-nil log) }

does_grown : (one : Effect) (state : State) (number : ℕ) → IsGrown state.log (does one state number).after.log
does_grown (Rests answer) state number = stays state.log
does_grown (Grows answer needs events) state number = stays state.log
does_grown (Writes answer events) state number = record { events = writes_of (session_of number state.sessions) ++ events; is = refl }
does_grown (Forgets answer) state number = stays state.log
does_grown (Moves answer tables) state number = stays state.log
does_grown (Locks answer names) state number = stays state.log
does_grown (Unlocks answer) state number = stays state.log

done_grown : (state : State) (number : ℕ) (request : Request) → IsGrown state.log (done state number request).after.log
unfolding did
done_grown state number request = does_grown (effect state number (filled state number request)) state number

called_grown : (state : State) (number : ℕ) (request : Request) → IsGrown state.log (calls state number request).after.log
unfolding calls
called_grown state number request = by (blocker state number (need state number request)) where
  by : (blocked : Option ℕ) → IsGrown state.log (called_unless blocked state number request).after.log
  by None = done_grown state number request
  by (Some other) = stays state.log

polled_grown : (state : State) (number : ℕ) → IsGrown state.log (polls state number).after.log
unfolding polls
polled_grown state number = by (waiting_of number state.waiting) where
  over : (b : Bool) (other : ℕ) → IsGrown state.log (polled_over b other state number).after.log
  over true other = stays state.log
  over false other = stays state.log

  unless : (request : Request) (blocked : Option ℕ) → IsGrown state.log (polled_unless blocked state number request).after.log
  unless request None = done_grown (without_waiting number state) number request
  unless request (Some other) = over (is_over state number) other

  by : (waiting : Option Waiting) → IsGrown state.log (polled_of waiting state number).after.log
  by None = stays state.log
  by (Some waiting) = unless waiting.request (blocker state number (need state number waiting.request))

served_grown : (state : State) (number : ℕ) (asked : Asked) → IsGrown state.log (serves state number asked).after.log
unfolding loses
served_grown state number (Call request) = called_grown state number request
served_grown state number Poll = polled_grown state number
served_grown state number (Command word) = stays state.log
served_grown state number Cut = stays state.log

left_grown : (side : Option Side) (state : State) (number : ℕ) (asked : Asked) → IsGrown state.log (leaves side state number asked).log
unfolding loses
left_grown None state number asked = served_grown state number asked
left_grown (Some Before) state number asked = stays state.log
left_grown (Some After) state number asked = served_grown state number asked

-- *The log grows*
pub log_grown : (plan : PlanData) (journal : List Entry) (entry : Entry) → IsGrown (state_at plan journal).log (state_at plan (journal ++ entry ∷ [])).log
log_grown plan journal entry =
    subst (λ (log : List RowEvent). IsGrown log (state_at plan (journal ++ entry ∷ [])).log) (ap (λ (s : Stored). s.log) (stored_opened (is_command entry.asked) (not (is_client entry.actor)) entry.session (state_at plan journal)))
    (subst (λ (s : State). IsGrown (opens entry (state_at plan journal)).log s.log) (sym (state_more plan journal entry)) (left_grown entry.side (opens entry (state_at plan journal)) entry.session entry.asked))

-- the RENAME is the renamer's
pub unaltered_so : DefinitionsAreDone → (plan : PlanData) (journal : List Entry) (entry : Entry) → IsRunnable plan → IsSerialPlan plan → IsKept plan (journal ++ entry ∷ []) → IsUnaltered plan journal → (entry.actor ≡ Ren → ⊥) → IsUnaltered plan (journal ++ entry ∷ [])
unaltered_so done plan journal entry runs serial kept off other = by (list_any is_alter (entry_adds plan journal entry)) refl where
  by : (b : Bool) → list_any is_alter (entry_adds plan journal entry) ≡ b → IsUnaltered plan (journal ++ entry ∷ [])
  by true alters = absurd (other (exchanges done plan journal entry runs serial kept off alters).0)
  by false none = unaltered_more plan journal entry off none
