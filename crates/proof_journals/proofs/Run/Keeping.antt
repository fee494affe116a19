-- A journal that a run keeps is kept with one turn more.
use Rattle.std.proofs.Common.{◌≡◌, ℕ, Bool, true, false, List, [], ◌∷◌, ◌++◌, cond, Option, Some, None, refl, sym, ap, subst}
use Rattle.std.specs.List.{slice_get}
use Rattle.base_script.specs.declared.actor.Actor.{Actor}
use Rattle.base_script.specs.declared.actor.Actor.TheVariants.{Op, Insp, Copy, Apply, Lock, Ren, Client}
use Rattle.base_script.specs.declared.operator.OperatorWord.{OperatorWord}
use Rattle.server_model.specs.declared.entry.Asked.{Asked}
use Rattle.server_model.specs.declared.entry.Asked.TheVariants.{Call, Poll, Command, Cut}
use Rattle.server_model.specs.declared.entry.Entry.{Entry}
use Rattle.server_model.specs.declared.request.Request.{Request}
use Rattle.server_model.specs.Along.{Along-more}
use Rattle.server_model.specs.Entries.{is_command}
use Rattle.plan_data.specs.PlanData.{PlanData}
use Rattle.tool_program.specs.JournalWords.Journals.{state_at, IsAnswered, IsFaithful}
use Rattle.tool_program.specs.JournalWords.Clients.{client_asks}
use Rattle.tool_program.specs.JournalWords.KeptPlans.{words_of, commands_taken, TakesNext, IsPlanned, KeepsPlan}
use Rattle.tool_program.specs.JournalWords.Sessions.{live_session, IsSeated, KeepsSessions}
use Rattle.tool_program.specs.Tools.{moment}
use Rattle.tool_program.specs.Programs.{waits, tool_call, calls, commands, tool_asks, given, IsFollowed, Follows}
use Rattle.proof_journals.specs.Run.Kept.{IsKept}
use Rattle.proof_journals.proofs.Run.Taking.{taken_are}

pub kept_none : (plan : PlanData) → IsKept plan []
unfolding KeepsPlan Follows KeepsSessions
kept_none plan = record { faithful = tt; planned = tt; follows = tt; sessions = tt }

faithful_more : (plan : PlanData) (journal : List Entry) (entry : Entry) → IsFaithful plan journal → IsAnswered (state_at plan journal) entry → IsFaithful plan (journal ++ entry ∷ [])
faithful_more plan journal entry faithful answered = Along-more (λ before one. IsAnswered (state_at plan before) one) [] journal entry faithful answered

planned_more : (plan : PlanData) (journal : List Entry) (entry : Entry) → KeepsPlan plan journal → IsPlanned plan journal entry → KeepsPlan plan (journal ++ entry ∷ [])
unfolding KeepsPlan
planned_more plan journal entry kept now = Along-more (IsPlanned plan) [] journal entry kept now

follows_more : (plan : PlanData) (journal : List Entry) (entry : Entry) → Follows plan journal → IsFollowed plan journal entry → Follows plan (journal ++ entry ∷ [])
unfolding Follows
follows_more plan journal entry follows now = Along-more (IsFollowed plan) [] journal entry follows now

sessions_more : (journal : List Entry) (entry : Entry) → KeepsSessions journal → IsSeated journal entry → KeepsSessions (journal ++ entry ∷ [])
unfolding KeepsSessions
sessions_more journal entry kept now = Along-more IsSeated [] journal entry kept now

pub kept_more : (plan : PlanData) (journal : List Entry) (entry : Entry) → IsKept plan journal → IsAnswered (state_at plan journal) entry → IsPlanned plan journal entry → IsFollowed plan journal entry → IsKept plan (journal ++ entry ∷ [])
kept_more plan journal entry kept answered planned followed = record {
  faithful = faithful_more plan journal entry kept.faithful answered;
  planned = planned_more plan journal entry kept.planned planned;
  follows = follows_more plan journal entry kept.follows followed;
  sessions = sessions_more journal entry kept.sessions (record { session = followed.session });
}

-- WHAT IS GIVEN IS WHAT THE PLAN HAS THE ACTOR ASK

client_next : (plan : PlanData) (journal : List Entry) (client : ℕ) (asked : Asked) → client_asks plan journal client ≡ Some asked → TakesNext plan journal (Client client) asked
client_next plan journal client (Call request) is = is
client_next plan journal client Poll is = is
client_next plan journal client (Command word) is = is
client_next plan journal client Cut is = tt

operator_next : (plan : PlanData) (journal : List Entry) (asked : Asked) (word : Option OperatorWord) → slice_get (words_of plan) (commands_taken journal) ≡ word → commands word ≡ Some asked → TakesNext plan journal Op asked
operator_next plan journal asked None at is = absurd (cc)
operator_next plan journal asked (Some word) at is = subst (TakesNext plan journal Op) some_asked (word, at, refl)
  where
    some_asked : Command word ≡ asked
    some_asked = cc

called : (request : Option Request) (asked : Asked) → calls request ≡ Some asked → is_command asked ≡ false
called None asked is = absurd (cc)
called (Some request) asked is = let same : Call request ≡ asked = cc in subst (λ a. is_command a ≡ false) same refl

asked_by : (waiting : Bool) (request : Option Request) (asked : Asked) → cond waiting (Some Poll) (calls request) ≡ Some asked → is_command asked ≡ false
asked_by true request asked is = let same : Poll ≡ asked = cc in subst (λ a. is_command a ≡ false) same refl
asked_by false request asked is = called request asked is

-- what an actor of the tool asks is no command
pub tool_asks_none : (plan : PlanData) (journal : List Entry) (actor : Actor) (asked : Asked) → tool_asks plan journal (moment plan journal) actor ≡ Some asked → is_command asked ≡ false
tool_asks_none plan journal actor asked is =
    asked_by (waits (moment plan journal).server (live_session journal actor)) (tool_call plan (moment plan journal).server journal (moment plan journal).tool (moment plan journal).tool.tool_phase actor) asked is

-- *What is given is what the plan has the actor ask*
pub next_of : (plan : PlanData) (journal : List Entry) (actor : Actor) (asked : Asked) → given plan journal actor ≡ Some asked → TakesNext plan journal actor asked
unfolding given
next_of plan journal (Client client) asked is = client_next plan journal client asked is
next_of plan journal Op asked is =
    operator_next plan journal asked (slice_get (words_of plan) (moment plan journal).tool.operator.taken) (ap (slice_get (words_of plan)) (sym (taken_are plan journal))) is
next_of plan journal Insp asked is = by asked (tool_asks_none plan journal Insp asked is)
  where
    by : (asked : Asked) → is_command asked ≡ false → TakesNext plan journal Insp asked
    by (Call request) none = none
    by Poll none = none
    by (Command word) none = none
    by Cut none = tt
next_of plan journal Copy asked is = by asked (tool_asks_none plan journal Copy asked is)
  where
    by : (asked : Asked) → is_command asked ≡ false → TakesNext plan journal Copy asked
    by (Call request) none = none
    by Poll none = none
    by (Command word) none = none
    by Cut none = tt
next_of plan journal Apply asked is = by asked (tool_asks_none plan journal Apply asked is)
  where
    by : (asked : Asked) → is_command asked ≡ false → TakesNext plan journal Apply asked
    by (Call request) none = none
    by Poll none = none
    by (Command word) none = none
    by Cut none = tt
next_of plan journal Lock asked is = by asked (tool_asks_none plan journal Lock asked is)
  where
    by : (asked : Asked) → is_command asked ≡ false → TakesNext plan journal Lock asked
    by (Call request) none = none
    by Poll none = none
    by (Command word) none = none
    by Cut none = tt
next_of plan journal Ren asked is = by asked (tool_asks_none plan journal Ren asked is)
  where
    by : (asked : Asked) → is_command asked ≡ false → TakesNext plan journal Ren asked
    by (Call request) none = none
    by Poll none = none
    by (Command word) none = none
    by Cut none = tt
