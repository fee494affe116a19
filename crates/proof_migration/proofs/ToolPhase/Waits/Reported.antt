-- What a session of the tool's waits for, as its actor's answers tell it.
use Rattle.std.proofs.Common.{◌≡◌, ℕ, ◌==◌, Bool, true, false, cond, ◌||◌, List, [], ◌∷◌, ◌++◌, Option, Some, None, refl, sym, ap, ◌∙◌, subst}
use Rattle.std.specs.Prelude.{is_some}
use Rattle.std.specs.List.{list_any}
use Rattle.std.proofs.lemmas.Bool.{false≢true}
use Rattle.base_script.specs.declared.actor.Actor.{Actor}
use Rattle.base_script.specs.declared.actor.Actor.TheVariants.{Ren}
use Rattle.server_model.specs.Along.{Along}
use Rattle.server_model.specs.declared.answer.Answer.{Answer}
use Rattle.server_model.specs.declared.answer.Answer.TheVariants as answers
use Rattle.server_model.specs.declared.entry.Asked.{Asked}
use Rattle.server_model.specs.declared.entry.Asked.TheVariants.{Call, Poll, Command, Cut}
use Rattle.server_model.specs.declared.entry.Entry.{Entry}
use Rattle.server_model.specs.declared.request.Request.{Request}
use Rattle.server_model.specs.declared.session.Waiting.{Waiting}
use Rattle.server_model.specs.Entries.{same_actor, is_cut}
use Rattle.server_model.specs.States.{State, waiting_of}
use Rattle.plan_data.specs.PlanData.{PlanData}
use Rattle.tool_program.specs.JournalWords.Journals.{state_at}
use Rattle.tool_program.specs.JournalWords.Sessions.{live_session}
use Rattle.tool_program.specs.CutoverCore.CutOvers.{is_wait}
use Rattle.tool_program.specs.Programs.{waits, given, IsGiven, Follows}
use Rattle.proof_journals.specs.Sentry.TurnResults.{renamer_at, WaitsSay}
use Rattle.proof_journals.specs.Turns.{request_of}
use Rattle.proof_journals.proofs.Actors.{same_actor_is}
use Rattle.proof_journals.specs.Machine.Standings.{Standing, standing_in, standing_of, answered, IsAbout, is_called, is_polled}
use Rattle.proof_journals.proofs.Machine.Journals.{IsRun, all_runs, IsTogether, together_more, together_begins, Asking, calls_so, polls_so, asking, never_commands}
use Rattle.proof_journals.proofs.Machine.Seated.{IsServed, others_stand, own_stands, own_lost}
use Rattle.proof_migration.specs.ToolPhase.Waits.{WaitsAreReported}

-- a session waits where a request waits in it
waits_request : (state : State) (live : Option ℕ) → waits state live ≡ is_some (standing_in state live).waits
waits_request state None = refl
waits_request state (Some n) = by state.waiting where
  by : (waiting : List Waiting) → list_any (λ one. one.session == n) waiting ≡ is_some (request_of (waiting_of n waiting))
  by [] = refl
  by (one ∷ waiting) = at (one.session == n) (by waiting) where
    at : (b : Bool) → list_any (λ one. one.session == n) waiting ≡ is_some (request_of (waiting_of n waiting)) → (b || list_any (λ one. one.session == n) waiting) ≡ is_some (request_of (cond b (Some one) (waiting_of n waiting)))
    at true rest = refl
    at false rest = rest

-- only a wait leaves a request waiting
answered_waits : (request : Request) (answer : Answer) (old : Standing) → is_some (answered request answer old).waits ≡ true → is_wait answer ≡ true
answered_waits request (answers.Waits by) old some = refl
answered_waits request answers.Lost old some = absurd (false≢true some)
answered_waits request (answers.TimedOut waited) old some = absurd (false≢true some)
answered_waits request answer old some = absurd (false≢true some)

renamer_waits : (plan : PlanData) (journal : List Entry) → IsTogether plan journal → renamer_at plan journal ≡ is_some (standing_of plan journal Ren).waits
renamer_waits plan journal together = ap (λ (s : State). waits s (live_session journal Ren)) together.server ∙ waits_request (state_at plan journal) (live_session journal Ren)

module _ (plan : PlanData) (journal : List Entry) (entry : Entry) (together : IsTogether plan journal) (run : IsRun plan journal entry) where
  abbrev more : List Entry
  more = journal ++ entry ∷ []

  following : IsTogether plan more
  following = together_more plan journal entry together run

  served : IsServed plan journal entry
  served = record { answered = run.answered; seated = record { session = run.followed.session } }

  -- what was given to this actor
  abbrev IsSaid : Actor → Asked → Type 0
  IsSaid actor Cut = Unit {0}
  IsSaid actor asked = given plan journal actor ≡ Some asked

  said_so : (asked : Asked) → IsGiven plan journal entry asked → IsSaid entry.actor asked
  said_so Cut gives = tt
  said_so (Call request) gives = gives
  said_so Poll gives = gives
  said_so (Command word) gives = gives

  others_say : same_actor entry.actor Ren ≡ false → renamer_at plan more ≡ renamer_at plan journal
  others_say differ =
      renamer_waits plan more following ∙ ap (λ (s : Standing). is_some s.waits) (others_stand plan journal entry together.known served Ren differ) ∙ sym (renamer_waits plan journal together)

  own_say : entry.actor ≡ Ren → is_some (standing_of plan more entry.actor).waits ≡ true → (is_wait entry.answer ≡ true) × (is_cut entry.asked ≡ false)
  unfolding given
  own_say who some = by entry.asked refl (subst (λ (a : Actor). IsSaid a entry.asked) who (said_so entry.asked run.followed.given)) where
    said : (request : Request) → IsAbout request (standing_of plan journal entry.actor) entry.asked → is_wait entry.answer ≡ true
    said request about = answered_waits request entry.answer (standing_of plan journal entry.actor) (ap (λ (s : Standing). is_some s.waits) (sym (own_stands plan journal entry together.known served request about)) ∙ some)

    about : (asked : Asked) → entry.asked ≡ asked → Asking plan journal Ren asked → is_wait entry.answer ≡ true
    about asked same (calls_so request asks idle call) = said request (is_called (same ∙ asks) (ap (λ (a : Actor). (standing_of plan journal a).waits) who ∙ idle))
    about asked same (polls_so request asks waits_so) = said request (is_polled (same ∙ asks) (ap (λ (a : Actor). (standing_of plan journal a).waits) who ∙ waits_so))

    by : (asked : Asked) → entry.asked ≡ asked → IsSaid Ren asked → (is_wait entry.answer ≡ true) × (is_cut entry.asked ≡ false)
    by Cut same gives = absurd (false≢true (ap (λ (s : Standing). is_some s.waits) (sym (own_lost plan journal entry together.known served same)) ∙ some))
    by (Call request) same gives = (about (Call request) same (asking plan journal Ren (Call request) together.server gives), ap is_cut same)
    by Poll same gives = (about Poll same (asking plan journal Ren Poll together.server gives), ap is_cut same)
    by (Command word) same gives = absurd (never_commands plan journal Ren word gives)

  waits_say : WaitsSay plan journal entry
  waits_say = record {
    others = λ differ. others_say differ;
    own = λ same waits_so.
        let who : entry.actor ≡ Ren = same_actor_is entry.actor Ren same in
        own_say who (ap (λ (a : Actor). is_some (standing_of plan more a).waits) who ∙ sym (renamer_waits plan more following) ∙ waits_so);
  }

-- turn by turn
reported_along : (plan : PlanData) (before journal : List Entry) → IsTogether plan before → Along (IsRun plan) before journal → Along (WaitsSay plan) before journal
reported_along plan before [] together runs = tt
reported_along plan before (entry ∷ journal) together runs = (waits_say plan before entry together runs.0, reported_along plan (before ++ entry ∷ []) journal (together_more plan before entry together runs.0) runs.1)

-- *Waits are told*
pub all_reported : WaitsAreReported
unfolding Follows
all_reported plan journal faithful follows = reported_along plan [] journal (together_begins plan) (all_runs plan [] journal faithful follows)
