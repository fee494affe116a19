-- What a turn is about: the request that is called, or that waits, and what its actor asks.
use Rattle.std.proofs.Common.{◌≡◌, true, false, not, List, [], ◌∷◌, ◌++◌, Option, Some, None, refl, sym, ap, ◌∙◌, subst}
use Rattle.std.proofs.lemmas.Bool.{true≢false}
use Rattle.table_store.specs.declared.renames.Pair.{Pair}
use Rattle.base_script.specs.declared.actor.Actor.{Actor}
use Rattle.base_script.specs.declared.actor.Side.{Side}
use Rattle.base_script.specs.declared.actor.Side.TheVariants.{Before, After}
use Rattle.server_model.specs.Answers.{ok}
use Rattle.server_model.specs.declared.answer.Answer.{Answer}
use Rattle.server_model.specs.declared.answer.Answer.TheVariants as answers
use Rattle.server_model.specs.declared.entry.Asked.{Asked}
use Rattle.server_model.specs.declared.entry.Asked.TheVariants.{Call, Poll, Command, Cut}
use Rattle.server_model.specs.declared.entry.Entry.{Entry}
use Rattle.server_model.specs.declared.request.Request.{Request}
use Rattle.server_model.specs.declared.request.Request.TheVariants as requests
use Rattle.server_model.specs.declared.session.Waiting.{Waiting}
use Rattle.server_model.specs.Entries.{is_client, is_command, is_cut}
use Rattle.server_model.specs.PlainServer.{serves}
use Rattle.server_model.specs.States.{State, waiting_of}
use Rattle.plan_data.specs.PlanData.{PlanData}
use Rattle.tool_program.specs.JournalWords.Histories as histories
use Rattle.tool_program.specs.JournalWords.Histories.{asked_about, request_waiting, takes_away, answer_in}
use Rattle.tool_program.specs.JournalWords.Journals.{may_lose, opens, state_at}
use Rattle.tool_program.specs.JournalWords.Journals as journals
use Rattle.tool_program.specs.Programs.{given, IsGiven}
use Rattle.proof_journals.specs.Plans.{IsSerialPlan}
use Rattle.proof_journals.specs.Turns.{about, answer_at, inner, request_of, reported_at}
use Rattle.proof_journals.proofs.Joined.{reported_answer}
use Rattle.proof_journals.proofs.Journals.{opened_waits}
use Rattle.proof_journals.specs.Machine.FormedPlans.{IsFitting}
use Rattle.proof_journals.specs.Machine.Standings.{IsAbout, is_called, is_polled, Standing, standing_of}
use Rattle.proof_journals.proofs.Machine.Journals.{IsRun, IsTogether}
use Rattle.proof_journals.proofs.Machine.Seated.{IsServed, own_waiting}
use Rattle.proof_migration.specs.ToolPhase.Unaltered.{IsUnaltered}
use Rattle.proof_migration.proofs.ToolPhase.Unaltered.Asking.{AskedAs, given_asked}
use Rattle.proof_migration.proofs.ToolPhase.Unaltered.Away.{IsKnownAsked, never_away}

-- WHAT A TURN IS ABOUT WAS CALLED, OR WAITS

module _ (plan : PlanData) (journal : List Entry) (entry : Entry) (together : IsTogether plan journal) (run : IsRun plan journal entry) where
  abbrev opened : State
  opened = opens entry (state_at plan journal)

  pub waits_before : is_command entry.asked ≡ false → (request : Request) → request_of (waiting_of entry.session opened.waiting) ≡ Some request → (standing_of plan journal entry.actor).waits ≡ Some request
  waits_before called request some =
      sym (own_waiting plan journal entry together.known (record { answered = run.answered; seated = record { session = run.followed.session } }) called)
      ∙ ap (λ (w : List Waiting). request_of (waiting_of entry.session w)) (sym (opened_waits (is_command entry.asked) (not (is_client entry.actor)) entry.session (state_at plan journal))) ∙ some

  pub about_from : (P : Request → Type 0) → ((request : Request) → entry.asked ≡ Call request → given plan journal entry.actor ≡ Some (Call request) → P request) → ((request : Request) → (standing_of plan journal entry.actor).waits ≡ Some request → P request) → (request : Request) → about opened entry.session entry.asked ≡ Some request → P request
  about_from P calls waits request is = by entry.asked refl run.followed.given is where
    by : (asked : Asked) → entry.asked ≡ asked → IsGiven plan journal entry asked → about opened entry.session asked ≡ Some request → P request
    by (Call called) asks gives is = let one : called ≡ request = cc in subst P one (calls called asks gives)
    by Poll asks gives is = waits request (waits_before (ap is_command asks) request is)
    by Cut asks gives is = waits request (waits_before (ap is_command asks) request is)
    by (Command word) asks gives is = absurd cc

module _ (plan : PlanData) (serial : IsSerialPlan plan) (fit : IsFitting plan) (journal : List Entry) (entry : Entry) (known : IsKnownAsked plan journal) (run : IsRun plan journal entry) (off : IsUnaltered plan (journal ++ entry ∷ [])) where
  abbrev now : State
  now = state_at plan journal

  abbrev has : Actor → Standing
  has = standing_of plan journal

  abbrev reported : Option Answer
  reported = reported_at entry.side entry.answer entry.missed

  served : IsServed plan journal entry
  served = record { answered = run.answered; seated = record { session = run.followed.session } }

  together : IsTogether plan journal
  together = known.marking.tabled.all.tool

  -- what waits before the turn
  pub waits_with : is_command entry.asked ≡ false → (request : Request) → request_of (waiting_of entry.session (opens entry now).waiting) ≡ Some request → (has entry.actor).waits ≡ Some request
  waits_with = waits_before plan journal entry together run

  -- THE RENAME

  pub about_so : (request : Request) → about (opens entry now) entry.session entry.asked ≡ Some request → histories.about journal entry ≡ Some request
  about_so request is = by entry.asked refl is where
    waiting : (asked : Asked) → entry.asked ≡ asked → is_command asked ≡ false → request_of (waiting_of entry.session (opens entry now).waiting) ≡ Some request → request_waiting journal entry.actor ≡ Some request
    waiting asked asks called some = known.marking.agree entry.actor ∙ waits_with (ap is_command asks ∙ called) request some

    by : (asked : Asked) → entry.asked ≡ asked → about (opens entry now) entry.session asked ≡ Some request → asked_about asked (request_waiting journal entry.actor) ≡ Some request
    by (Call called) asks is = is
    by Poll asks is = waiting Poll asks refl is
    by Cut asks is = waiting Cut asks refl is
    by (Command word) asks is = absurd cc

  pub reported_so : reported ≡ Some ok → is_command entry.asked ≡ false → answer_in entry.asked entry.side entry.answer entry.missed ≡ Some ok
  reported_so is called = by entry.asked refl called entry.side refl is where
    lost : entry.asked ≡ Cut → entry.side ≡ None → reported_at None entry.answer entry.missed ≡ Some ok → answer_in Cut None entry.answer entry.missed ≡ Some ok
    lost asks no_side is = absurd (no (ap Some (sym here) ∙ is)) where
      here : entry.answer ≡ answers.Lost
      here = reported_answer now entry run.answered ∙ ap (λ (s : Option Side). answer_at s (inner now entry)) no_side ∙ ap (λ (a : Asked). (serves (opens entry now) entry.session a).answer) asks

      no : Some answers.Lost ≡ Some ok → ⊥
      no same = cc

    missed_none : entry.side ≡ Some Before → entry.missed ≡ Some ok → ⊥
    missed_none at_side is = no (sym (run.answered.missed ∙ ap (λ (s : Option Side). journals.missed s (journals.inner_answer now entry)) at_side) ∙ is) where
      no : None ≡ Some ok → ⊥
      no same = cc

    by : (asked : Asked) → entry.asked ≡ asked → is_command asked ≡ false → (side : Option Side) → entry.side ≡ side → reported_at side entry.answer entry.missed ≡ Some ok → answer_in asked side entry.answer entry.missed ≡ Some ok
    by (Command word) asks called side at_side is = absurd (true≢false called)
    by Cut asks called None at_side is = lost asks at_side is
    by Cut asks called (Some side) at_side is = absurd (no (sym at_side ∙ run.answered.sides (ap may_lose asks))) where
      no : Some side ≡ None → ⊥
      no same = cc
    by (Call request) asks called None at_side is = is
    by (Call request) asks called (Some Before) at_side is = absurd (missed_none at_side is)
    by (Call request) asks called (Some After) at_side is = is
    by Poll asks called None at_side is = is
    by Poll asks called (Some Before) at_side is = absurd (missed_none at_side is)
    by Poll asks called (Some After) at_side is = is

  pub never_reported : is_client entry.actor ≡ false → is_command entry.asked ≡ false → (pairs : List Pair) → about (opens entry now) entry.session entry.asked ≡ Some (requests.Rename pairs) → takes_away plan.table pairs ≡ true → reported ≡ Some ok → ⊥
  never_reported tool called pairs is takes reported = never_away plan serial journal entry fit known run off tool pairs (about_so (requests.Rename pairs) is) (reported_so reported called) takes

  -- WHAT THE TURN IS ABOUT

  pub asked_as : (request : Request) → about (opens entry now) entry.session entry.asked ≡ Some request → AskedAs plan entry.actor request
  asked_as = about_from plan journal entry together run (AskedAs plan entry.actor) (λ request asks gives. given_asked plan journal entry.actor request gives) (known.asks entry.actor)

  pub about_called : (actor : Actor) (request : Request) → entry.actor ≡ actor → IsAbout request (has actor) entry.asked → about (opens entry now) entry.session entry.asked ≡ Some request
  about_called actor request same (is_called asks none) = ap (about (opens entry now) entry.session) asks
  about_called actor request same (is_polled asks some) =
      ap (about (opens entry now) entry.session) asks ∙ ap (λ (w : List Waiting). request_of (waiting_of entry.session w)) (opened_waits (is_command entry.asked) (not (is_client entry.actor)) entry.session now)
      ∙ own_waiting plan journal entry together.known served (ap is_command asks) ∙ ap (λ (a : Actor). (has a).waits) same ∙ some

  -- a call or a poll was given
  pub gave : (actor : Actor) → entry.actor ≡ actor → is_cut entry.asked ≡ false → given plan journal actor ≡ Some entry.asked
  gave actor same uncut = subst (λ (a : Actor). given plan journal a ≡ Some entry.asked) same (by entry.asked refl run.followed.given) where
    by : (asked : Asked) → entry.asked ≡ asked → IsGiven plan journal entry asked → given plan journal entry.actor ≡ Some entry.asked
    by (Call request) asks gives = gives ∙ ap Some (sym asks)
    by Poll asks gives = gives ∙ ap Some (sym asks)
    by (Command word) asks gives = gives ∙ ap Some (sym asks)
    by Cut asks gives = absurd (true≢false (sym (ap is_cut asks) ∙ uncut))
