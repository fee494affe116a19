-- Each session that is live on the server is some actor's live one, behind every journal that is faithful and follows the
-- program.
use Rattle.std.proofs.Common.{◌≡◌, ℕ, ◌≤◌, Bool, true, false, cond, not, List, [], ◌∷◌, ◌++◌, Option, Some, None, refl, sym, ap, ◌∙◌, subst, arith}
use Rattle.std.specs.Prelude.{◌==◌, is_some}
use Rattle.std.specs.List.{slice_get}
use Rattle.std.specs.Option.{option_map}
use Rattle.std.proofs.lemmas.Bool.{true≢false, false≢true}
use Rattle.base_script.specs.declared.actor.Actor.{Actor}
use Rattle.base_script.specs.declared.actor.Actor.TheVariants.{Op, Insp, Copy, Apply, Lock, Ren, Client}
use Rattle.base_script.specs.declared.actor.Side.{Side}
use Rattle.base_script.specs.declared.operator.OperatorWord.{OperatorWord}
use Rattle.server_model.specs.Along.{Along-keeps}
use Rattle.server_model.specs.declared.answer.Answer.{Answer}
use Rattle.server_model.specs.declared.answer.Answer.TheVariants as answers
use Rattle.server_model.specs.declared.entry.Asked.{Asked}
use Rattle.server_model.specs.declared.entry.Asked.TheVariants.{Call, Poll, Command, Cut}
use Rattle.server_model.specs.declared.entry.Entry.{Entry}
use Rattle.server_model.specs.declared.request.Request.{Request}
use Rattle.server_model.specs.declared.request.Request.TheVariants as requests
use Rattle.server_model.specs.declared.session.Session.{Session}
use Rattle.server_model.specs.declared.session.Waiting.{Waiting}
use Rattle.server_model.specs.Answers.{ok}
use Rattle.server_model.specs.Entries.{same_actor, is_client, is_command, is_cut}
use Rattle.server_model.specs.PlainServer.{polled_of, polls, serves}
use Rattle.server_model.specs.States.{State, session_of, waiting_of, is_live}
use Rattle.plan_data.specs.PlanData.{PlanData}
use Rattle.tool_program.specs.JournalWords.Journals.{opens, state_after, state_at, IsFaithful}
use Rattle.tool_program.specs.JournalWords.KeptPlans.{words_of}
use Rattle.tool_program.specs.JournalWords.Sessions.{live_session, session_left}
use Rattle.tool_program.specs.Programs.{given, IsGiven, Follows}
use Rattle.tool_program.specs.Tools.{moment}
use Rattle.proof_journals.specs.Turns.{request_of}
use Rattle.proof_journals.proofs.Actors.{same_actor_is, same_actor_itself, live_more, Placed, Commands, GoesOn, Begins, placed}
use Rattle.server_model.proofs.LockedRows.Tests.{same_number, are_one}
use Rattle.proof_journals.specs.Run.Counts.{kind_of}
use Rattle.proof_journals.proofs.Run.Turns.{is_lost, kind_left, turn_leaves, opened_kind, opened}
use Rattle.proof_journals.specs.Machine.Standings.{serves_to, gives}
use Rattle.proof_journals.proofs.Machine.Fitting.{call_fits, poll_fits}
use Rattle.proof_journals.proofs.Machine.Journals.{IsRun, IsTogether, all_runs, together_more, together_begins, never_commands, client_commands}
use Rattle.proof_journals.proofs.Machine.Polling.{no_word}
use Rattle.proof_journals.proofs.Machine.Seated.{IsKnown, IsServed, state_more, session_there, own_given, own_session}
use Rattle.proof_migration.specs.ToolPhase.Laws.{IsOwned, SessionsAreOwned}

-- SMALL FACTS

never_lost : (request : Request) → gives request answers.Lost ≡ true → ⊥
never_lost requests.Begin is = cc
never_lost request is = cc

-- a turn in which the session isn't lost
unlost_side : (side : Option Side) (asked : Asked) → is_lost side asked ≡ false → (side ≡ None) × (asked ≡ Cut → ⊥)
unlost_side (Some side) asked is = absurd (true≢false is)
unlost_side None Cut is = absurd (true≢false is)
unlost_side None (Call request) is = (refl, λ same. cc)
unlost_side None Poll is = (refl, λ same. cc)
unlost_side None (Command word) is = (refl, λ same. cc)

left_kept : (asked : Asked) (answer : Answer) (session : ℕ) → is_command asked ≡ false → (answer ≡ answers.Lost → ⊥) → session_left asked answer session ≡ Some session
left_kept (Command word) answer session called heard = absurd (true≢false called)
left_kept asked answers.Lost session called heard = absurd (heard refl)
left_kept (Call request) answer session called heard = refl
left_kept Poll answer session called heard = refl
left_kept Cut answer session called heard = refl

kind_lives : (found : Option Session) → is_some found ≡ true → option_map (λ (s : Session). s.is_tool) found ≡ None → ⊥
kind_lives None live none = false≢true live
kind_lives (Some session) live none = cc

-- WHO COMMANDS

-- commands are the operator's
pub commands_operator : (plan : PlanData) (journal : List Entry) (actor : Actor) (word : OperatorWord) → given plan journal actor ≡ Some (Command word) → actor ≡ Op
unfolding given
commands_operator plan journal Op word gives = refl
commands_operator plan journal (Client c) word gives = absurd (client_commands plan journal c word gives)
commands_operator plan journal Insp word gives = absurd (never_commands plan journal Insp word gives)
commands_operator plan journal Copy word gives = absurd (never_commands plan journal Copy word gives)
commands_operator plan journal Apply word gives = absurd (never_commands plan journal Apply word gives)
commands_operator plan journal Lock word gives = absurd (never_commands plan journal Lock word gives)
commands_operator plan journal Ren word gives = absurd (never_commands plan journal Ren word gives)

-- ... and it asks nothing else
operator_commands : (plan : PlanData) (journal : List Entry) (asked : Asked) → is_command asked ≡ false → given plan journal Op ≡ Some asked → ⊥
unfolding given
operator_commands plan journal asked none gives = no_word (slice_get (words_of plan) (moment plan journal).tool.operator.taken) asked none gives

-- ONE TURN

pub record AllOwned (plan : PlanData) (journal : List Entry) : Type 0 where
  pub owner : (session : ℕ) → is_live (state_at plan journal) session ≡ true → IsOwned journal session
  pub operator : live_session journal Op ≡ None

module _ (plan : PlanData) (journal : List Entry) (entry : Entry) (known : IsKnown plan journal) (run : IsRun plan journal entry) (is : AllOwned plan journal) where
  abbrev now : State
  now = state_at plan journal

  abbrev open_now : State
  open_now = opens entry now

  abbrev more : List Entry
  more = journal ++ entry ∷ []

  served : IsServed plan journal entry
  served = record { answered = run.answered; seated = record { session = run.followed.session } }

  at : Placed journal entry
  at = placed journal entry served.seated

  -- a call or a poll is answered something else than a loss, unless the session is lost in it
  heard : entry.side ≡ None → (entry.asked ≡ Cut → ⊥) → is_command entry.asked ≡ false → entry.answer ≡ answers.Lost → ⊥
  unfolding polls
  heard no_side uncut called lost = by entry.asked refl where
    given_lost : (serves open_now entry.session entry.asked).answer ≡ answers.Lost
    given_lost = own_given plan journal entry known served no_side ∙ lost

    polled : (waiting : Option Waiting) → waiting_of entry.session open_now.waiting ≡ waiting → (polls open_now entry.session).answer ≡ answers.Lost → ⊥
    polled None none gone = no (sym (ap (λ (w : Option Waiting). (polled_of w open_now entry.session).answer) none) ∙ gone) where
      no : ok ≡ answers.Lost → ⊥
      no same = cc
    polled (Some waiting) some gone = never_lost waiting.request (ap (serves_to waiting.request) (sym gone) ∙ poll_fits open_now entry.session waiting.request (ap request_of some))

    by : (asked : Asked) → entry.asked ≡ asked → ⊥
    by (Call request) asks = never_lost request (ap (serves_to request) (sym (ap (λ (a : Asked). (serves open_now entry.session a).answer) (sym asks) ∙ given_lost)) ∙ call_fits open_now entry.session request)
    by Poll asks = polled (waiting_of entry.session open_now.waiting) refl (ap (λ (a : Asked). (serves open_now entry.session a).answer) (sym asks) ∙ given_lost)
    by (Command word) asks = true≢false (sym (ap is_command asks) ∙ called)
    by Cut asks = uncut asks

  commanded : is_command entry.asked ≡ true → entry.actor ≡ Op
  commanded command = by entry.asked command run.followed.given where
    by : (asked : Asked) → is_command asked ≡ true → IsGiven plan journal entry asked → entry.actor ≡ Op
    by (Command word) command gives = commands_operator plan journal entry.actor word gives
    by (Call request) command gives = absurd (false≢true command)
    by Poll command gives = absurd (false≢true command)
    by Cut command gives = absurd (false≢true command)

  live_after : (a : Actor) → live_session more a ≡ cond (same_actor entry.actor a) (session_left entry.asked entry.answer entry.session) (live_session journal a)
  live_after a = live_more journal entry a

  -- another session stays its owner's
  stays : (session : ℕ) → (session == entry.session) ≡ false → IsOwned journal session → IsOwned more session
  stays session differ owned = record { actor = owned.actor; lives = live_after owned.actor ∙ by (same_actor entry.actor owned.actor) refl } where
    differs : session ≡ entry.session → ⊥
    differs same = true≢false (sym (ap (λ (n : ℕ). n == entry.session) same ∙ same_number entry.session) ∙ differ)

    no_some : {A : Type 0} → live_session journal owned.actor ≡ None → A
    no_some none = absurd (no (sym none ∙ owned.lives)) where
      no : None ≡ Some session → ⊥
      no same = cc

    own : entry.actor ≡ owned.actor → Placed journal entry → ⊥
    own same (Commands command zero) = no_some (ap (live_session journal) (sym same ∙ commanded command) ∙ is.operator)
    own same (GoesOn calls live) = differs (by_some (sym owned.lives ∙ ap (live_session journal) (sym same) ∙ live)) where
      by_some : Some session ≡ Some entry.session → session ≡ entry.session
      by_some both = cc
    own same (Begins calls uncut live above) = no_some (ap (live_session journal) (sym same) ∙ live)

    by : (b : Bool) → same_actor entry.actor owned.actor ≡ b → cond b (session_left entry.asked entry.answer entry.session) (live_session journal owned.actor) ≡ Some session
    by true same = absurd (own (same_actor_is entry.actor owned.actor same) at)
    by false differ = owned.lives

  kind_after : kind_of entry.session (state_at plan more).sessions ≡ kind_left (is_lost entry.side entry.asked) (opened_kind (is_command entry.asked) (not (is_client entry.actor)) (kind_of entry.session now.sessions))
  kind_after =
      ap (λ (s : State). kind_of entry.session s.sessions) (state_more plan journal entry) ∙ (turn_leaves entry.side open_now entry.session entry.asked).own
      ∙ ap (kind_left (is_lost entry.side entry.asked)) (opened (is_command entry.asked) (not (is_client entry.actor)) entry.session now).own

  -- the turn's session is its actor's
  here : is_live (state_at plan more) entry.session ≡ true → IsOwned more entry.session
  here live = by (is_lost entry.side entry.asked) refl (is_command entry.asked) refl where
    gone : {A : Type 0} → kind_of entry.session (state_at plan more).sessions ≡ None → A
    gone none = absurd (kind_lives (session_of entry.session (state_at plan more).sessions) live none)

    -- the operator has no session
    no_session : is_command entry.asked ≡ true → is_lost entry.side entry.asked ≡ false → kind_of entry.session now.sessions ≡ None
    no_session command unlost = found (session_of entry.session now.sessions) refl where
      zero : Placed journal entry → entry.session ≡ 0
      zero (Commands command is_zero) = is_zero
      zero (GoesOn calls live) = absurd (true≢false (sym command ∙ calls))
      zero (Begins calls uncut live above) = absurd (true≢false (sym command ∙ calls))

      from_one : IsOwned journal entry.session → 1 ≤ entry.session
      from_one owned = (known.sessions.own owned.actor entry.session owned.lives).0

      none_from : (n : ℕ) → n ≡ 0 → 1 ≤ n → ⊥
      none_from n is_zero some = omega (arith, is_zero, some)

      found : (one : Option Session) → session_of entry.session now.sessions ≡ one → kind_of entry.session now.sessions ≡ None
      found None none = ap (option_map (λ (s : Session). s.is_tool)) none
      found (Some session) some = absurd (none_from entry.session (zero at) (from_one (is.owner entry.session (ap is_some some))))

    by : (lost : Bool) → is_lost entry.side entry.asked ≡ lost → (command : Bool) → is_command entry.asked ≡ command → IsOwned more entry.session
    by true lost command asks = gone (kind_after ∙ ap (λ (b : Bool). kind_left b (opened_kind (is_command entry.asked) (not (is_client entry.actor)) (kind_of entry.session now.sessions))) lost)
    by false unlost true command =
        gone (kind_after ∙ ap (λ (b : Bool). kind_left b (opened_kind (is_command entry.asked) (not (is_client entry.actor)) (kind_of entry.session now.sessions))) unlost
        ∙ ap (λ (b : Bool). opened_kind b (not (is_client entry.actor)) (kind_of entry.session now.sessions)) command ∙ ap (opened_kind true (not (is_client entry.actor))) (no_session command unlost))
    by false unlost false called =
        let sides = unlost_side entry.side entry.asked unlost in
        record {
          actor = entry.actor;
          lives =
              live_after entry.actor ∙ ap (λ (b : Bool). cond b (session_left entry.asked entry.answer entry.session) (live_session journal entry.actor)) (same_actor_itself entry.actor)
              ∙ left_kept entry.asked entry.answer entry.session called (heard sides.0 sides.1 called);
        }

  owner_more : (session : ℕ) → is_live (state_at plan more) session ≡ true → IsOwned more session
  owner_more session live = by (session == entry.session) refl where
    by : (b : Bool) → (session == entry.session) ≡ b → IsOwned more session
    by true same = let one : session ≡ entry.session = are_one session entry.session same in subst (IsOwned more) (sym one) (here (ap (is_live (state_at plan more)) (sym one) ∙ live))
    by false differ = stays session differ (is.owner session (ap is_some (sym (session_there plan journal entry known served session differ)) ∙ live))

  operator_more : live_session more Op ≡ None
  operator_more = live_after Op ∙ by (same_actor entry.actor Op) refl where
    own : entry.actor ≡ Op → (asked : Asked) → entry.asked ≡ asked → IsGiven plan journal entry asked → session_left entry.asked entry.answer entry.session ≡ None
    own same (Command word) asks gives = ap (λ (a : Asked). session_left a entry.answer entry.session) asks
    own same Cut asks gives = absurd (no (sym (ap (live_session journal) same ∙ is.operator) ∙ own_session plan journal entry known served (ap is_cut asks))) where
      no : None ≡ Some entry.session → ⊥
      no both = cc
    own same (Call request) asks gives = absurd (operator_commands plan journal (Call request) refl (subst (λ (a : Actor). given plan journal a ≡ Some (Call request)) same gives))
    own same Poll asks gives = absurd (operator_commands plan journal Poll refl (subst (λ (a : Actor). given plan journal a ≡ Some Poll) same gives))

    by : (b : Bool) → same_actor entry.actor Op ≡ b → cond b (session_left entry.asked entry.answer entry.session) (live_session journal Op) ≡ None
    by true same = own (same_actor_is entry.actor Op same) entry.asked refl run.followed.given
    by false differ = is.operator

  pub owned_more : AllOwned plan more
  owned_more = record { owner = owner_more; operator = operator_more }

pub owned_begins : (plan : PlanData) → AllOwned plan []
unfolding state_after live_session
owned_begins plan = record { owner = λ session live. absurd cc; operator = refl }

-- WHOLE JOURNALS

pub record IsOwnedTogether (plan : PlanData) (journal : List Entry) : Type 0 where
  pub tool : IsTogether plan journal
  pub owned : AllOwned plan journal

pub together_owned : (plan : PlanData) (journal : List Entry) → IsFaithful plan journal → Follows plan journal → IsOwnedTogether plan journal
unfolding Follows
together_owned plan journal faithful follows =
    Along-keeps (IsRun plan) (IsOwnedTogether plan) (λ before entry run is. record { tool = together_more plan before entry is.tool run; owned = owned_more plan before entry is.tool.known run is.owned }) [] journal (all_runs plan [] journal faithful follows)
    (record { tool = together_begins plan; owned = owned_begins plan })

-- *Sessions are owned*
pub all_owned : SessionsAreOwned
all_owned plan journal session faithful follows live = (together_owned plan journal faithful follows).owned.owner session live
