-- How long an actor waits: each turn that is answered Waits counts one more, up to the plan's limit, and each other turn of the
-- actor's ends the wait.
use Rattle.server_model.specs.PlainServer.{counters_left, recounted}
use Rattle.std.proofs.Common.{◌≡◌, ◌≤◌, ◌<◌, ℕ, ◌+◌, ◌==◌, Bool, true, false, cond, not, List, [], ◌∷◌, ◌++◌, Option, Some, None, refl, sym, ap, ◌∙◌, subst, arith}
use Rattle.std.specs.Prelude.{is_some}
use Rattle.std.specs.List.{slice_get}
use Rattle.std.specs.Option.{option_map}
use Rattle.std.proofs.lemmas.Bool.{true≢false, false≢true}
use Rattle.std.proofs.lemmas.Bool.Decides.{nat_tests}
use Rattle.base_script.specs.declared.actor.Actor.{Actor}
use Rattle.base_script.specs.declared.actor.Actor.TheVariants.{Op, Insp, Copy, Apply, Lock, Ren, Client}
use Rattle.base_script.specs.declared.actor.Side.{Side}
use Rattle.server_model.specs.declared.answer.Answer.{Answer}
use Rattle.server_model.specs.declared.answer.Answer.TheVariants as answers
use Rattle.server_model.specs.declared.entry.Asked.{Asked}
use Rattle.server_model.specs.declared.entry.Asked.TheVariants.{Call, Poll, Command, Cut}
use Rattle.server_model.specs.declared.entry.Entry.{Entry}
use Rattle.server_model.specs.declared.request.Request.{Request}
use Rattle.server_model.specs.declared.session.Session.{Session}
use Rattle.server_model.specs.declared.session.Waiting.{Waiting}
use Rattle.server_model.specs.Answers.{ok}
use Rattle.server_model.specs.Entries.{same_actor, is_client, is_command, is_cut}
use Rattle.server_model.specs.Blockers.{need, blocker}
use Rattle.server_model.specs.PlainServer.{done, without_waiting, counting, called_unless, calls, limit_if, is_over, polled_over, polled_unless, polled_of, polls, serves, leaves}
use Rattle.server_model.specs.States.{State, session_of, with_session, waiting_of, polls_of, is_of_tool}
use Rattle.plan_data.specs.PlanData.{PlanData}
use Rattle.tool_program.specs.JournalWords.Journals.{state_at, opens}
use Rattle.tool_program.specs.JournalWords.KeptPlans.{words_of}
use Rattle.tool_program.specs.JournalWords.Sessions.{live_session, session_left, sessions_named}
use Rattle.tool_program.specs.JournalWords.Clients.{client_at, word_asks}
use Rattle.tool_program.specs.Programs.{given, IsGiven}
use Rattle.tool_program.specs.Tools.{moment}
use Rattle.proof_journals.specs.Turns.{request_of}
use Rattle.proof_journals.specs.Run.Laws.{Living}
use Rattle.proof_journals.specs.Machine.Scripts.{ScriptsFit}
use Rattle.proof_journals.specs.Machine.Standings.{Standing, standing_in, standing_of, answered, IsAbout, is_called, is_polled}
use Rattle.proof_journals.proofs.Actors.{sessions_begin, same_actor_is, same_actor_itself, live_more, left_own, Placed, Commands, GoesOn, Begins, placed, others_differ}
use Rattle.proof_journals.proofs.Faces.{changed_here}
use Rattle.proof_journals.proofs.Journals.{opened_waits}
use Rattle.proof_journals.proofs.Waiting.{IsDone, done_answers}
use Rattle.proof_journals.proofs.Run.Living.{living_begin, Both, both_more}
use Rattle.proof_journals.proofs.Machine.Clients.{Next, calls_line, polls_line, client_next}
use Rattle.proof_journals.proofs.Machine.ClientJournals.{ClientsTogether, clients_more, clients_begin}
use Rattle.proof_journals.proofs.Machine.Journals.{IsRun, IsTogether, Asking, calls_so, polls_so, asking, together_more, together_begins}
use Rattle.proof_journals.proofs.Machine.Seated.{IsServed, opened_old, is_open, state_more, session_there, request_there, own_stands, own_given, own_missed, own_lost}
use Rattle.proof_journals.proofs.Machine.Polling.{no_word}
use Rattle.proof_bounds.specs.Laws.{MayWait}
use Rattle.proof_migration.proofs.Attempt.Verdicts.Limits.{tool_waits, client_waits}

-- HOW OFTEN

-- the turns of the wait so far: the call, and each poll
abbrev pub waited_in : State → Option ℕ → ℕ
waited_in state None = 0
waited_in state (Some number) = cond (is_some (waiting_of number state.waiting)) (1 + polls_of (session_of number state.sessions)) 0

abbrev pub waited_by : PlanData → List Entry → Actor → ℕ
waited_by plan journal actor = waited_in (state_at plan journal) (live_session journal actor)

-- as often the plan lets an actor be polled
abbrev pub wait_of : PlanData → Actor → ℕ
wait_of plan actor = cond (is_client actor) plan.options.client_wait plan.options.tool_wait

-- what waits was polled less often than that
abbrev pub PollsFew : PlanData → List Entry → Type 0
PollsFew plan journal = (a : Actor) (n : ℕ) → live_session journal a ≡ Some n → is_some (waiting_of n (state_at plan journal).waiting) ≡ true → polls_of (session_of n (state_at plan journal).sessions) < wait_of plan a

wait_some : (plan : PlanData) → MayWait plan → (a : Actor) → 1 ≤ wait_of plan a
wait_some plan may a = by (is_client a) where
  by : (b : Bool) → 1 ≤ cond b plan.options.client_wait plan.options.tool_wait
  by true = may.client
  by false = may.tool

-- WHAT A TURN IS ABOUT

pub record About (plan : PlanData) (journal : List Entry) (entry : Entry) : Type 0 where
  pub request : Request
  pub is : IsAbout request (standing_of plan journal entry.actor) entry.asked

waits_none : (request : Request) (answer : Answer) (old : Standing) → ((one : ℕ) → answer ≡ answers.Waits one → ⊥) → (answered request answer old).waits ≡ None
waits_none request (answers.Waits by) old heard = absurd (heard by refl)
waits_none request answers.Lost old heard = refl
waits_none request (answers.TimedOut waited) old heard = refl
waits_none request answer old heard = refl

some_waits : (waiting : Option Waiting) (request : Request) → request_of waiting ≡ Some request → is_some waiting ≡ true
some_waits None request is = absurd cc
some_waits (Some w) request is = refl

none_is : (waiting : Option Waiting) → request_of waiting ≡ None → is_some waiting ≡ false
none_is None is = refl
none_is (Some w) is = absurd cc

-- who waits with nothing hasn't waited
pub idle_waited : (state : State) (live : Option ℕ) → (standing_in state live).waits ≡ None → waited_in state live ≡ 0
idle_waited state None idle = refl
idle_waited state (Some n) idle = ap (λ (b : Bool). cond b (1 + polls_of (session_of n state.sessions)) 0) (none_is (waiting_of n state.waiting) idle)

-- ONE TURN

module _ (plan : PlanData) (may : MayWait plan) (journal : List Entry) (entry : Entry) (together : IsTogether plan journal) (clients : ClientsTogether plan journal) (living : Living journal (state_at plan journal)) (run : IsRun plan journal entry) (few : PollsFew plan journal) where
  abbrev now : State
  now = state_at plan journal

  abbrev open_now : State
  open_now = opens entry now

  abbrev more : List Entry
  more = journal ++ entry ∷ []

  abbrev own : ℕ
  own = entry.session

  abbrev has : Standing
  has = standing_of plan journal entry.actor

  served : IsServed plan journal entry
  served = record { answered = run.answered; seated = record { session = run.followed.session } }

  at : Placed journal entry
  at = placed journal entry served.seated

  -- a call or a poll is about a request
  pub about : is_command entry.asked ≡ false → is_cut entry.asked ≡ false → About plan journal entry
  unfolding given
  about called uncut = by entry.asked refl called uncut run.followed.given where
    tool : (actor : Actor) (asked : Asked) → entry.actor ≡ actor → entry.asked ≡ asked → Asking plan journal actor asked → About plan journal entry
    tool actor asked who what (calls_so request same idle call) = record { request = request; is = subst (λ (a : Actor). IsAbout request (standing_of plan journal a) entry.asked) (sym who) (is_called (what ∙ same) idle) }
    tool actor asked who what (polls_so request same some) = record { request = request; is = subst (λ (a : Actor). IsAbout request (standing_of plan journal a) entry.asked) (sym who) (is_polled (what ∙ same) some) }

    line : (c : ℕ) (asked : Asked) → entry.actor ≡ Client c → entry.asked ≡ asked → Next (client_at plan journal c) asked → About plan journal entry
    line c asked who what (calls_line one lines going off left same) = record { request = word_asks one.word; is = subst (λ (a : Actor). IsAbout (word_asks one.word) (standing_of plan journal a) entry.asked) (sym who) (is_called (what ∙ same) ((clients.each c).free off)) }
    line c asked who what (polls_line going on same) =
        let held = (clients.each c).held on in
        record { request = word_asks held.0.word; is = subst (λ (a : Actor). IsAbout (word_asks held.0.word) (standing_of plan journal a) entry.asked) (sym who) (is_polled (what ∙ same) held.3) }

    each : (actor : Actor) (asked : Asked) → entry.actor ≡ actor → entry.asked ≡ asked → is_command asked ≡ false → given plan journal actor ≡ Some asked → About plan journal entry
    each Op asked who what called gives = absurd (no_word (slice_get (words_of plan) (moment plan journal).tool.operator.taken) asked called gives)
    each Insp asked who what called gives = tool Insp asked who what (asking plan journal Insp asked together.server gives)
    each Copy asked who what called gives = tool Copy asked who what (asking plan journal Copy asked together.server gives)
    each Apply asked who what called gives = tool Apply asked who what (asking plan journal Apply asked together.server gives)
    each Lock asked who what called gives = tool Lock asked who what (asking plan journal Lock asked together.server gives)
    each Ren asked who what called gives = tool Ren asked who what (asking plan journal Ren asked together.server gives)
    each (Client c) asked who what called gives = line c asked who what (client_next plan journal c asked gives)

    by : (asked : Asked) → entry.asked ≡ asked → is_command asked ≡ false → is_cut asked ≡ false → IsGiven plan journal entry asked → About plan journal entry
    by (Command word) what called uncut gives = absurd (true≢false called)
    by Cut what called uncut gives = absurd (true≢false uncut)
    by (Call request) what called uncut gives = each entry.actor (Call request) refl what refl gives
    by Poll what called uncut gives = each entry.actor Poll refl what refl gives

  -- THE SERVER'S COUNT

  open_waits : open_now.waiting ≡ now.waiting
  open_waits = opened_waits (is_command entry.asked) (not (is_client entry.actor)) own now

  after_is : entry.side ≡ None → (asked : Asked) → entry.asked ≡ asked → state_at plan more ≡ recounted (counters_left None open_now own asked) (serves open_now own asked).after
  after_is no_side asked asks =
      state_more plan journal entry ∙ ap (λ (side : Option Side). recounted (counters_left side open_now own entry.asked) (leaves side open_now own entry.asked)) no_side
      ∙ ap (λ (a : Asked). recounted (counters_left None open_now own a) (serves open_now own a).after) asks

  answer_is : entry.side ≡ None → (asked : Asked) → entry.asked ≡ asked → entry.answer ≡ (serves open_now own asked).answer
  answer_is no_side asked asks = sym (own_given plan journal entry together.known served no_side) ∙ ap (λ (a : Asked). (serves open_now own a).answer) asks

  counted_polls : (state : State) (k : ℕ) (found : Session) → session_of own state.sessions ≡ Some found → polls_of (session_of own (with_session own (counting k) state.sessions)) ≡ k
  counted_polls state k found is = ap polls_of (changed_here own (counting k) state.sessions found (λ s. refl) is)

  not_done : (answer : Answer) (one : ℕ) → IsDone answer → answer ≡ answers.Waits one → ⊥
  not_done answer one done same = subst IsDone same done

  -- a call that is made to wait was polled never
  called_polls : (request : Request) (one : ℕ) → entry.asked ≡ Call request → entry.side ≡ None → entry.answer ≡ answers.Waits one → polls_of (session_of own (state_at plan more).sessions) ≡ 0
  unfolding calls
  called_polls request one asks no_side waits = by (blocker open_now own (need open_now own request)) refl where
    by : (blocked : Option ℕ) → blocker open_now own (need open_now own request) ≡ blocked → polls_of (session_of own (state_at plan more).sessions) ≡ 0
    by None free_now =
        absurd (not_done (done open_now own request).answer one (done_answers open_now own request)
        (sym (answer_is no_side (Call request) asks ∙ ap (λ (b : Option ℕ). (called_unless b open_now own request).answer) free_now) ∙ waits))
    by (Some other) blocked =
        let opened = is_open plan journal entry together.known served (ap is_command asks) in
        ap (λ (s : State). polls_of (session_of own s.sessions)) (after_is no_side (Call request) asks ∙ ap (λ (b : Option ℕ). recounted (counters_left None open_now own (Call request)) (called_unless b open_now own request).after) blocked) ∙ counted_polls open_now 0 opened.found opened.is

  -- what waits was there before: the session was live
  was_live : entry.asked ≡ Poll → is_some (waiting_of own now.waiting) ≡ true → live_session journal entry.actor ≡ Some own
  was_live asks some = by at where
    by : Placed journal entry → live_session journal entry.actor ≡ Some own
    by (Commands command zero) = absurd (true≢false (sym command ∙ ap is_command asks))
    by (GoesOn called lives) = lives
    by (Begins called uncut none above) = absurd (false≢true (sym (ap is_some (together.known.unasked own above)) ∙ some))

  still_open : live_session journal entry.actor ≡ Some own → open_now ≡ now
  still_open lives = opened_old (is_command entry.asked) (not (is_client entry.actor)) own now (together.known.live entry.actor own lives)

  limit_is : live_session journal entry.actor ≡ Some own → limit_if (is_of_tool (session_of own now.sessions)) now.limits ≡ wait_of plan entry.actor
  limit_is lives = ap (λ (b : Bool). limit_if b now.limits) (of_tool (session_of own now.sessions) (living.kinds entry.actor own lives)) ∙ by (is_client entry.actor) where
    of_tool : (found : Option Session) → option_map (λ (s : Session). s.is_tool) found ≡ Some (not (is_client entry.actor)) → is_of_tool found ≡ not (is_client entry.actor)
    of_tool None none = absurd cc
    of_tool (Some session) some = cc

    by : (b : Bool) → limit_if (not b) now.limits ≡ cond b plan.options.client_wait plan.options.tool_wait
    by true = client_waits plan journal
    by false = tool_waits plan journal

  -- a poll that still waits counts one more, and isn't the last
  pub record Polled : Type 0 where
    pub lives : live_session journal entry.actor ≡ Some own
    pub was : is_some (waiting_of own now.waiting) ≡ true
    pub once : polls_of (session_of own (state_at plan more).sessions) ≡ polls_of (session_of own now.sessions) + 1
    pub less : polls_of (session_of own now.sessions) + 1 < wait_of plan entry.actor

  over_not : (p n limit : ℕ) → p < n → limit ≡ n → (p + 1 == limit) ≡ false → p + 1 < n
  over_not p n limit less is off = grind (arith, nat_tests, less, is, off)

  polled_polls : (one : ℕ) → entry.asked ≡ Poll → entry.side ≡ None → entry.answer ≡ answers.Waits one → Polled
  unfolding polls
  polled_polls one asks no_side waits = by (waiting_of own open_now.waiting) refl where
    ok_not : ok ≡ answers.Waits one → ⊥
    ok_not same = cc

    answer : (waiting : Option Waiting) → waiting_of own open_now.waiting ≡ waiting → entry.answer ≡ (polled_of waiting open_now own).answer
    answer waiting old = answer_is no_side Poll asks ∙ ap (λ (o : Option Waiting). (polled_of o open_now own).answer) old

    after : (waiting : Option Waiting) → waiting_of own open_now.waiting ≡ waiting → state_at plan more ≡ recounted (counters_left None open_now own Poll) (polled_of waiting open_now own).after
    after waiting old = after_is no_side Poll asks ∙ ap (λ (o : Option Waiting). recounted (counters_left None open_now own Poll) (polled_of o open_now own).after) old

    timed_not : (n : ℕ) → answers.TimedOut n ≡ answers.Waits one → ⊥
    timed_not n same = cc

    over : (old : Waiting) → waiting_of own open_now.waiting ≡ Some old → (other : ℕ) → blocker open_now own (need open_now own old.request) ≡ Some other → (b : Bool) → is_over open_now own ≡ b → Polled
    over old was other blocked true is =
        absurd (timed_not _ (sym (answer (Some old) was ∙ ap (λ (b : Option ℕ). (polled_unless b open_now own old.request).answer) blocked ∙ ap (λ (b : Bool). (polled_over b other open_now own).answer) is) ∙ waits))
    over old was other blocked false is = let opened = is_open plan journal entry together.known served (ap is_command asks) in record {
      lives = lives;
      was = some;
      once =
          ap (λ (s : State). polls_of (session_of own s.sessions)) (after (Some old) was ∙ ap (λ (b : Option ℕ). recounted (counters_left None open_now own Poll) (polled_unless b open_now own old.request).after) blocked
          ∙ ap (λ (b : Bool). recounted (counters_left None open_now own Poll) (polled_over b other open_now own).after) is)
          ∙ counted_polls open_now (polls_of (session_of own open_now.sessions) + 1) opened.found opened.is ∙ ap (λ (s : State). polls_of (session_of own s.sessions) + 1) (still_open lives);
      less =
          over_not (polls_of (session_of own now.sessions)) (wait_of plan entry.actor) (limit_if (is_of_tool (session_of own now.sessions)) now.limits) (few entry.actor own lives some) (limit_is lives)
          (ap (λ (s : State). polls_of (session_of own s.sessions) + 1 == limit_if (is_of_tool (session_of own s.sessions)) s.limits) (sym (still_open lives)) ∙ is);
    } where
      some : is_some (waiting_of own now.waiting) ≡ true
      some = ap (λ (w : List Waiting). is_some (waiting_of own w)) (sym open_waits) ∙ ap is_some was

      lives : live_session journal entry.actor ≡ Some own
      lives = was_live asks some

    blocked_by : (old : Waiting) → waiting_of own open_now.waiting ≡ Some old → (blocked : Option ℕ) → blocker open_now own (need open_now own old.request) ≡ blocked → Polled
    blocked_by old was None free_now =
        absurd (not_done (done (without_waiting own open_now) own old.request).answer one (done_answers (without_waiting own open_now) own old.request)
        (sym (answer (Some old) was ∙ ap (λ (b : Option ℕ). (polled_unless b open_now own old.request).answer) free_now) ∙ waits))
    blocked_by old was (Some other) blocked = over old was other blocked (is_over open_now own) refl

    by : (waiting : Option Waiting) → waiting_of own open_now.waiting ≡ waiting → Polled
    by None none = absurd (ok_not (sym (answer None none) ∙ waits))
    by (Some old) was = blocked_by old was (blocker open_now own (need open_now own old.request)) refl

  heard_waits : (one : ℕ) → entry.answer ≡ answers.Waits one → entry.side ≡ None
  heard_waits one waits = by entry.side refl where
    by : (side : Option Side) → entry.side ≡ side → side ≡ None
    by None is = refl
    by (Some side) is = absurd (no (sym (own_missed plan journal entry together.known served side is) ∙ waits)) where
      no : answers.Lost ≡ answers.Waits one → ⊥
      no same = cc

  left_is : (one : ℕ) → entry.answer ≡ answers.Waits one → is_command entry.asked ≡ false → session_left entry.asked entry.answer own ≡ Some own
  left_is one waits called = by entry.asked called where
    by : (asked : Asked) → is_command asked ≡ false → session_left asked entry.answer own ≡ Some own
    by (Command word) called = absurd (true≢false called)
    by (Call request) called = ap (λ (a : Answer). session_left (Call request) a own) waits
    by Poll called = ap (λ (a : Answer). session_left Poll a own) waits
    by Cut called = ap (λ (a : Answer). session_left Cut a own) waits

  own_live : live_session more entry.actor ≡ session_left entry.asked entry.answer own
  own_live = live_more journal entry entry.actor ∙ ap (λ (b : Bool). cond b (session_left entry.asked entry.answer own) (live_session journal entry.actor)) (same_actor_itself entry.actor)

  -- WHAT A TURN LEAVES

  -- a wait goes on
  pub record StillWaits : Type 0 where
    pub lives : live_session more entry.actor ≡ Some own
    pub waits : is_some (waiting_of own (state_at plan more).waiting) ≡ true
    pub polls : polls_of (session_of own (state_at plan more).sessions) < wait_of plan entry.actor
    pub counts : waited_by plan more entry.actor ≡ waited_by plan journal entry.actor + 1

  pub waits_on : (one : ℕ) → is_command entry.asked ≡ false → is_cut entry.asked ≡ false → entry.answer ≡ answers.Waits one → StillWaits
  waits_on one called uncut waits = by (about called uncut).is where
    request : Request
    request = (about called uncut).request

    no_side : entry.side ≡ None
    no_side = heard_waits one waits

    lives_on : live_session more entry.actor ≡ Some own
    lives_on = own_live ∙ left_is one waits called

    stands : standing_of plan more entry.actor ≡ answered request entry.answer has
    stands = own_stands plan journal entry together.known served request (about called uncut).is

    still : is_some (waiting_of own (state_at plan more).waiting) ≡ true
    still =
        some_waits (waiting_of own (state_at plan more).waiting) request
        (ap (λ (l : Option ℕ). (standing_in (state_at plan more) l).waits) (sym lives_on) ∙ ap (λ (s : Standing). s.waits) stands ∙ ap (λ (a : Answer). (answered request a has).waits) waits)

    counted : waited_by plan more entry.actor ≡ 1 + polls_of (session_of own (state_at plan more).sessions)
    counted = ap (waited_in (state_at plan more)) lives_on ∙ ap (λ (b : Bool). cond b (1 + polls_of (session_of own (state_at plan more).sessions)) 0) still

    by : IsAbout request has entry.asked → StillWaits
    by (is_called same idle) =
        let none = called_polls request one same no_side waits in
        let before = idle_waited now (live_session journal entry.actor) idle in
        let some = wait_some plan may entry.actor in
        record { lives = lives_on; waits = still; polls = subst (λ (k : ℕ). k < wait_of plan entry.actor) (sym none) (omega (arith, some)); counts = let is = counted in omega (arith, is, none, before) }
    by (is_polled same some) =
        let polled = polled_polls one same no_side waits in
        let before : waited_by plan journal entry.actor ≡ 1 + polls_of (session_of own now.sessions) = ap (waited_in now) polled.lives ∙ ap (λ (b : Bool). cond b (1 + polls_of (session_of own now.sessions)) 0) polled.was in
        let once = polled.once in
        record { lives = lives_on; waits = still; polls = subst (λ (k : ℕ). k < wait_of plan entry.actor) (sym once) polled.less; counts = let is = counted in omega (arith, is, once, before) }

  -- a wait is over, or there was none
  pub waits_end : is_command entry.asked ≡ false → is_cut entry.asked ≡ false → ((one : ℕ) → entry.answer ≡ answers.Waits one → ⊥) → waited_by plan more entry.actor ≡ 0
  waits_end called uncut heard =
      idle_waited (state_at plan more) (live_session more entry.actor)
      (ap (λ (s : Standing). s.waits) (own_stands plan journal entry together.known served (about called uncut).request (about called uncut).is) ∙ waits_none (about called uncut).request entry.answer has heard)

  pub waits_cut : entry.asked ≡ Cut → waited_by plan more entry.actor ≡ 0
  waits_cut cut = idle_waited (state_at plan more) (live_session more entry.actor) (ap (λ (s : Standing). s.waits) (own_lost plan journal entry together.known served cut))

  -- another actor
  pub others_wait : (a : Actor) → same_actor entry.actor a ≡ false → waited_by plan more a ≡ waited_by plan journal a
  others_wait a differ =
      ap (waited_in (state_at plan more)) (live_more journal entry a ∙ ap (λ (b : Bool). cond b (session_left entry.asked entry.answer own) (live_session journal a)) differ) ∙ by (live_session journal a) refl where
        by : (live : Option ℕ) → live_session journal a ≡ live → waited_in (state_at plan more) live ≡ waited_in now live
        by None is = refl
        by (Some n) is =
            let apart : (n == own) ≡ false = others_differ journal entry together.known.sessions at a n differ is in
            ap (λ (w : Option Waiting). cond (is_some w) (1 + polls_of (session_of n (state_at plan more).sessions)) 0) (request_there plan journal entry together.known served n apart)
            ∙ ap (λ (s : Option Session). cond (is_some (waiting_of n now.waiting)) (1 + polls_of s) 0) (session_there plan journal entry together.known served n apart)

  -- *Polls are few*, one turn more
  pub few_more : PollsFew plan more
  few_more a n lives is = by (same_actor entry.actor a) refl where
    other : same_actor entry.actor a ≡ false → polls_of (session_of n (state_at plan more).sessions) < wait_of plan a
    other differ =
        let before : live_session journal a ≡ Some n = sym (ap (λ (b : Bool). cond b (session_left entry.asked entry.answer own) (live_session journal a)) differ) ∙ sym (live_more journal entry a) ∙ lives in
        let apart : (n == own) ≡ false = others_differ journal entry together.known.sessions at a n differ before in
        subst (λ (s : Option Session). polls_of s < wait_of plan a) (sym (session_there plan journal entry together.known served n apart))
        (few a n before (ap is_some (sym (request_there plan journal entry together.known served n apart)) ∙ is))

    mine : entry.actor ≡ a → polls_of (session_of n (state_at plan more).sessions) < wait_of plan a
    mine who = subst (λ (b : Actor). polls_of (session_of n (state_at plan more).sessions) < wait_of plan b) who (subst (λ (k : ℕ). polls_of (session_of k (state_at plan more).sessions) < wait_of plan entry.actor) (sym left.1) (heard entry.answer refl)) where
      left : (is_command entry.asked ≡ false) × (n ≡ own)
      left = left_own entry.asked entry.answer own n (sym own_live ∙ ap (live_session more) who ∙ lives)

      uncut : is_cut entry.asked ≡ false
      uncut = at_cut entry.asked refl where
        none_some : None ≡ Some n → ⊥
        none_some same = cc

        lost_cut : entry.asked ≡ Cut → ⊥
        lost_cut cut = false≢true (sym idle_now ∙ is_now) where
          idle_now : is_some (waiting_of n (state_at plan more).waiting) ≡ false
          idle_now = none_is (waiting_of n (state_at plan more).waiting) (ap (λ (l : Option ℕ). (standing_in (state_at plan more) l).waits) (sym lives ∙ ap (live_session more) (sym who)) ∙ ap (λ (s : Standing). s.waits) (own_lost plan journal entry together.known served cut))

          is_now : is_some (waiting_of n (state_at plan more).waiting) ≡ true
          is_now = is

        at_cut : (asked : Asked) → entry.asked ≡ asked → is_cut asked ≡ false
        at_cut (Call request) same = refl
        at_cut Poll same = refl
        at_cut (Command word) same = refl
        at_cut Cut same = absurd (lost_cut same)

      ends : ((one : ℕ) → entry.answer ≡ answers.Waits one → ⊥) → ⊥
      ends heard = false≢true (sym (none_is (waiting_of n (state_at plan more).waiting)
          (ap (λ (l : Option ℕ). (standing_in (state_at plan more) l).waits) (sym lives ∙ ap (live_session more) (sym who)) ∙ ap (λ (s : Standing). s.waits) (own_stands plan journal entry together.known served (about left.0 uncut).request (about left.0 uncut).is)
          ∙ waits_none (about left.0 uncut).request entry.answer has heard)) ∙ is)

      heard : (answer : Answer) → entry.answer ≡ answer → polls_of (session_of own (state_at plan more).sessions) < wait_of plan entry.actor
      heard (answers.Waits one) waits = (waits_on one left.0 uncut waits).polls
      heard answer waits = absurd (ends (λ one same. let bad : answer ≡ answers.Waits one = sym waits ∙ same in cc))

    by : (b : Bool) → same_actor entry.actor a ≡ b → polls_of (session_of n (state_at plan more).sessions) < wait_of plan a
    by false differ = other differ
    by true same = mine (same_actor_is entry.actor a same)

-- no wait is longer than the plan lets it be
pub waits_short : (plan : PlanData) (journal : List Entry) → PollsFew plan journal → (a : Actor) → waited_by plan journal a ≤ wait_of plan a
waits_short plan journal few a = by (live_session journal a) refl where
  at_some : (n : ℕ) → live_session journal a ≡ Some n → (b : Bool) → is_some (waiting_of n (state_at plan journal).waiting) ≡ b → cond b (1 + polls_of (session_of n (state_at plan journal).sessions)) 0 ≤ wait_of plan a
  at_some n lives true is = let less = few a n lives is in omega (arith, less)
  at_some n lives false is = omega arith

  by : (live : Option ℕ) → live_session journal a ≡ live → waited_in (state_at plan journal) live ≤ wait_of plan a
  by None is = omega arith
  by (Some n) is = at_some n is (is_some (waiting_of n (state_at plan journal).waiting)) refl

-- BEHIND EVERY JOURNAL

pub record IsCounted (plan : PlanData) (journal : List Entry) : Type 0 where
  pub together : IsTogether plan journal
  pub clients : ClientsTogether plan journal
  pub both : Both plan journal
  pub few : PollsFew plan journal

few_begins : (plan : PlanData) → PollsFew plan []
unfolding live_session
few_begins plan a n lives is = absurd (no lives) where
  no : None ≡ Some n → ⊥
  no same = cc

pub counted_more : (plan : PlanData) → MayWait plan → (journal : List Entry) (entry : Entry) → IsRun plan journal entry → IsCounted plan journal → IsCounted plan (journal ++ entry ∷ [])
counted_more plan may journal entry run is = record {
  together = together_more plan journal entry is.together run;
  clients = clients_more plan journal entry is.clients run;
  both = both_more plan journal entry (run.answered, record { session = run.followed.session }) is.both;
  few = few_more plan may journal entry is.together is.clients is.both.living run is.few;
}

pub counted_begins : (plan : PlanData) → ScriptsFit plan → IsCounted plan []
unfolding live_session sessions_named
counted_begins plan fit = record { together = together_begins plan; clients = clients_begin plan fit; both = record { known = sessions_begin; living = living_begin plan }; few = few_begins plan }
