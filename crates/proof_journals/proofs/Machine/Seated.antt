-- What the sessions of a journal are on the server: each actor's live session is live there, and what it has follows from
-- its turns' answers.
use Rattle.std.proofs.Common.{◌≡◌, ◌<◌, ℕ, Bool, true, false, not, ◌||◌, List, [], ◌∷◌, ◌++◌, cond, Option, Some, None, refl, sym, ap, ◌∙◌, subst}
use Rattle.std.specs.Prelude.{◌==◌, is_some}
use Rattle.std.proofs.lemmas.Bool.{true≢false}
use Rattle.base_script.specs.declared.actor.Actor.{Actor}
use Rattle.base_script.specs.declared.actor.Side.{Side}
use Rattle.server_model.specs.Along.{Along, Along-keeps}
use Rattle.server_model.specs.declared.answer.Answer.{Answer}
use Rattle.server_model.specs.declared.answer.Answer.TheVariants as answers
use Rattle.server_model.specs.declared.entry.Asked.{Asked}
use Rattle.server_model.specs.declared.entry.Asked.TheVariants.{Call, Poll, Command, Cut}
use Rattle.server_model.specs.declared.entry.Entry.{Entry}
use Rattle.server_model.specs.declared.request.Request.{Request}
use Rattle.server_model.specs.declared.session.Session.{Session}
use Rattle.server_model.specs.declared.session.Waiting.{Waiting}
use Rattle.server_model.specs.declared.request.Request.TheVariants as requests
use Rattle.std.specs.List.{list_any}
use Rattle.std.specs.Str.{bytes_eq}
use Rattle.server_model.specs.Entries.{same_actor, is_client, is_command, is_cut}
use Rattle.server_model.specs.States.{State, session_of, connected, new_session, waiting_of, is_live}
use Rattle.server_model.specs.PlainServer.{calls, serves, leaves}
use Rattle.plan_data.specs.PlanData.{PlanData}
use Rattle.tool_program.specs.JournalWords.Journals.{may_lose, opening, opens, opens_if, after_entry, state_after, state_at, IsAnswered}
use Rattle.tool_program.specs.JournalWords.Histories.{waits_after}
use Rattle.tool_program.specs.JournalWords.Sessions.{session_left, live_session, sessions_named, IsSeated}
use Rattle.proof_journals.specs.Turns.{request_of, inner, answer_at}
use Rattle.proof_journals.specs.Holdings.{face_in, face_of}
use Rattle.proof_journals.proofs.Actors.{same_actor_itself, live_more, Placed, Commands, GoesOn, Begins, placed, SessionsKnown, sessions_begin, sessions_more, live_cases, others_differ, named_less, named_differs, lost_left}
use Rattle.proof_journals.proofs.Joined.{reported_answer}
use Rattle.proof_journals.proofs.Journals.{opened_waits}
use Rattle.proof_journals.proofs.Waiting.{waits_there, waits_called, waits_polled}
use Rattle.proof_journals.proofs.Journals.{state_more as after_more}
use Rattle.server_model.proofs.LockedRows.Tests.{same_number, turned}
use Rattle.proof_journals.specs.Machine.Standings.{Standing, free, standing, standing_in, standing_of, answered, serves_to, answers_to, IsAbout, is_called, is_polled, MayTake, opened_for}
use Rattle.proof_journals.proofs.Machine.Fitting.{IsPrompt, call_fits, poll_fits, drop_prompt}
use Rattle.proof_journals.proofs.Machine.Served.{Own, called_left, polled_left, left_there, served_live}

-- CONNECTING

joined_there : (tool : Bool) (number other : ℕ) (sessions : List Session) → (other == number) ≡ false → session_of other (sessions ++ new_session number tool ∷ []) ≡ session_of other sessions
joined_there tool number other [] differ = rw (turned other number differ) refl
joined_there tool number other (first ∷ sessions) differ = ap (λ (o : Option Session). cond (first.number == other) (Some first) o) (joined_there tool number other sessions differ)

joined_here : (tool : Bool) (number : ℕ) (sessions : List Session) → session_of number sessions ≡ None → session_of number (sessions ++ new_session number tool ∷ []) ≡ Some (new_session number tool)
joined_here tool number [] none = rw (same_number number) refl
joined_here tool number (first ∷ sessions) none = at (first.number == number) none (joined_here tool number sessions) where
  at : (b : Bool) → cond b (Some first) (session_of number sessions) ≡ None → (session_of number sessions ≡ None → session_of number (sessions ++ new_session number tool ∷ []) ≡ Some (new_session number tool))
      → cond b (Some first) (session_of number (sessions ++ new_session number tool ∷ [])) ≡ Some (new_session number tool)
  at true none rest = absurd cc
  at false none rest = rest none

pub opened_there : (nothing tool : Bool) (number other : ℕ) (state : State) → (other == number) ≡ false → session_of other (opens_if nothing tool number state).sessions ≡ session_of other state.sessions
unfolding opens_if
opened_there nothing tool number other state differ = at (nothing || is_some (session_of number state.sessions)) where
  at : (b : Bool) → session_of other (cond b state (connected number tool state)).sessions ≡ session_of other state.sessions
  at true = refl
  at false = joined_there tool number other state.sessions differ

pub opened_old : (nothing tool : Bool) (number : ℕ) (state : State) → is_some (session_of number state.sessions) ≡ true → opens_if nothing tool number state ≡ state
unfolding opens_if
opened_old true tool number state is = refl
opened_old false tool number state is = ap (λ (b : Bool). cond b state (connected number tool state)) is

pub opened_new : (tool : Bool) (number : ℕ) (state : State) → session_of number state.sessions ≡ None → session_of number (opens_if false tool number state).sessions ≡ Some (new_session number tool)
unfolding opens_if
opened_new tool number state none = at (is_some (session_of number state.sessions)) (ap is_some none) where
  at : (b : Bool) → b ≡ false → session_of number (cond b state (connected number tool state)).sessions ≡ Some (new_session number tool)
  at true is = absurd (true≢false is)
  at false is = joined_here tool number state.sessions none

-- WHAT IS SO BEHIND EVERY JOURNAL

-- each actor's live session is live on the server; and a number that wasn't given yet is no session's
pub record IsKnown (plan : PlanData) (journal : List Entry) : Type 0 where
  pub sessions : SessionsKnown journal
  pub live : (a : Actor) (n : ℕ) → live_session journal a ≡ Some n → is_live (state_at plan journal) n ≡ true
  pub fresh : (n : ℕ) → sessions_named journal < n → session_of n (state_at plan journal).sessions ≡ None
  pub unasked : (n : ℕ) → sessions_named journal < n → waiting_of n (state_at plan journal).waiting ≡ None

-- an entry whose answer is the server's, in its actor's session
pub record IsServed (plan : PlanData) (journal : List Entry) (entry : Entry) : Type 0 where
  pub answered : IsAnswered (state_at plan journal) entry
  pub seated : IsSeated journal entry

pub state_more : (plan : PlanData) (journal : List Entry) (entry : Entry) → state_at plan (journal ++ entry ∷ []) ≡ after_entry (state_at plan journal) entry
state_more plan journal entry = after_more (opening plan) journal entry

standing_same : (one other : Standing) → one.busy ≡ other.busy → one.locked ≡ other.locked → one.waits ≡ other.waits → one ≡ other
standing_same one other busy locked waits = λ i. record { busy = busy i; locked = locked i; waits = waits i }

some_is : (found : Option Session) (P : Type 0) → is_some found ≡ true → ((session : Session) → found ≡ Some session → P) → P
some_is None P is then = absurd (true≢false (sym is))
some_is (Some session) P is then = then session refl

-- THE SESSION OF A TURN TO COME

-- it is live once it is opened, and has what its actor's had
pub record IsOpened (plan : PlanData) (journal : List Entry) (actor : Actor) (n : ℕ) : Type 0 where
  pub found : Session
  pub is : session_of n (opened_for plan journal actor n).sessions ≡ Some found
  pub stands : standing_of plan journal actor ≡ standing (face_in (Some found)) (request_of (waiting_of n (state_at plan journal).waiting))

opened_so : (plan : PlanData) (journal : List Entry) (actor : Actor) (n : ℕ) → IsKnown plan journal → (live : Option ℕ) → live_session journal actor ≡ live → MayTake journal n live → IsOpened plan journal actor n
opened_so plan journal actor n known (Some session) lives is =
    let live : live_session journal actor ≡ Some n = lives ∙ ap Some (sym is) in
    let there : is_some (session_of n (state_at plan journal).sessions) ≡ true = known.live actor n live in
    some_is (session_of n (state_at plan journal).sessions) (IsOpened plan journal actor n) there
    (λ found same. record {
      found = found;
      is = ap (λ (s : State). session_of n s.sessions) (opened_old false (not (is_client actor)) n (state_at plan journal) there) ∙ same;
      stands = ap (standing_in (state_at plan journal)) live ∙ ap (λ (o : Option Session). standing (face_in o) (request_of (waiting_of n (state_at plan journal).waiting))) same;
    })
opened_so plan journal actor n known None lives above = record {
  found = new_session n (not (is_client actor));
  is = opened_new (not (is_client actor)) n (state_at plan journal) (known.fresh n above);
  stands = ap (standing_in (state_at plan journal)) lives ∙ ap (λ (w : Option Waiting). standing (face_in (Some (new_session n (not (is_client actor))))) (request_of w)) (sym (known.unasked n above));
}

pub is_opened : (plan : PlanData) (journal : List Entry) (actor : Actor) (n : ℕ) → IsKnown plan journal → MayTake journal n (live_session journal actor) → IsOpened plan journal actor n
is_opened plan journal actor n known may = opened_so plan journal actor n known (live_session journal actor) refl may

module _ (plan : PlanData) (journal : List Entry) (entry : Entry) (known : IsKnown plan journal) (served : IsServed plan journal entry) where
  abbrev now : State
  now = state_at plan journal

  abbrev open_now : State
  open_now = opens entry now

  at : Placed journal entry
  at = placed journal entry served.seated

  answer_is : entry.answer ≡ answer_at entry.side (inner now entry)
  answer_is = reported_answer now entry served.answered

  abbrev more : List Entry
  more = journal ++ entry ∷ []

  -- ANOTHER SESSION

  pub session_there : (n : ℕ) → (n == entry.session) ≡ false → session_of n (state_at plan more).sessions ≡ session_of n now.sessions
  session_there n differ =
      ap (λ (s : State). session_of n s.sessions) (state_more plan journal entry) ∙ left_there entry.side open_now entry.session n entry.asked differ ∙ opened_there (is_command entry.asked) (not (is_client entry.actor)) entry.session n now differ

  pub request_there : (n : ℕ) → (n == entry.session) ≡ false → waiting_of n (state_at plan more).waiting ≡ waiting_of n now.waiting
  request_there n differ =
      ap (λ (s : State). waiting_of n s.waiting) (state_more plan journal entry) ∙ waits_there entry.side open_now entry.session n entry.asked differ
      ∙ ap (waiting_of n) (opened_waits (is_command entry.asked) (not (is_client entry.actor)) entry.session now)

  standing_there : (live : Option ℕ) → ((n : ℕ) → live ≡ Some n → (n == entry.session) ≡ false) → standing_in (state_at plan more) live ≡ standing_in now live
  standing_there None differ = refl
  standing_there (Some n) differ =
      ap (λ (o : Option Session). standing (face_in o) (request_of (waiting_of n (state_at plan more).waiting))) (session_there n (differ n refl)) ∙ ap (λ (w : Option Waiting). standing (face_of now.sessions n) (request_of w)) (request_there n (differ n refl))

  -- *Another actor's session has what it had*
  pub others_stand : (a : Actor) → same_actor entry.actor a ≡ false → standing_of plan more a ≡ standing_of plan journal a
  others_stand a differ =
      ap (standing_in (state_at plan more)) (live_more journal entry a ∙ ap (λ (b : Bool). cond b (session_left entry.asked entry.answer entry.session) (live_session journal a)) differ)
      ∙ standing_there (live_session journal a) (λ n lives. others_differ journal entry known.sessions at a n differ lives)

  -- THE OWN SESSION

  -- before the turn it is live, and has what its actor's had
  pub record IsOpen : Type 0 where
    pub found : Session
    pub is : session_of entry.session open_now.sessions ≡ Some found
    pub stands : standing_of plan journal entry.actor ≡ standing (face_in (Some found)) (request_of (waiting_of entry.session now.waiting))

  pub is_open : is_command entry.asked ≡ false → IsOpen
  is_open called =
      let opened : IsOpened plan journal entry.actor entry.session = is_opened plan journal entry.actor entry.session known (by at) in
      record { found = opened.found; is = ap (λ (b : Bool). session_of entry.session (opens_if b (not (is_client entry.actor)) entry.session now).sessions) called ∙ opened.is; stands = opened.stands } where
        by : Placed journal entry → MayTake journal entry.session (live_session journal entry.actor)
        by (Commands command zero) = absurd (true≢false (sym command ∙ called))
        by (GoesOn calls live) = rw live refl
        by (Begins calls uncut live above) = rw live above

  lost_stands : entry.answer ≡ answers.Lost → standing_of plan more entry.actor ≡ free
  lost_stands lost =
      ap (standing_in (state_at plan more)) (live_more journal entry entry.actor ∙ ap (λ (b : Bool). cond b (session_left entry.asked entry.answer entry.session) (live_session journal entry.actor)) (same_actor_itself entry.actor)
      ∙ ap (λ (a : Answer). session_left entry.asked a entry.session) lost ∙ lost_left entry.asked entry.session)

  -- what a session has behind a call or a poll whose answer is heard
  heard_stands : entry.side ≡ None → is_command entry.asked ≡ false → (request : Request) → session_left entry.asked entry.answer entry.session ≡ Some entry.session
      → Own entry.session (serves open_now entry.session entry.asked).after.sessions (answered request entry.answer (standing_of plan journal entry.actor)).busy (answered request entry.answer (standing_of plan journal entry.actor)).locked
      → request_of (waiting_of entry.session (serves open_now entry.session entry.asked).after.waiting) ≡ (answered request entry.answer (standing_of plan journal entry.actor)).waits
      → standing_of plan more entry.actor ≡ answered request entry.answer (standing_of plan journal entry.actor)
  heard_stands no_side called request left own waits =
      ap (standing_in (state_at plan more)) (live_more journal entry entry.actor ∙ ap (λ (b : Bool). cond b (session_left entry.asked entry.answer entry.session) (live_session journal entry.actor)) (same_actor_itself entry.actor) ∙ left)
      ∙ ap (λ (s : State). standing_in s (Some entry.session)) (state_more plan journal entry) ∙ ap (λ (side : Option Side). standing_in (leaves side open_now entry.session entry.asked) (Some entry.session)) no_side
      ∙ ap (λ (o : Option Session). standing (face_in o) (request_of (waiting_of entry.session (serves open_now entry.session entry.asked).after.waiting))) own.is
      ∙ standing_same _ _ own.busy own.locked waits

  -- behind a call of a session that doesn't wait, and a poll of one that does
  waits_call : (request : Request) (old : Standing) (answer : Answer) → (answer ≡ answers.Lost → ⊥) → waits_after (Call request) answer old.waits ≡ (answered request answer old).waits
  waits_call request old (answers.Waits by) heard = refl
  waits_call request old answers.Lost heard = absurd (heard refl)
  waits_call request old (answers.TimedOut waited) heard = refl
  waits_call request old answer heard = refl

  waits_poll : (request : Request) (old : Standing) (answer : Answer) → old.waits ≡ Some request → (answer ≡ answers.Lost → ⊥) → waits_after Poll answer old.waits ≡ (answered request answer old).waits
  waits_poll request old (answers.Waits by) some heard = some
  waits_poll request old answers.Lost some heard = absurd (heard refl)
  waits_poll request old (answers.TimedOut waited) some heard = refl
  waits_poll request old answer some heard = refl

  about_called : (request : Request) → IsAbout request (standing_of plan journal entry.actor) entry.asked → is_command entry.asked ≡ false
  about_called request (is_called same none) = ap is_command same
  about_called request (is_polled same some) = ap is_command same

  left_some : (request : Request) → IsAbout request (standing_of plan journal entry.actor) entry.asked → (entry.answer ≡ answers.Lost → ⊥) → session_left entry.asked entry.answer entry.session ≡ Some entry.session
  left_some request (is_called same none) heard = rw same (by entry.answer heard) where
    by : (answer : Answer) → (answer ≡ answers.Lost → ⊥) → session_left (Call request) answer entry.session ≡ Some entry.session
    by answers.Lost heard = absurd (heard refl)
    by answer heard = refl
  left_some request (is_polled same some) heard = rw same (by entry.answer heard) where
    by : (answer : Answer) → (answer ≡ answers.Lost → ⊥) → session_left Poll answer entry.session ≡ Some entry.session
    by answers.Lost heard = absurd (heard refl)
    by answer heard = refl

  -- the own session behind a request at this state
  abbrev OwnLeft : State → Asked → Standing → Request → Type 0
  OwnLeft state asked old request = Own entry.session (serves state entry.session asked).after.sessions (answered request (serves state entry.session asked).answer old).busy (answered request (serves state entry.session asked).answer old).locked

  own_left : (opened_one : IsOpen) (request : Request) → IsAbout request (standing_of plan journal entry.actor) entry.asked
      → OwnLeft open_now entry.asked (standing_of plan journal entry.actor) request
  own_left opened_one request (is_called same none) =
      subst (λ (a : Asked). OwnLeft open_now a (standing_of plan journal entry.actor) request) (sym same)
      (subst (λ (s : Standing). OwnLeft open_now (Call request) s request) (sym opened_one.stands) (called_left open_now entry.session opened_one.found opened_one.is request (request_of (waiting_of entry.session now.waiting))))
  own_left opened_one request (is_polled same some) =
      let waits : request_of (waiting_of entry.session now.waiting) ≡ Some request = ap (λ (s : Standing). s.waits) (sym opened_one.stands) ∙ some in
      let waits_open : request_of (waiting_of entry.session open_now.waiting) ≡ Some request = ap (λ (w : List Waiting). request_of (waiting_of entry.session w)) (opened_waits (is_command entry.asked) (not (is_client entry.actor)) entry.session now) ∙ waits in
      subst (λ (a : Asked). OwnLeft open_now a (standing_of plan journal entry.actor) request) (sym same)
      (subst (λ (s : Standing). OwnLeft open_now Poll s request) (sym (opened_one.stands ∙ ap (standing (face_in (Some opened_one.found))) waits)) (polled_left open_now entry.session opened_one.found opened_one.is request waits_open))

  none_if : (waiting : Option Waiting) → request_of waiting ≡ None → waiting ≡ None
  none_if None none = refl
  none_if (Some waiting) some = absurd cc

  own_request : (opened_one : IsOpen) (request : Request) → IsAbout request (standing_of plan journal entry.actor) entry.asked → entry.side ≡ None → (entry.answer ≡ answers.Lost → ⊥)
      → request_of (waiting_of entry.session (serves open_now entry.session entry.asked).after.waiting) ≡ (answered request entry.answer (standing_of plan journal entry.actor)).waits
  own_request opened_one request about no_side heard = by about where
    same_waits : open_now.waiting ≡ now.waiting
    same_waits = opened_waits (is_command entry.asked) (not (is_client entry.actor)) entry.session now

    had : request_of (waiting_of entry.session open_now.waiting) ≡ (standing_of plan journal entry.actor).waits
    had = ap (λ (w : List Waiting). request_of (waiting_of entry.session w)) same_waits ∙ ap (λ (s : Standing). s.waits) (sym opened_one.stands)

    given : (serves open_now entry.session entry.asked).answer ≡ entry.answer
    given = sym (answer_is ∙ ap (λ (side : Option Side). answer_at side (inner now entry)) no_side)

    by : IsAbout request (standing_of plan journal entry.actor) entry.asked → request_of (waiting_of entry.session (serves open_now entry.session entry.asked).after.waiting) ≡ (answered request entry.answer (standing_of plan journal entry.actor)).waits
    by (is_called same none) =
        ap (λ (asked : Asked). request_of (waiting_of entry.session (serves open_now entry.session asked).after.waiting)) same
        ∙ waits_called open_now entry.session request (none_if (waiting_of entry.session open_now.waiting) (had ∙ none)) (standing_of plan journal entry.actor).waits
        ∙ ap (λ (a : Answer). waits_after (Call request) a (standing_of plan journal entry.actor).waits) (ap (λ (asked : Asked). (serves open_now entry.session asked).answer) (sym same) ∙ given)
        ∙ waits_call request (standing_of plan journal entry.actor) entry.answer heard
    by (is_polled same some) =
        ap (λ (asked : Asked). request_of (waiting_of entry.session (serves open_now entry.session asked).after.waiting)) same
        ∙ waits_polled open_now entry.session ∙ ap (waits_after Poll (serves open_now entry.session Poll).answer) had
        ∙ ap (λ (a : Answer). waits_after Poll a (standing_of plan journal entry.actor).waits) (ap (λ (asked : Asked). (serves open_now entry.session asked).answer) (sym same) ∙ given)
        ∙ waits_poll request (standing_of plan journal entry.actor) entry.answer some heard

  -- *The own session has what the answer tells*
  pub own_stands : (request : Request) → IsAbout request (standing_of plan journal entry.actor) entry.asked → standing_of plan more entry.actor ≡ answered request entry.answer (standing_of plan journal entry.actor)
  own_stands request about = by entry.side refl entry.answer refl where
    lost : entry.answer ≡ answers.Lost → standing_of plan more entry.actor ≡ answered request entry.answer (standing_of plan journal entry.actor)
    lost is = lost_stands is ∙ ap (λ (a : Answer). answered request a (standing_of plan journal entry.actor)) (sym is)

    heard : entry.side ≡ None → (entry.answer ≡ answers.Lost → ⊥) → standing_of plan more entry.actor ≡ answered request entry.answer (standing_of plan journal entry.actor)
    heard no_side not_lost =
        let opened_one : IsOpen = is_open (about_called request about) in
        heard_stands no_side (about_called request about) request (left_some request about not_lost)
        (subst (λ (a : Answer). Own entry.session (serves open_now entry.session entry.asked).after.sessions (answered request a (standing_of plan journal entry.actor)).busy (answered request a (standing_of plan journal entry.actor)).locked)
        (sym (answer_is ∙ ap (λ (side : Option Side). answer_at side (inner now entry)) no_side)) (own_left opened_one request about))
        (own_request opened_one request about no_side not_lost)

    by : (side : Option Side) → entry.side ≡ side → (answer : Answer) → entry.answer ≡ answer → standing_of plan more entry.actor ≡ answered request entry.answer (standing_of plan journal entry.actor)
    by (Some side) at_side answer is = lost (answer_is ∙ ap (λ (s : Option Side). answer_at s (inner now entry)) at_side)
    by None no_side answers.Lost is = lost is
    by None no_side answer is = heard no_side (λ same. let bad : answer ≡ answers.Lost = sym is ∙ same in cc)

  pub own_waiting : is_command entry.asked ≡ false → request_of (waiting_of entry.session now.waiting) ≡ (standing_of plan journal entry.actor).waits
  own_waiting called = ap (λ (s : Standing). s.waits) (sym (is_open called).stands)

  -- *Its answer is one that its request may have*
  pub own_heard : (request : Request) → IsAbout request (standing_of plan journal entry.actor) entry.asked → entry.side ≡ None → serves_to request entry.answer ≡ true
  own_heard request (is_called same none) no_side =
      ap (serves_to request) (answer_is ∙ ap (λ (side : Option Side). answer_at side (inner now entry)) no_side ∙ ap (λ (asked : Asked). (serves open_now entry.session asked).answer) same) ∙ call_fits open_now entry.session request
  own_heard request (is_polled same some) no_side =
      let opened_one : IsOpen = is_open (ap is_command same) in
      let waits_open : request_of (waiting_of entry.session open_now.waiting) ≡ Some request =
      ap (λ (w : List Waiting). request_of (waiting_of entry.session w)) (opened_waits (is_command entry.asked) (not (is_client entry.actor)) entry.session now) ∙ ap (λ (s : Standing). s.waits) (sym opened_one.stands) ∙ some in
      ap (serves_to request) (answer_is ∙ ap (λ (side : Option Side). answer_at side (inner now entry)) no_side ∙ ap (λ (asked : Asked). (serves open_now entry.session asked).answer) same) ∙ poll_fits open_now entry.session request waits_open

  pub own_given : entry.side ≡ None → (serves open_now entry.session entry.asked).answer ≡ entry.answer
  own_given no_side = sym (answer_is ∙ ap (λ (side : Option Side). answer_at side (inner now entry)) no_side)

  pub own_missed : (side : Side) → entry.side ≡ Some side → entry.answer ≡ answers.Lost
  own_missed side at_side = answer_is ∙ ap (λ (s : Option Side). answer_at s (inner now entry)) at_side

  heard_answers : (request : Request) (answer : Answer) → serves_to request answer ≡ true → answers_to request answer ≡ true
  heard_answers request answers.Lost fits = refl
  heard_answers request (answers.Waits by) fits = fits
  heard_answers request (answers.TimedOut waited) fits = fits
  heard_answers request (answers.Refused number column) fits = fits
  heard_answers request answer fits = fits

  pub own_fits : (request : Request) → IsAbout request (standing_of plan journal entry.actor) entry.asked → answers_to request entry.answer ≡ true
  own_fits request about = by entry.side refl where
    by : (side : Option Side) → entry.side ≡ side → answers_to request entry.answer ≡ true
    by (Some side) at_side = ap (answers_to request) (own_missed side at_side)
    by None no_side = heard_answers request entry.answer (own_heard request about no_side)

  -- *A table that the session locked is dropped at once*
  pub own_prompt : (name : List ℕ) → entry.asked ≡ Call (requests.Drop name) → list_any (bytes_eq name) (standing_of plan journal entry.actor).locked ≡ true → IsPrompt entry.answer
  own_prompt name asks among = by entry.side refl where
    opened_one : IsOpen
    opened_one = is_open (ap is_command asks)

    by : (side : Option Side) → entry.side ≡ side → IsPrompt entry.answer
    by (Some side) at_side = subst IsPrompt (sym (answer_is ∙ ap (λ (s : Option Side). answer_at s (inner now entry)) at_side)) tt
    by None no_side =
        subst IsPrompt (sym (answer_is ∙ ap (λ (s : Option Side). answer_at s (inner now entry)) no_side ∙ ap (λ (asked : Asked). (serves open_now entry.session asked).answer) asks))
        (drop_prompt open_now entry.session opened_one.found name opened_one.is (ap (λ (s : Standing). list_any (bytes_eq name) s.locked) (sym opened_one.stands) ∙ among))

  -- a session that is lost between calls has nothing
  pub own_lost : entry.asked ≡ Cut → standing_of plan more entry.actor ≡ free
  own_lost cut = lost_stands (answer_is ∙ ap (λ (s : Option Side). answer_at s (inner now entry)) (served.answered.sides (ap may_lose cut)) ∙ ap (λ (asked : Asked). (serves open_now entry.session asked).answer) cut)

  -- it is the one that the actor's turns are in
  pub own_session : is_cut entry.asked ≡ true → live_session journal entry.actor ≡ Some entry.session
  own_session cut = by at where
    no_command : (asked : Asked) → is_cut asked ≡ true → is_command asked ≡ false
    no_command Cut is = refl
    no_command (Call request) is = absurd cc
    no_command Poll is = absurd cc
    no_command (Command word) is = absurd cc

    by : Placed journal entry → live_session journal entry.actor ≡ Some entry.session
    by (Commands command zero) = absurd (true≢false (sym command ∙ no_command entry.asked cut))
    by (GoesOn calls live) = live
    by (Begins calls uncut live above) = absurd (true≢false (sym cut ∙ uncut))

  -- ONE TURN MORE

  more_live : (a : Actor) (n : ℕ) → live_session more a ≡ Some n → is_live (state_at plan more) n ≡ true
  more_live a n lives = live_cases journal entry known.sessions at a n (is_live (state_at plan more) n ≡ true) lives here there where
    there : same_actor entry.actor a ≡ false → live_session journal a ≡ Some n → is_live (state_at plan more) n ≡ true
    there differ old = ap is_some (session_there n (others_differ journal entry known.sessions at a n differ old)) ∙ known.live a n old

    own_left_some : a ≡ entry.actor → session_left entry.asked entry.answer entry.session ≡ Some n
    own_left_some same =
        sym (ap (λ (b : Bool). cond b (session_left entry.asked entry.answer entry.session) (live_session journal entry.actor)) (same_actor_itself entry.actor)) ∙ sym (live_more journal entry entry.actor) ∙ ap (live_session more) (sym same) ∙ lives

    not_lost : (asked : Asked) (answer : Answer) → session_left asked answer entry.session ≡ Some n → answer ≡ answers.Lost → ⊥
    not_lost asked answer some is = none asked (sym (ap (λ (b : Answer). session_left asked b entry.session) is) ∙ some) where
      none : (asked : Asked) → session_left asked answers.Lost entry.session ≡ Some n → ⊥
      none (Call request) same = cc
      none Poll same = cc
      none Cut same = cc
      none (Command word) same = cc

    here : a ≡ entry.actor → is_command entry.asked ≡ false → n ≡ entry.session → is_live (state_at plan more) n ≡ true
    here same called is =
        let opened_one : IsOpen = is_open called in
        let heard : entry.answer ≡ answers.Lost → ⊥ = not_lost entry.asked entry.answer (own_left_some same) in
        ap (is_live (state_at plan more)) is ∙ by entry.side refl heard opened_one where
          by : (side : Option Side) → entry.side ≡ side → (entry.answer ≡ answers.Lost → ⊥) → IsOpen → is_live (state_at plan more) entry.session ≡ true
          by (Some side) at_side heard opened_one = absurd (heard (answer_is ∙ ap (λ (s : Option Side). answer_at s (inner now entry)) at_side))
          by None no_side heard opened_one =
              ap (λ (s : State). is_live s entry.session) (state_more plan journal entry) ∙ ap (λ (s : Option Side). is_live (leaves s open_now entry.session entry.asked) entry.session) no_side
              ∙ served_live open_now entry.session entry.asked opened_one.found opened_one.is
              (λ cut. heard (answer_is ∙ ap (λ (s : Option Side). answer_at s (inner now entry)) no_side ∙ ap (λ (a : Asked). (serves open_now entry.session a).answer) cut))

  pub known_more : IsKnown plan more
  known_more = record {
    sessions = sessions_more journal entry known.sessions at;
    live = more_live;
    fresh = λ n above. session_there n (turned entry.session n (named_differs journal entry known.sessions at n above)) ∙ known.fresh n (named_less journal entry known.sessions at n above);
    unasked = λ n above. request_there n (turned entry.session n (named_differs journal entry known.sessions at n above)) ∙ known.unasked n (named_less journal entry known.sessions at n above);
  }

pub known_begins : (plan : PlanData) → IsKnown plan []
unfolding state_after live_session
known_begins plan = record {
  sessions = sessions_begin;
  live = λ a n lives. absurd cc;
  fresh = λ n above. refl;
  unasked = λ n above. refl;
}

-- *The sessions of every journal are known*
pub all_known : (plan : PlanData) (journal : List Entry) → Along (IsServed plan) [] journal → IsKnown plan journal
all_known plan journal along = Along-keeps (IsServed plan) (IsKnown plan) (λ before entry served known. known_more plan before entry known served) [] journal along (known_begins plan)
