-- Calls, polls and losses leave a server that serves.
use Rattle.server_model.specs.Blockers.{need_within}
use Rattle.server_model.specs.States.{view, is_of_tool}
use Rattle.server_model.specs.declared.request.Request.TheVariants as requests
use Rattle.server_model.proofs.Filling.{filled_case}
use Rattle.server_model.specs.Drawing.{numbered}
use Rattle.std.proofs.Common.{◌≡◌, ℕ, ◌+◌, Bool, true, false, not, List, [], ◌∷◌, ◌++◌, filter, cond, Option, Some, None, refl, sym, ap, subst}
use Rattle.std.specs.Prelude.{◌==◌, ◌≢◌, is_some}
use Rattle.std.proofs.lemmas.Bool.{false≢true}
use Rattle.std.specs.List.{list_any}
use Rattle.server_locks.specs.declared.row_locks.lock.Lock.{Lock}
use Rattle.server_locks.specs.RowLocks.Grants.{conflict}
use Rattle.base_script.specs.declared.actor.Side.TheVariants.{Before, After}
use Rattle.server_model.specs.declared.entry.Asked.TheVariants.{Call, Poll, Command, Cut}
use Rattle.server_model.specs.declared.request.Request.{Request}
use Rattle.server_model.specs.declared.session.Session.{Session}
use Rattle.server_model.specs.declared.session.Waiting.{Waiting}
use Rattle.server_model.specs.Conditions.{ComesWell, IsWellFormed, MayCall}
use Rattle.server_model.specs.Answers.{ok}
use Rattle.server_model.specs.Effects.{Forgets, effect}
use Rattle.server_model.specs.Blockers.{need, blocker}
use Rattle.server_model.specs.PlainServer.{called_unless, calls, counting, done, did, forgets, is_over, loses, polled_over, polled_unless, polls, without_waiting}
use Rattle.server_model.specs.States.{State, holds_tables, is_in_transaction, names_in, new_session, polls_of, session_of, waiting_of, with_session}
use Rattle.proof_journals.specs.Holdings.{Face, OneHolder, face_in, face_of, no_face}
use Rattle.proof_journals.proofs.Faces.{faces_with, faces_without, joined}
use Rattle.proof_journals.proofs.Names.{held_joined, one_counts, one_less, one_rests}
use Rattle.proof_journals.proofs.Serves.{IsFree, did_one, granted}
use Rattle.server_model.specs.LockedRows.Agreement.{Among}
use Rattle.server_model.proofs.LockedRows.Tests.{are_one}
use Rattle.proof_journals.specs.ServerFacts.Invariants.{IsServing, WaitsWell}
use Rattle.proof_journals.specs.ServerFacts.Laws.{OpenedServes, ConnectedServes, CallsServe, PollsServe, LossesServe}
use Rattle.proof_journals.proofs.ServerFacts.Kept.{Keeps, own_rests, keeps_rests, keeps_holds}
use Rattle.proof_journals.proofs.ServerFacts.Effects.{AtWork, KeepsIn, effect_fits, does_keeps}
use Rattle.proof_journals.proofs.ServerFacts.Waits.{WaitWell, blocked_names, counted_flags, effect_waits, joined_flags, none_left, waits_at, waits_flagged, waits_left, waits_lost, waits_more}

pub kept_in : (state : State) → IsServing state → KeepsIn state
kept_in state serving = record { well_formed = serving.well_formed; own = serving.own; apart = serving.apart }

-- a live session
pub record Live (number : ℕ) (sessions : List Session) : Type 0 where
  pub found : Session
  pub is : session_of number sessions ≡ Some found

pub live_found : (number : ℕ) (sessions : List Session) → is_some (session_of number sessions) ≡ true → Live number sessions
live_found number sessions live = at (session_of number sessions) refl live where
  at : (found : Option Session) → session_of number sessions ≡ found → is_some found ≡ true → Live number sessions
  at None is live = absurd (false≢true live)
  at (Some session) is live = record { found = session; is = is }

-- *A request that is done leaves a server that serves.*
did_serves : (state : State) (number : ℕ) (request : Request) → IsServing state → Live number state.sessions → list_any (waits_at number) state.waiting ≡ false → IsFree state number (need_within (view number state) request)
    → ComesWell (is_in_transaction (session_of number state.sessions)) (holds_tables (session_of number state.sessions)) request → IsWellFormed state.tables request → IsServing (did state number request).after
unfolding did
did_serves state number request serving live idle free comes formed =
    let work : AtWork state number request = record { kept = kept_in state serving; free = free; comes = comes; formed = formed } in
    let kept = does_keeps state number live.found (effect state number request) live.is work.kept (effect_fits state number request work) in
    record {
      well_formed = kept.well_formed;
      own = kept.own;
      apart = kept.apart;
      alone = did_one state number request serving.alone free;
      waits = effect_waits state number (effect state number request) idle serving.waits;
    }

pub done_serves : (state : State) (number : ℕ) (request : Request) → IsServing state → Live number state.sessions → list_any (waits_at number) state.waiting ≡ false → IsFree state number (need state number request)
    → ComesWell (is_in_transaction (session_of number state.sessions)) (holds_tables (session_of number state.sessions)) request → IsWellFormed state.tables request → IsServing (done state number request).after
done_serves state number request serving live idle =
    filled_case
    (λ asked full. IsFree state number (need_within (view number state) full) → ComesWell (is_in_transaction (session_of number state.sessions)) (holds_tables (session_of number state.sessions)) asked → IsWellFormed state.tables asked → IsServing (did state number full).after)
    (λ r free comes formed. did_serves state number r serving live idle free comes formed) (λ statement n free comes formed. did_serves state number (requests.Do (numbered n statement)) serving live idle free tt tt)
    (is_of_tool (session_of number state.sessions)) state.tables state.counters request

-- polls of a session are counted
counted_keeps : (state : State) (number count : ℕ) (found : Session) → session_of number state.sessions ≡ Some found → KeepsIn state → Keeps state.tables (face_of (with_session number (counting count) state.sessions))
counted_keeps state number count found is kept =
    keeps_holds state.tables (face_of state.sessions) (face_of (with_session number (counting count) state.sessions)) number (face_in (Some (counting count found))) kept
    (ap (λ (f : Face). f.hold) (ap face_in (sym is))) (ap (λ (f : Face). f.busy) (ap face_in (sym is))) (faces_with number (counting count) state.sessions found (λ s. refl) is)

counted_waits : (state : State) (number count : ℕ) → IsServing state → WaitWell (with_session number (counting count) state.sessions) state.waiting
counted_waits state number count serving = waits_flagged state.sessions (with_session number (counting count) state.sessions) state.waiting (λ n. counted_flags number count n state.sessions) serving.waits

-- a request begins to wait
begins_waiting : (state : State) (number by : ℕ) (request : Request) → IsServing state → MayCall state number request → blocker state number (need state number request) ≡ Some by
    → IsServing (record state { waiting = state.waiting ++ record { session = number; request = request } ∷ []; sessions = with_session number (counting 0) state.sessions })
begins_waiting state number by request serving may blocked =
    let live = live_found number state.sessions may.live in
    let kept = counted_keeps state number 0 live.found live.is (kept_in state serving) in
    let sessions = with_session number (counting 0) state.sessions in
    let one : Waiting = record { session = number; request = request } in
    let now : WaitsWell state.sessions one = record { comes = may.comes; names = blocked_names state number by request blocked } in
    record {
      well_formed = kept.well_formed;
      own = kept.own;
      apart = kept.apart;
      alone = one_counts number 0 state.sessions serving.alone;
      waits = waits_flagged state.sessions sessions (state.waiting ++ one ∷ []) (λ n. counted_flags number 0 n state.sessions) (waits_more state.sessions state.waiting one serving.waits now);
    }

pub calls_serve : CallsServe
unfolding calls
calls_serve state number request serving may = at (blocker state number (need state number request)) refl where
  at : (by : Option ℕ) → blocker state number (need state number request) ≡ by → IsServing (called_unless by state number request).after
  at None free = done_serves state number request serving (live_found number state.sessions may.live) may.idle (granted state number (need state number request) serving.alone free) may.comes may.formed
  at (Some by) blocked = begins_waiting state number by request serving may blocked

-- the request waits no more
pub ended_serves : (state : State) (number : ℕ) → IsServing state → IsServing (without_waiting number state)
ended_serves state number serving = record {
  well_formed = serving.well_formed;
  own = serving.own;
  apart = serving.apart;
  alone = serving.alone;
  waits = waits_left number state.sessions state.waiting serving.waits;
}

-- its wait times out
times_out : (state : State) (number : ℕ) → Live number state.sessions → IsServing state → IsServing (forgets number (without_waiting number state))
times_out state number live serving =
    let after : State = without_waiting number state in
    let ended : IsServing after = ended_serves state number serving in
    let kept = does_keeps after number live.found (Forgets ok) live.is (kept_in after ended) tt in
    record {
      well_formed = kept.well_formed;
      own = kept.own;
      apart = kept.apart;
      alone = one_rests number state.sessions serving.alone;
      waits = effect_waits after number (Forgets ok) (none_left number state.waiting) ended.waits;
    }

-- it waits on
waits_on : (state : State) (number count : ℕ) → Live number state.sessions → IsServing state → IsServing (record state { sessions = with_session number (counting count) state.sessions })
waits_on state number count live serving =
    let kept = counted_keeps state number count live.found live.is (kept_in state serving) in
    record {
      well_formed = kept.well_formed;
      own = kept.own;
      apart = kept.apart;
      alone = one_counts number count state.sessions serving.alone;
      waits = counted_waits state number count serving;
    }

-- the request of a session that waits
waiting_well : (number : ℕ) (sessions : List Session) (waiting : List Waiting) (one : Waiting) → waiting_of number waiting ≡ Some one → WaitWell sessions waiting → (one.session ≡ number) × WaitsWell sessions one
waiting_well number sessions [] one is well = absurd (cc)
waiting_well number sessions (first ∷ waiting) one is well = at (first.session == number) refl is (λ more. waiting_well number sessions waiting one more well.1) where
  at : (b : Bool) → (first.session == number) ≡ b → cond b (Some first) (waiting_of number waiting) ≡ Some one → (waiting_of number waiting ≡ Some one → (one.session ≡ number) × WaitsWell sessions one) → (one.session ≡ number) × WaitsWell sessions one
  at true here some rest = let same : first ≡ one = cc in (subst (λ (w : Waiting). w.session ≡ number) same (are_one first.session number here), subst (WaitsWell sessions) same well.0)
  at false here some rest = rest some

pub comes_of : (state : State) (number : ℕ) (one : Waiting) → waiting_of number state.waiting ≡ Some one → IsServing state → ComesWell (is_in_transaction (session_of number state.sessions)) (holds_tables (session_of number state.sessions)) one.request
comes_of state number one is serving =
    let well = waiting_well number state.sessions state.waiting one is serving.waits in
    subst (λ (n : ℕ). ComesWell (is_in_transaction (session_of n state.sessions)) (holds_tables (session_of n state.sessions)) one.request) well.0 well.1.comes

pub names_of : (state : State) (number : ℕ) (one : Waiting) → waiting_of number state.waiting ≡ Some one → IsServing state → names_in one.request ≢ []
names_of state number one is serving = (waiting_well number state.sessions state.waiting one is serving.waits).1.names

-- its request is done, and waits no more
done_waiting : (state : State) (number : ℕ) (one : Waiting) → IsServing state → Live number state.sessions → waiting_of number state.waiting ≡ Some one → IsWellFormed state.tables one.request → blocker state number (need state number one.request) ≡ None
    → IsServing (done (without_waiting number state) number one.request).after
done_waiting state number one serving live is formed unblocked =
    let free : IsFree state number (need state number one.request) = granted state number (need state number one.request) serving.alone unblocked in
    done_serves (without_waiting number state) number one.request (ended_serves state number serving) live (none_left number state.waiting) (record { apart = free.apart; names = free.names }) (comes_of state number one is serving) formed

stays_blocked : (state : State) (number by : ℕ) (over : Bool) → IsServing state → Live number state.sessions → IsServing (polled_over over by state number).after
stays_blocked state number by true serving live = times_out state number live serving
stays_blocked state number by false serving live = waits_on state number (polls_of (session_of number state.sessions) + 1) live serving

pub polls_serve : PollsServe
unfolding polls
polls_serve state number serving may = rw may.waits (at (blocker state number (need state number may.waiting.request)) refl) where
  live : Live number state.sessions
  live = live_found number state.sessions may.live

  at : (by : Option ℕ) → blocker state number (need state number may.waiting.request) ≡ by → IsServing (polled_unless by state number may.waiting.request).after
  at None free = done_waiting state number may.waiting serving live may.waits may.formed free
  at (Some by) blocked = stays_blocked state number by (is_over state number) serving live

-- a session is lost
pub lost_serves : (state : State) (number : ℕ) → IsServing state → IsServing (loses number state)
unfolding loses
lost_serves state number serving =
    let kept : Keeps state.tables (face_of (filter (λ session. not (session.number == number)) state.sessions)) =
    keeps_rests state.tables (face_of state.sessions) (face_of (filter (λ session. not (session.number == number)) state.sessions)) number no_face (kept_in state serving) refl (faces_without number state.sessions) in
    record {
      well_formed = kept.well_formed;
      own = kept.own;
      apart = kept.apart;
      alone = one_less (λ session. not (session.number == number)) state.sessions serving.alone;
      waits = waits_lost number state.sessions state.waiting serving.waits;
    }

pub losses_serve : LossesServe
losses_serve state number None asked serving may = rw may.well (lost_serves state number serving)
losses_serve state number (Some Before) asked serving may = lost_serves state number serving
losses_serve state number (Some After) (Call request) serving may = lost_serves (calls state number request).after number (calls_serve state number request serving may.well)
losses_serve state number (Some After) Poll serving may = lost_serves (polls state number).after number (polls_serve state number serving may.well)
losses_serve state number (Some After) (Command word) serving may = absurd may.well
losses_serve state number (Some After) Cut serving may = absurd may.well

pub connected_serves : ConnectedServes
connected_serves number tool state serving =
    let sessions = state.sessions ++ new_session number tool ∷ [] in
    record {
      well_formed = serving.well_formed;
      own = λ n. rw (joined tool number n state.sessions) (serving.own n);
      apart = λ m n differ. rw (joined tool number m state.sessions, joined tool number n state.sessions) (serving.apart m n differ);
      alone = subst OneHolder (sym (held_joined state.sessions number tool)) serving.alone;
      waits = waits_flagged state.sessions sessions state.waiting (λ n. joined_flags tool number n state.sessions) serving.waits;
    }

none_conflict : (lock other : Lock) → Among lock [] → Among other [] → conflict lock other ≡ false
none_conflict lock other one two = absurd one

pub opened_serves : OpenedServes
opened_serves limits tables well_formed = record {
  well_formed = well_formed;
  own = λ n. own_rests tables no_face refl;
  apart = λ m n differ. none_conflict;
  alone = λ one other p q exclusive differ. absurd p;
  waits = tt;
}
