-- While the locker has locked the table the RENAME's call waits, and the listing of waits shows it.
use Rattle.std.proofs.Common.{◌≡◌, ◌≢◌, ◌≤◌, ℕ, ◌==◌, Bool, true, false, not, List, [], ◌∷◌, Option, Some, None, refl, sym, ap, ◌∙◌, subst, arith}
use Rattle.std.specs.Prelude.{is_some}
use Rattle.std.specs.List.{list_any}
use Rattle.std.specs.Option.{option_map}
use Rattle.std.specs.Str.{bytes_eq}
use Rattle.std.proofs.lemmas.Bool.{true≢false, false≢true, or_left}
use Rattle.std.proofs.lemmas.Bool.Decides.{nat_tests}
use Rattle.std.proofs.lemmas.Option.{same_Some}
use Rattle.base_script.specs.declared.actor.Actor.{Actor}
use Rattle.base_script.specs.declared.actor.Actor.TheVariants.{Lock, Ren}
use Rattle.base_script.specs.declared.actor.Side.{Side}
use Rattle.server_locks.proofs.LeastSession.Sessions.{none_of}
use Rattle.server_locks.specs.MetadataLocks.Grants.{HeldName, holds, blocker_of_names}
use Rattle.server_locks.specs.RowLocks.Grants.{blocker_of_set}
use Rattle.server_model.specs.declared.entry.Asked.{Asked}
use Rattle.server_model.specs.declared.entry.Asked.TheVariants.{Call}
use Rattle.server_model.specs.declared.entry.Entry.{Entry}
use Rattle.server_model.specs.declared.request.Request.TheVariants as requests
use Rattle.server_model.specs.declared.session.Session.{Session}
use Rattle.server_model.specs.declared.session.Waiting.{Waiting}
use Rattle.server_model.specs.Blockers.{need, blocker}
use Rattle.server_model.specs.Effects.{effect_unless, is_outside}
use Rattle.server_model.specs.Entries.{same_actor, is_client, is_command}
use Rattle.server_model.specs.Listings.{waits_shown}
use Rattle.server_model.specs.PlainServer.{does, did, called_unless, calls, serves}
use Rattle.server_model.specs.States.{State, session_of, is_in_transaction, locked_names, locks_held, names_held, view, waiters, waiting_of}
use Rattle.plan_data.specs.PlanData.{PlanData}
use Rattle.tool_program.specs.JournalWords.Journals.{opens, state_at}
use Rattle.tool_program.specs.JournalWords.Sessions.{live_session}
use Rattle.tool_program.specs.CutoverCore.Attempts.{exchange}
use Rattle.tool_program.specs.CutoverCore.CutOvers.{shows_wait}
use Rattle.proof_journals.specs.Holdings.{face_in, face_of}
use Rattle.proof_journals.specs.Turns.{request_of}
use Rattle.proof_journals.specs.Run.Kept.{IsKept}
use Rattle.proof_journals.specs.Machine.Machines.{both_names}
use Rattle.proof_journals.specs.Machine.Standings.{standing_in, standing_of, serves_to, IsAbout}
use Rattle.proof_journals.specs.ServerTurns.Others.{held_at}
use Rattle.proof_journals.proofs.Actors.{Placed, Commands, GoesOn, Begins, placed, others_differ}
use Rattle.proof_journals.proofs.Journals.{opened_waits}
use Rattle.proof_journals.proofs.Machine.Journals.{IsRun}
use Rattle.proof_journals.proofs.Machine.Seated.{IsKnown, IsServed, own_given, own_heard, own_missed}
use Rattle.proof_journals.proofs.Run.Waits.{all_waits}
use Rattle.proof_journals.proofs.ServerTurns.Alone.{held_opened}
use Rattle.proof_journals.proofs.Waiting.{none_waits}
use Rattle.server_model.proofs.LockedRows.Tests.{same_bytes}
use Rattle.proof_migration.proofs.Attempt.Blocking.{locked_holds, unlocked_holds}
use Rattle.proof_migration.proofs.ToolPhase.Owners.{AllOwned, together_owned}
use Rattle.proof_bounds.proofs.Going.{IsGoing}
use Rattle.proof_bounds.specs.AttemptTurns.Attempts.{IsNotRefused, ShowsWait}
use Rattle.proof_bounds.proofs.AttemptTurns.Listings.{AllHeld, AllWait, sessions_number, waiting_number, locker_blocks, rename_shown}

same_number : (n : ℕ) → (n == n) ≡ true
same_number n = grind (arith, nat_tests)

number_is : (m n : ℕ) → (m == n) ≡ true → m ≡ n
number_is m n same = grind (arith, nat_tests, same)

apart_from : (m n : ℕ) → (m == n) ≡ false → m ≢ n
apart_from m n differ same = true≢false (sym (same_number m) ∙ ap (λ (k : ℕ). m == k) same ∙ differ)

module _ (plan : PlanData) (journal : List Entry) (entry : Entry) (kept : IsKept plan journal) (run : IsRun plan journal entry) (going : IsGoing plan journal) (locked : (standing_of plan journal Lock).locked ≡ both_names plan.table) where
  abbrev now : State
  now = state_at plan journal

  abbrev open_now : State
  open_now = opens entry now

  known : IsKnown plan journal
  known = going.standing.tabled.all.tool.known

  served : IsServed plan journal entry
  served = record { answered = run.answered; seated = record { session = run.followed.session } }

  at : Placed journal entry
  at = placed journal entry served.seated

  held_now : held_at open_now ≡ held_at now
  held_now = held_opened (is_command entry.asked) (not (is_client entry.actor)) entry.session now

  waits_now : open_now.waiting ≡ now.waiting
  waits_now = opened_waits (is_command entry.asked) (not (is_client entry.actor)) entry.session now

  -- THE LOCKER'S SESSION

  record LockerHolds : Type 0 where
    session : ℕ
    lives : live_session journal Lock ≡ Some session
    holds_it : holds (names_held open_now.sessions) session plan.table true ≡ true

  locker : LockerHolds
  locker = by (live_session journal Lock) refl where
    by : (live : Option ℕ) → live_session journal Lock ≡ live → LockerHolds
    by None none = absurd (no (sym (ap (λ (o : Option ℕ). (standing_in now o).locked) none) ∙ locked)) where
      no : [] ≡ both_names plan.table → ⊥
      no both = cc
    by (Some l) lives = record { session = l; lives = lives; holds_it = ap (λ (h : List HeldName). holds h l plan.table true) held_now ∙ locked_holds l now.sessions plan.table among } where
      among : list_any (bytes_eq plan.table) (face_of now.sessions l).locked ≡ true
      among = ap (list_any (bytes_eq plan.table)) (ap (λ (o : Option ℕ). (standing_in now o).locked) (sym lives) ∙ locked) ∙ or_left (bytes_eq plan.table plan.table) _ (same_bytes plan.table)

  -- another session, which has locked nothing, lacks it
  lacks_it : (n : ℕ) → (face_of now.sessions n).locked ≡ [] → holds (names_held open_now.sessions) n plan.table true ≡ false
  lacks_it n none = ap (λ (h : List HeldName). holds h n plan.table true) held_now ∙ unlocked_holds n now.sessions plan.table going.standing.both.living.apart none

  -- THE RENAME'S CALL

  module _ (same : entry.actor ≡ Ren) (asks : entry.asked ≡ Call (exchange plan.table)) (unlocked : (standing_of plan journal Ren).locked ≡ []) where
    own_unlocked : (face_of now.sessions entry.session).locked ≡ []
    own_unlocked = by at where
      by : Placed journal entry → (face_of now.sessions entry.session).locked ≡ []
      by (Commands command zero) = absurd (true≢false (sym command ∙ ap is_command asks))
      by (GoesOn calls live) = ap (λ (o : Option ℕ). (standing_in now o).locked) (sym live) ∙ ap (λ (a : Actor). (standing_of plan journal a).locked) same ∙ unlocked
      by (Begins calls uncut live above) = ap (λ (o : Option Session). (face_in o).locked) (known.fresh entry.session above)

    apart : locker.session ≢ entry.session
    apart = apart_from locker.session entry.session (others_differ journal entry known.sessions at Lock locker.session (ap (λ (a : Actor). same_actor a Lock) same) locker.lives)

    -- *It waits*
    pub rename_goes : IsNotRefused entry.answer
    unfolding calls
    rename_goes = by entry.side refl where
      called : (blocked : Option ℕ) → blocker open_now entry.session (need open_now entry.session (exchange plan.table)) ≡ blocked → IsNotRefused (called_unless blocked open_now entry.session (exchange plan.table)).answer
      called None free =
          absurd (locker_blocks open_now entry.session locker.session plan.table _ apart locker.holds_it (lacks_it entry.session own_unlocked)
          ((none_of (blocker_of_names (names_held open_now.sessions) (waiters open_now.waiting) entry.session true (need open_now entry.session (exchange plan.table)).names) (blocker_of_set (locks_held open_now.sessions) entry.session (need open_now entry.session (exchange plan.table)).locks) free).0))
      called (Some by) blocked = tt

      by : (side : Option Side) → entry.side ≡ side → IsNotRefused entry.answer
      by (Some side) some = subst IsNotRefused (sym (own_missed plan journal entry known served side some)) tt
      by None none =
          subst IsNotRefused (own_given plan journal entry known served none)
          (subst (λ (a : Asked). IsNotRefused (serves open_now entry.session a).answer) (sym asks) (called (blocker open_now entry.session (need open_now entry.session (exchange plan.table))) refl))

  -- THE LISTING

  owned : AllOwned plan journal
  owned = (together_owned plan journal kept.faithful kept.follows).owned

  live_number : (n : ℕ) → is_some (session_of n now.sessions) ≡ true → 1 ≤ n
  live_number n live = let owner = owned.owner n live in (known.sessions.own owner.actor n owner.lives).0

  waits_number : (n : ℕ) → is_some (waiting_of n now.waiting) ≡ true → 1 ≤ n
  waits_number n some = by (session_of n now.sessions) refl where
    by : (found : Option Session) → session_of n now.sessions ≡ found → 1 ≤ n
    by (Some s) there = live_number n (ap is_some there)
    by None gone = absurd (false≢true (sym (ap is_some (none_waits n now.waiting (all_waits plan journal kept.faithful kept.sessions n (ap (option_map (λ (s : Session). s.is_tool)) gone)))) ∙ some))

  all_held : AllHeld (names_held open_now.sessions)
  all_held = subst AllHeld (sym held_now) (sessions_number now.sessions live_number)

  all_wait : AllWait (waiters open_now.waiting)
  all_wait = subst (λ (w : List Waiting). AllWait (waiters w)) (sym waits_now) (waiting_number now.waiting waits_number)

  module _ (waits : (standing_of plan journal Ren).waits ≡ Some (exchange plan.table)) (unlocked : (standing_of plan journal Ren).locked ≡ []) where
    -- *The listing shows it*
    shown : shows_wait (waits_shown open_now) ≡ true
    shown = by (live_session journal Ren) refl where
      by : (live : Option ℕ) → live_session journal Ren ≡ live → shows_wait (waits_shown open_now) ≡ true
      by None none = absurd (no (sym (ap (λ (o : Option ℕ). (standing_in now o).waits) none) ∙ waits)) where
        no : None ≡ Some (exchange plan.table) → ⊥
        no both = cc
      by (Some r) lives = waiting (waiting_of r now.waiting) refl (ap (λ (o : Option ℕ). (standing_in now o).waits) (sym lives) ∙ waits) where
        differ : (b : Bool) → (locker.session == r) ≡ b → locker.session ≢ r
        differ false off = apart_from locker.session r off
        differ true same = absurd (no (known.sessions.apart Lock Ren r (locker.lives ∙ ap (λ (n : ℕ). Some n) (number_is locker.session r same)) lives)) where
          no : Lock ≡ Ren → ⊥
          no both = cc

        waiting : (found : Option Waiting) → waiting_of r now.waiting ≡ found → request_of found ≡ Some (exchange plan.table) → shows_wait (waits_shown open_now) ≡ true
        waiting None none some = absurd cc
        waiting (Some one) found some =
            rename_shown open_now r locker.session plan.table one (differ (locker.session == r) refl) locker.holds_it (lacks_it r (ap (λ (o : Option ℕ). (standing_in now o).locked) (sym lives) ∙ unlocked)) all_held all_wait
            (ap (waiting_of r) waits_now ∙ found) (same_Some one.request (exchange plan.table) some)

    none_outside : (found : Option Session) → is_outside found requests.ShowWaiting ≡ false
    none_outside None = refl
    none_outside (Some session) = by (locked_names session.names) where
      by : (names : List (List ℕ)) → Rattle.server_model.specs.Effects.is_beyond names [] ≡ false
      by [] = refl
      by (first ∷ names) = refl

    -- where the inspector asks for it and its session isn't lost
    pub listing_shows : (about : IsAbout requests.ShowWaiting (standing_of plan journal entry.actor) entry.asked) → entry.asked ≡ Call requests.ShowWaiting → entry.side ≡ None → ShowsWait entry.answer
    unfolding calls did
    listing_shows about asks none = by (blocker open_now entry.session (need open_now entry.session requests.ShowWaiting)) refl where
      given : (blocked : Option ℕ) → blocker open_now entry.session (need open_now entry.session requests.ShowWaiting) ≡ blocked → (called_unless blocked open_now entry.session requests.ShowWaiting).answer ≡ entry.answer
      given blocked is = sym (ap (λ (b : Option ℕ). (called_unless b open_now entry.session requests.ShowWaiting).answer) is) ∙ ap (λ (a : Asked). (serves open_now entry.session a).answer) (sym asks) ∙ own_given plan journal entry known served none

      by : (blocked : Option ℕ) → blocker open_now entry.session (need open_now entry.session requests.ShowWaiting) ≡ blocked → ShowsWait entry.answer
      by (Some other) blocked = absurd (false≢true (ap (serves_to requests.ShowWaiting) (given (Some other) blocked) ∙ own_heard plan journal entry known served requests.ShowWaiting about none))
      by None free =
          subst ShowsWait (given None free)
          (subst (λ (b : Bool). ShowsWait (does (effect_unless b (is_in_transaction (session_of entry.session open_now.sessions)) (view entry.session open_now) open_now requests.ShowWaiting) open_now entry.session).answer) (sym (none_outside (session_of entry.session open_now.sessions))) shown)
