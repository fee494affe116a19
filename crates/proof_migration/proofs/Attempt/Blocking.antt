-- The RENAME isn't refused while another session has locked the table: it waits.
use Rattle.std.proofs.Common.{◌≡◌, ◌≢◌, ℕ, ◌==◌, Bool, true, false, cond, ◌&&◌, ◌||◌, List, [], ◌∷◌, Option, Some, None, refl, sym, ap, ◌∙◌, subst, arith}
use Rattle.std.specs.List.{list_any}
use Rattle.std.specs.Str.{bytes_eq}
use Rattle.std.proofs.lemmas.Bool.{true≢false, false≢true, or_from, or_left, or_right}
use Rattle.std.proofs.lemmas.Bool.Decides.{nat_tests}
use Rattle.base_script.specs.declared.actor.Actor.{Actor}
use Rattle.base_script.specs.declared.actor.Side.{Side}
use Rattle.server_locks.proofs.LeastSession.Sessions.{none_of}
use Rattle.server_locks.specs.RowLocks.Grants.{blocker_of_set}
use Rattle.server_locks.specs.MetadataLocks.Grants.{HeldName, holds, blocker_of_names}
use Rattle.server_model.specs.declared.answer.Answer.{Answer}
use Rattle.server_model.specs.declared.answer.Answer.TheVariants as answers
use Rattle.server_model.specs.declared.entry.Asked.{Asked}
use Rattle.server_model.specs.declared.entry.Asked.TheVariants.{Poll}
use Rattle.server_model.specs.declared.entry.Entry.{Entry}
use Rattle.server_model.specs.declared.request.Request.{Request}
use Rattle.server_model.specs.declared.session.HeldName.{HeldName as NameOf}
use Rattle.server_model.specs.declared.session.Session.{Session}
use Rattle.server_model.specs.declared.session.Waiting.{Waiting}
use Rattle.server_model.specs.Entries.{same_actor, is_client, is_command}
use Rattle.server_model.specs.Blockers.{need, blocker}
use Rattle.server_model.specs.PlainServer.{is_over, polled_over, polled_unless, polled_of, polls, serves}
use Rattle.server_model.specs.States.{State, session_of, waiting_of, waiters, names_held, locks_held, locked_names, kept_names}
use Rattle.plan_data.specs.PlanData.{PlanData}
use Rattle.tool_program.specs.JournalWords.Journals.{opens, state_at}
use Rattle.tool_program.specs.JournalWords.Sessions.{live_session}
use Rattle.tool_program.specs.CutoverCore.Attempts.{exchange}
use Rattle.proof_journals.specs.Holdings.{face_in, face_of, names_of}
use Rattle.proof_journals.specs.Turns.{request_of}
use Rattle.proof_journals.proofs.Actors.{Placed, Commands, GoesOn, Begins, placed, others_differ}
use Rattle.proof_journals.proofs.Names.{as_held}
use Rattle.proof_journals.proofs.ServerTurns.Others.{holds_parts}
use Rattle.proof_journals.proofs.Sentry.Holding.{granted_each, granted_alone, weaker}
use Rattle.server_model.proofs.LockedRows.Tests.{are_same, same_bytes}
use Rattle.proof_journals.specs.Run.Counts.{AreApart}
use Rattle.proof_journals.specs.Machine.Standings.{standing_in, standing_of}
use Rattle.proof_journals.proofs.Machine.Seated.{IsKnown, IsServed, own_given, own_missed, opened_old}

-- WHAT IS LOCKED IS HELD

own_holds : (holder number : ℕ) (held : List NameOf) (name : List ℕ) → (holder == number) ≡ true → list_any (bytes_eq name) (locked_names held) ≡ true → holds (as_held holder held) number name true ≡ true
unfolding holds
own_holds holder number [] name own is = absurd (false≢true is)
own_holds holder number (h ∷ held) name own is = at h.exclusive refl is (own_holds holder number held name own) where
  rest_is : holds (as_held holder held) number name true ≡ true → ((holder == number) && (bytes_eq h.name name && (h.exclusive || false)) || holds (as_held holder held) number name true) ≡ true
  rest_is more = or_right ((holder == number) && (bytes_eq h.name name && (h.exclusive || false))) (holds (as_held holder held) number name true) more

  first : (b : Bool) → bytes_eq name h.name ≡ b → h.exclusive ≡ true → (b || list_any (bytes_eq name) (locked_names held)) ≡ true → (list_any (bytes_eq name) (locked_names held) ≡ true → holds (as_held holder held) number name true ≡ true)
      → ((holder == number) && (bytes_eq h.name name && (h.exclusive || false)) || holds (as_held holder held) number name true) ≡ true
  first true same exclusive is rest = rw (own, exclusive, ap (λ (n : List ℕ). bytes_eq h.name n) (are_same name h.name same) ∙ same_bytes h.name) refl
  first false off exclusive is rest = rest_is (rest is)

  at : (b : Bool) → h.exclusive ≡ b → list_any (bytes_eq name) (names_of (cond b (h ∷ kept_names held) (kept_names held))) ≡ true → (list_any (bytes_eq name) (locked_names held) ≡ true → holds (as_held holder held) number name true ≡ true)
      → ((holder == number) && (bytes_eq h.name name && (h.exclusive || false)) || holds (as_held holder held) number name true) ≡ true
  at true exclusive is rest = first (bytes_eq name h.name) refl exclusive is rest
  at false shared is rest = rest_is (rest is)

pub locked_holds : (number : ℕ) (sessions : List Session) (name : List ℕ) → list_any (bytes_eq name) (face_of sessions number).locked ≡ true → holds (names_held sessions) number name true ≡ true
locked_holds number [] name is = absurd (false≢true is)
locked_holds number (first ∷ sessions) name is = at (first.number == number) refl is (locked_holds number sessions name) where
  at : (b : Bool) → (first.number == number) ≡ b → list_any (bytes_eq name) (face_in (cond b (Some first) (session_of number sessions))).locked ≡ true → (list_any (bytes_eq name) (face_of sessions number).locked ≡ true → holds (names_held sessions) number name true ≡ true)
      → holds (names_held (first ∷ sessions)) number name true ≡ true
  at true here is rest = holds_parts (as_held first.number first.names) (names_held sessions) number name true ∙ or_left (holds (as_held first.number first.names) number name true) (holds (names_held sessions) number name true) (own_holds first.number number first.names name here is)
  at false there is rest = holds_parts (as_held first.number first.names) (names_held sessions) number name true ∙ or_right (holds (as_held first.number first.names) number name true) (holds (names_held sessions) number name true) (rest is)

-- ... and what isn't locked isn't held so
none_holds : (holder number : ℕ) (held : List NameOf) (name : List ℕ) → locked_names held ≡ [] → holds (as_held holder held) number name true ≡ false
unfolding holds
none_holds holder number [] name none = refl
none_holds holder number (h ∷ held) name none = at h.exclusive none (none_holds holder number held name) where
  shared : (a b : Bool) → (a && (b && (false || false))) ≡ false
  shared true true = refl
  shared true false = refl
  shared false b = refl

  at : (b : Bool) → names_of (cond b (h ∷ kept_names held) (kept_names held)) ≡ [] → (locked_names held ≡ [] → holds (as_held holder held) number name true ≡ false)
      → (((holder == number) && (bytes_eq h.name name && (b || false))) || holds (as_held holder held) number name true) ≡ false
  at true none rest = absurd cc
  at false none rest = ap (λ (a : Bool). a || holds (as_held holder held) number name true) (shared (holder == number) (bytes_eq h.name name)) ∙ rest none

other_holds : (holder number : ℕ) (held : List NameOf) (name : List ℕ) → (holder == number) ≡ false → holds (as_held holder held) number name true ≡ false
unfolding holds
other_holds holder number [] name differ = refl
other_holds holder number (h ∷ held) name differ = ap (λ (a : Bool). (a && (bytes_eq h.name name && (h.exclusive || false))) || holds (as_held holder held) number name true) differ ∙ other_holds holder number held name differ

pub unlocked_holds : (number : ℕ) (sessions : List Session) (name : List ℕ) → AreApart sessions → (face_of sessions number).locked ≡ [] → holds (names_held sessions) number name true ≡ false
unfolding AreApart holds
unlocked_holds number [] name apart none = refl
unlocked_holds number (first ∷ sessions) name apart none = at (first.number == number) refl none (unlocked_holds number sessions name apart.1) where
  same_number : (n m : ℕ) → (n == m) ≡ true → n ≡ m
  same_number n m is = grind (arith, nat_tests)

  at : (b : Bool) → (first.number == number) ≡ b → (face_in (cond b (Some first) (session_of number sessions))).locked ≡ [] → ((face_of sessions number).locked ≡ [] → holds (names_held sessions) number name true ≡ false) → holds (names_held (first ∷ sessions)) number name true ≡ false
  at true here none rest =
      holds_parts (as_held first.number first.names) (names_held sessions) number name true
      ∙ or_from (holds (as_held first.number first.names) number name true) (holds (names_held sessions) number name true) (none_holds first.number number first.names name none)
      (rest (ap (λ (o : Option Session). (face_in o).locked) (ap (λ (n : ℕ). session_of n sessions) (sym (same_number first.number number here)) ∙ apart.0)))
  at false there none rest =
      holds_parts (as_held first.number first.names) (names_held sessions) number name true
      ∙ or_from (holds (as_held first.number first.names) number name true) (holds (names_held sessions) number name true) (other_holds first.number number first.names name there) (rest none)

-- WHO WAITS

rename_blocked : (state : State) (number locker : ℕ) (table : List ℕ) → locker ≢ number → holds (names_held state.sessions) locker table true ≡ true → holds (names_held state.sessions) number table true ≡ false → blocker state number (need state number (exchange table)) ≡ None → ⊥
rename_blocked state number locker table apart held lacks free =
    false≢true (sym (granted_alone (names_held state.sessions) (waiters state.waiting) number locker table apart lacks alone) ∙ weaker (names_held state.sessions) locker table held) where
      names : blocker_of_names (names_held state.sessions) (waiters state.waiting) number true (need state number (exchange table)).names ≡ None
      names =
          (none_of (blocker_of_names (names_held state.sessions) (waiters state.waiting) number true (need state number (exchange table)).names) (blocker_of_set (locks_held state.sessions) number (need state number (exchange table)).locks) free).0

      alone : Rattle.server_locks.specs.MetadataLocks.Grants.blocker_of_name (names_held state.sessions) (waiters state.waiting) number table true ≡ None
      alone = granted_each (names_held state.sessions) (waiters state.waiting) number true _ table names

-- no refusal
abbrev pub IsUnrefused : Answer → Type 0
IsUnrefused (answers.Refused number column) = ⊥
IsUnrefused answer = Unit {0}

polled_waits : (state : State) (number : ℕ) (request : Request) → request_of (waiting_of number state.waiting) ≡ Some request → (blocker state number (need state number request) ≡ None → ⊥) → IsUnrefused (polls state number).answer
unfolding polls
polled_waits state number request waits blocked = at (waiting_of number state.waiting) waits where
  over : (b : Bool) (by : ℕ) → IsUnrefused (polled_over b by state number).answer
  over true by = tt
  over false by = tt

  unless : (by : Option ℕ) → (by ≡ None → ⊥) → IsUnrefused (polled_unless by state number request).answer
  unless None blocked = absurd (blocked refl)
  unless (Some by) blocked = over (is_over state number) by

  at : (waiting : Option Waiting) → request_of waiting ≡ Some request → IsUnrefused (polled_of waiting state number).answer
  at None none = absurd cc
  at (Some waiting) same =
      let one : waiting.request ≡ request = cc in
      subst (λ (r : Request). IsUnrefused (polled_unless (blocker state number (need state number r)) state number r).answer) (sym one) (unless (blocker state number (need state number request)) blocked)

-- ONE ENTRY

module _ (plan : PlanData) (journal : List Entry) (entry : Entry) (known : IsKnown plan journal) (served : IsServed plan journal entry) (apart : AreApart (state_at plan journal).sessions) where
  abbrev now : State
  now = state_at plan journal

  -- a session that waits goes on
  waiting_lives : entry.asked ≡ Poll → (request : Request) → (standing_of plan journal entry.actor).waits ≡ Some request → live_session journal entry.actor ≡ Some entry.session
  waiting_lives polled request some = by (placed journal entry served.seated) where
    no : None ≡ Some request → ⊥
    no same = cc

    by : Placed journal entry → live_session journal entry.actor ≡ Some entry.session
    by (Commands command zero) = absurd (true≢false (sym command ∙ ap is_command polled))
    by (GoesOn calls live) = live
    by (Begins calls uncut live above) = absurd (no (sym (ap (λ (o : Option ℕ). (standing_in now o).waits) live) ∙ some))

  -- *The RENAME waits* while another actor has locked the table
  pub rename_waits : (other : Actor) (table : List ℕ) → entry.asked ≡ Poll → (standing_of plan journal entry.actor).waits ≡ Some (exchange table) → (standing_of plan journal entry.actor).locked ≡ [] → same_actor entry.actor other ≡ false
      → list_any (bytes_eq table) (standing_of plan journal other).locked ≡ true → IsUnrefused entry.answer
  rename_waits other table polled some unlocked differ locks = by entry.side refl where
    lives : live_session journal entry.actor ≡ Some entry.session
    lives = waiting_lives polled (exchange table) some

    same_state : opens entry now ≡ now
    same_state = opened_old (is_command entry.asked) (not_client entry.actor) entry.session now (known.live entry.actor entry.session lives) where
      not_client : Actor → Bool
      not_client actor = Rattle.std.proofs.Common.not (is_client actor)

    waits_so : request_of (waiting_of entry.session now.waiting) ≡ Some (exchange table)
    waits_so = ap (λ (o : Option ℕ). (standing_in now o).waits) (sym lives) ∙ some

    locker : (live : Option ℕ) → live_session journal other ≡ live → list_any (bytes_eq table) (standing_in now live).locked ≡ true → blocker now entry.session (need now entry.session (exchange table)) ≡ None → ⊥
    locker None none locks free = false≢true locks
    locker (Some l) there locks free =
        rename_blocked now entry.session l table (apart_from (l == entry.session) (others_differ journal entry known.sessions (placed journal entry served.seated) other l differ there)) (locked_holds l now.sessions table locks)
        (unlocked_holds entry.session now.sessions table apart (ap (λ (o : Option ℕ). (standing_in now o).locked) (sym lives) ∙ unlocked)) free where
          itself : (n : ℕ) → (n == n) ≡ true
          itself n = grind (arith, nat_tests)

          apart_from : (b : Bool) → (l == entry.session) ≡ false → l ≢ entry.session
          apart_from b off same = true≢false (sym (itself entry.session) ∙ ap (λ (n : ℕ). n == entry.session) (sym same) ∙ off)

    by : (side : Option Side) → entry.side ≡ side → IsUnrefused entry.answer
    by (Some side) at = subst IsUnrefused (sym (own_missed plan journal entry known served side at)) tt
    by None at =
        subst IsUnrefused (own_given plan journal entry known served at)
        (subst (λ (a : Asked). IsUnrefused (serves (opens entry now) entry.session a).answer) (sym polled) (subst (λ (s : State). IsUnrefused (polls s entry.session).answer) (sym same_state) (polled_waits now entry.session (exchange table) waits_so (locker (live_session journal other) refl locks))))
