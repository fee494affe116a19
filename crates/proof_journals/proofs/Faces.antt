-- What others see of sessions, after each change of one; and what a grant tells of their locks.
use Rattle.std.proofs.Common.{◌≡◌, ℕ, Bool, true, false, not, ◌||◌, List, [], ◌∷◌, ◌++◌, map, filter, cond, Option, Some, None, refl, ap, ◌∙◌, inl, inr, arith}
use Rattle.std.specs.Prelude.{◌==◌}
use Rattle.std.proofs.lemmas.Bool.{true≢false}
use Rattle.std.proofs.lemmas.Bool.Decides.{nat_tests}
use Rattle.server_locks.specs.declared.row_locks.lock.Lock.{Lock}
use Rattle.server_locks.specs.declared.row_locks.lock.HeldLock.{HeldLock}
use Rattle.server_locks.specs.RowLocks.LockTable.{held_by}
use Rattle.server_locks.specs.RowLocks.Grants.{conflict, refusal, blocker_of_lock, blocker_of_set}
use Rattle.server_locks.proofs.LeastSession.Sessions.{none_of, not_refused}
use Rattle.server_locks.proofs.RowLocks.HeldLocks.{conflict_both_ways}
use Rattle.server_model.specs.declared.session.Session.{Session}
use Rattle.server_model.specs.LockedRows.Agreement.{Among}
use Rattle.server_model.specs.LockedRows.Coverage.{Apart}
use Rattle.proof_journals.specs.Scenes.{Besides}
use Rattle.proof_journals.specs.Holdings.{no_face, face_in, face_of}
use Rattle.std.specs.Prelude.{is_some}
use Rattle.server_model.specs.States.{connected, State, locks_held, new_session, session_of, with_session, writes_of, is_in_transaction}
use Rattle.tool_program.specs.JournalWords.Journals.{opens_if}
use Rattle.server_model.proofs.LockedRows.Tests.{same_number, are_one}

-- the session that is changed, and the others
pub changed_here : (number : ℕ) (change : Session → Session) (sessions : List Session) (found : Session) → ((s : Session) → (change s).number ≡ s.number) → session_of number sessions ≡ Some found → session_of number (with_session number change sessions) ≡ Some (change found)
unfolding with_session
changed_here number change [] found keeps is = absurd (cc)
changed_here number change (first ∷ sessions) found keeps is = at (first.number == number) refl is (changed_here number change sessions found keeps) where
  at : (b : Bool) → (first.number == number) ≡ b → cond b (Some first) (session_of number sessions) ≡ Some found → (session_of number sessions ≡ Some found → session_of number (with_session number change sessions) ≡ Some (change found))
      → session_of number (cond b (change first ∷ sessions) (first ∷ with_session number change sessions)) ≡ Some (change found)
  at true here some rest = let still : ((change first).number == number) ≡ true = ap (λ (n : ℕ). n == number) (keeps first) ∙ here in rw still (ap (λ (s : Session). Some (change s)) (cc))
  at false here some rest = rw here (rest some)

pub changed_there : (number other : ℕ) (change : Session → Session) (sessions : List Session) → ((s : Session) → (change s).number ≡ s.number) → (other == number) ≡ false → session_of other (with_session number change sessions) ≡ session_of other sessions
unfolding with_session
changed_there number other change [] keeps differ = refl
changed_there number other change (first ∷ sessions) keeps differ = at (first.number == number) refl (changed_there number other change sessions keeps differ) where
  at : (b : Bool) → (first.number == number) ≡ b → session_of other (with_session number change sessions) ≡ session_of other sessions
      → session_of other (cond b (change first ∷ sessions) (first ∷ with_session number change sessions)) ≡ session_of other (first ∷ sessions)
  at true here rest =
      let one : (first.number == other) ≡ false = grind (arith, nat_tests) in
      let two : ((change first).number == other) ≡ false = ap (λ (n : ℕ). n == other) (keeps first) ∙ one in
      rw (one, two) refl
  at false here rest = ap (λ (o : Option Session). cond (first.number == other) (Some first) o) rest

pub faces_with : (number : ℕ) (change : Session → Session) (sessions : List Session) (found : Session) → ((s : Session) → (change s).number ≡ s.number) → session_of number sessions ≡ Some found
    → Besides number (face_of sessions) (face_of (with_session number change sessions)) (face_in (Some (change found)))
faces_with number change sessions found keeps is =
    record { there = λ n differ. ap face_in (changed_there number n change sessions keeps differ); here = ap face_in (changed_here number change sessions found keeps is) }

-- a session that is gone
gone_here : (number : ℕ) (sessions : List Session) → session_of number (filter (λ session. not (session.number == number)) sessions) ≡ None
gone_here number [] = refl
gone_here number (first ∷ sessions) = at (first.number == number) refl (gone_here number sessions) where
  at : (b : Bool) → (first.number == number) ≡ b → session_of number (filter (λ session. not (session.number == number)) sessions) ≡ None
      → session_of number (cond (not b) (first ∷ filter (λ session. not (session.number == number)) sessions) (filter (λ session. not (session.number == number)) sessions)) ≡ None
  at true here rest = rest
  at false here rest = rw here rest

pub gone_there : (number other : ℕ) (sessions : List Session) → (other == number) ≡ false → session_of other (filter (λ session. not (session.number == number)) sessions) ≡ session_of other sessions
gone_there number other [] differ = refl
gone_there number other (first ∷ sessions) differ = at (first.number == number) refl (gone_there number other sessions differ) where
  at : (b : Bool) → (first.number == number) ≡ b → session_of other (filter (λ session. not (session.number == number)) sessions) ≡ session_of other sessions
      → session_of other (cond (not b) (first ∷ filter (λ session. not (session.number == number)) sessions) (filter (λ session. not (session.number == number)) sessions)) ≡ session_of other (first ∷ sessions)
  at true here rest = let one : (first.number == other) ≡ false = grind (arith, nat_tests) in rw one rest
  at false here rest = ap (λ (o : Option Session). cond (first.number == other) (Some first) o) rest

pub faces_without : (number : ℕ) (sessions : List Session) → Besides number (face_of sessions) (face_of (filter (λ session. not (session.number == number)) sessions)) no_face
faces_without number sessions = record { there = λ n differ. ap face_in (gone_there number n sessions differ); here = ap face_in (gone_here number sessions) }

-- a session that connects
pub joined : (tool : Bool) (number other : ℕ) (sessions : List Session) → face_of (sessions ++ new_session number tool ∷ []) other ≡ face_of sessions other
joined tool number other [] = at (number == other) where
  at : (b : Bool) → face_in (cond b (Some (new_session number tool)) None) ≡ no_face
  at true = refl
  at false = refl
joined tool number other (first ∷ sessions) = at (first.number == other) (joined tool number other sessions) where
  at : (b : Bool) → face_of (sessions ++ new_session number tool ∷ []) other ≡ face_of sessions other → face_in (cond b (Some first) (session_of other (sessions ++ new_session number tool ∷ []))) ≡ face_in (cond b (Some first) (session_of other sessions))
  at true rest = refl
  at false rest = rest

joined_live : (tool : Bool) (number : ℕ) (sessions : List Session) → is_some (session_of number (sessions ++ new_session number tool ∷ [])) ≡ true
joined_live tool number [] = rw (same_number number) refl
joined_live tool number (first ∷ sessions) = at (first.number == number) (joined_live tool number sessions) where
  at : (b : Bool) → is_some (session_of number (sessions ++ new_session number tool ∷ [])) ≡ true → is_some (cond b (Some first) (session_of number (sessions ++ new_session number tool ∷ []))) ≡ true
  at true rest = refl
  at false rest = rest

pub faces_opened : (nothing tool : Bool) (number other : ℕ) (state : State) → face_of (opens_if nothing tool number state).sessions other ≡ face_of state.sessions other
unfolding opens_if
faces_opened nothing tool number other state = at (nothing || is_some (session_of number state.sessions)) where
  at : (b : Bool) → face_of (cond b state (connected number tool state)).sessions other ≡ face_of state.sessions other
  at true = refl
  at false = joined tool number other state.sessions

pub opened_live : (nothing tool : Bool) (number : ℕ) (state : State) → nothing ≡ false → is_some (session_of number (opens_if nothing tool number state).sessions) ≡ true
unfolding opens_if
opened_live true tool number state is = absurd (true≢false is)
opened_live false tool number state is = at (is_some (session_of number state.sessions)) refl where
  at : (b : Bool) → is_some (session_of number state.sessions) ≡ b → is_some (session_of number (cond b state (connected number tool state)).sessions) ≡ true
  at true live = live
  at false live = joined_live tool number state.sessions

lock_parts : (a b : List HeldLock) (number : ℕ) (lock : Lock) → blocker_of_lock (a ++ b) number lock ≡ None → (blocker_of_lock a number lock ≡ None) × (blocker_of_lock b number lock ≡ None)
unfolding blocker_of_lock
lock_parts [] b number lock is = (refl, is)
lock_parts (x ∷ a) b number lock is =
    let both = none_of (refusal number lock x) (blocker_of_lock (a ++ b) number lock) is in
    let rest = lock_parts a b number lock both.1 in
    (rw (both.0, rest.0) refl, rest.1)

own_apart : (holder : ℕ) (locks : List Lock) (number : ℕ) (lock other : Lock) → blocker_of_lock (map (held_by holder) locks) number lock ≡ None → (holder == number) ≡ false → Among other locks → conflict other lock ≡ false
unfolding blocker_of_lock refusal
own_apart holder [] number lock other is differ one = absurd one
own_apart holder (x ∷ locks) number lock other is differ (inl same) =
    let both = none_of (refusal number lock (held_by holder x)) (blocker_of_lock (map (held_by holder) locks) number lock) is in
    rw same (not_refused (holder == number) (conflict x lock) holder both.0 differ)
own_apart holder (x ∷ locks) number lock other is differ (inr one) =
    let both = none_of (refusal number lock (held_by holder x)) (blocker_of_lock (map (held_by holder) locks) number lock) is in
    own_apart holder locks number lock other both.1 differ one

lock_apart : (sessions : List Session) (number n : ℕ) (lock other : Lock) → blocker_of_lock (locks_held sessions) number lock ≡ None → (n == number) ≡ false → Among other (face_of sessions n).hold.locks → conflict other lock ≡ false
lock_apart [] number n lock other is differ one = absurd one
lock_apart (first ∷ sessions) number n lock other is differ one =
    let both = lock_parts (map (held_by first.number) first.row_locks) (locks_held sessions) number lock is in
    at (first.number == n) refl both.0 one (lock_apart sessions number n lock other both.1 differ) where
      at : (b : Bool) → (first.number == n) ≡ b → blocker_of_lock (map (held_by first.number) first.row_locks) number lock ≡ None → Among other (face_in (cond b (Some first) (session_of n sessions))).hold.locks
          → (Among other (face_of sessions n).hold.locks → conflict other lock ≡ false) → conflict other lock ≡ false
      at true here none there rest = own_apart first.number first.row_locks number lock other none (ap (λ (m : ℕ). m == number) (are_one first.number n here) ∙ differ) there
      at false here none there rest = rest there

set_none : (held : List HeldLock) (number : ℕ) (set : List Lock) (lock : Lock) → blocker_of_set held number set ≡ None → Among lock set → blocker_of_lock held number lock ≡ None
unfolding blocker_of_set
set_none held number [] lock is one = absurd one
set_none held number (x ∷ set) lock is (inl same) = let both = none_of (blocker_of_lock held number x) (blocker_of_set held number set) is in rw same both.0
set_none held number (x ∷ set) lock is (inr one) = let both = none_of (blocker_of_lock held number x) (blocker_of_set held number set) is in set_none held number set lock both.1 one

-- locks that are granted are apart from what others hold
pub granted_apart : (sessions : List Session) (number : ℕ) (set : List Lock) → blocker_of_set (locks_held sessions) number set ≡ None → (n : ℕ) → (n == number) ≡ false → Apart set (face_of sessions n).hold.locks
granted_apart sessions number set is n differ lock other one two = conflict_both_ways lock other ∙ lock_apart sessions number n lock other (set_none (locks_held sessions) number set lock is one) differ two

-- what a session has, by its face
pub writes_face : (found : Option Session) → writes_of found ≡ (face_in found).hold.writes
writes_face None = refl
writes_face (Some session) = refl

pub busy_face : (found : Option Session) → is_in_transaction found ≡ (face_in found).busy
busy_face None = refl
busy_face (Some session) = refl
