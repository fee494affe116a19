-- The row locks are the live sessions', while sessions change.
use Rattle.std.proofs.Common.{◌≡◌, ◌⊎◌, inl, inr, ◌∙◌, ℕ, ◌+◌, ◌≤◌, Bool, true, false, not, cond, List, [], ◌∷◌, ◌++◌, map, filter, is_some, Option, Some, None, refl, sym, ap, subst, arith}
use Rattle.std.specs.Prelude.{◌==◌}
use Rattle.std.specs.List.{AllByRecursion}
use Rattle.std.specs.Option.{option_map}
use Rattle.std.proofs.lemmas.Bool.{true≢false, ne_eqb}
use Rattle.server_locks.specs.declared.row_locks.lock.Lock.{Lock}
use Rattle.server_locks.specs.declared.row_locks.lock.HeldLock.{HeldLock}
use Rattle.server_locks.specs.RowLocks.LockTable.{LockTable, held_by, freed}
use Rattle.server_locks.specs.RowLocks.SameLocks.{HasLock}
use Rattle.server_locks.proofs.LeastSession.Kept.{both, kept}
use Rattle.server_model.specs.declared.session.Session.{Session}
use Rattle.server_model.specs.declared.session.Waiting.{Waiting}
use Rattle.server_model.specs.PlainServer.{at_rest, forgets, loses, without_waiting}
use Rattle.server_model.specs.States.{State, new_session, session_of, with_session}
use Rattle.server_model.proofs.LockedRows.Tests.{are_one}
use Rattle.server_sessions.specs.LiveSessions.SessionLists.{AreOwned, Differ, NumberedSessions}
use Rattle.server_sessions.proofs.LiveSessions.HeldNames.{changed_of, left_of, other_of}
use Rattle.server_sessions.proofs.LiveSessions.HeldLocks.{has_either, freed_here, own_number, without}

-- NUMBERS

numbers_kept : (P : ℕ → Type 0) (number : ℕ) (change : Session → Session) (sessions : List Session) → ((s : Session) → (change s).number ≡ s.number) → AllByRecursion (λ (session : Session). P session.number) sessions → AllByRecursion (λ (session : Session). P session.number) (with_session number change sessions)
unfolding with_session
numbers_kept P number change [] numbers all = tt
numbers_kept P number change (session ∷ sessions) numbers all = at (session.number == number) (numbers_kept P number change sessions numbers all.1) where
  at : (b : Bool) → AllByRecursion (λ (one : Session). P one.number) (with_session number change sessions) → AllByRecursion (λ (one : Session). P one.number) (cond b (change session ∷ sessions) (session ∷ with_session number change sessions))
  at true rest = (subst P (sym (numbers session)) all.0, all.1)
  at false rest = (all.0, rest)

differ_kept : (number : ℕ) (change : Session → Session) (sessions : List Session) → ((s : Session) → (change s).number ≡ s.number) → Differ sessions → Differ (with_session number change sessions)
unfolding with_session
differ_kept number change [] numbers differ = tt
differ_kept number change (session ∷ sessions) numbers differ = at (session.number == number) (differ_kept number change sessions numbers differ.1) where
  at : (b : Bool) → Differ (with_session number change sessions) → Differ (cond b (change session ∷ sessions) (session ∷ with_session number change sessions))
  at true rest = (subst (λ (n : ℕ). AllByRecursion (λ (other : Session). (other.number == n) ≡ false) sessions) (sym (numbers session)) differ.0, differ.1)
  at false rest = (numbers_kept (λ (n : ℕ). (n == session.number) ≡ false) number change sessions numbers differ.0, rest)

differ_left : (number : ℕ) (sessions : List Session) → Differ sessions → Differ (without number sessions)
differ_left number [] differ = tt
differ_left number (session ∷ sessions) differ = at (session.number == number) (differ_left number sessions differ.1) where
  at : (b : Bool) → Differ (without number sessions) → Differ (cond (not b) (session ∷ without number sessions) (without number sessions))
  at true rest = rest
  at false rest = (kept (λ (other : Session). (other.number == session.number) ≡ false) (λ (one : Session). not (one.number == number)) sessions differ.0, rest)

within_more : (made : ℕ) (sessions : List Session) → AllByRecursion (λ (session : Session). session.number ≤ made) sessions → AllByRecursion (λ (session : Session). session.number ≤ made + 1) sessions
within_more made [] within = tt
within_more made (session ∷ sessions) within = let first = within.0 in (omega (arith, first), within_more made sessions within.1)

above : (made number : ℕ) → number ≤ made → (made + 1 == number) ≡ false
above made number within = ne_eqb (made + 1) number (λ same. absurd (omega (arith, within, same)))

pub below : (made number : ℕ) → number ≤ made → (number == made + 1) ≡ false
below made number within = ne_eqb number (made + 1) (λ same. absurd (omega (arith, within, same)))

differ_joined : (made : ℕ) (is_tool : Bool) (sessions : List Session) → AllByRecursion (λ (session : Session). session.number ≤ made) sessions → Differ sessions → Differ (sessions ++ new_session (made + 1) is_tool ∷ [])
differ_joined made is_tool [] within differ = (tt, tt)
differ_joined made is_tool (session ∷ sessions) within differ =
    (both (λ (other : Session). (other.number == session.number) ≡ false) sessions (new_session (made + 1) is_tool ∷ []) differ.0 (above made session.number within.0, tt), differ_joined made is_tool sessions within.1 differ.1)

-- WHICH SESSIONS ARE LIVE

pub live_within : (made number : ℕ) (sessions : List Session) → AllByRecursion (λ (session : Session). session.number ≤ made) sessions → is_some (session_of number sessions) ≡ true → number ≤ made
live_within made number [] within live = absurd (true≢false (sym live))
live_within made number (session ∷ sessions) within live = at (session.number == number) refl live (live_within made number sessions within.1) where
  at : (b : Bool) → (session.number == number) ≡ b → is_some (cond b (Some session) (session_of number sessions)) ≡ true → (is_some (session_of number sessions) ≡ true → number ≤ made) → number ≤ made
  at true is live rest = subst (λ (n : ℕ). n ≤ made) (are_one session.number number is) within.0
  at false is live rest = rest live

live_joined : (number fresh : ℕ) (is_tool : Bool) (sessions : List Session) → is_some (session_of number sessions) ≡ true → is_some (session_of number (sessions ++ new_session fresh is_tool ∷ [])) ≡ true
live_joined number fresh is_tool [] live = absurd (true≢false (sym live))
live_joined number fresh is_tool (session ∷ sessions) live = at (session.number == number) live (live_joined number fresh is_tool sessions) where
  at : (b : Bool) → is_some (cond b (Some session) (session_of number sessions)) ≡ true → (is_some (session_of number sessions) ≡ true → is_some (session_of number (sessions ++ new_session fresh is_tool ∷ [])) ≡ true)
      → is_some (cond b (Some session) (session_of number (sessions ++ new_session fresh is_tool ∷ []))) ≡ true
  at true live rest = refl
  at false live rest = rest live

some_changed : (change : Session → Session) (one : Option Session) → is_some (option_map change one) ≡ is_some one
some_changed change None = refl
some_changed change (Some s) = refl

live_changed : (number : ℕ) (change : Session → Session) (sessions : List Session) (other : ℕ) → ((s : Session) → (change s).number ≡ s.number) → is_some (session_of other sessions) ≡ true → is_some (session_of other (with_session number change sessions)) ≡ true
live_changed number change sessions other numbers live = at (other == number) refl where
  at : (b : Bool) → (other == number) ≡ b → is_some (session_of other (with_session number change sessions)) ≡ true
  at true is =
      let same = are_one other number is in
      ap (λ (n : ℕ). is_some (session_of n (with_session number change sessions))) same ∙ ap is_some (changed_of number change sessions numbers) ∙ some_changed change (session_of number sessions) ∙ ap (λ (n : ℕ). is_some (session_of n sessions)) (sym same) ∙ live
  at false is = ap is_some (other_of number other change sessions numbers is) ∙ live

-- EACH LOCK IS A LIVE SESSION'S

-- no session
pub owned_none : AreOwned 0 [] []
owned_none = record { within = tt; differ = tt; live = λ lock has. absurd has }

-- a number more is used up
pub owned_passed : (made : ℕ) (sessions : List Session) (held : List HeldLock) → AreOwned made sessions held → AreOwned (made + 1) sessions held
owned_passed made sessions held owned = record { within = within_more made sessions owned.within; differ = owned.differ; live = owned.live }

-- one session more
pub owned_joined : (made : ℕ) (is_tool : Bool) (sessions : List Session) (held : List HeldLock) → AreOwned made sessions held → AreOwned (made + 1) (sessions ++ new_session (made + 1) is_tool ∷ []) held
owned_joined made is_tool sessions held owned =
    let own : made + 1 ≤ made + 1 = omega arith in
    record {
      within = both (λ (session : Session). session.number ≤ made + 1) sessions (new_session (made + 1) is_tool ∷ []) (within_more made sessions owned.within) (own, tt);
      differ = differ_joined made is_tool sessions owned.within owned.differ;
      live = λ lock has. live_joined lock.session (made + 1) is_tool sessions (owned.live lock has);
    }

-- a change that leaves a session's number
pub owned_same : (made number : ℕ) (change : Session → Session) (sessions : List Session) (held : List HeldLock) → ((s : Session) → (change s).number ≡ s.number) → AreOwned made sessions held → AreOwned made (with_session number change sessions) held
owned_same made number change sessions held numbers owned =
    record {
      within = numbers_kept (λ (n : ℕ). n ≤ made) number change sessions numbers owned.within;
      differ = differ_kept number change sessions numbers owned.differ;
      live = λ lock has. live_changed number change sessions lock.session numbers (owned.live lock has);
    }

-- a transaction is over
pub owned_rested : (made number : ℕ) (sessions : List Session) (t : LockTable) → AreOwned made sessions t.held → AreOwned made (with_session number at_rest sessions) (freed t number).held
owned_rested made number sessions t owned =
    record {
      within = numbers_kept (λ (n : ℕ). n ≤ made) number at_rest sessions (λ s. refl) owned.within;
      differ = differ_kept number at_rest sessions (λ s. refl) owned.differ;
      live = λ lock has. let one = freed_here number t lock has in live_changed number at_rest sessions lock.session (λ s. refl) (owned.live lock one.has);
    }

-- a session is gone
pub owned_less : (made number : ℕ) (sessions : List Session) (t : LockTable) → AreOwned made sessions t.held → AreOwned made (filter (λ (session : Session). not (session.number == number)) sessions) (freed t number).held
owned_less made number sessions t owned =
    record {
      within = kept (λ (session : Session). session.number ≤ made) (λ (session : Session). not (session.number == number)) sessions owned.within;
      differ = differ_left number sessions owned.differ;
      live = λ lock has. let one = freed_here number t lock has in ap is_some (left_of number lock.session sessions one.other) ∙ owned.live lock one.has;
    }

-- a live session is granted more
pub owned_grown : (made number : ℕ) (locks : List Lock) (change : Session → Session) (sessions : List Session) (held : List HeldLock) → ((s : Session) → (change s).number ≡ s.number) → is_some (session_of number sessions) ≡ true → AreOwned made sessions held
    → AreOwned made (with_session number change sessions) (held ++ map (held_by number) locks)
owned_grown made number locks change sessions held numbers live owned =
    record {
      within = numbers_kept (λ (n : ℕ). n ≤ made) number change sessions numbers owned.within;
      differ = differ_kept number change sessions numbers owned.differ;
      live = λ lock has. live_changed number change sessions lock.session numbers (each lock (has_either held (map (held_by number) locks) lock has));
    }
  where
    each : (lock : HeldLock) → HasLock held lock ⊎ HasLock (map (held_by number) locks) lock → is_some (session_of lock.session sessions) ≡ true
    each lock (inl old) = owned.live lock old
    each lock (inr new) = ap (λ (n : ℕ). is_some (session_of n sessions)) (own_number number locks lock new) ∙ live

-- where no session has the number, nothing is changed
pub not_live : (number : ℕ) (change : Session → Session) (sessions : List Session) → is_some (session_of number sessions) ≡ false → sessions ≡ with_session number change sessions
unfolding with_session
not_live number change [] none = refl
not_live number change (session ∷ sessions) none = at (session.number == number) none (not_live number change sessions) where
  at : (b : Bool) → is_some (cond b (Some session) (session_of number sessions)) ≡ false → (is_some (session_of number sessions) ≡ false → sessions ≡ with_session number change sessions) → session ∷ sessions ≡ cond b (change session ∷ sessions) (session ∷ with_session number change sessions)
  at true none rest = absurd (true≢false none)
  at false none rest = ap (λ (ss : List Session). session ∷ ss) (rest none)

pub unchanged : (number : ℕ) (change : Session → Session) (list : NumberedSessions) → is_some (session_of number list.sessions) ≡ false → list ≡ record list { sessions = with_session number change list.sessions }
unchanged number change list none = ap (λ (sessions : List Session). record list { sessions = sessions }) (not_live number change list.sessions none)

-- a session is gone, whether its transaction was over before or not
pub without_rested : (number : ℕ) (sessions : List Session) → filter (λ (session : Session). not (session.number == number)) (with_session number at_rest sessions) ≡ filter (λ (session : Session). not (session.number == number)) sessions
unfolding with_session
without_rested number [] = refl
without_rested number (session ∷ sessions) = at (session.number == number) refl (without_rested number sessions) where
  others : List Session → List Session
  others all = filter (λ (one : Session). not (one.number == number)) all

  at : (b : Bool) → (session.number == number) ≡ b → others (with_session number at_rest sessions) ≡ others sessions → others (cond b (at_rest session ∷ sessions) (session ∷ with_session number at_rest sessions)) ≡ others (session ∷ sessions)
  at true is rest = rw is refl
  at false is rest = rw is (ap (λ (all : List Session). session ∷ all) rest)

-- a session is lost: its wait is over, its transaction is forgotten, and it is gone
pub loses_so : (number : ℕ) (state waits rests : State) → waits ≡ without_waiting number state → rests ≡ forgets number waits → record rests { sessions = filter (λ (session : Session). not (session.number == number)) rests.sessions } ≡ loses number state
unfolding loses
loses_so number state waits rests is was = rw (was, is) (ap (λ (all : List Session). record (without_waiting number state) { sessions = all }) (without_rested number state.sessions))

-- the list that is so kept
abbrev listed : ℕ → List Session → List Waiting → NumberedSessions
listed made sessions waiting = record { made = made; sessions = sessions; waiting = waiting }

-- a change of the records is one of the list
pub shown : (made : ℕ) (before after : List Session) (waiting : List Waiting) (change : List Session → List Session) (list : NumberedSessions) → listed made before waiting ≡ list → after ≡ change before → listed made after waiting ≡ record list { sessions = change list.sessions }
shown made before after waiting change list seen changed = ap (λ (sessions : List Session). listed made sessions waiting) changed ∙ ap (λ (all : NumberedSessions). record all { sessions = change all.sessions }) seen

pub shown_joined : (made : ℕ) (is_tool : Bool) (before after : List Session) (waiting : List Waiting) (list : NumberedSessions) → listed made before waiting ≡ list → after ≡ before ++ new_session (made + 1) is_tool ∷ []
    → listed (made + 1) after waiting ≡ record list { made = list.made + 1; sessions = list.sessions ++ new_session (list.made + 1) is_tool ∷ [] }
shown_joined made is_tool before after waiting list seen joined =
    ap (λ (sessions : List Session). listed (made + 1) sessions waiting) joined ∙ ap (λ (all : NumberedSessions). record all { made = all.made + 1; sessions = all.sessions ++ new_session (all.made + 1) is_tool ∷ [] }) seen
