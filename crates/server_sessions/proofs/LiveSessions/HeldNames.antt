-- The names that sessions hold, while sessions change: the table of all has the same.
use Rattle.std.proofs.Common.{◌≡◌, ◌⊎◌, inl, inr, ◌∙◌, ℕ, Bool, true, false, not, ◌&&◌, cond, nat_eq, List, [], ◌∷◌, ◌++◌, map, filter, Option, Some, None, is_some, refl, sym, ap, subst}
use Rattle.std.specs.Prelude.{◌==◌}
use Rattle.std.specs.List.{AllByRecursion}
use Rattle.std.specs.Cmp.Lexicographic.{pointwise}
use Rattle.std.specs.Option.{option_map}
use Rattle.std.proofs.lemmas.Bool.{true≢false, and_parts}
use Rattle.std.proofs.lemmas.Grind.{flat_map-append}
use Rattle.std.proofs.lemmas.List.{append-nil}
use Rattle.server_locks.specs.declared.metadata_locks.request.Waiter.{Waiter}
use Rattle.server_locks.specs.MetadataLocks.Grants as grants
use Rattle.server_locks.specs.MetadataLocks.LockTable.{held_by, is_own, shares, taken}
use Rattle.server_locks.specs.MetadataLocks.SameNames.{HasName, SameNames}
use Rattle.server_locks.proofs.MetadataLocks.SameBlockers.{passing}
use Rattle.server_model.specs.declared.session.Session.{Session}
use Rattle.server_model.specs.declared.session.HeldName.{HeldName}
use Rattle.server_model.specs.declared.session.Waiting.{Waiting}
use Rattle.server_model.specs.declared.request.Request.{Request}
use Rattle.server_model.specs.States.{is_exclusive, name_held, names_held, names_in, new_session, session_of, waiters, waits_for, with_session}
use Rattle.server_model.proofs.LockedRows.Tests.{are_one, are_same, same_number}
use Rattle.server_sessions.specs.LiveSessions.KeptSessions.{held_name}
use Rattle.server_sessions.specs.LiveSessions.SessionLists.{Differ, HasOwn, HaveNames, names_of}
use Rattle.server_sessions.proofs.LiveSessions.HeldLocks.{apart_from, without}

-- Lists of locks.
first_name : (xs ys : List grants.HeldName) (lock : grants.HeldName) → HasName xs lock → HasName (xs ++ ys) lock
first_name [] ys lock has = absurd has
first_name (x ∷ xs) ys lock (inl is) = inl is
first_name (x ∷ xs) ys lock (inr has) = inr (first_name xs ys lock has)

second_name : (xs ys : List grants.HeldName) (lock : grants.HeldName) → HasName ys lock → HasName (xs ++ ys) lock
second_name [] ys lock has = has
second_name (x ∷ xs) ys lock has = inr (second_name xs ys lock has)

later : {A B C : Type 0} → A ⊎ B → (C ⊎ A) ⊎ B
later (inl a) = inl (inr a)
later (inr b) = inr b

either_name : (xs ys : List grants.HeldName) (lock : grants.HeldName) → HasName (xs ++ ys) lock → HasName xs lock ⊎ HasName ys lock
either_name [] ys lock has = inr has
either_name (x ∷ xs) ys lock (inl is) = inl (inl is)
either_name (x ∷ xs) ys lock (inr has) = later (either_name xs ys lock has)

first_own : (xs ys : List HeldName) (lock : grants.HeldName) → HasOwn xs lock → HasOwn (xs ++ ys) lock
first_own [] ys lock has = absurd has
first_own (x ∷ xs) ys lock (inl is) = inl is
first_own (x ∷ xs) ys lock (inr has) = inr (first_own xs ys lock has)

second_own : (xs ys : List HeldName) (lock : grants.HeldName) → HasOwn ys lock → HasOwn (xs ++ ys) lock
second_own [] ys lock has = has
second_own (x ∷ xs) ys lock has = inr (second_own xs ys lock has)

either_own : (xs ys : List HeldName) (lock : grants.HeldName) → HasOwn (xs ++ ys) lock → HasOwn xs lock ⊎ HasOwn ys lock
either_own [] ys lock has = inr has
either_own (x ∷ xs) ys lock (inl is) = inl (inl is)
either_own (x ∷ xs) ys lock (inr has) = later (either_own xs ys lock has)

-- a lock by its parts
lock_is : (session : ℕ) (name : List ℕ) (exclusive : Bool) (lock : grants.HeldName) → lock.session ≡ session → name ≡ lock.name → exclusive ≡ lock.exclusive → held_by session exclusive name ≡ lock
lock_is session name exclusive lock number same so = ap (λ (n : ℕ). held_by n exclusive name) (sym number) ∙ ap (λ (n : List ℕ). held_by lock.session exclusive n) same ∙ ap (λ (b : Bool). held_by lock.session b lock.name) so

-- The locks of one session are those of its list.
pub own_there : (number : ℕ) (names : List HeldName) (lock : grants.HeldName) → HasName (map (name_held number) names) lock → (lock.session ≡ number) × HasOwn names lock
own_there number [] lock has = absurd has
own_there number (one ∷ names) lock (inl is) = (ap (λ (l : grants.HeldName). l.session) (sym is), inl (ap (λ (l : grants.HeldName). l.name) is, ap (λ (l : grants.HeldName). l.exclusive) is))
own_there number (one ∷ names) lock (inr has) = let there = own_there number names lock has in (there.0, inr there.1)

pub own_here : (number : ℕ) (names : List HeldName) (lock : grants.HeldName) → lock.session ≡ number → HasOwn names lock → HasName (map (name_held number) names) lock
own_here number [] lock is has = absurd has
own_here number (one ∷ names) lock is (inl same) = inl (lock_is number one.name one.exclusive lock is same.0 same.1)
own_here number (one ∷ names) lock is (inr has) = inr (own_here number names lock is has)

-- no session of these has the number
none_has : (number : ℕ) (sessions : List Session) → AllByRecursion (λ (other : Session). (other.number == number) ≡ false) sessions → session_of number sessions ≡ None
none_has number [] apart = refl
none_has number (session ∷ sessions) apart = at (session.number == number) apart.0 (none_has number sessions apart.1) where
  at : (b : Bool) → b ≡ false → session_of number sessions ≡ None → cond b (Some session) (session_of number sessions) ≡ None
  at true is rest = absurd (true≢false is)
  at false is rest = rest

-- THE LOCKS OF ALL SESSIONS

all_there : (sessions : List Session) (lock : grants.HeldName) → Differ sessions → HasName (names_held sessions) lock → HasOwn (names_of (session_of lock.session sessions)) lock
all_there [] lock differ has = absurd has
all_there (session ∷ sessions) lock differ has = at (session.number == lock.session) refl (either_name (map (name_held session.number) session.names) (names_held sessions) lock has) (all_there sessions lock differ.1) where
  at : (b : Bool) → (session.number == lock.session) ≡ b → HasName (map (name_held session.number) session.names) lock ⊎ HasName (names_held sessions) lock → (HasName (names_held sessions) lock → HasOwn (names_of (session_of lock.session sessions)) lock)
      → HasOwn (names_of (cond b (Some session) (session_of lock.session sessions))) lock
  at true is (inl own) rest = (own_there session.number session.names lock own).1
  at true is (inr more) rest =
      let apart = subst (λ (n : ℕ). AllByRecursion (λ (other : Session). (other.number == n) ≡ false) sessions) (are_one session.number lock.session is) differ.0 in
      absurd (subst (λ (o : Option Session). HasOwn (names_of o) lock) (none_has lock.session sessions apart) (rest more))
  at false is (inl own) rest =
      let there = own_there session.number session.names lock own in
      absurd (true≢false (sym (same_number lock.session) ∙ ap (λ (n : ℕ). n == lock.session) there.0 ∙ is))
  at false is (inr more) rest = rest more

all_here : (sessions : List Session) (lock : grants.HeldName) → HasOwn (names_of (session_of lock.session sessions)) lock → HasName (names_held sessions) lock
all_here [] lock has = absurd has
all_here (session ∷ sessions) lock has = at (session.number == lock.session) refl has (all_here sessions lock) where
  at : (b : Bool) → (session.number == lock.session) ≡ b → HasOwn (names_of (cond b (Some session) (session_of lock.session sessions))) lock → (HasOwn (names_of (session_of lock.session sessions)) lock → HasName (names_held sessions) lock) → HasName (names_held (session ∷ sessions)) lock
  at true is own rest = first_name (map (name_held session.number) session.names) (names_held sessions) lock (own_here session.number session.names lock (sym (are_one session.number lock.session is)) own)
  at false is own rest = second_name (map (name_held session.number) session.names) (names_held sessions) lock (rest own)

-- the table has the same locks as all sessions
pub same_names : (sessions : List Session) (table : List grants.HeldName) → Differ sessions → HaveNames sessions table → SameNames table (names_held sessions)
same_names sessions table differ have =
    record {
      there = λ lock has. all_here sessions lock (have.there lock has);
      here = λ lock has. have.here lock (all_there sessions lock differ has);
    }

-- THE SESSION OF A NUMBER, AFTER A CHANGE

-- the changed one
pub changed_of : (number : ℕ) (change : Session → Session) (sessions : List Session) → ((s : Session) → (change s).number ≡ s.number) → session_of number (with_session number change sessions) ≡ option_map change (session_of number sessions)
unfolding with_session
changed_of number change [] numbers = refl
changed_of number change (session ∷ sessions) numbers = at (session.number == number) refl (changed_of number change sessions numbers) where
  at : (b : Bool) → (session.number == number) ≡ b → session_of number (with_session number change sessions) ≡ option_map change (session_of number sessions) → session_of number (cond b (change session ∷ sessions) (session ∷ with_session number change sessions)) ≡ option_map change (cond b (Some session) (session_of number sessions))
  at true is rest = ap (λ (c : Bool). cond c (Some (change session)) (session_of number sessions)) (ap (λ (n : ℕ). n == number) (numbers session) ∙ is)
  at false is rest = ap (λ (c : Bool). cond c (Some session) (session_of number (with_session number change sessions))) is ∙ rest

-- any other
pub other_of : (number other : ℕ) (change : Session → Session) (sessions : List Session) → ((s : Session) → (change s).number ≡ s.number) → (other == number) ≡ false → session_of other (with_session number change sessions) ≡ session_of other sessions
unfolding with_session
other_of number other change [] numbers apart = refl
other_of number other change (session ∷ sessions) numbers apart = at (session.number == number) refl (other_of number other change sessions numbers apart) where
  at : (b : Bool) → (session.number == number) ≡ b → session_of other (with_session number change sessions) ≡ session_of other sessions
      → session_of other (cond b (change session ∷ sessions) (session ∷ with_session number change sessions)) ≡ cond (session.number == other) (Some session) (session_of other sessions)
  at true is rest =
      let passed = apart_from session.number number other is apart in
      ap (λ (c : Bool). cond c (Some (change session)) (session_of other sessions)) (ap (λ (n : ℕ). n == other) (numbers session) ∙ passed)
      ∙ sym (ap (λ (c : Bool). cond c (Some session) (session_of other sessions)) passed)
  at false is rest = ap (λ (o : Option Session). cond (session.number == other) (Some session) o) rest

-- one session more
joined_names : (number fresh : ℕ) (is_tool : Bool) (sessions : List Session) → names_of (session_of number (sessions ++ new_session fresh is_tool ∷ [])) ≡ names_of (session_of number sessions)
joined_names number fresh is_tool [] = at (fresh == number) where
  at : (b : Bool) → names_of (cond b (Some (new_session fresh is_tool)) None) ≡ []
  at true = refl
  at false = refl
joined_names number fresh is_tool (session ∷ sessions) = at (session.number == number) (joined_names number fresh is_tool sessions) where
  at : (b : Bool) → names_of (session_of number (sessions ++ new_session fresh is_tool ∷ [])) ≡ names_of (session_of number sessions) → names_of (cond b (Some session) (session_of number (sessions ++ new_session fresh is_tool ∷ []))) ≡ names_of (cond b (Some session) (session_of number sessions))
  at true rest = refl
  at false rest = rest

-- the session is gone
gone_of : (number : ℕ) (sessions : List Session) → session_of number (without number sessions) ≡ None
gone_of number [] = refl
gone_of number (session ∷ sessions) = at (session.number == number) refl (gone_of number sessions) where
  at : (b : Bool) → (session.number == number) ≡ b → session_of number (without number sessions) ≡ None → session_of number (cond (not b) (session ∷ without number sessions) (without number sessions)) ≡ None
  at true is rest = rest
  at false is rest = ap (λ (c : Bool). cond c (Some session) (session_of number (without number sessions))) is ∙ rest

pub left_of : (number other : ℕ) (sessions : List Session) → (other == number) ≡ false → session_of other (without number sessions) ≡ session_of other sessions
left_of number other [] apart = refl
left_of number other (session ∷ sessions) apart = at (session.number == number) refl (left_of number other sessions apart) where
  at : (b : Bool) → (session.number == number) ≡ b → session_of other (without number sessions) ≡ session_of other sessions → session_of other (cond (not b) (session ∷ without number sessions) (without number sessions)) ≡ cond (session.number == other) (Some session) (session_of other sessions)
  at true is rest = rest ∙ sym (ap (λ (c : Bool). cond c (Some session) (session_of other sessions)) (apart_from session.number number other is apart))
  at false is rest = ap (λ (o : Option Session). cond (session.number == other) (Some session) o) rest

-- WHAT IS GRANTED

-- the session holds a name shared: the lock is there
shared_there : (table : List grants.HeldName) (number : ℕ) (name : List ℕ) (lock : grants.HeldName) → shares table number name ≡ true → lock.session ≡ number → name ≡ lock.name → false ≡ lock.exclusive → HasName table lock
unfolding shares
shared_there table number name lock is own same so =
    let one = passing _ table is in
    let parts = and_parts (nat_eq one.lock.session number) (pointwise nat_eq one.lock.name name && not one.lock.exclusive) one.passes in
    let named = and_parts (pointwise nat_eq one.lock.name name) (not one.lock.exclusive) parts.1 in
    let found : held_by number false name ≡ one.lock = lock_is number name false one.lock (are_one one.lock.session number parts.0) (sym (are_same one.lock.name name named.0)) (sym (no_more one.lock.exclusive named.1)) in
    subst (λ (l : grants.HeldName). HasName table l) (sym found ∙ lock_is number name false lock own same so) one.has
  where
    no_more : (b : Bool) → not b ≡ true → b ≡ false
    no_more true is = absurd (true≢false (sym is))
    no_more false is = refl

further_name : {A B C : Type 0} → A ⊎ B → A ⊎ (C ⊎ B)
further_name (inl a) = inl a
further_name (inr b) = inr (inr b)

-- those of the names that aren't shared
abbrev unshared : List grants.HeldName → ℕ → List (List ℕ) → List (List ℕ)
unshared table number names = filter (λ (n : List ℕ). not (shares table number n)) names

taken_by : (table : List grants.HeldName) (number : ℕ) (name : List ℕ) (names : List (List ℕ)) (lock : grants.HeldName) → lock.session ≡ number → (b : Bool) → shares table number name ≡ b → HasOwn (map (held_name false) (name ∷ names)) lock
    → (HasOwn (map (held_name false) names) lock → HasName table lock ⊎ HasName (map (held_by number false) (unshared table number names)) lock)
    → HasName table lock ⊎ HasName (map (held_by number false) (cond (not b) (name ∷ unshared table number names) (unshared table number names))) lock
taken_by table number name names lock own true is (inl same) rest = inl (shared_there table number name lock is own same.0 same.1)
taken_by table number name names lock own false is (inl same) rest = inr (inl (lock_is number name false lock own same.0 same.1))
taken_by table number name names lock own true is (inr has) rest = rest has
taken_by table number name names lock own false is (inr has) rest = further_name (rest has)

taken_here : (table : List grants.HeldName) (number : ℕ) (exclusive : Bool) (names : List (List ℕ)) (lock : grants.HeldName) → lock.session ≡ number → HasOwn (map (held_name exclusive) names) lock → HasName table lock ⊎ HasName (taken table number exclusive names) lock
taken_here table number exclusive [] lock own has = absurd has
taken_here table number true (name ∷ names) lock own (inl is) = inr (inl (lock_is number name true lock own is.0 is.1))
taken_here table number true (name ∷ names) lock own (inr has) = further_name (taken_here table number true names lock own has)
taken_here table number false (name ∷ names) lock own has = taken_by table number name names lock own (shares table number name) refl has (taken_here table number false names lock own)

-- what is granted is there then
pub granted_here : (table : List grants.HeldName) (number : ℕ) (exclusive : Bool) (names : List (List ℕ)) (lock : grants.HeldName) → lock.session ≡ number → HasOwn (map (held_name exclusive) names) lock → HasName (table ++ taken table number exclusive names) lock
granted_here table number exclusive names lock own has = at (taken_here table number exclusive names lock own has) where
  at : HasName table lock ⊎ HasName (taken table number exclusive names) lock → HasName (table ++ taken table number exclusive names) lock
  at (inl old) = first_name table (taken table number exclusive names) lock old
  at (inr new) = second_name table (taken table number exclusive names) lock new

all_taken : (number : ℕ) (exclusive : Bool) (names : List (List ℕ)) (lock : grants.HeldName) → HasName (map (held_by number exclusive) names) lock → (lock.session ≡ number) × HasOwn (map (held_name exclusive) names) lock
all_taken number exclusive [] lock has = absurd has
all_taken number exclusive (name ∷ names) lock (inl is) = (ap (λ (l : grants.HeldName). l.session) (sym is), inl (ap (λ (l : grants.HeldName). l.name) is, ap (λ (l : grants.HeldName). l.exclusive) is))
all_taken number exclusive (name ∷ names) lock (inr has) = let there = all_taken number exclusive names lock has in (there.0, inr there.1)

fewer : (exclusive : Bool) (test : List ℕ → Bool) (names : List (List ℕ)) (lock : grants.HeldName) → HasOwn (map (held_name exclusive) (filter test names)) lock → HasOwn (map (held_name exclusive) names) lock
fewer exclusive test [] lock has = has
fewer exclusive test (name ∷ names) lock has = at (test name) has (fewer exclusive test names lock) where
  at : (b : Bool) → HasOwn (map (held_name exclusive) (cond b (name ∷ filter test names) (filter test names))) lock → (HasOwn (map (held_name exclusive) (filter test names)) lock → HasOwn (map (held_name exclusive) names) lock) → HasOwn (map (held_name exclusive) (name ∷ names)) lock
  at true (inl is) rest = inl is
  at true (inr more) rest = inr (rest more)
  at false more rest = inr (rest more)

taken_there : (table : List grants.HeldName) (number : ℕ) (exclusive : Bool) (names : List (List ℕ)) (lock : grants.HeldName) → HasName (taken table number exclusive names) lock → (lock.session ≡ number) × HasOwn (map (held_name exclusive) names) lock
taken_there table number true names lock has = all_taken number true names lock has
taken_there table number false names lock has =
    let there = all_taken number false (filter (λ (n : List ℕ). not (shares table number n)) names) lock has in
    (there.0, fewer false (λ (n : List ℕ). not (shares table number n)) names lock there.1)

-- WHAT IS LET GO

-- the way of holding that stays
abbrev pub stays : Bool → Bool → Bool
stays exclusive held_so = cond exclusive (not held_so) held_so

left_there : (test : grants.HeldName → Bool) (table : List grants.HeldName) (lock : grants.HeldName) → HasName (filter test table) lock → HasName table lock × (test lock ≡ true)
left_there test [] lock has = absurd has
left_there test (one ∷ table) lock has = at (test one) refl has (left_there test table lock) where
  further : HasName table lock × (test lock ≡ true) → HasName (one ∷ table) lock × (test lock ≡ true)
  further there = (inr there.0, there.1)

  at : (b : Bool) → test one ≡ b → HasName (cond b (one ∷ filter test table) (filter test table)) lock → (HasName (filter test table) lock → HasName table lock × (test lock ≡ true)) → HasName (one ∷ table) lock × (test lock ≡ true)
  at true is (inl same) rest = (inl same, ap test (sym same) ∙ is)
  at true is (inr more) rest = further (rest more)
  at false is more rest = further (rest more)

left_here : (test : grants.HeldName → Bool) (table : List grants.HeldName) (lock : grants.HeldName) → HasName table lock → test lock ≡ true → HasName (filter test table) lock
left_here test [] lock has passes = absurd has
left_here test (one ∷ table) lock has passes = at (test one) refl has (λ more. left_here test table lock more passes) where
  at : (b : Bool) → test one ≡ b → HasName (one ∷ table) lock → (HasName table lock → HasName (filter test table) lock) → HasName (cond b (one ∷ filter test table) (filter test table)) lock
  at true is (inl same) rest = inl same
  at true is (inr more) rest = inr (rest more)
  at false is (inl same) rest = absurd (true≢false (sym passes ∙ ap test (sym same) ∙ is))
  at false is (inr more) rest = rest more

own_left_there : (exclusive : Bool) (names : List HeldName) (lock : grants.HeldName) → HasOwn (filter (λ (one : HeldName). stays exclusive one.exclusive) names) lock → HasOwn names lock × (stays exclusive lock.exclusive ≡ true)
own_left_there exclusive [] lock has = absurd has
own_left_there exclusive (one ∷ names) lock has = at (stays exclusive one.exclusive) refl has (own_left_there exclusive names lock) where
  further : HasOwn names lock × (stays exclusive lock.exclusive ≡ true) → HasOwn (one ∷ names) lock × (stays exclusive lock.exclusive ≡ true)
  further there = (inr there.0, there.1)

  at : (b : Bool) → stays exclusive one.exclusive ≡ b → HasOwn (cond b (one ∷ filter (λ (o : HeldName). stays exclusive o.exclusive) names) (filter (λ (o : HeldName). stays exclusive o.exclusive) names)) lock
      → (HasOwn (filter (λ (o : HeldName). stays exclusive o.exclusive) names) lock → HasOwn names lock × (stays exclusive lock.exclusive ≡ true)) → HasOwn (one ∷ names) lock × (stays exclusive lock.exclusive ≡ true)
  at true is (inl same) rest = (inl same, ap (stays exclusive) (sym same.1) ∙ is)
  at true is (inr more) rest = further (rest more)
  at false is more rest = further (rest more)

own_left_here : (exclusive : Bool) (names : List HeldName) (lock : grants.HeldName) → HasOwn names lock → stays exclusive lock.exclusive ≡ true → HasOwn (filter (λ (one : HeldName). stays exclusive one.exclusive) names) lock
own_left_here exclusive [] lock has passes = absurd has
own_left_here exclusive (one ∷ names) lock has passes = at (stays exclusive one.exclusive) refl has (λ more. own_left_here exclusive names lock more passes) where
  at : (b : Bool) → stays exclusive one.exclusive ≡ b → HasOwn (one ∷ names) lock → (HasOwn names lock → HasOwn (filter (λ (o : HeldName). stays exclusive o.exclusive) names) lock) → HasOwn (cond b (one ∷ filter (λ (o : HeldName). stays exclusive o.exclusive) names) (filter (λ (o : HeldName). stays exclusive o.exclusive) names)) lock
  at true is (inl same) rest = inl same
  at true is (inr more) rest = inr (rest more)
  at false is (inl same) rest = absurd (true≢false (sym passes ∙ ap (stays exclusive) (sym same.1) ∙ is))
  at false is (inr more) rest = rest more

-- THE TABLE, WHILE SESSIONS CHANGE

-- no session
pub names_none : HaveNames [] []
names_none = record { there = λ lock has. absurd has; here = λ lock has. absurd has }

-- what sessions hold is the same
by_same : (sessions after : List Session) (table : List grants.HeldName) → ((number : ℕ) → names_of (session_of number after) ≡ names_of (session_of number sessions)) → HaveNames sessions table → HaveNames after table
by_same sessions after table same have =
    record {
      there = λ lock has. subst (λ (names : List HeldName). HasOwn names lock) (sym (same lock.session)) (have.there lock has);
      here = λ lock has. have.here lock (subst (λ (names : List HeldName). HasOwn names lock) (same lock.session) has);
    }

-- one session more
pub names_joined : (fresh : ℕ) (is_tool : Bool) (sessions : List Session) (table : List grants.HeldName) → HaveNames sessions table → HaveNames (sessions ++ new_session fresh is_tool ∷ []) table
names_joined fresh is_tool sessions table have = by_same sessions (sessions ++ new_session fresh is_tool ∷ []) table (λ number. joined_names number fresh is_tool sessions) have

names_each : (number : ℕ) (change : Session → Session) (sessions : List Session) → ((s : Session) → (change s).number ≡ s.number) → (other : ℕ) (b : Bool) → (other == number) ≡ b → names_of (session_of number (with_session number change sessions)) ≡ names_of (session_of number sessions)
    → names_of (session_of other (with_session number change sessions)) ≡ names_of (session_of other sessions)
names_each number change sessions numbers other true is own = subst (λ (n : ℕ). names_of (session_of n (with_session number change sessions)) ≡ names_of (session_of n sessions)) (sym (are_one other number is)) own
names_each number change sessions numbers other false is own = ap names_of (other_of number other change sessions numbers is)

-- a change that leaves a session's number and its names
pub names_same : (number : ℕ) (change : Session → Session) (sessions : List Session) (table : List grants.HeldName) → ((s : Session) → (change s).number ≡ s.number) → ((s : Session) → (change s).names ≡ s.names) → HaveNames sessions table → HaveNames (with_session number change sessions) table
names_same number change sessions table numbers names have = by_same sessions (with_session number change sessions) table each have where
  kept : (one : Option Session) → names_of (option_map change one) ≡ names_of one
  kept None = refl
  kept (Some s) = names s

  each : (other : ℕ) → names_of (session_of other (with_session number change sessions)) ≡ names_of (session_of other sessions)
  each other = names_each number change sessions numbers other (other == number) refl (ap names_of (changed_of number change sessions numbers) ∙ kept (session_of number sessions))

-- the names of the changed session are these
own_names : (number : ℕ) (change : Session → Session) (sessions : List Session) (lock : grants.HeldName) → ((s : Session) → (change s).number ≡ s.number) → (lock.session == number) ≡ true → names_of (session_of lock.session (with_session number change sessions)) ≡ names_of (option_map change (session_of number sessions))
own_names number change sessions lock numbers is = ap (λ (n : ℕ). names_of (session_of n (with_session number change sessions))) (are_one lock.session number is) ∙ ap names_of (changed_of number change sessions numbers)

grown_live : (change : Session → Session) (more : List HeldName) → ((s : Session) → (change s).names ≡ s.names ++ more) → (one : Option Session) → is_some one ≡ true → names_of (option_map change one) ≡ names_of one ++ more
grown_live change more names None is = absurd (true≢false (sym is))
grown_live change more names (Some s) is = names s

-- a live session is granted these names, exclusively or shared
pub names_granted : (number : ℕ) (exclusive : Bool) (more : List (List ℕ)) (change : Session → Session) (sessions : List Session) (table : List grants.HeldName) → ((s : Session) → (change s).number ≡ s.number) → ((s : Session) → (change s).names ≡ s.names ++ map (held_name exclusive) more)
    → is_some (session_of number sessions) ≡ true → HaveNames sessions table → HaveNames (with_session number change sessions) (table ++ taken table number exclusive more)
names_granted number exclusive more change sessions table numbers names live have =
    record {
      there = λ lock has. there lock (lock.session == number) refl (either_name table (taken table number exclusive more) lock has);
      here = λ lock has. here lock (lock.session == number) refl has;
    }
  where
    grown : (lock : grants.HeldName) → (lock.session == number) ≡ true → names_of (session_of lock.session (with_session number change sessions)) ≡ names_of (session_of lock.session sessions) ++ map (held_name exclusive) more
    grown lock is = own_names number change sessions lock numbers is ∙ grown_live change (map (held_name exclusive) more) names (session_of number sessions) live ∙ ap (λ (n : ℕ). names_of (session_of n sessions) ++ map (held_name exclusive) more) (sym (are_one lock.session number is))

    there : (lock : grants.HeldName) (b : Bool) → (lock.session == number) ≡ b → HasName table lock ⊎ HasName (taken table number exclusive more) lock → HasOwn (names_of (session_of lock.session (with_session number change sessions))) lock
    there lock true is (inl old) = subst (λ (n : List HeldName). HasOwn n lock) (sym (grown lock is)) (first_own (names_of (session_of lock.session sessions)) (map (held_name exclusive) more) lock (have.there lock old))
    there lock true is (inr new) = subst (λ (n : List HeldName). HasOwn n lock) (sym (grown lock is)) (second_own (names_of (session_of lock.session sessions)) (map (held_name exclusive) more) lock (taken_there table number exclusive more lock new).1)
    there lock false is (inl old) = subst (λ (o : Option Session). HasOwn (names_of o) lock) (sym (other_of number lock.session change sessions numbers is)) (have.there lock old)
    there lock false is (inr new) = absurd (true≢false (sym (same_number number) ∙ ap (λ (n : ℕ). n == number) (sym (taken_there table number exclusive more lock new).0) ∙ is))

    own_here_by : (lock : grants.HeldName) → lock.session ≡ number → HasOwn (names_of (session_of lock.session sessions)) lock ⊎ HasOwn (map (held_name exclusive) more) lock → HasName (table ++ taken table number exclusive more) lock
    own_here_by lock own (inl old) = first_name table (taken table number exclusive more) lock (have.here lock old)
    own_here_by lock own (inr new) = granted_here table number exclusive more lock own new

    here : (lock : grants.HeldName) (b : Bool) → (lock.session == number) ≡ b → HasOwn (names_of (session_of lock.session (with_session number change sessions))) lock → HasName (table ++ taken table number exclusive more) lock
    here lock true is has = own_here_by lock (are_one lock.session number is) (either_own (names_of (session_of lock.session sessions)) (map (held_name exclusive) more) lock (subst (λ (n : List HeldName). HasOwn n lock) (grown lock is) has))
    here lock false is has = first_name table (taken table number exclusive more) lock (have.here lock (subst (λ (o : Option Session). HasOwn (names_of o) lock) (other_of number lock.session change sessions numbers is) has))

-- whether the session's lock is let go, or stays
own_stays : (own exclusive held_so : Bool) → own ≡ true → stays exclusive held_so ≡ true → not (own && cond exclusive held_so (not held_so)) ≡ true
own_stays true true true is stay = absurd (true≢false (sym stay))
own_stays true true false is stay = refl
own_stays true false true is stay = refl
own_stays true false false is stay = absurd (true≢false (sym stay))
own_stays false exclusive held_so is stay = refl

own_stayed : (own exclusive held_so : Bool) → own ≡ true → not (own && cond exclusive held_so (not held_so)) ≡ true → stays exclusive held_so ≡ true
own_stayed true true true is stay = absurd (true≢false (sym stay))
own_stayed true true false is stay = refl
own_stayed true false true is stay = refl
own_stayed true false false is stay = absurd (true≢false (sym stay))
own_stayed false exclusive held_so is stay = absurd (true≢false (sym is))

other_stays : (own way : Bool) → own ≡ false → not (own && way) ≡ true
other_stays true way is = absurd (true≢false is)
other_stays false way is = refl

left_any : (change : Session → Session) (exclusive : Bool) → ((s : Session) → (change s).names ≡ filter (λ (o : HeldName). stays exclusive o.exclusive) s.names) → (one : Option Session) → names_of (option_map change one) ≡ filter (λ (o : HeldName). stays exclusive o.exclusive) (names_of one)
left_any change exclusive names None = refl
left_any change exclusive names (Some s) = names s

-- a session lets go of what it holds exclusively, or shared
pub names_let_go : (number : ℕ) (exclusive : Bool) (change : Session → Session) (sessions : List Session) (table : List grants.HeldName) → ((s : Session) → (change s).number ≡ s.number) → ((s : Session) → (change s).names ≡ filter (λ (one : HeldName). stays exclusive one.exclusive) s.names)
    → HaveNames sessions table → HaveNames (with_session number change sessions) (filter (λ (lock : grants.HeldName). not (is_own number exclusive lock)) table)
names_let_go number exclusive change sessions table numbers names have =
    record {
      there = λ lock has. there lock (lock.session == number) refl (left_there (λ (l : grants.HeldName). not (is_own number exclusive l)) table lock has);
      here = λ lock has. here lock (lock.session == number) refl has;
    }
  where
    own : (lock : grants.HeldName) → (lock.session == number) ≡ true → names_of (session_of lock.session (with_session number change sessions)) ≡ filter (λ (one : HeldName). stays exclusive one.exclusive) (names_of (session_of lock.session sessions))
    own lock is = own_names number change sessions lock numbers is ∙ left_any change exclusive names (session_of number sessions) ∙ ap (λ (n : ℕ). filter (λ (one : HeldName). stays exclusive one.exclusive) (names_of (session_of n sessions))) (sym (are_one lock.session number is))

    there : (lock : grants.HeldName) (b : Bool) → (lock.session == number) ≡ b → HasName table lock × (not (is_own number exclusive lock) ≡ true) → HasOwn (names_of (session_of lock.session (with_session number change sessions))) lock
    there lock true is one = subst (λ (n : List HeldName). HasOwn n lock) (sym (own lock is)) (own_left_here exclusive (names_of (session_of lock.session sessions)) lock (have.there lock one.0) (own_stayed (lock.session == number) exclusive lock.exclusive is one.1))
    there lock false is one = subst (λ (o : Option Session). HasOwn (names_of o) lock) (sym (other_of number lock.session change sessions numbers is)) (have.there lock one.0)

    left : (lock : grants.HeldName) → HasName table lock → not (is_own number exclusive lock) ≡ true → HasName (filter (λ (l : grants.HeldName). not (is_own number exclusive l)) table) lock
    left lock has stay = left_here (λ (l : grants.HeldName). not (is_own number exclusive l)) table lock has stay

    here : (lock : grants.HeldName) (b : Bool) → (lock.session == number) ≡ b → HasOwn (names_of (session_of lock.session (with_session number change sessions))) lock → HasName (filter (λ (l : grants.HeldName). not (is_own number exclusive l)) table) lock
    here lock true is has =
        let one = own_left_there exclusive (names_of (session_of lock.session sessions)) lock (subst (λ (n : List HeldName). HasOwn n lock) (own lock is) has) in
        left lock (have.here lock one.0) (own_stays (lock.session == number) exclusive lock.exclusive is one.1)
    here lock false is has =
        left lock (have.here lock (subst (λ (o : Option Session). HasOwn (names_of o) lock) (other_of number lock.session change sessions numbers is) has)) (other_stays (lock.session == number) (cond exclusive lock.exclusive (not lock.exclusive)) is)

-- a lock that is neither way the session's is another's
no_own : (own held_so : Bool) → not (own && held_so) ≡ true → not (own && not held_so) ≡ true → own ≡ false
no_own true true one two = absurd (true≢false (sym one))
no_own true false one two = absurd (true≢false (sym two))
no_own false held_so one two = refl

-- a session is gone
pub names_less : (number : ℕ) (sessions : List Session) (table : List grants.HeldName) → HaveNames sessions table
    → HaveNames (without number sessions) (filter (λ (lock : grants.HeldName). not (is_own number false lock)) (filter (λ (lock : grants.HeldName). not (is_own number true lock)) table))
names_less number sessions table have =
    record {
      there = λ lock has. there lock (left_there (λ (l : grants.HeldName). not (is_own number false l)) exclusively lock has);
      here = λ lock has. here lock (lock.session == number) refl has;
    }
  where
    exclusively : List grants.HeldName
    exclusively = filter (λ (l : grants.HeldName). not (is_own number true l)) table

    there_by : (lock : grants.HeldName) → HasName table lock × (not (is_own number true lock) ≡ true) → not (is_own number false lock) ≡ true → HasOwn (names_of (session_of lock.session (without number sessions))) lock
    there_by lock one stay =
        subst (λ (o : Option Session). HasOwn (names_of o) lock) (sym (left_of number lock.session sessions (no_own (lock.session == number) lock.exclusive one.1 stay))) (have.there lock one.0)

    there : (lock : grants.HeldName) → HasName exclusively lock × (not (is_own number false lock) ≡ true) → HasOwn (names_of (session_of lock.session (without number sessions))) lock
    there lock one = there_by lock (left_there (λ (l : grants.HeldName). not (is_own number true l)) table lock one.0) one.1

    here : (lock : grants.HeldName) (b : Bool) → (lock.session == number) ≡ b → HasOwn (names_of (session_of lock.session (without number sessions))) lock → HasName (filter (λ (l : grants.HeldName). not (is_own number false l)) exclusively) lock
    here lock true is has = absurd (subst (λ (o : Option Session). HasOwn (names_of o) lock) (ap (λ (n : ℕ). session_of n (without number sessions)) (are_one lock.session number is) ∙ gone_of number sessions) has)
    here lock false is has =
        let old = have.here lock (subst (λ (o : Option Session). HasOwn (names_of o) lock) (left_of number lock.session sessions is) has) in
        left_here (λ (l : grants.HeldName). not (is_own number false l)) exclusively lock
        (left_here (λ (l : grants.HeldName). not (is_own number true l)) table lock old (other_stays (lock.session == number) lock.exclusive is))
        (other_stays (lock.session == number) (not lock.exclusive) is)

-- THE REQUESTS THAT WAIT

left_by : (number : ℕ) (first : Waiter) (others : List Waiter) (exclusive own : Bool) → (first.session == number) ≡ own → cond (not own) (cond exclusive (first ∷ []) [] ++ filter (λ (w : Waiter). not (w.session == number)) others) (filter (λ (w : Waiter). not (w.session == number)) others)
    ≡ filter (λ (w : Waiter). not (w.session == number)) (cond exclusive (first ∷ []) [] ++ others)
left_by number first others true true is = sym (ap (λ (b : Bool). cond (not b) (first ∷ filter (λ (w : Waiter). not (w.session == number)) others) (filter (λ (w : Waiter). not (w.session == number)) others)) is)
left_by number first others true false is = sym (ap (λ (b : Bool). cond (not b) (first ∷ filter (λ (w : Waiter). not (w.session == number)) others) (filter (λ (w : Waiter). not (w.session == number)) others)) is)
left_by number first others false true is = refl
left_by number first others false false is = refl

waiters_if : (number : ℕ) (one : Waiting) (others : List Waiting) (b : Bool) → waiters (cond b (one ∷ others) others) ≡ cond b (waits_for one ++ waiters others) (waiters others)
waiters_if number one others true = refl
waiters_if number one others false = refl

-- those of a session are taken away
pub waits_left : (number : ℕ) (waiting : List Waiting) → waiters (filter (λ (one : Waiting). not (one.session == number)) waiting) ≡ filter (λ (waiter : Waiter). not (waiter.session == number)) (waiters waiting)
waits_left number [] = refl
waits_left number (one ∷ waiting) =
    let rest : List Waiting = filter (λ (other : Waiting). not (other.session == number)) waiting in
    waiters_if number one rest (not (one.session == number))
    ∙ ap (λ (w : List Waiter). cond (not (one.session == number)) (waits_for one ++ w) w) (waits_left number waiting)
    ∙ left_by number (record { session = one.session; names = names_in one.request }) (waiters waiting) (is_exclusive one.request) (one.session == number) refl

-- one more
pub waits_more : (waiting : List Waiting) (one : Waiting) → waiters (waiting ++ one ∷ []) ≡ waiters waiting ++ waits_for one
waits_more waiting one = flat_map-append waits_for waiting (one ∷ []) ∙ ap (λ (w : List Waiter). waiters waiting ++ w) (append-nil (waits_for one))

queued_if : (exclusive : Bool) (first : Waiter) (queue : List Waiter) → exclusive ≡ true → queue ++ cond exclusive (first ∷ []) [] ≡ queue ++ first ∷ []
queued_if true first queue is = refl
queued_if false first queue is = absurd (true≢false (sym is))

-- one more that is for exclusive names
pub waits_queued : (number : ℕ) (request : Request) (queue : List Waiter) (waiting : List Waiting) → is_exclusive request ≡ true → queue ≡ waiters waiting → queue ++ record { session = number; names = names_in request } ∷ [] ≡ waiters (waiting ++ record { session = number; request = request } ∷ [])
waits_queued number request queue waiting is so =
    let one : Waiting = record { session = number; request = request } in
    let first : Waiter = record { session = number; names = names_in request } in
    ap (λ (w : List Waiter). w ++ first ∷ []) so ∙ sym (queued_if (is_exclusive request) first (waiters waiting) is) ∙ sym (waits_more waiting one)
