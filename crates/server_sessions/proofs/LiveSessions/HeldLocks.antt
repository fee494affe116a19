-- The row locks that the table has of each session, while locks come and go.
use Rattle.std.proofs.Common.{◌≡◌, ◌⊎◌, inl, inr, ◌∙◌, ℕ, Bool, true, false, not, ◌||◌, cond, List, [], ◌∷◌, ◌++◌, map, filter, refl, sym, ap}
use Rattle.std.specs.Prelude.{◌==◌}
use Rattle.std.specs.List.{list_any}
use Rattle.std.proofs.lemmas.Bool.{true≢false}
use Rattle.std.proofs.lemmas.List.{append-nil, map-append}
use Rattle.std.proofs.lemmas.List.Elements.{filter-append}
use Rattle.server_locks.specs.declared.row_locks.lock.Lock.{Lock}
use Rattle.server_locks.specs.declared.row_locks.lock.HeldLock.{HeldLock}
use Rattle.server_locks.specs.RowLocks.LockTable.{LockTable, held_by, freed, freed_if}
use Rattle.server_locks.specs.RowLocks.SameLocks.{HasLock}
use Rattle.server_model.specs.declared.session.Session.{Session}
use Rattle.server_model.proofs.LockedRows.Tests.{are_one, same_number}
use Rattle.server_sessions.specs.LiveSessions.KeptSessions.{rows_of}

-- the sessions without the one of this number
abbrev pub without : ℕ → List Session → List Session
without number sessions = filter (λ (session : Session). not (session.number == number)) sessions

-- the locks without those of a session
abbrev left : ℕ → List HeldLock → List HeldLock
left number held = filter (λ (one : HeldLock). not (one.session == number)) held

-- a session of one number isn't of another
pub apart_from : (session number other : ℕ) → (session == number) ≡ true → (other == number) ≡ false → (session == other) ≡ false
apart_from session number other is apart = at (session == other) refl where
  at : (b : Bool) → (session == other) ≡ b → b ≡ false
  at true same = absurd (true≢false (sym is ∙ ap (λ (n : ℕ). n == number) (are_one session other same) ∙ apart))
  at false same = refl

-- LISTS OF LOCKS

pub has_first : (xs ys : List HeldLock) (held : HeldLock) → HasLock xs held → HasLock (xs ++ ys) held
has_first [] ys held has = absurd has
has_first (x ∷ xs) ys held (inl is) = inl is
has_first (x ∷ xs) ys held (inr has) = inr (has_first xs ys held has)

pub has_second : (xs ys : List HeldLock) (held : HeldLock) → HasLock ys held → HasLock (xs ++ ys) held
has_second [] ys held has = has
has_second (x ∷ xs) ys held has = inr (has_second xs ys held has)

later : {A B C : Type 0} → A ⊎ B → (C ⊎ A) ⊎ B
later (inl a) = inl (inr a)
later (inr b) = inr b

pub has_either : (xs ys : List HeldLock) (held : HeldLock) → HasLock (xs ++ ys) held → HasLock xs held ⊎ HasLock ys held
has_either [] ys held has = inr has
has_either (x ∷ xs) ys held (inl is) = inl (inl is)
has_either (x ∷ xs) ys held (inr has) = later (has_either xs ys held has)

pub own_number : (number : ℕ) (locks : List Lock) (held : HeldLock) → HasLock (map (held_by number) locks) held → held.session ≡ number
own_number number [] held has = absurd has
own_number number (lock ∷ locks) held (inl is) = ap (λ (one : HeldLock). one.session) (sym is)
own_number number (lock ∷ locks) held (inr has) = own_number number locks held has

-- the lock is one of these, and another session's
pub record IsOther (number : ℕ) (locks : List HeldLock) (held : HeldLock) : Type 0 where
  pub has : HasLock locks held
  pub other : (held.session == number) ≡ false

left_by : (number : ℕ) (x : HeldLock) (xs : List HeldLock) (held : HeldLock) (b : Bool) → (x.session == number) ≡ b → (HasLock (left number xs) held → IsOther number xs held) → HasLock (cond (not b) (x ∷ left number xs) (left number xs)) held → IsOther number (x ∷ xs) held
left_by number x xs held true is rest has = let there = rest has in record { has = inr there.has; other = there.other }
left_by number x xs held false is rest (inl same) = record { has = inl same; other = ap (λ (one : HeldLock). one.session == number) (sym same) ∙ is }
left_by number x xs held false is rest (inr has) = let there = rest has in record { has = inr there.has; other = there.other }

left_here : (number : ℕ) (xs : List HeldLock) (held : HeldLock) → HasLock (left number xs) held → IsOther number xs held
left_here number [] held has = absurd has
left_here number (x ∷ xs) held has = left_by number x xs held (x.session == number) refl (left_here number xs held) has

not_first : (a b : Bool) → (a || b) ≡ false → a ≡ false
not_first true b none = none
not_first false b none = refl

not_rest : (a b : Bool) → (a || b) ≡ false → b ≡ false
not_rest true b none = absurd (true≢false none)
not_rest false b none = none

none_of_session : (number : ℕ) (xs : List HeldLock) (held : HeldLock) → list_any (λ (one : HeldLock). one.session == number) xs ≡ false → HasLock xs held → (held.session == number) ≡ false
none_of_session number [] held none has = absurd has
none_of_session number (x ∷ xs) held none (inl is) = ap (λ (one : HeldLock). one.session == number) (sym is) ∙ not_first (x.session == number) (list_any (λ (one : HeldLock). one.session == number) xs) none
none_of_session number (x ∷ xs) held none (inr has) = none_of_session number xs held (not_rest (x.session == number) (list_any (λ (one : HeldLock). one.session == number) xs) none) has

-- what is left once a session's locks were taken away
pub freed_here : (number : ℕ) (t : LockTable) (held : HeldLock) → HasLock (freed t number).held held → IsOther number t.held held
freed_here number t held has = at (list_any (λ (one : HeldLock). one.session == number) t.held) refl has where
  at : (b : Bool) → list_any (λ (one : HeldLock). one.session == number) t.held ≡ b → HasLock (freed_if b t number).held held → IsOther number t.held held
  at true is has = left_here number t.held held has
  at false is has = record { has = has; other = none_of_session number t.held held is has }

-- THE LOCKS OF ONE SESSION

-- its own among the locks
abbrev own : ℕ → List HeldLock → List HeldLock
own number held = filter (λ (one : HeldLock). one.session == number) held

abbrev bare_locks : List HeldLock → List Lock
bare_locks held = map (λ (one : HeldLock). one.lock) held

row_if : (b : Bool) (x : HeldLock) (xs : List HeldLock) → bare_locks (cond b (x ∷ xs) xs) ≡ cond b (x.lock ∷ bare_locks xs) (bare_locks xs)
row_if true x xs = refl
row_if false x xs = refl

own_row : (number : ℕ) (x : HeldLock) (xs : List HeldLock) → (x.session == number) ≡ true → rows_of number (x ∷ xs) ≡ x.lock ∷ rows_of number xs
own_row number x xs is = ap (λ (b : Bool). bare_locks (cond b (x ∷ own number xs) (own number xs))) is

other_row : (number : ℕ) (x : HeldLock) (xs : List HeldLock) → (x.session == number) ≡ false → rows_of number (x ∷ xs) ≡ rows_of number xs
other_row number x xs is = ap (λ (b : Bool). bare_locks (cond b (x ∷ own number xs) (own number xs))) is

pub no_rows : (number : ℕ) (held : List HeldLock) → ((one : HeldLock) → HasLock held one → (one.session == number) ≡ false) → rows_of number held ≡ []
no_rows number [] apart = refl
no_rows number (x ∷ xs) apart = other_row number x xs (apart x (inl refl)) ∙ no_rows number xs (λ one has. apart one (inr has))

rows_append : (number : ℕ) (xs ys : List HeldLock) → rows_of number (xs ++ ys) ≡ rows_of number xs ++ rows_of number ys
rows_append number xs ys = ap bare_locks (filter-append (λ (one : HeldLock). one.session == number) xs ys) ∙ map-append (λ (one : HeldLock). one.lock) (own number xs) (own number ys)

own_rows : (number : ℕ) (locks : List Lock) → rows_of number (map (held_by number) locks) ≡ locks
own_rows number [] = refl
own_rows number (lock ∷ locks) = own_row number (held_by number lock) (map (held_by number) locks) (same_number number) ∙ ap (λ (rest : List Lock). lock ∷ rest) (own_rows number locks)

-- where a session is granted more, it has these too
pub rows_granted : (number : ℕ) (locks : List Lock) (held : List HeldLock) → rows_of number (held ++ map (held_by number) locks) ≡ rows_of number held ++ locks
rows_granted number locks held = rows_append number held (map (held_by number) locks) ∙ ap (λ (more : List Lock). rows_of number held ++ more) (own_rows number locks)

-- ... and any other has what it had
pub others_granted : (number other : ℕ) (locks : List Lock) (held : List HeldLock) → (other == number) ≡ false → rows_of other (held ++ map (held_by number) locks) ≡ rows_of other held
others_granted number other locks held apart =
    rows_append other held (map (held_by number) locks) ∙ ap (λ (more : List Lock). rows_of other held ++ more) (no_rows other (map (held_by number) locks) not_own) ∙ append-nil (rows_of other held)
  where
    not_own : (one : HeldLock) → HasLock (map (held_by number) locks) one → (one.session == other) ≡ false
    not_own one has = apart_from one.session number other (ap (λ (n : ℕ). n == number) (own_number number locks one has) ∙ same_number number) apart

-- where the locks of a session are taken away, it has none
pub rows_freed : (number : ℕ) (t : LockTable) → rows_of number (freed t number).held ≡ []
rows_freed number t = no_rows number (freed t number).held (λ one has. let there = freed_here number t one has in there.other)

other_left : (number other : ℕ) (held : List HeldLock) → (other == number) ≡ false → rows_of other (left number held) ≡ rows_of other held
other_left number other [] apart = refl
other_left number other (x ∷ xs) apart = at (x.session == number) refl (other_left number other xs apart) where
  at : (b : Bool) → (x.session == number) ≡ b → rows_of other (left number xs) ≡ rows_of other xs → rows_of other (cond (not b) (x ∷ left number xs) (left number xs)) ≡ rows_of other (x ∷ xs)
  at true is rest = rest ∙ sym (other_row other x xs (apart_from x.session number other is apart))
  at false is rest =
      row_if (x.session == other) x (own other (left number xs)) ∙ ap (λ (rows : List Lock). cond (x.session == other) (x.lock ∷ rows) rows) rest ∙ sym (row_if (x.session == other) x (own other xs))

-- ... and any other has what it had
pub others_freed : (number other : ℕ) (t : LockTable) → (other == number) ≡ false → rows_of other (freed t number).held ≡ rows_of other t.held
others_freed number other t apart = at (list_any (λ (one : HeldLock). one.session == number) t.held) where
  at : (b : Bool) → rows_of other (freed_if b t number).held ≡ rows_of other t.held
  at true = other_left number other t.held apart
  at false = refl

-- A lock of the table is among its session's, and the other way round.
pub row_there : (number : ℕ) (held : List HeldLock) (one : HeldLock) → HasLock held one → one.session ≡ number → HasLock (map (held_by number) (rows_of number held)) one
row_there number [] one has is = absurd has
row_there number (x ∷ xs) one has is = at (x.session == number) refl has (λ there. row_there number xs one there is) where
  at : (b : Bool) → (x.session == number) ≡ b → HasLock (x ∷ xs) one → (HasLock xs one → HasLock (map (held_by number) (rows_of number xs)) one) → HasLock (map (held_by number) (bare_locks (cond b (x ∷ own number xs) (own number xs)))) one
  at true own (inl same) rest = inl (ap (λ (n : ℕ). held_by n x.lock) (sym (are_one x.session number own)) ∙ same)
  at true own (inr has) rest = inr (rest has)
  at false own (inl same) rest = absurd (true≢false (sym (same_number number) ∙ ap (λ (n : ℕ). n == number) (sym is) ∙ ap (λ (l : HeldLock). l.session == number) (sym same) ∙ own))
  at false own (inr has) rest = rest has

pub row_here : (number : ℕ) (held : List HeldLock) (one : HeldLock) → HasLock (map (held_by number) (rows_of number held)) one → HasLock held one
row_here number [] one has = absurd has
row_here number (x ∷ xs) one has = at (x.session == number) refl has (row_here number xs one) where
  at : (b : Bool) → (x.session == number) ≡ b → HasLock (map (held_by number) (bare_locks (cond b (x ∷ own number xs) (own number xs)))) one → (HasLock (map (held_by number) (rows_of number xs)) one → HasLock xs one) → HasLock (x ∷ xs) one
  at true own (inl same) rest = inl (ap (λ (n : ℕ). held_by n x.lock) (are_one x.session number own) ∙ same)
  at true own (inr has) rest = inr (rest has)
  at false own has rest = inr (rest has)
