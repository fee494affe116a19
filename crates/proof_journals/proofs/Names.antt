-- Names that are held: one that a session holds exclusively is no name of another, after each change of a session; and
-- what a grant tells.
use Rattle.std.proofs.Common.{◌≡◌, ◌⊎◌, ℕ, Bool, true, false, not, ◌&&◌, ◌||◌, List, [], ◌∷◌, ◌++◌, map, filter, cond, Some, None, refl, sym, ap, ◌∙◌, subst, inl, inr, arith}
use Rattle.std.specs.Prelude.{◌==◌}
use Rattle.std.proofs.lemmas.Bool.{false≢true, true≢false, or_right}
use Rattle.std.proofs.lemmas.Bool.Decides.{nat_tests}
use Rattle.std.proofs.Math.Bool.{or-true}
use Rattle.std.specs.List.{list_any}
use Rattle.std.specs.Str.{bytes_eq}
use Rattle.server_locks.specs.declared.metadata_locks.request.Waiter.{Waiter}
use Rattle.server_locks.specs.MetadataLocks.Grants as grants
use Rattle.server_locks.specs.MetadataLocks.Grants.{holds, holding_session, least_holder, blocker_of_name, blocker_of_names, ahead_of, least_waiter}
use Rattle.server_model.specs.declared.session.Session.{Session}
use Rattle.server_model.specs.declared.session.HeldName.{HeldName}
use Rattle.server_locks.specs.LeastSession.Least.{least}
use Rattle.server_locks.proofs.LeastSession.Sessions.{none_of}
use Rattle.proof_journals.specs.Holdings.{face_of, face_in, names_of, IsHeld, OneHolder}
use Rattle.std.specs.Prelude.{is_some}
use Rattle.server_model.specs.States.{connected, State, name_held, names_held, new_session, session_of, shared_names, with_session}
use Rattle.server_model.specs.declared.need.Need.{Need}
use Rattle.server_model.specs.PlainServer.{at_rest, counting, exclusive, holding, locking, shared, unlocking}
use Rattle.tool_program.specs.JournalWords.Journals.{opens_if}
use Rattle.server_model.proofs.LockedRows.Tests.{same_number, are_one, are_same, turned_bytes}

-- a held name among two lists
pub held_parts : (one : grants.HeldName) (a b : List grants.HeldName) → IsHeld one (a ++ b) → IsHeld one a ⊎ IsHeld one b
held_parts one [] b is = inr is
held_parts one (x ∷ a) b (inl same) = inl (inl same)
held_parts one (x ∷ a) b (inr more) = at (held_parts one a b more) where
  at : IsHeld one a ⊎ IsHeld one b → IsHeld one (x ∷ a) ⊎ IsHeld one b
  at (inl here) = inl (inr here)
  at (inr there) = inr there

pub held_left : (one : grants.HeldName) (a b : List grants.HeldName) → IsHeld one a → IsHeld one (a ++ b)
held_left one [] b is = absurd is
held_left one (x ∷ a) b (inl same) = inl same
held_left one (x ∷ a) b (inr more) = inr (held_left one a b more)

pub held_right : (one : grants.HeldName) (a b : List grants.HeldName) → IsHeld one b → IsHeld one (a ++ b)
held_right one [] b is = is
held_right one (x ∷ a) b is = inr (held_right one a b is)

-- each of the new ones is an old one, or one of these
abbrev pub Among2 : List grants.HeldName → List grants.HeldName → List grants.HeldName → Type 0
Among2 new old more = (one : grants.HeldName) → IsHeld one new → IsHeld one old ⊎ IsHeld one more

abbrev pub as_held : ℕ → List HeldName → List grants.HeldName
as_held number held = map (name_held number) held

pub some_among : (number : ℕ) (test : HeldName → Bool) (held : List HeldName) (one : grants.HeldName) → IsHeld one (as_held number (filter test held)) → IsHeld one (as_held number held)
some_among number test [] one is = is
some_among number test (h ∷ held) one is = at (test h) is (some_among number test held one) where
  at : (b : Bool) → IsHeld one (as_held number (cond b (h ∷ filter test held) (filter test held))) → (IsHeld one (as_held number (filter test held)) → IsHeld one (as_held number held)) → IsHeld one (as_held number (h ∷ held))
  at true (inl same) rest = inl same
  at true (inr more) rest = inr (rest more)
  at false more rest = inr (rest more)

pub both_among : (number : ℕ) (a b : List HeldName) (one : grants.HeldName) → IsHeld one (as_held number (a ++ b)) → IsHeld one (as_held number a) ⊎ IsHeld one (as_held number b)
both_among number [] b one is = inr is
both_among number (x ∷ a) b one (inl same) = inl (inl same)
both_among number (x ∷ a) b one (inr more) = at (both_among number a b one more) where
  at : IsHeld one (as_held number a) ⊎ IsHeld one (as_held number b) → IsHeld one (as_held number (x ∷ a)) ⊎ IsHeld one (as_held number b)
  at (inl here) = inl (inr here)
  at (inr there) = inr there

-- of one session
abbrev pub Grows : (Session → Session) → ℕ → List HeldName → Type 0
Grows change number added = (s : Session) → (s.number == number) ≡ true → (one : grants.HeldName) → IsHeld one (as_held (change s).number (change s).names) → IsHeld one (as_held s.number s.names) ⊎ IsHeld one (as_held number added)

pub held_with : (number : ℕ) (change : Session → Session) (sessions : List Session) (added : List HeldName) → Grows change number added → Among2 (names_held (with_session number change sessions)) (names_held sessions) (as_held number added)
unfolding with_session
held_with number change [] added grows one is = inl is
held_with number change (first ∷ sessions) added grows one is = at (first.number == number) refl is (held_with number change sessions added grows one) where
  front : (more : List grants.HeldName) → IsHeld one (as_held first.number first.names) ⊎ IsHeld one (as_held number added) → IsHeld one (as_held first.number first.names ++ more) ⊎ IsHeld one (as_held number added)
  front more (inl here) = inl (held_left one (as_held first.number first.names) more here)
  front more (inr new) = inr new

  following : IsHeld one (names_held sessions) ⊎ IsHeld one (as_held number added) → IsHeld one (names_held (first ∷ sessions)) ⊎ IsHeld one (as_held number added)
  following (inl there) = inl (held_right one (as_held first.number first.names) (names_held sessions) there)
  following (inr new) = inr new

  changed : (first.number == number) ≡ true → IsHeld one (as_held (change first).number (change first).names) ⊎ IsHeld one (names_held sessions) → IsHeld one (names_held (first ∷ sessions)) ⊎ IsHeld one (as_held number added)
  changed here (inl mine) = front (names_held sessions) (grows first here one mine)
  changed here (inr rest) = following (inl rest)

  passed : IsHeld one (as_held first.number first.names) ⊎ IsHeld one (names_held (with_session number change sessions)) → (IsHeld one (names_held (with_session number change sessions)) → IsHeld one (names_held sessions) ⊎ IsHeld one (as_held number added)) → IsHeld one (names_held (first ∷ sessions)) ⊎ IsHeld one (as_held number added)
  passed (inl mine) rest = front (names_held sessions) (inl mine)
  passed (inr more) rest = following (rest more)

  at : (b : Bool) → (first.number == number) ≡ b → IsHeld one (names_held (cond b (change first ∷ sessions) (first ∷ with_session number change sessions))) → (IsHeld one (names_held (with_session number change sessions)) → IsHeld one (names_held sessions) ⊎ IsHeld one (as_held number added)) → IsHeld one (names_held (first ∷ sessions)) ⊎ IsHeld one (as_held number added)
  at true here is rest = changed here (held_parts one (as_held (change first).number (change first).names) (names_held sessions) is)
  at false here is rest = passed (held_parts one (as_held first.number first.names) (names_held (with_session number change sessions)) is) rest

-- names that are free for the session
abbrev pub Free : List grants.HeldName → ℕ → List HeldName → Type 0
Free held number added = (new other : grants.HeldName) → IsHeld new (as_held number added) → IsHeld other held → (other.session == number) ≡ false → (new.exclusive || other.exclusive) ≡ true → bytes_eq other.name new.name ≡ false

pub own_number : (number : ℕ) (added : List HeldName) (one : grants.HeldName) → IsHeld one (as_held number added) → one.session ≡ number
own_number number [] one is = absurd is
own_number number (x ∷ added) one (inl same) = ap (λ (h : grants.HeldName). h.session) same
own_number number (x ∷ added) one (inr more) = own_number number added one more

pub one_more : (old new : List grants.HeldName) (number : ℕ) (added : List HeldName) → OneHolder old → Among2 new old (as_held number added) → Free old number added → OneHolder new
one_more old new number added is among free one other p q exclusive differ = at (among one p) (among other q) where
  at : IsHeld one old ⊎ IsHeld one (as_held number added) → IsHeld other old ⊎ IsHeld other (as_held number added) → bytes_eq other.name one.name ≡ false
  at (inl a) (inl b) = is one other a b exclusive differ
  at (inr a) (inl b) = free one other a b (ap (λ (n : ℕ). other.session == n) (sym (own_number number added one a)) ∙ differ) (rw exclusive refl)
  at (inl a) (inr b) =
      let mine : other.session ≡ number = own_number number added other b in
      let back : (one.session == number) ≡ false = (let from : (number == one.session) ≡ false = ap (λ (n : ℕ). n == one.session) (sym mine) ∙ differ in grind (arith, nat_tests)) in
      turned_bytes one.name other.name (free other one b a back (or_right other.exclusive one.exclusive exclusive))
  at (inr a) (inr b) =
      absurd (true≢false (sym (same_number number) ∙ ap (λ (n : ℕ). n == number) (sym (own_number number added other b)) ∙ ap (λ (n : ℕ). other.session == n) (sym (own_number number added one a)) ∙ differ))

-- no name more
pub one_fewer : (old new : List grants.HeldName) → OneHolder old → ((one : grants.HeldName) → IsHeld one new → IsHeld one old) → OneHolder new
one_fewer old new is among one other p q exclusive differ = is one other (among one p) (among other q) exclusive differ

no_more : (new old : List grants.HeldName) → Among2 new old [] → (one : grants.HeldName) → IsHeld one new → IsHeld one old
no_more new old among one is = at (among one is) where
  at : IsHeld one old ⊎ ⊥ → IsHeld one old
  at (inl here) = here
  at (inr none) = absurd none

abbrev pub OneIn : List Session → Type 0
OneIn sessions = OneHolder (names_held sessions)

pub one_rests : (number : ℕ) (sessions : List Session) → OneIn sessions → OneIn (with_session number at_rest sessions)
one_rests number sessions is =
    one_fewer (names_held sessions) (names_held (with_session number at_rest sessions)) is
    (no_more (names_held (with_session number at_rest sessions)) (names_held sessions) (held_with number at_rest sessions [] (λ s here one held. inl (some_among s.number (λ (h : HeldName). h.exclusive) s.names one held))))

pub one_counts : (number count : ℕ) (sessions : List Session) → OneIn sessions → OneIn (with_session number (counting count) sessions)
one_counts number count sessions is =
    one_fewer (names_held sessions) (names_held (with_session number (counting count) sessions)) is
    (no_more (names_held (with_session number (counting count) sessions)) (names_held sessions) (held_with number (counting count) sessions [] (λ s here one held. inl held)))

abbrev pub as_needed : Bool → List (List ℕ) → List HeldName
as_needed true names = map exclusive names
as_needed false names = map shared names

-- of the session itself
pub at_number : (number : ℕ) (s : Session) (added : List HeldName) (one : grants.HeldName) → (s.number == number) ≡ true → IsHeld one (as_held s.number added) → IsHeld one (as_held number added)
at_number number s added one here is = subst (λ (n : ℕ). IsHeld one (as_held n added)) (are_one s.number number here) is

pub one_goes : (number : ℕ) (need : Need) (events : _) (sessions : List Session) → OneIn sessions → Free (names_held sessions) number (map shared need.names) → OneIn (with_session number (holding need events) sessions)
one_goes number need events sessions is free =
    one_more (names_held sessions) (names_held (with_session number (holding need events) sessions)) number (map shared need.names) is
    (held_with number (holding need events) sessions (map shared need.names) (λ s here one held. at s here one (both_among s.number s.names (map shared need.names) one held))) free where
      at : (s : Session) → (s.number == number) ≡ true → (one : grants.HeldName) → IsHeld one (as_held s.number s.names) ⊎ IsHeld one (as_held s.number (map shared need.names)) → IsHeld one (as_held s.number s.names) ⊎ IsHeld one (as_held number (map shared need.names))
      at s here one (inl old) = inl old
      at s here one (inr new) = inr (at_number number s (map shared need.names) one here new)

pub one_locks : (number : ℕ) (names : List (List ℕ)) (sessions : List Session) → OneIn sessions → Free (names_held sessions) number (map exclusive names) → OneIn (with_session number (locking names) sessions)
one_locks number names sessions is free =
    one_more (names_held sessions) (names_held (with_session number (locking names) sessions)) number (map exclusive names) is
    (held_with number (locking names) sessions (map exclusive names) (λ s here one held. at s here one (both_among s.number s.names (map exclusive names) one held))) free where
      at : (s : Session) → (s.number == number) ≡ true → (one : grants.HeldName) → IsHeld one (as_held s.number s.names) ⊎ IsHeld one (as_held s.number (map exclusive names)) → IsHeld one (as_held s.number s.names) ⊎ IsHeld one (as_held number (map exclusive names))
      at s here one (inl old) = inl old
      at s here one (inr new) = inr (at_number number s (map exclusive names) one here new)

pub one_unlocks : (number : ℕ) (sessions : List Session) → OneIn sessions → OneIn (with_session number unlocking sessions)
one_unlocks number sessions is =
    one_fewer (names_held sessions) (names_held (with_session number unlocking sessions)) is
    (no_more (names_held (with_session number unlocking sessions)) (names_held sessions) (held_with number unlocking sessions [] (λ s here one held. inl (some_among s.number (λ (h : HeldName). not h.exclusive) s.names one held))))

pub held_less : (test : Session → Bool) (sessions : List Session) (one : grants.HeldName) → IsHeld one (names_held (filter test sessions)) → IsHeld one (names_held sessions)
held_less test [] one is = is
held_less test (first ∷ sessions) one is = at (test first) is (held_less test sessions one) where
  following : IsHeld one (names_held sessions) → IsHeld one (names_held (first ∷ sessions))
  following there = held_right one (as_held first.number first.names) (names_held sessions) there

  parts : IsHeld one (as_held first.number first.names) ⊎ IsHeld one (names_held (filter test sessions)) → (IsHeld one (names_held (filter test sessions)) → IsHeld one (names_held sessions)) → IsHeld one (names_held (first ∷ sessions))
  parts (inl here) rest = held_left one (as_held first.number first.names) (names_held sessions) here
  parts (inr more) rest = following (rest more)

  at : (b : Bool) → IsHeld one (names_held (cond b (first ∷ filter test sessions) (filter test sessions))) → (IsHeld one (names_held (filter test sessions)) → IsHeld one (names_held sessions)) → IsHeld one (names_held (first ∷ sessions))
  at true is rest = parts (held_parts one (as_held first.number first.names) (names_held (filter test sessions)) is) rest
  at false is rest = following (rest is)

pub one_less : (test : Session → Bool) (sessions : List Session) → OneIn sessions → OneIn (filter test sessions)
one_less test sessions is = one_fewer (names_held sessions) (names_held (filter test sessions)) is (held_less test sessions)

pub held_joined : (sessions : List Session) (number : ℕ) (tool : Bool) → names_held (sessions ++ new_session number tool ∷ []) ≡ names_held sessions
held_joined [] number tool = refl
held_joined (first ∷ sessions) number tool = ap (λ (held : List grants.HeldName). as_held first.number first.names ++ held) (held_joined sessions number tool)

pub opened_one : (nothing tool : Bool) (number : ℕ) (state : State) → OneIn state.sessions → OneIn (opens_if nothing tool number state).sessions
unfolding opens_if
opened_one nothing tool number state is = at (nothing || is_some (session_of number state.sessions)) where
  at : (b : Bool) → OneIn (cond b state (connected number tool state)).sessions
  at true = is
  at false = subst OneHolder (sym (held_joined state.sessions number tool)) is

not_on : (own same exclusive asked : Bool) (session : ℕ) → cond (not own && (same && (exclusive || not asked))) (Some session) None ≡ None → own ≡ false → (exclusive || not asked) ≡ true → same ≡ false
not_on true same exclusive asked session e other may = absurd (true≢false other)
not_on false false exclusive asked session e other may = refl
not_on false true exclusive asked session e other may = absurd (some (exclusive || not asked) e may) where
  some : (b : Bool) → cond (not false && (true && b)) (Some session) None ≡ None → b ≡ true → ⊥
  some true e may = cc
  some false e may = false≢true may

holder_off : (held : List grants.HeldName) (number : ℕ) (name : List ℕ) (asked : Bool) (other : grants.HeldName) → least_holder held number name asked ≡ None → IsHeld other held → (other.session == number) ≡ false → (other.exclusive || not asked) ≡ true → bytes_eq other.name name ≡ false
unfolding least_holder
holder_off [] number name asked other none is differ may = absurd is
holder_off (h ∷ held) number name asked other none is differ may =
    at is (none_of (holding_session number name asked h) (least_holder held number name asked) none) (λ left more. holder_off held number name asked other left more differ may) where
      at : IsHeld other (h ∷ held) → (holding_session number name asked h ≡ None) × (least_holder held number name asked ≡ None) → (least_holder held number name asked ≡ None → IsHeld other held → bytes_eq other.name name ≡ false) → bytes_eq other.name name ≡ false
      at (inl same) both rest = subst (λ (x : grants.HeldName). bytes_eq x.name name ≡ false) (sym same)
          (not_on (h.session == number) (bytes_eq h.name name) h.exclusive asked h.session both.0 (ap (λ (x : grants.HeldName). x.session == number) (sym same) ∙ differ) (ap (λ (x : grants.HeldName). x.exclusive || not asked) (sym same) ∙ may))
      at (inr more) both rest = rest both.1 more

pub record Holder (held : List grants.HeldName) (number : ℕ) (name : List ℕ) : Type 0 where
  pub one : grants.HeldName
  pub is : IsHeld one held
  pub own : (one.session == number) ≡ true
  pub exclusive : one.exclusive ≡ true
  pub same : bytes_eq one.name name ≡ true

holder_from : (held : List grants.HeldName) (number : ℕ) (name : List ℕ) → holds held number name true ≡ true → Holder held number name
unfolding holds
holder_from [] number name is = absurd (false≢true is)
holder_from (h ∷ held) number name is = at (h.session == number) (bytes_eq h.name name) h.exclusive refl refl refl is (holder_from held number name) where
  deeper : Holder held number name → Holder (h ∷ held) number name
  deeper there = record { one = there.one; is = inr there.is; own = there.own; exclusive = there.exclusive; same = there.same }

  at : (a b c : Bool) → (h.session == number) ≡ a → bytes_eq h.name name ≡ b → h.exclusive ≡ c → ((a && (b && (c || false))) || holds held number name true) ≡ true → (holds held number name true ≡ true → Holder held number name) → Holder (h ∷ held) number name
  at true true true one two three is rest = record { one = h; is = inl refl; own = one; exclusive = three; same = two }
  at true true false one two three is rest = deeper (rest is)
  at true false c one two three is rest = deeper (rest is)
  at false b c one two three is rest = deeper (rest is)

-- a name that is granted is free
name_free : (held : List grants.HeldName) (waiting : List Waiter) (number : ℕ) (asked : Bool) (name : List ℕ) (other : grants.HeldName) → OneHolder held → blocker_of_name held waiting number name asked ≡ None → IsHeld other held → (other.session == number) ≡ false → (asked || other.exclusive) ≡ true → bytes_eq other.name name ≡ false
unfolding blocker_of_name
name_free held waiting number false name other is none there differ may =
    holder_off held number name true other (none_of (least_holder held number name true) (cond (holds held number name false) None (least_waiter waiting number name)) none).0 there differ (rw may refl)
name_free held waiting number true name other is none there differ may = at (holds held number name true) refl none where
  at : (b : Bool) → holds held number name true ≡ b → cond b None (least (least_holder held number name false) (least_waiter (ahead_of number waiting) number name)) ≡ None → bytes_eq other.name name ≡ false
  at true own none =
      let mine : Holder held number name = holder_from held number name own in
      let off : bytes_eq other.name mine.one.name ≡ false = is mine.one other mine.is there mine.exclusive (ap (λ (n : ℕ). other.session == n) (are_one mine.one.session number mine.own) ∙ differ) in
      ap (bytes_eq other.name) (sym (are_same mine.one.name name mine.same)) ∙ off
  at false own none = holder_off held number name false other (none_of (least_holder held number name false) (least_waiter (ahead_of number waiting) number name) none).0 there differ (or-true other.exclusive)

pub granted_free : (held : List grants.HeldName) (waiting : List Waiter) (number : ℕ) (asked : Bool) (names : List (List ℕ)) → OneHolder held → blocker_of_names held waiting number asked names ≡ None → Free held number (as_needed asked names)
unfolding blocker_of_names
granted_free held waiting number asked [] is none new other p q differ may = absurd (empty asked p) where
  empty : (b : Bool) → IsHeld new (as_held number (as_needed b [])) → ⊥
  empty true p = p
  empty false p = p
granted_free held waiting number asked (name ∷ names) is none new other p q differ may = by asked p (none_of (blocker_of_name held waiting number name asked) (blocker_of_names held waiting number asked names) none) (granted_free held waiting number asked names is) where
  free : (b : Bool) → blocker_of_name held waiting number name b ≡ None → (b || other.exclusive) ≡ true → bytes_eq other.name name ≡ false
  free b one may = name_free held waiting number b name other is one q differ may

  by : (b : Bool) → IsHeld new (as_held number (as_needed b (name ∷ names))) → (blocker_of_name held waiting number name b ≡ None) × (blocker_of_names held waiting number b names ≡ None) → (blocker_of_names held waiting number b names ≡ None → Free held number (as_needed b names)) → bytes_eq other.name new.name ≡ false
  by true (inl same) both rest = subst (λ (x : grants.HeldName). bytes_eq other.name x.name ≡ false) (sym same) (free true both.0 refl)
  by true (inr more) both rest = rest both.1 new other more q differ may
  by false (inl same) both rest = subst (λ (x : grants.HeldName). bytes_eq other.name x.name ≡ false) (sym same) (free false both.0 (ap (λ (x : grants.HeldName). x.exclusive || other.exclusive) (sym same) ∙ may))
  by false (inr more) both rest = rest both.1 new other more q differ may

-- a name that another session holds is none of those that are granted exclusively
pub record Holding (sessions : List Session) (number : ℕ) (name : List ℕ) : Type 0 where
  pub one : grants.HeldName
  pub is : IsHeld one (names_held sessions)
  pub own : one.session ≡ number
  pub same : bytes_eq name one.name ≡ true

own_holding : (number : ℕ) (held : List HeldName) (name : List ℕ) → list_any (bytes_eq name) (names_of (shared_names held)) ≡ true → (one : grants.HeldName) × IsHeld one (as_held number held) × (one.session ≡ number) × (bytes_eq name one.name ≡ true)
own_holding number [] name is = absurd (false≢true is)
own_holding number (h ∷ held) name is = at (not h.exclusive) is (own_holding number held name) where
  deeper : (one : grants.HeldName) × IsHeld one (as_held number held) × (one.session ≡ number) × (bytes_eq name one.name ≡ true) → (one : grants.HeldName) × IsHeld one (as_held number (h ∷ held)) × (one.session ≡ number) × (bytes_eq name one.name ≡ true)
  deeper there = (there.0, inr there.1, there.2, there.3)

  here : (b : Bool) → bytes_eq name h.name ≡ b → (b || list_any (bytes_eq name) (names_of (shared_names held))) ≡ true → (list_any (bytes_eq name) (names_of (shared_names held)) ≡ true → (one : grants.HeldName) × IsHeld one (as_held number held) × (one.session ≡ number) × (bytes_eq name one.name ≡ true))
      → (one : grants.HeldName) × IsHeld one (as_held number (h ∷ held)) × (one.session ≡ number) × (bytes_eq name one.name ≡ true)
  here true same is rest = (name_held number h, inl refl, refl, same)
  here false same is rest = deeper (rest is)

  at : (b : Bool) → list_any (bytes_eq name) (names_of (cond b (h ∷ shared_names held) (shared_names held))) ≡ true → (list_any (bytes_eq name) (names_of (shared_names held)) ≡ true → (one : grants.HeldName) × IsHeld one (as_held number held) × (one.session ≡ number) × (bytes_eq name one.name ≡ true))
      → (one : grants.HeldName) × IsHeld one (as_held number (h ∷ held)) × (one.session ≡ number) × (bytes_eq name one.name ≡ true)
  at true is rest = here (bytes_eq name h.name) refl is rest
  at false is rest = deeper (rest is)

pub holding_of : (sessions : List Session) (n : ℕ) (name : List ℕ) → list_any (bytes_eq name) (face_of sessions n).hold.names ≡ true → Holding sessions n name
holding_of [] n name is = absurd (false≢true is)
holding_of (first ∷ sessions) n name is = at (first.number == n) refl is (holding_of sessions n name) where
  at : (b : Bool) → (first.number == n) ≡ b → list_any (bytes_eq name) (face_in (cond b (Some first) (session_of n sessions))).hold.names ≡ true → (list_any (bytes_eq name) (face_of sessions n).hold.names ≡ true → Holding sessions n name) → Holding (first ∷ sessions) n name
  at true here is rest =
      let own = own_holding first.number first.names name is in
      record { one = own.0; is = held_left own.0 (as_held first.number first.names) (names_held sessions) own.1; own = own.2 ∙ are_one first.number n here; same = own.3 }
  at false here is rest =
      let there : Holding sessions n name = rest is in
      record { one = there.one; is = held_right there.one (as_held first.number first.names) (names_held sessions) there.is; own = there.own; same = there.same }

pub names_granted : (sessions : List Session) (number n : ℕ) (names : List (List ℕ)) (name : List ℕ) → Free (names_held sessions) number (map exclusive names) → (n == number) ≡ false → list_any (bytes_eq name) (face_of sessions n).hold.names ≡ true → list_any (bytes_eq name) names ≡ false
names_granted sessions number n [] name free differ held = refl
names_granted sessions number n (first ∷ names) name free differ held =
    let has : Holding sessions n name = holding_of sessions n name held in
    let off : bytes_eq has.one.name first ≡ false = free (name_held number (exclusive first)) has.one (inl refl) has.is (ap (λ (m : ℕ). m == number) has.own ∙ differ) refl in
    let here : bytes_eq name first ≡ false = ap (λ (m : List ℕ). bytes_eq m first) (are_same name has.one.name has.same) ∙ off in
    rw here (names_granted sessions number n names name (λ new other p q d e. free new other (inr p) q d e) differ held)
