-- Requests that wait, while sessions change.
use Rattle.std.proofs.Common.{◌≡◌, ℕ, Bool, true, false, not, List, [], ◌∷◌, ◌++◌, filter, cond, Option, Some, None, refl, sym, ◌∙◌, subst}
use Rattle.std.specs.Prelude.{◌==◌, ◌≢◌}
use Rattle.std.specs.List.{AllByRecursion, list_any}
use Rattle.server_locks.specs.MetadataLocks.Grants.{blocker_of_names}
use Rattle.server_locks.specs.RowLocks.Grants.{blocker_of_set}
use Rattle.server_model.specs.declared.request.Request.{Request}
use Rattle.server_model.specs.declared.request.Request.TheVariants as requests
use Rattle.server_model.specs.declared.session.Session.{Session}
use Rattle.server_model.specs.declared.session.Waiting.{Waiting}
use Rattle.server_model.specs.Conditions.{ComesWell}
use Rattle.server_model.specs.Effects.{Effect, Rests, Grows, Writes, Forgets, Moves, Locks, Unlocks}
use Rattle.server_model.specs.Blockers.{need, blocker}
use Rattle.server_model.specs.PlainServer.{at_rest, counting, does, holding, locking, unlocking}
use Rattle.server_model.specs.States.{State, holds_tables, is_in_transaction, names_in, new_session, session_of, with_session}
use Rattle.server_model.proofs.LockedRows.Tests.{nor_left, nor_right}
use Rattle.proof_journals.proofs.Faces.{changed_there, gone_there}
use Rattle.proof_journals.specs.ServerFacts.Invariants.{WaitsWell}

abbrev pub WaitWell : List Session → List Waiting → Type 0
WaitWell sessions waiting = AllByRecursion (WaitsWell sessions) waiting

-- the request that waits is this session's
abbrev pub waits_at : ℕ → Waiting → Bool
waits_at number one = one.session == number

-- sessions of which a waiting request's is the same
one_same : (sessions others : List Session) (one : Waiting) → session_of one.session others ≡ session_of one.session sessions → WaitsWell sessions one → WaitsWell others one
one_same sessions others one same well =
    record { comes = subst (λ (s : Option Session). ComesWell (is_in_transaction s) (holds_tables s) one.request) (sym same) well.comes; names = well.names }

-- another session changes
pub waits_there : (number : ℕ) (change : Session → Session) (sessions : List Session) (waiting : List Waiting) → ((s : Session) → (change s).number ≡ s.number) → list_any (waits_at number) waiting ≡ false → WaitWell sessions waiting → WaitWell (with_session number change sessions) waiting
waits_there number change sessions [] keeps off well = tt
waits_there number change sessions (one ∷ waiting) keeps off well = (
  one_same sessions (with_session number change sessions) one (changed_there number one.session change sessions keeps (nor_left (waits_at number one) (list_any (waits_at number) waiting) off)) well.0,
  waits_there number change sessions waiting keeps (nor_right (waits_at number one) (list_any (waits_at number) waiting) off) well.1,
)

-- another session is gone
waits_without : (number : ℕ) (sessions : List Session) (waiting : List Waiting) → list_any (waits_at number) waiting ≡ false → WaitWell sessions waiting → WaitWell (filter (λ session. not (session.number == number)) sessions) waiting
waits_without number sessions [] off well = tt
waits_without number sessions (one ∷ waiting) off well = (
  one_same sessions (filter (λ session. not (session.number == number)) sessions) one (gone_there number one.session sessions (nor_left (waits_at number one) (list_any (waits_at number) waiting) off)) well.0,
  waits_without number sessions waiting (nor_right (waits_at number one) (list_any (waits_at number) waiting) off) well.1,
)

-- without the session's own request
pub none_left : (number : ℕ) (waiting : List Waiting) → list_any (waits_at number) (filter (λ one. not (one.session == number)) waiting) ≡ false
none_left number [] = refl
none_left number (one ∷ waiting) = at (one.session == number) refl (none_left number waiting) where
  at : (b : Bool) → (one.session == number) ≡ b → list_any (waits_at number) (filter (λ one. not (one.session == number)) waiting) ≡ false → list_any (waits_at number) (cond (not b) (one ∷ filter (λ one. not (one.session == number)) waiting) (filter (λ one. not (one.session == number)) waiting)) ≡ false
  at true is rest = rest
  at false is rest = rw is rest

pub waits_left : (number : ℕ) (sessions : List Session) (waiting : List Waiting) → WaitWell sessions waiting → WaitWell sessions (filter (λ one. not (one.session == number)) waiting)
waits_left number sessions [] well = tt
waits_left number sessions (one ∷ waiting) well = at (one.session == number) (waits_left number sessions waiting well.1) where
  at : (b : Bool) → WaitWell sessions (filter (λ one. not (one.session == number)) waiting) → WaitWell sessions (cond (not b) (one ∷ filter (λ one. not (one.session == number)) waiting) (filter (λ one. not (one.session == number)) waiting))
  at true rest = rest
  at false rest = (well.0, rest)

-- the session is lost
pub waits_lost : (number : ℕ) (sessions : List Session) (waiting : List Waiting) → WaitWell sessions waiting → WaitWell (filter (λ session. not (session.number == number)) sessions) (filter (λ one. not (one.session == number)) waiting)
waits_lost number sessions waiting well = waits_without number sessions (filter (λ one. not (one.session == number)) waiting) (none_left number waiting) (waits_left number sessions waiting well)

-- polls are counted
pub record Flags : Type 0 where
  pub busy : Bool
  pub locked : Bool

abbrev pub flags_of : Option Session → Flags
flags_of found = record { busy = is_in_transaction found; locked = holds_tables found }

pub counted_flags : (number count other : ℕ) (sessions : List Session) → flags_of (session_of other (with_session number (counting count) sessions)) ≡ flags_of (session_of other sessions)
unfolding with_session
counted_flags number count other [] = refl
counted_flags number count other (first ∷ sessions) = at (first.number == number) (counted_flags number count other sessions) where
  here : (d : Bool) → flags_of (cond d (Some (counting count first)) (session_of other sessions)) ≡ flags_of (cond d (Some first) (session_of other sessions))
  here true = refl
  here false = refl

  there : (d : Bool) → flags_of (session_of other (with_session number (counting count) sessions)) ≡ flags_of (session_of other sessions)
      → flags_of (cond d (Some first) (session_of other (with_session number (counting count) sessions))) ≡ flags_of (cond d (Some first) (session_of other sessions))
  there true rest = refl
  there false rest = rest

  at : (b : Bool) → flags_of (session_of other (with_session number (counting count) sessions)) ≡ flags_of (session_of other sessions)
      → flags_of (session_of other (cond b (counting count first ∷ sessions) (first ∷ with_session number (counting count) sessions))) ≡ flags_of (cond (first.number == other) (Some first) (session_of other sessions))
  at true rest = here (first.number == other)
  at false rest = there (first.number == other) rest

-- a session connects
pub joined_flags : (tool : Bool) (number other : ℕ) (sessions : List Session) → flags_of (session_of other (sessions ++ new_session number tool ∷ [])) ≡ flags_of (session_of other sessions)
joined_flags tool number other [] = at (number == other) where
  at : (b : Bool) → flags_of (cond b (Some (new_session number tool)) None) ≡ flags_of None
  at true = refl
  at false = refl
joined_flags tool number other (first ∷ sessions) = at (first.number == other) (joined_flags tool number other sessions) where
  at : (b : Bool) → flags_of (session_of other (sessions ++ new_session number tool ∷ [])) ≡ flags_of (session_of other sessions) → flags_of (cond b (Some first) (session_of other (sessions ++ new_session number tool ∷ []))) ≡ flags_of (cond b (Some first) (session_of other sessions))
  at true rest = refl
  at false rest = rest

pub waits_flagged : (sessions others : List Session) (waiting : List Waiting) → ((n : ℕ) → flags_of (session_of n others) ≡ flags_of (session_of n sessions)) → WaitWell sessions waiting → WaitWell others waiting
waits_flagged sessions others [] same well = tt
waits_flagged sessions others (one ∷ waiting) same well = (
  record { comes = subst (λ (f : Flags). ComesWell f.busy f.locked one.request) (sym (same one.session)) well.0.comes; names = well.0.names },
  waits_flagged sessions others waiting same well.1,
)

pub waits_more : (sessions : List Session) (waiting : List Waiting) (one : Waiting) → WaitWell sessions waiting → WaitsWell sessions one → WaitWell sessions (waiting ++ one ∷ [])
waits_more sessions [] one well now = (now, tt)
waits_more sessions (first ∷ waiting) one well now = (well.0, waits_more sessions waiting one well.1 now)

-- a deed of another session
pub effect_waits : (state : State) (number : ℕ) (effect : Effect) → list_any (waits_at number) state.waiting ≡ false → WaitWell state.sessions state.waiting → WaitWell (does effect state number).after.sessions (does effect state number).after.waiting
effect_waits state number (Rests answer) off well = well
effect_waits state number (Grows answer need events) off well = waits_there number (holding need events) state.sessions state.waiting (λ s. refl) off well
effect_waits state number (Writes answer events) off well = waits_there number at_rest state.sessions state.waiting (λ s. refl) off well
effect_waits state number (Forgets answer) off well = waits_there number at_rest state.sessions state.waiting (λ s. refl) off well
effect_waits state number (Moves answer tables) off well = well
effect_waits state number (Locks answer names) off well = waits_there number (locking names) state.sessions state.waiting (λ s. refl) off well
effect_waits state number (Unlocks answer) off well = waits_there number unlocking state.sessions state.waiting (λ s. refl) off well

-- WHO WAITS

-- *What mentions no table never waits.*
pub nothing_blocks : (state : State) (number : ℕ) (exclusive : Bool) → blocker state number (record { exclusive = exclusive; names = []; locks = [] }) ≡ None
unfolding blocker_of_names blocker_of_set
nothing_blocks state number exclusive = refl

none_blocks : (state : State) (number by : ℕ) (exclusive : Bool) → blocker state number (record { exclusive = exclusive; names = []; locks = [] }) ≡ Some by → ⊥
none_blocks state number by exclusive is = differ (sym (nothing_blocks state number exclusive) ∙ is) where
  differ : None ≡ Some by → ⊥
  differ e = cc

one_named : (name : List ℕ) (names : List (List ℕ)) → name ∷ names ≢ []
one_named name names e = cc

pub blocked_names : (state : State) (number by : ℕ) (request : Request) → blocker state number (need state number request) ≡ Some by → names_in request ≢ []
blocked_names state number by requests.Begin is none = none_blocks state number by false is
blocked_names state number by requests.Commit is none = none_blocks state number by false is
blocked_names state number by requests.Rollback is none = none_blocks state number by false is
blocked_names state number by (requests.Do statement) is none = one_named _ _ none
blocked_names state number by (requests.Ends table) is none = one_named _ _ none
blocked_names state number by (requests.ChunkEnd table low top size) is none = one_named _ _ none
blocked_names state number by (requests.BeginSpan table span size) is none = one_named _ _ none
blocked_names state number by (requests.CopyRow from into columns key) is none = one_named _ _ none
blocked_names state number by (requests.LockTables []) is none = none_blocks state number by true is
blocked_names state number by (requests.LockTables (name ∷ names)) is none = one_named name names none
blocked_names state number by requests.Unlock is none = none_blocks state number by false is
blocked_names state number by (requests.Create schema) is none = one_named _ _ none
blocked_names state number by (requests.Drop name) is none = one_named _ _ none
blocked_names state number by (requests.Rename []) is none = none_blocks state number by true is
blocked_names state number by (requests.Rename (pair ∷ pairs)) is none = one_named _ _ none
blocked_names state number by requests.LogEnd is none = none_blocks state number by false is
blocked_names state number by (requests.ReadLog position limit tables) is none = none_blocks state number by false is
blocked_names state number by requests.ShowTables is none = none_blocks state number by false is
blocked_names state number by requests.ShowWaiting is none = none_blocks state number by false is
blocked_names state number by (requests.ShowCounter table) is none = none_blocks state number by false is
blocked_names state number by (requests.SetCounter table least) is none = one_named _ _ none
