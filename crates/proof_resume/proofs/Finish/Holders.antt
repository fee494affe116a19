-- What the sessions on the server hold where at most one of them holds anything.
use Rattle.std.proofs.Common.{◌≡◌, ℕ, ◌==◌, Bool, true, false, ◌||◌, List, [], ◌∷◌, ◌++◌, map, cond, Option, Some, None, Result, Ok, Err, refl, sym, ap, ◌∙◌, subst}
use Rattle.std.specs.Prelude.{is_some}
use Rattle.std.specs.List.{AllByRecursion}
use Rattle.std.proofs.lemmas.Bool.{true≢false, false≢true}
use Rattle.base_values.specs.declared.span.Span.{Span}
use Rattle.table_store.specs.Databases.{TableRows, Database, find_table, has_table, rename_tables}
use Rattle.server_locks.specs.declared.row_locks.lock.Lock.{Lock}
use Rattle.server_locks.specs.declared.row_locks.lock.HeldLock.{HeldLock}
use Rattle.server_locks.specs.MetadataLocks.Grants as grants
use Rattle.server_locks.specs.RowLocks.LockTable.{held_by}
use Rattle.server_locks.proofs.LeastSession.Kept.{both}
use Rattle.server_model.specs.declared.counter.Counter.{Counter}
use Rattle.server_model.specs.declared.need.Need.{Need}
use Rattle.server_model.specs.declared.request.Request.{Request}
use Rattle.server_model.specs.declared.request.Request.TheVariants as requests
use Rattle.server_model.specs.declared.session.HeldName.{HeldName}
use Rattle.server_model.specs.declared.session.Session.{Session}
use Rattle.server_model.specs.declared.work.StatementResult.{StatementResult}
use Rattle.server_model.specs.Blockers.{need_within}
use Rattle.server_model.specs.Drawing.{filled, numbered}
use Rattle.server_model.specs.Effects.{Effect, Rests, Grows, Writes, Forgets, Moves, Locks, Unlocks, begins, created, defined, dropped, effect, effect_unless, effect_within, is_beyond, is_outside, renamed_or, result_effect}
use Rattle.server_model.specs.Operations.{copy_operation, operation_result, statement_result}
use Rattle.server_model.specs.PlainServer.{at_rest, did, does, done, holding, recounted, shared}
use Rattle.server_model.specs.States.{State, connected, is_in_transaction, is_of_tool, kept_names, locked_names, locks_held, name_held, names_held, new_session, session_of, tables_named, view, with_session}
use Rattle.server_model.proofs.Filling.{filled_case}
use Rattle.server_model.proofs.LockedRows.Tests.{are_one}
use Rattle.tool_program.specs.JournalWords.Journals.{opens_if}
use Rattle.proof_journals.specs.Run.Counts.{AreApart}
use Rattle.proof_resume.specs.Settled.Alone.{HoldsAlone}

-- it is this session
abbrev pub owns : Option ℕ → ℕ → Bool
owns None number = false
owns (Some own) number = number == own

-- the session holds nothing
pub record IsFree (session : Session) : Type 0 where
  pub rests : session.in_transaction ≡ false
  pub names : session.names ≡ []
  pub locks : session.row_locks ≡ []
  pub writes : session.writes ≡ []

-- the session has no LOCK TABLES, and holds nothing unless it is this one
pub record IsFreeBut (own : Option ℕ) (session : Session) : Type 0 where
  pub unlocked : kept_names session.names ≡ []
  pub free : owns own session.number ≡ false → IsFree session

-- *Held by one at most*: nobody waits, and no session but this one holds anything
pub record IsHeldBy (own : Option ℕ) (state : State) : Type 0 where
  pub waits : state.waiting ≡ []
  pub sessions : AllByRecursion (IsFreeBut own) state.sessions

-- WHO HOLDS NOTHING

all_mapped : {A B : Type 0} (P : B → Type 0) (f : A → B) (xs : List A) → ((x : A) → P (f x)) → AllByRecursion P (map f xs)
all_mapped P f [] each = tt
all_mapped P f (x ∷ xs) each = (each x, all_mapped P f xs each)

all_as : (P Q : Session → Type 0) (sessions : List Session) → ((session : Session) → P session → Q session) → AllByRecursion P sessions → AllByRecursion Q sessions
all_as P Q [] each all = tt
all_as P Q (session ∷ sessions) each all = (each session all.0, all_as P Q sessions each all.1)

pub any_own : (own : Option ℕ) (state : State) → IsHeldBy None state → IsHeldBy own state
any_own own state held = record { waits = held.waits; sessions = all_as (IsFreeBut None) (IsFreeBut own) state.sessions (λ session is. record { unlocked = is.unlocked; free = λ off. is.free refl }) held.sessions }

pub nothing_held : (own : Option ℕ) (state : State) → state.sessions ≡ [] → state.waiting ≡ [] → IsHeldBy own state
nothing_held own state none idle = record { waits = idle; sessions = subst (AllByRecursion (IsFreeBut own)) (sym none) tt }

-- a session that holds nothing is in no transaction
pub rests_free : (own : Option ℕ) (number : ℕ) (sessions : List Session) → owns own number ≡ false → AllByRecursion (IsFreeBut own) sessions → is_in_transaction (session_of number sessions) ≡ false
rests_free own number [] off all = refl
rests_free own number (first ∷ sessions) off all = by (first.number == number) refl (rests_free own number sessions off all.1) where
  by : (b : Bool) → (first.number == number) ≡ b → is_in_transaction (session_of number sessions) ≡ false → is_in_transaction (cond b (Some first) (session_of number sessions)) ≡ false
  by true same rest = (all.0.free (ap (owns own) (are_one first.number number same) ∙ off)).rests
  by false other rest = rest

-- ALONE ON THE SERVER

names_own : (number : ℕ) (sessions : List Session) → AllByRecursion (IsFreeBut (Some number)) sessions → AllByRecursion (λ held. (held.session == number) ≡ true) (names_held sessions)
names_own number [] all = tt
names_own number (first ∷ sessions) all =
    both (λ (held : grants.HeldName). (held.session == number) ≡ true) (map (name_held first.number) first.names) (names_held sessions) (by (first.number == number) refl) (names_own number sessions all.1) where
      by : (b : Bool) → (first.number == number) ≡ b → AllByRecursion (λ (held : grants.HeldName). (held.session == number) ≡ true) (map (name_held first.number) first.names)
      by true same = all_mapped (λ (held : grants.HeldName). (held.session == number) ≡ true) (name_held first.number) first.names (λ one. same)
      by false other = subst (λ (names : List HeldName). AllByRecursion (λ (held : grants.HeldName). (held.session == number) ≡ true) (map (name_held first.number) names)) (sym (all.0.free other).names) tt

locks_own : (number : ℕ) (sessions : List Session) → AllByRecursion (IsFreeBut (Some number)) sessions → AllByRecursion (λ held. (held.session == number) ≡ true) (locks_held sessions)
locks_own number [] all = tt
locks_own number (first ∷ sessions) all =
    both (λ (held : HeldLock). (held.session == number) ≡ true) (map (held_by first.number) first.row_locks) (locks_held sessions) (by (first.number == number) refl) (locks_own number sessions all.1) where
      by : (b : Bool) → (first.number == number) ≡ b → AllByRecursion (λ (held : HeldLock). (held.session == number) ≡ true) (map (held_by first.number) first.row_locks)
      by true same = all_mapped (λ (held : HeldLock). (held.session == number) ≡ true) (held_by first.number) first.row_locks (λ one. same)
      by false other = subst (λ (locks : List Lock). AllByRecursion (λ (held : HeldLock). (held.session == number) ≡ true) (map (held_by first.number) locks)) (sym (all.0.free other).locks) tt

pub holds_alone : (state : State) (number : ℕ) → IsHeldBy (Some number) state → HoldsAlone state number
holds_alone state number held = record { waits = held.waits; names = names_own number state.sessions held.sessions; locks = locks_own number state.sessions held.sessions }

-- A SESSION THAT CONNECTS

pub opened_held : (own : Option ℕ) (nothing tool : Bool) (number : ℕ) (state : State) → IsHeldBy own state → IsHeldBy own (opens_if nothing tool number state)
unfolding opens_if
opened_held own nothing tool number state held = by (nothing || is_some (session_of number state.sessions)) where
  by : (b : Bool) → IsHeldBy own (cond b state (connected number tool state))
  by true = held
  by false = record {
    waits = held.waits;
    sessions = both (IsFreeBut own) state.sessions (new_session number tool ∷ []) held.sessions (record { unlocked = refl; free = λ off. record { rests = refl; names = refl; locks = refl; writes = refl } }, tt);
  }

-- WHAT AN EFFECT LEAVES

all_with : (P : Session → Type 0) (number : ℕ) (change : Session → Session) (sessions : List Session) → ((session : Session) → (session.number == number) ≡ true → P session → P (change session)) → AllByRecursion P sessions → AllByRecursion P (with_session number change sessions)
unfolding with_session
all_with P number change [] each all = tt
all_with P number change (first ∷ sessions) each all = by (first.number == number) refl (all_with P number change sessions each all.1) where
  by : (b : Bool) → (first.number == number) ≡ b → AllByRecursion P (with_session number change sessions) → AllByRecursion P (cond b (change first ∷ sessions) (first ∷ with_session number change sessions))
  by true same rest = (each first same all.0, all.1)
  by false other rest = (all.0, rest)

shared_unlocked : (names : List HeldName) (more : List (List ℕ)) → kept_names names ≡ [] → kept_names (names ++ map shared more) ≡ []
shared_unlocked [] [] is = refl
shared_unlocked [] (name ∷ more) is = shared_unlocked [] more refl
shared_unlocked (first ∷ names) more is = by first.exclusive is (shared_unlocked names more) where
  by : (b : Bool) → cond b (first ∷ kept_names names) (kept_names names) ≡ [] → (kept_names names ≡ [] → kept_names (names ++ map shared more) ≡ []) → cond b (first ∷ kept_names (names ++ map shared more)) (kept_names (names ++ map shared more)) ≡ []
  by true is rest = absurd (cc)
  by false is rest = rest is

-- an effect that neither takes nor gives back LOCK TABLES, and one that opens no transaction
abbrev pub IsPlain : Effect → Type 0
IsPlain (Locks answer names) = ⊥
IsPlain (Unlocks answer) = ⊥
IsPlain effect = Unit {0}

abbrev pub IsResting : Effect → Type 0
IsResting (Locks answer names) = ⊥
IsResting (Unlocks answer) = ⊥
IsResting (Grows answer need events) = ⊥
IsResting effect = Unit {0}

-- and one that ends it
abbrev pub IsEnding : Effect → Type 0
IsEnding (Writes answer events) = Unit {0}
IsEnding (Forgets answer) = Unit {0}
IsEnding effect = ⊥

at_rest_free : (own other : Option ℕ) (session : Session) → IsFreeBut own session → IsFreeBut other (at_rest session)
at_rest_free own other session is = record {
  unlocked = again session.names is.unlocked;
  free = λ off. record { rests = refl; names = is.unlocked; locks = refl; writes = refl };
} where
  again : (names : List HeldName) → kept_names names ≡ [] → kept_names (kept_names names) ≡ []
  again names none = ap kept_names none

at_rest_held : (own : Option ℕ) (number : ℕ) (sessions : List Session) → AllByRecursion (IsFreeBut own) sessions → AllByRecursion (IsFreeBut own) (with_session number at_rest sessions)
at_rest_held own number sessions = all_with (IsFreeBut own) number at_rest sessions (λ session same is. at_rest_free own own session is)

pub plain_held : (one : Effect) (state : State) (number : ℕ) → IsPlain one → IsHeldBy (Some number) state → IsHeldBy (Some number) (does one state number).after
plain_held (Rests answer) state number plain held = held
plain_held (Grows answer need events) state number plain held = record {
  waits = held.waits;
  sessions = all_with (IsFreeBut (Some number)) number (holding need events) state.sessions
      (λ session same is. record { unlocked = shared_unlocked session.names need.names is.unlocked; free = λ off. absurd (true≢false (sym same ∙ off)) }) held.sessions;
}
plain_held (Writes answer events) state number plain held = record { waits = held.waits; sessions = at_rest_held (Some number) number state.sessions held.sessions }
plain_held (Forgets answer) state number plain held = record { waits = held.waits; sessions = at_rest_held (Some number) number state.sessions held.sessions }
plain_held (Moves answer tables) state number plain held = record { waits = held.waits; sessions = held.sessions }
plain_held (Locks answer names) state number plain held = absurd plain
plain_held (Unlocks answer) state number plain held = absurd plain

pub resting_held : (one : Effect) (state : State) (number : ℕ) → IsResting one → IsHeldBy None state → IsHeldBy None (does one state number).after
resting_held (Rests answer) state number resting held = held
resting_held (Grows answer need events) state number resting held = absurd resting
resting_held (Writes answer events) state number resting held = record { waits = held.waits; sessions = at_rest_held None number state.sessions held.sessions }
resting_held (Forgets answer) state number resting held = record { waits = held.waits; sessions = at_rest_held None number state.sessions held.sessions }
resting_held (Moves answer tables) state number resting held = record { waits = held.waits; sessions = held.sessions }
resting_held (Locks answer names) state number resting held = absurd resting
resting_held (Unlocks answer) state number resting held = absurd resting

-- where the one session that may hold something ends its transaction, none does
others_free : (number : ℕ) (sessions : List Session) → session_of number sessions ≡ None → AllByRecursion (IsFreeBut (Some number)) sessions → AllByRecursion (IsFreeBut None) sessions
others_free number [] none all = tt
others_free number (first ∷ sessions) none all = by (first.number == number) refl none (λ rest. others_free number sessions rest all.1) where
  by : (b : Bool) → (first.number == number) ≡ b → cond b (Some first) (session_of number sessions) ≡ None → (session_of number sessions ≡ None → AllByRecursion (IsFreeBut None) sessions) → IsFreeBut None first × AllByRecursion (IsFreeBut None) sessions
  by true same none rest = absurd (cc)
  by false other none rest = (record { unlocked = all.0.unlocked; free = λ off. all.0.free other }, rest none)

ended_free : (number : ℕ) (sessions : List Session) → AreApart sessions → AllByRecursion (IsFreeBut (Some number)) sessions → AllByRecursion (IsFreeBut None) (with_session number at_rest sessions)
unfolding with_session AreApart
ended_free number [] apart all = tt
ended_free number (first ∷ sessions) apart all = by (first.number == number) refl (ended_free number sessions apart.1 all.1) where
  by : (b : Bool) → (first.number == number) ≡ b → AllByRecursion (IsFreeBut None) (with_session number at_rest sessions) → AllByRecursion (IsFreeBut None) (cond b (at_rest first ∷ sessions) (first ∷ with_session number at_rest sessions))
  by true same rest =
      (at_rest_free (Some number) None first all.0, others_free number sessions (subst (λ (n : ℕ). session_of n sessions ≡ None) (are_one first.number number same) apart.0) all.1)
  by false other rest = (record { unlocked = all.0.unlocked; free = λ off. all.0.free other }, rest)

pub ending_held : (one : Effect) (state : State) (number : ℕ) → IsEnding one → AreApart state.sessions → IsHeldBy (Some number) state → IsHeldBy None (does one state number).after
ending_held (Writes answer events) state number ending apart held = record { waits = held.waits; sessions = ended_free number state.sessions apart held.sessions }
ending_held (Forgets answer) state number ending apart held = record { waits = held.waits; sessions = ended_free number state.sessions apart held.sessions }
ending_held (Rests answer) state number ending apart held = absurd ending
ending_held (Grows answer need events) state number ending apart held = absurd ending
ending_held (Moves answer tables) state number ending apart held = absurd ending
ending_held (Locks answer names) state number ending apart held = absurd ending
ending_held (Unlocks answer) state number ending apart held = absurd ending

-- WHICH EFFECT

-- neither LOCK TABLES nor UNLOCK TABLES
abbrev pub is_plain : Request → Bool
is_plain (requests.LockTables names) = false
is_plain requests.Unlock = false
is_plain request = true

-- and no transaction is begun
abbrev pub is_resting : Request → Bool
is_resting (requests.LockTables names) = false
is_resting requests.Unlock = false
is_resting requests.Begin = false
is_resting (requests.BeginSpan table span size) = false
is_resting request = true

abbrev pub is_ending : Request → Bool
is_ending requests.Commit = true
is_ending requests.Rollback = true
is_ending request = false

result_plain : (busy : Bool) (need : Need) (result : StatementResult) → IsPlain (result_effect busy need result)
result_plain true need result = tt
result_plain false need result = tt

begins_plain : (found : Option TableRows) (span : Span) (size : ℕ) (need : Need) → IsPlain (begins found span size need)
begins_plain None span size need = tt
begins_plain (Some table) span size need = tt

defined_plain : (result : Result Database ℕ) → IsPlain (defined result)
defined_plain (Ok tables) = tt
defined_plain (Err number) = tt

defined_resting : (result : Result Database ℕ) → IsResting (defined result)
defined_resting (Ok tables) = tt
defined_resting (Err number) = tt

within_plain : (busy : Bool) (seen : Database) (state : State) (request : Request) → is_plain request ≡ true → IsPlain (effect_within busy seen state request)
within_plain busy seen state (requests.LockTables names) is = absurd (false≢true is)
within_plain busy seen state requests.Unlock is = absurd (false≢true is)
within_plain busy seen state requests.Begin is = tt
within_plain busy seen state requests.Commit is = tt
within_plain busy seen state requests.Rollback is = tt
within_plain busy seen state (requests.Do statement) is = result_plain busy (need_within seen (requests.Do statement)) (statement_result seen statement)
within_plain busy seen state (requests.Ends table) is = tt
within_plain busy seen state (requests.ChunkEnd table low top size) is = tt
within_plain busy seen state (requests.BeginSpan table span size) is = begins_plain (find_table table state.tables) span size (need_within seen (requests.BeginSpan table span size))
within_plain busy seen state (requests.CopyRow from into map key) is = result_plain busy (need_within seen (requests.CopyRow from into map key)) (operation_result seen (copy_operation seen from into map key))
within_plain busy seen state (requests.Create schema) is = defined_plain (created (has_table schema.name state.tables) schema state.tables)
within_plain busy seen state (requests.Drop name) is = defined_plain (dropped (has_table name state.tables) name state.tables)
within_plain busy seen state (requests.Rename pairs) is = defined_plain (renamed_or (rename_tables pairs state.tables))
within_plain busy seen state requests.LogEnd is = tt
within_plain busy seen state (requests.ReadLog position limit tables) is = tt
within_plain busy seen state requests.ShowTables is = tt
within_plain busy seen state requests.ShowWaiting is = tt
within_plain busy seen state (requests.ShowCounter table) is = tt
within_plain busy seen state (requests.SetCounter table number) is = tt

within_resting : (seen : Database) (state : State) (request : Request) → is_resting request ≡ true → IsResting (effect_within false seen state request)
within_resting seen state (requests.LockTables names) is = absurd (false≢true is)
within_resting seen state requests.Unlock is = absurd (false≢true is)
within_resting seen state requests.Begin is = absurd (false≢true is)
within_resting seen state (requests.BeginSpan table span size) is = absurd (false≢true is)
within_resting seen state requests.Commit is = tt
within_resting seen state requests.Rollback is = tt
within_resting seen state (requests.Do statement) is = tt
within_resting seen state (requests.Ends table) is = tt
within_resting seen state (requests.ChunkEnd table low top size) is = tt
within_resting seen state (requests.CopyRow from into map key) is = tt
within_resting seen state (requests.Create schema) is = defined_resting (created (has_table schema.name state.tables) schema state.tables)
within_resting seen state (requests.Drop name) is = defined_resting (dropped (has_table name state.tables) name state.tables)
within_resting seen state (requests.Rename pairs) is = defined_resting (renamed_or (rename_tables pairs state.tables))
within_resting seen state requests.LogEnd is = tt
within_resting seen state (requests.ReadLog position limit tables) is = tt
within_resting seen state requests.ShowTables is = tt
within_resting seen state requests.ShowWaiting is = tt
within_resting seen state (requests.ShowCounter table) is = tt
within_resting seen state (requests.SetCounter table number) is = tt

module _ (state : State) (number : ℕ) where
  abbrev own : Option Session
  own = session_of number state.sessions

  pub effect_plain : (request : Request) → is_plain request ≡ true → IsPlain (effect state number (filled state number request))
  effect_plain request =
      filled_case (λ asked full. is_plain asked ≡ true → IsPlain (effect state number full)) plain (λ statement n. plain (requests.Do (numbered n statement))) (is_of_tool own) state.tables state.counters request where
        plain : (full : Request) → is_plain full ≡ true → IsPlain (effect state number full)
        plain full is = by (is_outside own full) where
          by : (b : Bool) → IsPlain (effect_unless b (is_in_transaction own) (view number state) state full)
          by true = tt
          by false = within_plain (is_in_transaction own) (view number state) state full is

  pub effect_resting : is_in_transaction own ≡ false → (request : Request) → is_resting request ≡ true → IsResting (effect state number (filled state number request))
  effect_resting idle request =
      filled_case (λ asked full. is_resting asked ≡ true → IsResting (effect state number full)) resting (λ statement n. resting (requests.Do (numbered n statement))) (is_of_tool own) state.tables state.counters request where
        resting : (full : Request) → is_resting full ≡ true → IsResting (effect state number full)
        resting full is = by (is_outside own full) where
          by : (b : Bool) → IsResting (effect_unless b (is_in_transaction own) (view number state) state full)
          by true = tt
          by false = subst (λ (busy : Bool). IsResting (effect_within busy (view number state) state full)) (sym idle) (within_resting (view number state) state full is)

  -- COMMIT and ROLLBACK name no table
  nothing_beyond : (locked : List (List ℕ)) → is_beyond locked [] ≡ false
  nothing_beyond [] = refl
  nothing_beyond (first ∷ locked) = refl

  pub nothing_outside : (session : Option Session) (request : Request) → tables_named request ≡ [] → is_outside session request ≡ false
  nothing_outside None request none = refl
  nothing_outside (Some session) request none = ap (is_beyond (locked_names session.names)) none ∙ nothing_beyond (locked_names session.names)

  pub effect_ending : (request : Request) → is_ending request ≡ true → IsEnding (effect state number (filled state number request))
  effect_ending request =
      filled_case (λ asked full. is_ending asked ≡ true → IsEnding (effect state number full)) ending (λ statement n is. absurd (false≢true is)) (is_of_tool own) state.tables state.counters request where
        ending : (full : Request) → is_ending full ≡ true → IsEnding (effect state number full)
        ending requests.Commit is = rw (nothing_outside own requests.Commit refl) tt
        ending requests.Rollback is = rw (nothing_outside own requests.Rollback refl) tt
        ending other is = absurd (false≢true is)

-- WHAT A CALL LEAVES

pub done_plain : (state : State) (number : ℕ) (request : Request) → is_plain request ≡ true → IsHeldBy (Some number) state → IsHeldBy (Some number) (done state number request).after
unfolding did
done_plain state number request is held = plain_held (effect state number (filled state number request)) state number (effect_plain state number request is) held

pub done_resting : (state : State) (number : ℕ) (request : Request) → is_resting request ≡ true → IsHeldBy None state → IsHeldBy None (done state number request).after
unfolding did
done_resting state number request is held =
    resting_held (effect state number (filled state number request)) state number (effect_resting state number (rests_free None number state.sessions refl held.sessions) request is) held

pub done_ending : (state : State) (number : ℕ) (request : Request) → is_ending request ≡ true → AreApart state.sessions → IsHeldBy (Some number) state → IsHeldBy None (done state number request).after
unfolding did
done_ending state number request is apart held = ending_held (effect state number (filled state number request)) state number (effect_ending state number request is) apart held

pub recounted_held : (whose : Option ℕ) (counters : List Counter) (state : State) → IsHeldBy whose state → IsHeldBy whose (recounted counters state)
recounted_held whose counters state held = record { waits = held.waits; sessions = held.sessions }
