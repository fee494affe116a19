-- What LOCK TABLES, UNLOCK TABLES, CREATE, DROP and RENAME leave on the server: they commit no row; only the last three
-- change which tables stand, and these change no lock that is held.
use Rattle.server_model.proofs.Filling.{filled_case, numbered_table}
use Rattle.server_model.specs.States.{is_of_tool}
use Rattle.std.proofs.Common.{◌≡◌, ℕ, Bool, true, false, List, [], ◌∷◌, ◌++◌, cond, Option, Some, None, Result, Ok, Err, refl, sym, ap, ◌∙◌, subst}
use Rattle.std.specs.Prelude.{◌==◌}
use Rattle.std.proofs.lemmas.Bool.{true≢false, false≢true}
use Rattle.base_values.specs.declared.mysql_errors.TheConstants.{ER_NO_SUCH_TABLE, ER_TABLE_NOT_LOCKED}
use Rattle.server_locks.specs.MetadataLocks.Grants as grants
use Rattle.server_locks.specs.MetadataLocks.Grants.{blocker_of_names}
use Rattle.server_locks.specs.RowLocks.Grants.{blocker_of_set}
use Rattle.table_store.specs.Databases.{Database, has_table, rename_tables}
use Rattle.server_model.specs.Answers.{refuses}
use Rattle.server_model.specs.Effects.{all_exist, created, effect_unless, defined, dropped, is_outside, locks_if, renamed_or}
use Rattle.server_model.specs.Blockers.{blocker, need}
use Rattle.server_model.specs.PlainServer.{Served, called_unless, calls, counting, does, done, did, is_over, polled_of, polled_over, polled_unless, polls, serves, without_waiting}
use Rattle.server_model.specs.States.{State, is_exclusive, is_in_transaction, locks_held, names_held, names_in, session_of, view, waiters, waiting_of, with_session}
use Rattle.server_model.specs.declared.answer.Answer.{Answer}
use Rattle.server_model.specs.declared.answer.Answer.TheVariants as answers
use Rattle.server_model.specs.declared.entry.Asked.{Asked}
use Rattle.server_model.specs.declared.entry.Asked.TheVariants.{Call, Poll, Command, Cut}
use Rattle.server_model.specs.declared.request.Request.{Request}
use Rattle.server_model.specs.declared.request.Request.TheVariants as requests
use Rattle.server_model.specs.declared.session.Session.{Session}
use Rattle.server_model.specs.declared.session.Waiting.{Waiting}
use Rattle.proof_journals.specs.Holdings.{IsHeld}
use Rattle.proof_journals.specs.Turns.{about, request_of}
use Rattle.proof_journals.proofs.Names.{as_held}
use Rattle.server_locks.proofs.LeastSession.Sessions.{none_of}
use Rattle.proof_journals.specs.ServerTurns.Others.{held_at}
use Rattle.proof_journals.proofs.ServerTurns.Others.{rests_names}
use Rattle.proof_journals.proofs.Machine.Fitting.{IsPrompt}

-- such a request
abbrev pub is_rowless : Request → Bool
is_rowless (requests.LockTables names) = true
is_rowless requests.Unlock = true
is_rowless (requests.Create schema) = true
is_rowless (requests.Drop name) = true
is_rowless (requests.Rename pairs) = true
is_rowless request = false

-- it makes, drops or renames tables
abbrev pub defines : Request → Bool
defines (requests.Create schema) = true
defines (requests.Drop name) = true
defines (requests.Rename pairs) = true
defines request = false

abbrev pub is_ok : Answer → Bool
is_ok (answers.Ok count) = true
is_ok answer = false

abbrev pub is_late : Answer → Bool
is_late (answers.TimedOut waited) = true
is_late answer = false

-- it counts no row
abbrev pub CountsNone : Answer → Type 0
CountsNone (answers.Ok count) = count ≡ 0
CountsNone answer = Unit {0}

-- *What such a request leaves*
pub record Quiet (request : Request) (state : State) (number : ℕ) (served : Served) : Type 0 where
  pub log : served.after.log ≡ state.log
  pub tables : defines request ≡ false → served.after.tables ≡ state.tables
  pub undone : is_ok served.answer ≡ false → served.after.tables ≡ state.tables
  pub counts : CountsNone served.answer
  pub fewer : defines request ≡ true → (one : grants.HeldName) → IsHeld one (held_at served.after) → IsHeld one (held_at state)
  pub names : defines request ≡ true → is_late served.answer ≡ false → held_at served.after ≡ held_at state

-- NAMES HELD

counted_names : (number polls : ℕ) (sessions : List Session) → names_held (with_session number (counting polls) sessions) ≡ names_held sessions
unfolding with_session
counted_names number polls [] = refl
counted_names number polls (first ∷ sessions) = at (first.number == number) (counted_names number polls sessions) where
  at : (b : Bool) → names_held (with_session number (counting polls) sessions) ≡ names_held sessions → names_held (cond b (counting polls first ∷ sessions) (first ∷ with_session number (counting polls) sessions)) ≡ names_held (first ∷ sessions)
  at true rest = refl
  at false rest = ap (λ (held : List grants.HeldName). as_held first.number first.names ++ held) rest

-- WHERE IT IS DONE

module _ (state : State) (number : ℕ) (w : List Waiting) where
  abbrev there : State
  there = record state { waiting = w }

  refused : (request : Request) (error : ℕ) → Quiet request state number (record { answer = refuses error; after = there })
  refused request error = record { log = refl; tables = λ off. refl; undone = λ off. refl; counts = tt; fewer = λ is one held. held; names = λ is late. refl }

  moved : (request : Request) → defines request ≡ true → (result : Result Database ℕ) → Quiet request state number (does (defined result) there number)
  moved request is (Ok tables) = record { log = refl; tables = λ off. absurd (true≢false (sym is ∙ off)); undone = λ off. absurd (true≢false off); counts = refl; fewer = λ _ one held. held; names = λ _ late. refl }
  moved request is (Err error) = refused request error

  within : (busy : Bool) (seen : Database) (request : Request) → is_rowless request ≡ true → Quiet request state number (does (effect_unless false busy seen there request) there number)
  within busy seen (requests.LockTables names) is = by (all_exist names state.tables) where
    by : (b : Bool) → Quiet (requests.LockTables names) state number (does (locks_if b names) there number)
    by true = record { log = refl; tables = λ off. refl; undone = λ off. refl; counts = refl; fewer = λ no. absurd (false≢true no); names = λ no. absurd (false≢true no) }
    by false = refused (requests.LockTables names) ER_NO_SUCH_TABLE
  within busy seen requests.Unlock is = record { log = refl; tables = λ off. refl; undone = λ off. refl; counts = refl; fewer = λ no. absurd (false≢true no); names = λ no. absurd (false≢true no) }
  within busy seen (requests.Create schema) is = moved (requests.Create schema) refl (created (has_table schema.name state.tables) schema state.tables)
  within busy seen (requests.Drop name) is = moved (requests.Drop name) refl (dropped (has_table name state.tables) name state.tables)
  within busy seen (requests.Rename pairs) is = moved (requests.Rename pairs) refl (renamed_or (rename_tables pairs state.tables))
  within busy seen request is = absurd cc

  did_quiet : (request : Request) → is_rowless request ≡ true → Quiet request state number (did there number request)
  unfolding did
  did_quiet request is = by (is_outside (session_of number state.sessions) request) where
    by : (outside : Bool) → Quiet request state number (does (effect_unless outside (is_in_transaction (session_of number state.sessions)) (view number there) there request) there number)
    by true = refused request ER_TABLE_NOT_LOCKED
    by false = within (is_in_transaction (session_of number state.sessions)) (view number there) request is

  done_quiet : (request : Request) → is_rowless request ≡ true → Quiet request state number (done there number request)
  done_quiet request =
      filled_case (λ asked full. is_rowless asked ≡ true → Quiet asked state number (did there number full)) did_quiet (λ statement n rowless. absurd (false≢true rowless))
      (is_of_tool (session_of number state.sessions)) state.tables state.counters request

-- CALLS AND POLLS

counted : (request : Request) (state : State) (number polls by : ℕ) (w : List Waiting) → Quiet request state number (record { answer = answers.Waits by; after = record state { waiting = w; sessions = with_session number (counting polls) state.sessions } })
counted request state number polls by w = record {
  log = refl;
  tables = λ off. refl;
  undone = λ off. refl;
  counts = tt;
  fewer = λ is one held. subst (IsHeld one) (counted_names number polls state.sessions) held;
  names = λ is late. counted_names number polls state.sessions;
}

over : (request : Request) (state : State) (number by : ℕ) (late : Bool) → Quiet request state number (polled_over late by state number)
over request state number by true = record { log = refl; tables = λ off. refl; undone = λ off. refl; counts = tt; fewer = λ is one held. rests_names number state.sessions one held; names = λ is late. absurd (true≢false late) }
over request state number by false = counted request state number _ by state.waiting

-- *What such a turn leaves*
pub quiet_served : (state : State) (number : ℕ) (asked : Asked) (request : Request) → about state number asked ≡ Some request → (asked ≡ Cut → ⊥) → is_rowless request ≡ true → Quiet request state number (serves state number asked)
unfolding calls polls
quiet_served state number (Call called) request asks uncut is = let same : called ≡ request = cc in subst (λ (r : Request). Quiet request state number (called_unless (blocker state number (need state number r)) state number r)) (sym same) (by (blocker state number (need state number request))) where
  by : (blocked : Option ℕ) → Quiet request state number (called_unless blocked state number request)
  by None = done_quiet state number state.waiting request is
  by (Some one) = counted request state number 0 one (state.waiting ++ record { session = number; request = request } ∷ [])
quiet_served state number Poll request asks uncut is = by (waiting_of number state.waiting) asks where
  unless : (blocked : Option ℕ) → Quiet request state number (polled_unless blocked state number request)
  unless None = done_quiet state number (without_waiting number state).waiting request is
  unless (Some one) = over request state number one (is_over state number)

  by : (waiting : Option Waiting) → request_of waiting ≡ Some request → Quiet request state number (polled_of waiting state number)
  by None none = absurd cc
  by (Some waiting) some = let same : waiting.request ≡ request = cc in subst (λ (r : Request). Quiet request state number (polled_unless (blocker state number (need state number r)) state number r)) (sym same) (unless (blocker state number (need state number request)))
quiet_served state number (Command word) request asks uncut is = absurd cc
quiet_served state number Cut request asks uncut is = absurd (uncut refl)

-- WHAT IS BLOCKED

-- a request that is answered otherwise than by a wait or a time-out was granted its names
pub names_granted : (state : State) (number : ℕ) (asked : Asked) (request : Request) → about state number asked ≡ Some request → (asked ≡ Cut → ⊥) → IsPrompt (serves state number asked).answer → blocker_of_names (held_at state) (waiters state.waiting) number (is_exclusive request) (names_in request) ≡ None
unfolding calls polls
names_granted state number asked request asks uncut free = by (blocker state number (need state number request)) refl where
  answers_so : (asked : Asked) → about state number asked ≡ Some request → (asked ≡ Cut → ⊥) → (one : ℕ) → blocker state number (need state number request) ≡ Some one → IsPrompt (serves state number asked).answer → ⊥
  answers_so (Call called) asks uncut one blocks free =
      let same : called ≡ request = cc in
      subst (λ (b : Option ℕ). IsPrompt (called_unless b state number request).answer → ⊥) (sym blocks) (λ none. none) (subst (λ (r : Request). IsPrompt (called_unless (blocker state number (need state number r)) state number r).answer) same free)
  answers_so Poll asks uncut one blocks free = waits (waiting_of number state.waiting) asks free where
    late : (b : Bool) → IsPrompt (polled_over b one state number).answer → ⊥
    late true none = none
    late false none = none

    waits : (waiting : Option Waiting) → request_of waiting ≡ Some request → IsPrompt (polled_of waiting state number).answer → ⊥
    waits None none free = absurd cc
    waits (Some waiting) some free =
        let same : waiting.request ≡ request = cc in
        subst (λ (b : Option ℕ). IsPrompt (polled_unless b state number request).answer → ⊥) (sym blocks) (late (is_over state number)) (subst (λ (r : Request). IsPrompt (polled_unless (blocker state number (need state number r)) state number r).answer) same free)
  answers_so (Command word) asks uncut one blocks free = absurd cc
  answers_so Cut asks uncut one blocks free = uncut refl

  by : (blocked : Option ℕ) → blocker state number (need state number request) ≡ blocked → blocker_of_names (held_at state) (waiters state.waiting) number (is_exclusive request) (names_in request) ≡ None
  by None is =
      filled_case
      (λ asks full. blocker_of_names (held_at state) (waiters state.waiting) number (is_exclusive full) (names_in full) ≡ None → blocker_of_names (held_at state) (waiters state.waiting) number (is_exclusive asks) (names_in asks) ≡ None)
      (λ r free. free) (λ s n free. subst (λ (t : List ℕ). blocker_of_names (held_at state) (waiters state.waiting) number false (t ∷ []) ≡ None) (numbered_table n s) free)
      (is_of_tool (session_of number state.sessions)) state.tables state.counters request
      (none_of (blocker_of_names (names_held state.sessions) (waiters state.waiting) number (need state number request).exclusive (need state number request).names) (blocker_of_set (locks_held state.sessions) number (need state number request).locks) is).0
  by (Some one) is = absurd (answers_so asked asks uncut one is free)
