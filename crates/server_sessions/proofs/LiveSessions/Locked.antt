-- What a session has locked, as the table of names tells it.
use Rattle.std.proofs.Common.{◌≡◌, inl, inr, ◌∙◌, ℕ, Bool, true, false, not, ◌&&◌, ◌||◌, List, [], ◌∷◌, Option, Some, None, refl, sym, ap, subst}
use Rattle.std.specs.Prelude.{◌==◌}
use Rattle.std.specs.List.{list_any}
use Rattle.std.specs.Str.{bytes_eq}
use Rattle.std.proofs.lemmas.Bool.{and_parts, or_cases}
use Rattle.server_locks.specs.MetadataLocks.Grants as grants
use Rattle.server_locks.specs.MetadataLocks.Grants.{holds}
use Rattle.server_locks.specs.MetadataLocks.LockTable.{held_by, is_own}
use Rattle.server_locks.proofs.MetadataLocks.SameBlockers.{passed, passing}
use Rattle.server_model.specs.declared.request.Request.{Request}
use Rattle.server_model.specs.declared.session.HeldName.{HeldName}
use Rattle.server_model.specs.declared.session.Session.{Session}
use Rattle.server_model.specs.Effects.{is_beyond, is_outside}
use Rattle.server_model.specs.States.{holds_tables, locked_names, session_of, tables_named}
use Rattle.server_model.proofs.LockedRows.Tests.{are_one, same_number}
use Rattle.server_sessions.specs.LiveSessions.SessionLists.{HasOwn, HaveNames, names_of}
use Rattle.server_sessions.proofs.SessionLocks.Mentioned.{any_alike, beyond_locked, has_locked, locked_is}

-- what is asked of a way of holding and of a name
abbrev Asks : Type 0
Asks = Bool → List ℕ → Bool

own_passed : (asks : Asks) (names : List HeldName) (lock : grants.HeldName) → HasOwn names lock → asks lock.exclusive lock.name ≡ true → list_any (λ (one : HeldName). asks one.exclusive one.name) names ≡ true
own_passed asks [] lock has is = absurd has
own_passed asks (one ∷ names) lock (inl same) is = at (asks one.exclusive one.name) (ap (λ (e : Bool). asks e one.name) same.1 ∙ ap (asks lock.exclusive) same.0 ∙ is) where
  at : (b : Bool) → b ≡ true → (b || list_any (λ (o : HeldName). asks o.exclusive o.name) names) ≡ true
  at true so = refl
  at false so = absurd cc
own_passed asks (one ∷ names) lock (inr has) is = at (asks one.exclusive one.name) (own_passed asks names lock has is) where
  at : (b : Bool) → list_any (λ (o : HeldName). asks o.exclusive o.name) names ≡ true → (b || list_any (λ (o : HeldName). asks o.exclusive o.name) names) ≡ true
  at true rest = refl
  at false rest = rest

-- one of the names for which it is so
record HasAsked (asks : Asks) (number : ℕ) (names : List HeldName) : Type 0 where
  one : HeldName
  has : HasOwn names (held_by number one.exclusive one.name)
  is : asks one.exclusive one.name ≡ true

own_passing : (asks : Asks) (number : ℕ) (names : List HeldName) → list_any (λ (one : HeldName). asks one.exclusive one.name) names ≡ true → HasAsked asks number names
own_passing asks number [] is = absurd cc
own_passing asks number (first ∷ names) is =
    elim (or_cases (asks first.exclusive first.name) (list_any (λ (o : HeldName). asks o.exclusive o.name) names) is) [
      | inl here ↦ record { one = first; has = inl (refl, refl); is = here }
      | inr later ↦ let rest = own_passing asks number names later in record { one = rest.one; has = inr rest.has; is = rest.is }
    ]

alike : (a b : Bool) → (a ≡ true → b ≡ true) → (b ≡ true → a ≡ true) → a ≡ b
alike true b there here = sym (there refl)
alike false true there here = here refl
alike false false there here = refl

-- it is so of a lock that the table has of the session, where it is so of one of the session's names
asked_alike : (number : ℕ) (asks : Asks) (sessions : List Session) (table : List grants.HeldName) → HaveNames sessions table
    → list_any (λ (lock : grants.HeldName). (lock.session == number) && asks lock.exclusive lock.name) table ≡ list_any (λ (one : HeldName). asks one.exclusive one.name) (names_of (session_of number sessions))
asked_alike number asks sessions table have =
    alike (list_any test table) (list_any (λ (one : HeldName). asks one.exclusive one.name) (names_of (session_of number sessions))) there here
  where
    test : grants.HeldName → Bool
    test lock = (lock.session == number) && asks lock.exclusive lock.name

    own : (exclusive : Bool) (name : List ℕ) → asks exclusive name ≡ true → test (held_by number exclusive name) ≡ true
    own exclusive name is = ap (λ (b : Bool). b && asks exclusive name) (same_number number) ∙ is

    there : list_any test table ≡ true → list_any (λ (one : HeldName). asks one.exclusive one.name) (names_of (session_of number sessions)) ≡ true
    there is =
        let one = passing test table is in
        let parts = and_parts (one.lock.session == number) (asks one.lock.exclusive one.lock.name) one.passes in
        own_passed asks (names_of (session_of number sessions)) one.lock (subst (λ (n : ℕ). HasOwn (names_of (session_of n sessions)) one.lock) (are_one one.lock.session number parts.0) (have.there one.lock one.has)) parts.1

    here : list_any (λ (one : HeldName). asks one.exclusive one.name) (names_of (session_of number sessions)) ≡ true → list_any test table ≡ true
    here is =
        let asked = own_passing asks number (names_of (session_of number sessions)) is in
        passed test table (held_by number asked.one.exclusive asked.one.name) (have.here (held_by number asked.one.exclusive asked.one.name) asked.has) (own asked.one.exclusive asked.one.name asked.is)

-- LOCK TABLES

any_locked : (number : ℕ) (sessions : List Session) (table : List grants.HeldName) → HaveNames sessions table → list_any (is_own number true) table ≡ list_any (λ (one : HeldName). one.exclusive) (names_of (session_of number sessions))
any_locked number sessions table have = asked_alike number (λ exclusive name. exclusive) sessions table have

pub holds_alike : (number : ℕ) (sessions : List Session) (table : List grants.HeldName) → HaveNames sessions table → list_any (is_own number true) table ≡ holds_tables (session_of number sessions)
holds_alike number sessions table have = any_locked number sessions table have ∙ at (session_of number sessions) where
  at : (one : Option Session) → list_any (λ (o : HeldName). o.exclusive) (names_of one) ≡ holds_tables one
  at None = refl
  at (Some s) = refl

locked_alike : (number : ℕ) (sessions : List Session) (table : List grants.HeldName) → HaveNames sessions table → (name : List ℕ) → holds table number name true ≡ has_locked (names_of (session_of number sessions)) name
unfolding holds
locked_alike number sessions table have name = asked_alike number (λ exclusive other. bytes_eq other name && (exclusive || false)) sessions table have ∙ locked_is (names_of (session_of number sessions)) name

-- what the table tells of the request
pub outside_alike : (number : ℕ) (request : Request) (sessions : List Session) (table : List grants.HeldName) → HaveNames sessions table
    → (list_any (is_own number true) table && list_any (λ (name : List ℕ). not (holds table number name true)) (tables_named request)) ≡ is_outside (session_of number sessions) request
outside_alike number request sessions table have =
    ap (λ (b : Bool). b && list_any (λ (name : List ℕ). not (holds table number name true)) (tables_named request)) (any_locked number sessions table have)
    ∙ ap (λ (b : Bool). list_any (λ (one : HeldName). one.exclusive) (names_of (session_of number sessions)) && b)
    (any_alike (λ name. not (holds table number name true)) (λ name. not (has_locked (names_of (session_of number sessions)) name)) (λ name. ap not (locked_alike number sessions table have name)) (tables_named request))
    ∙ sym (beyond_locked (names_of (session_of number sessions)) (tables_named request))
    ∙ at (session_of number sessions)
  where
    at : (one : Option Session) → is_beyond (locked_names (names_of one)) (tables_named request) ≡ is_outside one request
    at None = refl
    at (Some s) = refl
