-- Who is alone waits for nobody.
use Rattle.std.proofs.Common.{◌≡◌, ℕ, Bool, true, false, cond, List, [], ◌∷◌, Option, None, refl, ap}
use Rattle.std.specs.Prelude.{◌==◌}
use Rattle.std.specs.List.{AllByRecursion}
use Rattle.server_locks.specs.MetadataLocks.Grants.{HeldName, holds, least_holder, least_waiter, place_of, blocker_of_name, blocker_of_names}
use Rattle.server_locks.specs.declared.row_locks.lock.Lock.{Lock}
use Rattle.server_locks.specs.declared.row_locks.lock.HeldLock.{HeldLock}
use Rattle.server_locks.specs.RowLocks.Grants.{refusal, blocker_of_lock, blocker_of_set}
use Rattle.server_model.specs.declared.need.Need.{Need}
use Rattle.server_model.specs.Blockers.{blocker, need}
use Rattle.server_model.specs.PlainServer.{called_unless, calls}
use Rattle.server_model.specs.States.{State, locks_held, names_held, waiters}
use Rattle.proof_resume.specs.Settled.Alone.{CallsAreDoneAlone, HoldsAlone}

nobody_holds : (held : List HeldName) (number : ℕ) (name : List ℕ) (exclusive : Bool) → AllByRecursion (λ one. (one.session == number) ≡ true) held → least_holder held number name exclusive ≡ None
unfolding least_holder
nobody_holds [] number name exclusive own = refl
nobody_holds (one ∷ held) number name exclusive own = rw (own.0, nobody_holds held number name exclusive own.1) refl

nobody_blocks_name : (held : List HeldName) (number : ℕ) (name : List ℕ) (exclusive : Bool) → AllByRecursion (λ one. (one.session == number) ≡ true) held → blocker_of_name held [] number name exclusive ≡ None
unfolding blocker_of_name least_waiter place_of
nobody_blocks_name held number name false own = rw (nobody_holds held number name true own) (by (holds held number name false)) where
  by : (b : Bool) → cond b None (let none : Option ℕ = None in none) ≡ None
  by true = refl
  by false = refl
nobody_blocks_name held number name true own = rw (nobody_holds held number name false own) (by (holds held number name true)) where
  by : (b : Bool) → cond b None (let none : Option ℕ = None in none) ≡ None
  by true = refl
  by false = refl

nobody_blocks_names : (held : List HeldName) (number : ℕ) (exclusive : Bool) (names : List (List ℕ)) → AllByRecursion (λ one. (one.session == number) ≡ true) held → blocker_of_names held [] number exclusive names ≡ None
unfolding blocker_of_names
nobody_blocks_names held number exclusive [] own = refl
nobody_blocks_names held number exclusive (name ∷ names) own = rw (nobody_blocks_name held number name exclusive own, nobody_blocks_names held number exclusive names own) refl

nobody_blocks_lock : (held : List HeldLock) (number : ℕ) (lock : Lock) → AllByRecursion (λ one. (one.session == number) ≡ true) held → blocker_of_lock held number lock ≡ None
unfolding blocker_of_lock refusal
nobody_blocks_lock [] number lock own = refl
nobody_blocks_lock (one ∷ held) number lock own = rw (own.0, nobody_blocks_lock held number lock own.1) refl

nobody_blocks_set : (held : List HeldLock) (number : ℕ) (set : List Lock) → AllByRecursion (λ one. (one.session == number) ≡ true) held → blocker_of_set held number set ≡ None
unfolding blocker_of_set
nobody_blocks_set held number [] own = refl
nobody_blocks_set held number (lock ∷ set) own = rw (nobody_blocks_lock held number lock own, nobody_blocks_set held number set own) refl

nobody_blocks : (state : State) (number : ℕ) (need : Need) → HoldsAlone state number → blocker state number need ≡ None
nobody_blocks state number need alone =
    rw (ap waiters alone.waits, nobody_blocks_names (names_held state.sessions) number need.exclusive need.names alone.names, nobody_blocks_set (locks_held state.sessions) number need.locks alone.locks) refl

-- *Calls are done alone.*
pub calls_are_done_alone : CallsAreDoneAlone
unfolding calls
calls_are_done_alone state number request alone = ap (λ (by : Option ℕ). called_unless by state number request) (nobody_blocks state number (need state number request) alone)
