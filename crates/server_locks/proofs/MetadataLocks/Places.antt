-- Where a session's request stands.
use Rattle.std.proofs.Common.{◌≡◌, ◌≢◌, ℕ, ◌<◌, zero, suc, Option, Some, None, List, [], ◌∷◌, length, get_or, take, drop, refl, ap, arith, add-one}
use Rattle.std.specs.Option.{option_map}
use Rattle.std.proofs.lemmas.Bool.{eq-eqb, ne_eqb}
use Rattle.server_locks.specs.declared.metadata_locks.request.Waiter.{Waiter}
use Rattle.server_locks.specs.MetadataLocks.Grants.{QueuePlace, place_of}
use Rattle.server_locks.specs.MetadataLocks.WaitQueue.{round}

-- no request in front of this place is the session's
abbrev pub NoneBelow : ℕ → List Waiter → ℕ → Type 0
NoneBelow session waiting i = (k : ℕ) (d : Waiter) → k < i → (get_or waiting k d).session ≢ session

-- with one more request in front
abbrev following : Waiter → Option QueuePlace → Option QueuePlace
following first place = option_map (λ (p : QueuePlace). record { front = first ∷ p.front; request = p.request; following = p.following }) place

found_at : (session : ℕ) (waiting : List Waiter) (i : ℕ) (past d : Waiter) → i < length waiting → (get_or waiting i d).session ≡ session → NoneBelow session waiting i → place_of session waiting ≡ Some (record { front = take i waiting; request = get_or waiting i past; following = drop (suc i) waiting })
unfolding place_of
found_at session [] i past d within here none = absurd (omega arith)
found_at session (first ∷ waiting) zero past d within here none = rw (eq-eqb first.session session here) refl
found_at session (first ∷ waiting) (suc i) past d within here none =
    rw (ne_eqb first.session session (none 0 first (omega arith)))
    (ap (following first) (found_at session waiting i past d (omega arith) here (λ k e below. none (suc k) e (omega arith))))

pub found : (session : ℕ) (waiting : List Waiter) (i : ℕ) (past d : Waiter) → i < length waiting → (get_or waiting i d).session ≡ session → NoneBelow session waiting i → place_of session waiting ≡ Some (round waiting i past)
found session waiting i past d within here none = rw add-one (found_at session waiting i past d within here none)

pub missing : (session : ℕ) (waiting : List Waiter) → NoneBelow session waiting (length waiting) → place_of session waiting ≡ None
unfolding place_of
missing session [] none = refl
missing session (first ∷ waiting) none =
    rw (ne_eqb first.session session (none 0 first (omega arith)))
    (ap (following first) (missing session waiting (λ k e below. none (suc k) e (omega arith))))
