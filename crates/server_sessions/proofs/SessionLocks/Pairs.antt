-- Who refuses one of several names.
use Rattle.std.proofs.Common.{◌≡◌, ℕ, Bool, None, List, [], ◌∷◌, refl}
use Rattle.std.proofs.lemmas.List.{drop_more, drop_all}
use Rattle.server_locks.specs.declared.metadata_locks.request.Waiter.{Waiter}
use Rattle.server_locks.specs.MetadataLocks.Grants.{HeldName, blocker_of_name, blocker_of_names}
use Rattle.server_locks.specs.LeastSession.Least.{least}
use Rattle.server_locks.proofs.LeastSession.Sessions.{least-least, least-none}

pub blocker-none : (held : List HeldName) (waiting : List Waiter) (number : ℕ) (exclusive : Bool) → blocker_of_names held waiting number exclusive [] ≡ None
unfolding blocker_of_names
blocker-none held waiting number exclusive = refl

pub blocker-more : (held : List HeldName) (waiting : List Waiter) (number : ℕ) (exclusive : Bool) (name : List ℕ) (names : List (List ℕ)) → blocker_of_names held waiting number exclusive (name ∷ names) ≡ least (blocker_of_name held waiting number name exclusive) (blocker_of_names held waiting number exclusive names)
unfolding blocker_of_names
blocker-more held waiting number exclusive name names = refl

pub ruleset steps = (least-least, least-none, blocker-none, blocker-more, drop_more, drop_all)
