-- What a session that leaves takes away, where locks are kept by the requests that they were granted to.
use Rattle.std.proofs.Common.{◌≡◌, ℕ, suc, Bool, true, false, not, ◌&&◌, ◌||◌, nat_eq, cond, List, [], ◌∷◌, ◌++◌, map, filter, length, refl, ap, sym, ◌∙◌, arith}
use Rattle.std.specs.List.{list_any}
use Rattle.std.proofs.Math.Bool.{and-false}
use Rattle.std.proofs.lemmas.List.{drop_more, drop_all}
use Rattle.std.proofs.lemmas.List.Elements.{filter-append}
use Rattle.std.proofs.lemmas.List.Folds.{list_any-append}
use Rattle.std.proofs.lemmas.Bool.Decides.{nat_tests}
use Rattle.server_locks.specs.declared.metadata_locks.request.Request.{Request}
use Rattle.server_locks.specs.MetadataLocks.Grants.{HeldName}
use Rattle.server_locks.specs.MetadataLocks.LockTable.{held_by, is_own}
use Rattle.server_locks.specs.MetadataLocks.Requests.{locks_of, all_locks}

full : (n : ℕ) → not (nat_eq (suc n) 0) ≡ true
full n = grind (arith, nat_tests)

-- what is asked of a session and a way of holding
names_of : (test : ℕ → Bool → Bool) (s : ℕ) (held_so : Bool) (names : List (List ℕ)) → list_any (λ (held : HeldName). test held.session held.exclusive) (map (held_by s held_so) names) ≡ (test s held_so && not (nat_eq (length names) 0))
names_of test s held_so [] = sym (and-false (test s held_so))
names_of test s held_so (name ∷ names) =
    ap (λ rest. test s held_so || rest) (names_of test s held_so names)
    ∙ once (test s held_so) (not (nat_eq (length names) 0))
    ∙ ap (λ some. test s held_so && some) (sym (full (length names)))
  where
    once : (b c : Bool) → (b || (b && c)) ≡ (b && true)
    once true c = refl
    once false c = refl

pub list_any-request : (request : Request) (session : ℕ) → list_any (λ (held : HeldName). nat_eq held.session session) (locks_of request) ≡ (nat_eq request.session session && not (nat_eq (length request.names) 0))
list_any-request request session = names_of (λ s held_so. nat_eq s session) request.session request.exclusive request.names

pub list_any-own : (request : Request) (session : ℕ) (exclusive : Bool)
    → list_any (is_own session exclusive) (locks_of request) ≡ ((nat_eq request.session session && cond exclusive request.exclusive (not request.exclusive)) && not (nat_eq (length request.names) 0))
list_any-own request session exclusive = names_of (λ s held_so. nat_eq s session && cond exclusive held_so (not held_so)) request.session request.exclusive request.names

pub any-append : (session : ℕ) (held more : List HeldName) → list_any (λ (held : HeldName). nat_eq held.session session) (held ++ more) ≡ (list_any (λ (held : HeldName). nat_eq held.session session) held || list_any (λ (held : HeldName). nat_eq held.session session) more)
any-append session held more = list_any-append (λ (held : HeldName). nat_eq held.session session) held more

pub own-append : (session : ℕ) (exclusive : Bool) (held more : List HeldName) → list_any (is_own session exclusive) (held ++ more) ≡ (list_any (is_own session exclusive) held || list_any (is_own session exclusive) more)
own-append session exclusive held more = list_any-append (is_own session exclusive) held more

pub ruleset of_request = (list_any-request, list_any-own)

pub ruleset of_all = (any-append, own-append, drop_more, drop_all)

-- what a session and a way of holding leaves
pub names_left : (leaves : ℕ → Bool → Bool) (s : ℕ) (held_so : Bool) (names : List (List ℕ)) → filter (λ (held : HeldName). leaves held.session held.exclusive) (map (held_by s held_so) names) ≡ cond (leaves s held_so) (map (held_by s held_so) names) []
names_left leaves s held_so [] = nothing (leaves s held_so) []
  where
    nothing : (b : Bool) (none : List HeldName) → none ≡ cond b none none
    nothing true none = refl
    nothing false none = refl
names_left leaves s held_so (name ∷ names) =
    ap (λ rest. cond (leaves s held_so) (held_by s held_so name ∷ rest) rest) (names_left leaves s held_so names) ∙ once (leaves s held_so)
  where
    once : (b : Bool) → cond b (held_by s held_so name ∷ cond b (map (held_by s held_so) names) []) (cond b (map (held_by s held_so) names) []) ≡ cond b (held_by s held_so name ∷ map (held_by s held_so) names) []
    once true = refl
    once false = refl

pub requests_left : (leaves : ℕ → Bool → Bool) (granted : List Request) → all_locks (filter (λ (request : Request). leaves request.session request.exclusive) granted) ≡ filter (λ (held : HeldName). leaves held.session held.exclusive) (all_locks granted)
requests_left leaves [] = refl
requests_left leaves (request ∷ granted) =
    parted (leaves request.session request.exclusive)
    ∙ ap (λ rest. cond (leaves request.session request.exclusive) (locks_of request) [] ++ rest) (requests_left leaves granted)
    ∙ ap (λ own. own ++ filter (λ (held : HeldName). leaves held.session held.exclusive) (all_locks granted)) (sym (names_left leaves request.session request.exclusive request.names))
    ∙ sym (filter-append (λ (held : HeldName). leaves held.session held.exclusive) (locks_of request) (all_locks granted))
  where
    parted : (b : Bool) → all_locks (cond b (request ∷ filter (λ (other : Request). leaves other.session other.exclusive) granted) (filter (λ (other : Request). leaves other.session other.exclusive) granted)) ≡ cond b (locks_of request) [] ++ all_locks (filter (λ (other : Request). leaves other.session other.exclusive) granted)
    parted true = refl
    parted false = refl

pub locks_left : (granted : List Request) (session : ℕ) → all_locks (filter (λ (request : Request). not (nat_eq request.session session)) granted) ≡ filter (λ (held : HeldName). not (nat_eq held.session session)) (all_locks granted)
locks_left granted session = requests_left (λ s held_so. not (nat_eq s session)) granted

-- ... of those that the session holds exclusively, or else shared
pub own_left : (granted : List Request) (session : ℕ) (exclusive : Bool)
    → all_locks (filter (λ (request : Request). not (nat_eq request.session session && cond exclusive request.exclusive (not request.exclusive))) granted) ≡ filter (λ (held : HeldName). not (is_own session exclusive held)) (all_locks granted)
own_left granted session exclusive = requests_left (λ s held_so. not (nat_eq s session && cond exclusive held_so (not held_so))) granted
