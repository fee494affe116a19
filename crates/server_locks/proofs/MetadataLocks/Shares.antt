-- Who has a shared lock on a name, where locks are kept by the requests that they were granted to.
use Rattle.std.proofs.Common.{◌≡◌, ℕ, Bool, true, false, not, ◌&&◌, ◌||◌, nat_eq, List, [], ◌∷◌, ◌++◌, map, refl, ap, ◌∙◌}
use Rattle.std.specs.Cmp.Lexicographic.{pointwise}
use Rattle.std.proofs.lemmas.List.{drop_more, drop_all}
use Rattle.std.proofs.lemmas.List.Folds.{list_any-append}
use Rattle.server_locks.specs.declared.metadata_locks.request.Request.{Request}
use Rattle.server_locks.specs.MetadataLocks.Grants.{HeldName, has_name}
use Rattle.server_locks.specs.MetadataLocks.LockTable.{held_by, shares}
use Rattle.server_locks.specs.MetadataLocks.Requests.{locks_of}

nowhere : (own held_so : Bool) → false ≡ (not held_so && (own && false))
nowhere true true = refl
nowhere true false = refl
nowhere false true = refl
nowhere false false = refl

somewhere : (own here there held_so : Bool) → ((own && (here && not held_so)) || (not held_so && (own && there))) ≡ (not held_so && (own && (here || there)))
somewhere false here there true = refl
somewhere false here there false = refl
somewhere true true there true = refl
somewhere true true there false = refl
somewhere true false there true = refl
somewhere true false there false = refl

names_shared : (s : ℕ) (held_so : Bool) (names : List (List ℕ)) (session : ℕ) (name : List ℕ) → shares (map (held_by s held_so) names) session name ≡ (not held_so && (nat_eq s session && has_name names name))
unfolding shares
names_shared s held_so [] session name = nowhere (nat_eq s session) held_so
names_shared s held_so (here ∷ names) session name =
    ap (λ rest. (nat_eq s session && (pointwise nat_eq here name && not held_so)) || rest) (names_shared s held_so names session name)
    ∙ somewhere (nat_eq s session) (pointwise nat_eq here name) (has_name names name) held_so

pub shares-request : (request : Request) (session : ℕ) (name : List ℕ) → shares (locks_of request) session name ≡ (not request.exclusive && (nat_eq request.session session && has_name request.names name))
shares-request request session name = names_shared request.session request.exclusive request.names session name

pub shares-append : (held more : List HeldName) (session : ℕ) (name : List ℕ) → shares (held ++ more) session name ≡ (shares held session name || shares more session name)
unfolding shares
shares-append held more session name = list_any-append (λ (other : HeldName). nat_eq other.session session && (pointwise nat_eq other.name name && not other.exclusive)) held more

pub shares-none : (session : ℕ) (name : List ℕ) → shares [] session name ≡ false
unfolding shares
shares-none session name = refl

pub ruleset of_request = (shares-request)

pub ruleset of_all = (shares-append, shares-none, drop_more, drop_all)
