-- Who holds a name, where locks are kept by the requests that they were granted to.
use Rattle.std.proofs.Common.{◌≡◌, ℕ, Bool, true, false, not, ◌&&◌, ◌||◌, nat_eq, cond, Some, None, List, [], ◌∷◌, ◌++◌, map, refl, ap, sym, ◌∙◌, arith}
use Rattle.std.specs.Cmp.Lexicographic.{pointwise}
use Rattle.std.proofs.lemmas.List.{drop_more, drop_all}
use Rattle.std.proofs.lemmas.List.Folds.{list_any-append}
use Rattle.server_locks.specs.declared.metadata_locks.request.Request.{Request}
use Rattle.server_locks.specs.MetadataLocks.Grants.{HeldName, has_name, is_on, holds, holding_session, least_holder, holder_of}
use Rattle.server_locks.specs.LeastSession.Least.{least}
use Rattle.server_locks.proofs.LeastSession.Sessions.{least-least, least-none}
use Rattle.server_locks.specs.MetadataLocks.LockTable.{held_by}
use Rattle.server_locks.specs.MetadataLocks.Requests.{locks_of}

no_name : (other strong : Bool) (s : ℕ) → None ≡ cond (other && (false && strong)) (Some s) None
no_name true strong s = refl
no_name false strong s = refl

one_more : (other here there strong : Bool) (s : ℕ) → least (cond (other && (here && strong)) (Some s) None) (cond (other && (there && strong)) (Some s) None) ≡ cond (other && ((here || there) && strong)) (Some s) None
one_more false here there strong s = refl
one_more true true true true s = ap Some (omega arith)
one_more true true true false s = refl
one_more true true false strong s = least-none (cond strong (Some s) None)
one_more true false there strong s = refl

holder_of_names : (s : ℕ) (held_so : Bool) (names : List (List ℕ)) (session : ℕ) (name : List ℕ) (exclusive : Bool) → least_holder (map (held_by s held_so) names) session name exclusive ≡ cond (not (nat_eq s session) && (has_name names name && (held_so || not exclusive))) (Some s) None
unfolding least_holder
holder_of_names s held_so [] session name exclusive = no_name (not (nat_eq s session)) (held_so || not exclusive) s
holder_of_names s held_so (here ∷ names) session name exclusive =
    ap (λ rest. least (holding_session session name exclusive (held_by s held_so here)) rest) (holder_of_names s held_so names session name exclusive)
    ∙ one_more (not (nat_eq s session)) (pointwise nat_eq here name) (has_name names name) (held_so || not exclusive) s

pub least_holder-request : (request : Request) (session : ℕ) (name : List ℕ) (exclusive : Bool) → least_holder (locks_of request) session name exclusive ≡ cond (not (nat_eq request.session session) && (has_name request.names name && (request.exclusive || not exclusive))) (Some request.session) None
least_holder-request request = holder_of_names request.session request.exclusive request.names

pub least_holder-append : (held more : List HeldName) (session : ℕ) (name : List ℕ) (exclusive : Bool) → least_holder (held ++ more) session name exclusive ≡ least (least_holder held session name exclusive) (least_holder more session name exclusive)
unfolding least_holder
least_holder-append [] more session name exclusive = refl
least_holder-append (a ∷ held) more session name exclusive =
    ap (λ rest. least (holding_session session name exclusive a) rest) (least_holder-append held more session name exclusive)
    ∙ sym (least-least (holding_session session name exclusive a) (least_holder held session name exclusive) (least_holder more session name exclusive))

nowhere : (own strong : Bool) → false ≡ (own && (false && strong))
nowhere true strong = refl
nowhere false strong = refl

somewhere : (own here there strong : Bool) → ((own && (here && strong)) || (own && (there && strong))) ≡ (own && ((here || there) && strong))
somewhere false here there strong = refl
somewhere true true true true = refl
somewhere true true true false = refl
somewhere true true false true = refl
somewhere true true false false = refl
somewhere true false there strong = refl

pub names_held : (s : ℕ) (held_so : Bool) (names : List (List ℕ)) (session : ℕ) (name : List ℕ) (exclusive : Bool) → holds (map (held_by s held_so) names) session name exclusive ≡ (nat_eq s session && (has_name names name && (held_so || not exclusive)))
unfolding holds
names_held s held_so [] session name exclusive = nowhere (nat_eq s session) (held_so || not exclusive)
names_held s held_so (here ∷ names) session name exclusive =
    ap (λ rest. (nat_eq s session && (pointwise nat_eq here name && (held_so || not exclusive))) || rest) (names_held s held_so names session name exclusive)
    ∙ somewhere (nat_eq s session) (pointwise nat_eq here name) (has_name names name) (held_so || not exclusive)

pub holds-request : (request : Request) (session : ℕ) (name : List ℕ) (exclusive : Bool) → holds (locks_of request) session name exclusive ≡ (nat_eq request.session session && (has_name request.names name && (request.exclusive || not exclusive)))
holds-request request = names_held request.session request.exclusive request.names

pub holds-append : (held more : List HeldName) (session : ℕ) (name : List ℕ) (exclusive : Bool) → holds (held ++ more) session name exclusive ≡ (holds held session name exclusive || holds more session name exclusive)
unfolding holds
holds-append held more session name exclusive = list_any-append (λ (other : HeldName). nat_eq other.session session && is_on other name exclusive) held more

pub holds-none : (session : ℕ) (name : List ℕ) (exclusive : Bool) → holds [] session name exclusive ≡ false
unfolding holds
holds-none session name exclusive = refl

first_of : (s : ℕ) (held_so : Bool) (names : List (List ℕ)) (rest : List HeldName) (name : List ℕ) → holder_of (map (held_by s held_so) names ++ rest) name ≡ cond (has_name names name && (held_so || false)) (Some s) (holder_of rest name)
unfolding holder_of
first_of s held_so [] rest name = refl
first_of s held_so (here ∷ names) rest name =
    ap (λ others. cond (pointwise nat_eq here name && (held_so || false)) (Some s) others) (first_of s held_so names rest name)
    ∙ chosen (pointwise nat_eq here name) (has_name names name) (held_so || false)
  where
    chosen : (here there strong : Bool) → cond (here && strong) (Some s) (cond (there && strong) (Some s) (holder_of rest name)) ≡ cond ((here || there) && strong) (Some s) (holder_of rest name)
    chosen true true true = refl
    chosen true true false = refl
    chosen true false true = refl
    chosen true false false = refl
    chosen false there strong = refl

pub holder_of-request : (request : Request) (rest : List HeldName) (name : List ℕ) → holder_of (locks_of request ++ rest) name ≡ cond (has_name request.names name && (request.exclusive || false)) (Some request.session) (holder_of rest name)
holder_of-request request = first_of request.session request.exclusive request.names

pub least_holder-none : (session : ℕ) (name : List ℕ) (exclusive : Bool) → least_holder [] session name exclusive ≡ None
unfolding least_holder
least_holder-none session name exclusive = refl

pub holder_of-none : (name : List ℕ) → holder_of [] name ≡ None
unfolding holder_of
holder_of-none name = refl

pub ruleset of_request = (least_holder-request)

pub ruleset of_all = (least-least, least-none, least_holder-append, holds-append, holds-request, holds-none, least_holder-none, holder_of-none, holder_of-request, drop_more, drop_all)
