-- The names that a session holds exclusively, or else shared, where locks are kept by the requests that they were granted to.
use Rattle.std.proofs.Common.{◌≡◌, ℕ, ◌+◌, ◌<◌, ◌≤◌, Bool, true, false, not, ◌&&◌, nat_eq, nat_lt, cond, Option, Some, None, List, [], ◌∷◌, ◌++◌, map, length, get_or, drop, position, refl, ap, sym, ◌∙◌, arith}
use Rattle.std.specs.Prelude.{min, unwrap_or}
use Rattle.std.specs.Cmp.Lexicographic.{pointwise}
use Rattle.std.proofs.lemmas.Bool.Decides.{nat_tests}
use Rattle.std.proofs.lemmas.List.{drop_more, map-append}
use Rattle.std.proofs.lemmas.List.Elements.{filter-append}
use Rattle.std.proofs.lemmas.List.Folds.{prefix_len-append}
use Rattle.std.proofs.lemmas.List.Sums.{prefix_len-le-length}
use Rattle.server_locks.specs.declared.metadata_locks.request.Request.{Request}
use Rattle.server_locks.specs.MetadataLocks.Grants.{HeldName}
use Rattle.server_locks.specs.MetadataLocks.LockTable.{held_by, is_own, own_names, place_among}
use Rattle.server_locks.specs.MetadataLocks.Requests.{locks_of, all_locks}
use Rattle.server_locks.proofs.MetadataLocks.Leaving.{names_left}

same_names : (s : ℕ) (held_so : Bool) (names : List (List ℕ)) → map (λ (one : HeldName). one.name) (map (held_by s held_so) names) ≡ names
same_names s held_so [] = refl
same_names s held_so (name ∷ names) = ap (λ (rest : List (List ℕ)). name ∷ rest) (same_names s held_so names)

-- the request is the session's, and for such locks
abbrev pub is_so : ℕ → Bool → Request → Bool
is_so session exclusive request = nat_eq request.session session && cond exclusive request.exclusive (not request.exclusive)

names_if : (b : Bool) (s : ℕ) (held_so : Bool) (names : List (List ℕ)) → map (λ (one : HeldName). one.name) (cond b (map (held_by s held_so) names) []) ≡ cond b names []
names_if true s held_so names = same_names s held_so names
names_if false s held_so names = refl

own_names-request : (session : ℕ) (exclusive : Bool) (request : Request) → own_names session exclusive (locks_of request) ≡ cond (is_so session exclusive request) request.names []
own_names-request session exclusive request =
    ap (map (λ (one : HeldName). one.name)) (names_left (λ s held_so. nat_eq s session && cond exclusive held_so (not held_so)) request.session request.exclusive request.names)
    ∙ names_if (is_so session exclusive request) request.session request.exclusive request.names

pub own_names-append : (session : ℕ) (exclusive : Bool) (held more : List HeldName) → own_names session exclusive (held ++ more) ≡ own_names session exclusive held ++ own_names session exclusive more
own_names-append session exclusive held more =
    ap (map (λ (one : HeldName). one.name)) (filter-append (is_own session exclusive) held more) ∙ map-append (λ (one : HeldName). one.name) _ _

-- A NAME'S PLACE

abbrev is_named : List ℕ → List ℕ → Bool
is_named name other = pointwise nat_eq other name

pub place-append : (names more : List (List ℕ)) (name : List ℕ) → place_among (names ++ more) name ≡ cond (nat_eq (place_among names name) (length names)) (length names + place_among more name) (place_among names name)
place-append names more name = prefix_len-append (λ other. not (is_named name other)) names more

place_within : (names : List (List ℕ)) (name : List ℕ) → place_among names name ≤ length names
place_within names name = prefix_len-le-length (λ other. not (is_named name other)) names

at_place : (b : Bool) (n len place : ℕ) → nat_lt n len ≡ b → cond b (Some n) None ≡ Some place → (n ≡ place) × (nat_eq n len ≡ false)
at_place true n len place is found = (ap (λ (o : Option ℕ). unwrap_or o 0) found, grind (arith, nat_tests, is))
at_place false n len place is found = absurd cc

at_none : (b : Bool) (n len : ℕ) → nat_lt n len ≡ b → cond b (Some n) None ≡ None → n ≤ len → n ≡ len
at_none true n len is none within = absurd cc
at_none false n len is none within = grind (arith, nat_tests, is)

-- the place among all, where the name has one among the first
found_first : (names more : List (List ℕ)) (name : List ℕ) (place : ℕ) → position (is_named name) names ≡ Some place → place_among (names ++ more) name ≡ place
found_first names more name place found =
    let at = at_place (nat_lt (place_among names name) (length names)) (place_among names name) (length names) place refl found in
    place-append names more name ∙ ap (λ b. cond b (length names + place_among more name) (place_among names name)) at.1 ∙ at.0

-- ... and where it has none
none_first : (names more : List (List ℕ)) (name : List ℕ) → position (is_named name) names ≡ None → place_among (names ++ more) name ≡ length names + place_among more name
none_first names more name none =
    let all = at_none (nat_lt (place_among names name) (length names)) (place_among names name) (length names) refl none (place_within names name) in
    place-append names more name ∙ rw all (ap (λ b. cond b (length names + place_among more name) (length names)) (same (length names)))
  where
    same : (n : ℕ) → nat_eq n n ≡ true
    same n = grind (arith, nat_tests)

-- the names that the requests from this place on have of the session
abbrev pub names_from : List Request → ℕ → ℕ → Bool → List (List ℕ)
names_from granted i session exclusive = own_names session exclusive (all_locks (drop i granted))

one_more : (granted : List Request) (i session : ℕ) (exclusive : Bool) (request : Request) → i < length granted → request ≡ get_or granted i request → names_from granted i session exclusive ≡ cond (is_so session exclusive request) request.names [] ++ names_from granted (i + 1) session exclusive
one_more granted i session exclusive request within is =
    ap (λ (rest : List Request). own_names session exclusive (all_locks rest)) (drop_more granted i request within ∙ ap (λ (first : Request). first ∷ drop (i + 1) granted) (sym is))
    ∙ own_names-append session exclusive (locks_of request) (all_locks (drop (i + 1) granted))
    ∙ ap (λ (names : List (List ℕ)). names ++ names_from granted (i + 1) session exclusive) (own_names-request session exclusive request)

-- one request is passed that isn't the session's for such locks
pub passed_other : (granted : List Request) (i session : ℕ) (exclusive : Bool) (name : List ℕ) (request : Request) → i < length granted → request ≡ get_or granted i request → is_so session exclusive request ≡ false
    → place_among (names_from granted i session exclusive) name ≡ place_among (names_from granted (i + 1) session exclusive) name
passed_other granted i session exclusive name request within is other =
    ap (λ (names : List (List ℕ)). place_among names name)
    (one_more granted i session exclusive request within is ∙ ap (λ b. cond b request.names [] ++ names_from granted (i + 1) session exclusive) other)

-- one is passed that is, and hasn't the name
pub passed_own : (granted : List Request) (i session : ℕ) (exclusive : Bool) (name : List ℕ) (request : Request) → i < length granted → request ≡ get_or granted i request → is_so session exclusive request ≡ true → position (is_named name) request.names ≡ None
    → place_among (names_from granted i session exclusive) name ≡ length request.names + place_among (names_from granted (i + 1) session exclusive) name
passed_own granted i session exclusive name request within is own none =
    ap (λ (names : List (List ℕ)). place_among names name)
    (one_more granted i session exclusive request within is ∙ ap (λ b. cond b request.names [] ++ names_from granted (i + 1) session exclusive) own)
    ∙ none_first request.names (names_from granted (i + 1) session exclusive) name none

-- one is found that has it
pub found_own : (granted : List Request) (i session : ℕ) (exclusive : Bool) (name : List ℕ) (request : Request) (place : ℕ) → i < length granted → request ≡ get_or granted i request → is_so session exclusive request ≡ true → position (is_named name) request.names ≡ Some place
    → place_among (names_from granted i session exclusive) name ≡ place
found_own granted i session exclusive name request place within is own found =
    ap (λ (names : List (List ℕ)). place_among names name)
    (one_more granted i session exclusive request within is ∙ ap (λ b. cond b request.names [] ++ names_from granted (i + 1) session exclusive) own)
    ∙ found_first request.names (names_from granted (i + 1) session exclusive) name place found

-- COUNTS THAT STAND STILL

pub counted : (before after len place rest most all : ℕ) → after ≡ min (before + len) most → place ≡ len + rest → min (before + place) most ≡ all → (after ≤ most) × (min (after + rest) most ≡ all)
counted before after len place rest most all more apart is = (omega (arith, more), omega (arith, more, apart, is))

pub not_counted : (before after place rest most all : ℕ) → after ≡ before → place ≡ rest → (before ≤ most) × (min (before + place) most ≡ all) → (after ≤ most) × (min (after + rest) most ≡ all)
not_counted before after place rest most all same apart is = let within = is.0 in let so = is.1 in (omega (arith, same, within), omega (arith, same, apart, so))
