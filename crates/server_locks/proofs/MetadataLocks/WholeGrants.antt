-- A granted ask gives all the names.
use Rattle.std.proofs.Common.{◌≡◌, ◌≢◌, ℕ, Bool, true, false, not, nat_eq, ◌&&◌, ◌||◌, cond, List, [], ◌∷◌, ◌++◌, map, filter, Option, Some, None, refl, ap, ◌∙◌, ◌⊎◌, inl, inr}
use Rattle.std.specs.Cmp.{nat_eq_equiv}
use Rattle.std.specs.Cmp.Lexicographic.{pointwise}
use Rattle.std.specs.List.{AllByRecursion}
use Rattle.std.proofs.Math.Bool.{or-not_self}
use Rattle.std.proofs.lemmas.Bool.{or_right}
use Rattle.std.proofs.lemmas.Cmp.{nat_list_eq_equiv}
use Rattle.server_locks.specs.declared.metadata_locks.request.LockAnswer.TheVariants as answers
use Rattle.server_locks.specs.MetadataLocks.Grants.{HeldName, has_name, holds, answer_by}
use Rattle.server_locks.specs.MetadataLocks.LockTable.{NameTable, held_by, added, asked_by, blocker_of}
use Rattle.server_locks.specs.MetadataLocks.Laws.{GrantsWhole}
use Rattle.server_locks.proofs.MetadataLocks.Holders.{holds-append, names_held}

-- the names are among these
abbrev Among : List (List ℕ) → List (List ℕ) → Type 0
Among names all = AllByRecursion (λ name. has_name all name ≡ true) names

further : (names all : List (List ℕ)) (more : List ℕ) → Among names all → Among names (more ∷ all)
further [] all more among = tt
further (name ∷ names) all more among = (or_right (pointwise nat_eq more name) (has_name all name) among.0, further names all more among.1)

all_among : (names : List (List ℕ)) → Among names names
all_among [] = tt
all_among (name ∷ names) = (ap (λ b. b || has_name names name) (nat_list_eq_equiv.refl name), further names names name (all_among names))

-- the session holds the name once a lock on it was added
once_added : (held : List HeldName) (session : ℕ) (exclusive : Bool) (all : List (List ℕ)) (name : List ℕ) → has_name all name ≡ true → holds (held ++ map (held_by session exclusive) all) session name exclusive ≡ true
once_added held session exclusive all name among =
    holds-append held (map (held_by session exclusive) all) session name exclusive
    ∙ or_right (holds held session name exclusive) (holds (map (held_by session exclusive) all) session name exclusive)
    (names_held session exclusive all session name exclusive
    ∙ ap (λ b. b && (has_name all name && (exclusive || not exclusive))) (nat_eq_equiv.refl session)
    ∙ ap (λ b. b && (exclusive || not exclusive)) among
    ∙ or-not_self exclusive)

-- what the session held it still holds
still : (held more : List HeldName) (session : ℕ) (name : List ℕ) (exclusive : Bool) → holds held session name exclusive ≡ true → holds (held ++ more) session name exclusive ≡ true
still held more session name exclusive e = holds-append held more session name exclusive ∙ ap (λ b. b || holds more session name exclusive) e

each : (held : List HeldName) (session : ℕ) (exclusive : Bool) (all names : List (List ℕ)) → Among names all → AllByRecursion (λ name. holds (held ++ map (held_by session exclusive) all) session name exclusive ≡ true) names
each held session exclusive all [] among = tt
each held session exclusive all (name ∷ names) among = (once_added held session exclusive all name among.0, each held session exclusive all names among.1)

-- a name is held already or among the lacked
abbrev Either : List HeldName → ℕ → List (List ℕ) → List ℕ → Type 0
Either held session lacked name = (holds held session name false ≡ true) ⊎ (has_name lacked name ≡ true)

either_further : (held : List HeldName) (session : ℕ) (lacked names : List (List ℕ)) (more : List ℕ) → AllByRecursion (Either held session lacked) names → AllByRecursion (Either held session (more ∷ lacked)) names
either_further held session lacked [] more either = tt
either_further held session lacked (name ∷ names) more either = (
  elim either.0 [
    | inl held_already ↦ inl held_already
    | inr lacks ↦ inr (or_right (pointwise nat_eq more name) (has_name lacked name) lacks)
  ],
  either_further held session lacked names more either.1,
)

either_if : (holding : Bool) (held : List HeldName) (session : ℕ) (lacked names : List (List ℕ)) (name : List ℕ) → holds held session name false ≡ holding → AllByRecursion (Either held session lacked) names → AllByRecursion (Either held session (cond (not holding) (name ∷ lacked) lacked)) (name ∷ names)
either_if true held session lacked names name e either = (inl e, either)
either_if false held session lacked names name e either = (inr (ap (λ b. b || has_name lacked name) (nat_list_eq_equiv.refl name)), either_further held session lacked names name either)

either_way : (held : List HeldName) (session : ℕ) (names : List (List ℕ)) → AllByRecursion (Either held session (filter (λ name. not (holds held session name false)) names)) names
either_way held session [] = tt
either_way held session (name ∷ names) = either_if (holds held session name false) held session (filter (λ other. not (holds held session other false)) names) names name refl (either_way held session names)

each_either : (held : List HeldName) (session : ℕ) (lacked names : List (List ℕ)) → AllByRecursion (Either held session lacked) names → AllByRecursion (λ name. holds (held ++ map (held_by session false) lacked) session name false ≡ true) names
each_either held session lacked [] either = tt
each_either held session lacked (name ∷ names) either = (
  elim either.0 [
    | inl held_already ↦ still held (map (held_by session false) lacked) session name false held_already
    | inr lacks ↦ once_added held session false lacked name lacks
  ],
  each_either held session lacked names either.1,
)

all_added : (held : List HeldName) (session : ℕ) (exclusive : Bool) (names : List (List ℕ)) → AllByRecursion (λ name. holds (held ++ added held session exclusive names) session name exclusive ≡ true) names
all_added held session true names = each held session true names names (all_among names)
all_added held session false names = each_either held session (filter (λ name. not (holds held session name false)) names) names (either_way held session names)

whole : (blocker : Option ℕ) (t : NameTable) (session : ℕ) (exclusive : Bool) (names : List (List ℕ)) → ((answer_by blocker ≡ answers.Granted) × AllByRecursion (λ name. holds (asked_by blocker t session exclusive names).held session name exclusive ≡ true) names) ⊎ ((answer_by blocker ≢ answers.Granted) × ((asked_by blocker t session exclusive names).held ≡ t.held))
whole None t session exclusive names = inl (refl, all_added t.held session exclusive names)
whole (Some by) t session true names = inr ((λ e. cc), refl)
whole (Some by) t session false names = inr ((λ e. cc), refl)

pub grants_whole : GrantsWhole
grants_whole t session exclusive names = whole (blocker_of t session exclusive names) t session exclusive names
