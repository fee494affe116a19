-- Names that a request mentions, and those that LOCK TABLES holds.
use Rattle.std.proofs.Common.{◌≡◌, ℕ, Bool, true, false, not, ◌&&◌, ◌||◌, cond, List, [], ◌∷◌, map, refl, sym, ap, ◌∙◌}
use Rattle.std.specs.List.{list_any}
use Rattle.std.specs.Str.{bytes_eq}
use Rattle.std.proofs.Math.Bool.{or_assoc, or-false}
use Rattle.std.proofs.lemmas.Cmp.{nat_list_eq_equiv}
use Rattle.server_locks.specs.MetadataLocks.Grants as grants
use Rattle.server_locks.specs.MetadataLocks.Grants.{has_name, holds}
use Rattle.table_store.specs.declared.renames.Pair.{Pair}
use Rattle.server_model.specs.declared.session.HeldName.{HeldName}
use Rattle.server_model.specs.States.{kept_names, locked_names, pair_names}
use Rattle.server_model.specs.Effects.{is_beyond}

-- a name of pairs passes a test where one of a pair does
any_in_pairs : (test : List ℕ → Bool) (pairs : List Pair) → list_any test (pair_names pairs) ≡ list_any (λ pair. test pair.old || test pair.new) pairs
any_in_pairs test [] = refl
any_in_pairs test (pair ∷ pairs) =
    sym (or_assoc (test pair.old) (test pair.new) (list_any test (pair_names pairs)))
    ∙ ap (λ rest. (test pair.old || test pair.new) || rest) (any_in_pairs test pairs)

pub pairs_have : (pairs : List Pair) (name : List ℕ) → has_name (pair_names pairs) name ≡ list_any (λ pair. bytes_eq pair.old name || bytes_eq pair.new name) pairs
pairs_have pairs name = any_in_pairs (λ other. bytes_eq other name) pairs

pub pairs_any : (table : List grants.HeldName) (number : ℕ) (pairs : List Pair) → list_any (λ name. not (holds table number name true)) (pair_names pairs) ≡ list_any (λ pair. not (holds table number pair.old true) || not (holds table number pair.new true)) pairs
pairs_any table number pairs = any_in_pairs (λ name. not (holds table number name true)) pairs

-- the table is held exclusively, which LOCK TABLES alone does
abbrev pub has_locked : List HeldName → List ℕ → Bool
has_locked held name = list_any (λ (one : HeldName). one.exclusive && bytes_eq name one.name) held

-- the table isn't locked
abbrev is_free : List HeldName → List ℕ → Bool
is_free held name = not (has_locked held name)

locked_at : (b : Bool) (one : HeldName) (name : List ℕ) (held : List HeldName) → list_any (bytes_eq name) (map (λ (h : HeldName). h.name) (cond b (one ∷ held) held)) ≡ ((b && bytes_eq name one.name) || list_any (bytes_eq name) (map (λ (h : HeldName). h.name) held))
locked_at true one name held = refl
locked_at false one name held = refl

locked_one : (held : List HeldName) (name : List ℕ) → list_any (bytes_eq name) (locked_names held) ≡ has_locked held name
locked_one [] name = refl
locked_one (one ∷ held) name =
    locked_at one.exclusive one name (kept_names held)
    ∙ ap (λ rest. (one.exclusive && bytes_eq name one.name) || rest) (locked_one held name)

-- a name that is held exclusively, told the other way round
reported_at : (same other e : Bool) → same ≡ other → (same && (e || false)) ≡ (e && other)
reported_at true other true is = is
reported_at true other false is = refl
reported_at false other true is = is
reported_at false other false is = refl

pub locked_is : (held : List HeldName) (name : List ℕ) → list_any (λ (one : HeldName). bytes_eq one.name name && (one.exclusive || not true)) held ≡ has_locked held name
locked_is [] name = refl
locked_is (one ∷ held) name =
    ap (λ b. b || list_any (λ (o : HeldName). bytes_eq o.name name && (o.exclusive || not true)) held) (reported_at (bytes_eq one.name name) (bytes_eq name one.name) one.exclusive (nat_list_eq_equiv.symm one.name name))
    ∙ ap (λ rest. (one.exclusive && bytes_eq name one.name) || rest) (locked_is held name)

-- the list has an item
abbrev some : {X : Type 0} → List X → Bool
some [] = false
some (x ∷ xs) = true

some_at : (b rest : Bool) (one : HeldName) (held : List HeldName) → rest ≡ some (map (λ (h : HeldName). h.name) held) → (b || rest) ≡ some (map (λ (h : HeldName). h.name) (cond b (one ∷ held) held))
some_at true rest one held is = refl
some_at false rest one held is = is

some_locked : (held : List HeldName) → list_any (λ (one : HeldName). one.exclusive) held ≡ some (locked_names held)
some_locked [] = refl
some_locked (one ∷ held) = some_at one.exclusive (list_any (λ (h : HeldName). h.exclusive) held) one (kept_names held) (some_locked held)

pub any_alike : (one two : List ℕ → Bool) → ((name : List ℕ) → one name ≡ two name) → (names : List (List ℕ)) → list_any one names ≡ list_any two names
any_alike one two alike [] = refl
any_alike one two alike (name ∷ names) = ap (λ b. b || list_any one names) (alike name) ∙ ap (λ b. two name || b) (any_alike one two alike names)

beyond_of : (locked names : List (List ℕ)) → is_beyond locked names ≡ (some locked && list_any (λ name. not (list_any (bytes_eq name) locked)) names)
beyond_of [] names = refl
beyond_of (first ∷ locked) names = refl

-- names are beyond the locked ones where some are locked and one of the names isn't
pub beyond_locked : (held : List HeldName) (names : List (List ℕ)) → is_beyond (locked_names held) names ≡ (list_any (λ (one : HeldName). one.exclusive) held && list_any (λ name. not (has_locked held name)) names)
beyond_locked held names =
    beyond_of (locked_names held) names
    ∙ ap (λ b. b && list_any (λ name. not (list_any (bytes_eq name) (locked_names held))) names) (sym (some_locked held))
    ∙ ap (λ b. list_any (λ (one : HeldName). one.exclusive) held && b) (any_alike (λ name. not (list_any (bytes_eq name) (locked_names held))) (is_free held) (λ name. ap not (locked_one held name)) names)

pub ruleset mentions = (or-false, pairs_have, pairs_any)
