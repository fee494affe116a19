-- Keys of which no two have one name, sorted into those that are unique and the others.
use Rattle.std.proofs.Common.{◌≡◌, ℕ, Bool, true, false, not, cond, List, [], ◌∷◌, ◌++◌, Option, Some, None, unwrap_or, refl, sym, ap, subst, map}
use Rattle.std.specs.Prelude.{is_some, filter}
use Rattle.std.specs.List.{AllByRecursion}
use Rattle.base_values.specs.GhoSchema.Names.{same_name}
use Rattle.sql_create.specs.declared.written.WrittenKey.{WrittenKey}
use Rattle.base_values.proofs.SchemaRules.Lists.{All-append, All-filter}
use Rattle.proof_schemas.proofs.ReadAgain.Differ.{Differ}
use Rattle.base_values.proofs.SchemaRules.SameNames.{other_name-turned}
use Rattle.proof_schemas.proofs.ReadAgain.Parted.{IsNamedText, text_names}

module _ {X : Type 0} (R : X → X → Type 0) (turned : (x y : X) → R x y → R y x) where
  -- each is apart from those behind it
  abbrev Apart : List X → Type 0
  Apart [] = Unit {0}
  Apart (x ∷ xs) = AllByRecursion (R x) xs × Apart xs

  all-put : (y x : X) (before following : List X) → R y x → AllByRecursion (R y) (before ++ following) → AllByRecursion (R y) (before ++ x ∷ following)
  all-put y x [] following apart all = (apart, all)
  all-put y x (b ∷ before) following apart all = (all.0, all-put y x before following apart all.1)

  apart-put : (x : X) (before following : List X) → AllByRecursion (R x) before → AllByRecursion (R x) following → Apart (before ++ following) → Apart (before ++ x ∷ following)
  apart-put x [] following ahead rest apart = (rest, apart)
  apart-put x (b ∷ before) following ahead rest apart = (all-put b x before following (turned x b ahead.0) apart.0, apart-put x before following ahead.1 rest apart.1)

  apart-one : (test : X → Bool) (b : Bool) (x : X) (before following : List X) → AllByRecursion (R x) before → AllByRecursion (R x) following → Apart (before ++ following) → Apart (cond b (x ∷ before) before ++ cond (not b) (x ∷ following) following)
  apart-one test true x before following ahead rest apart = (All-append (R x) before following ahead rest, apart)
  apart-one test false x before following ahead rest apart = apart-put x before following ahead rest apart

  pub apart-sorted : (test : X → Bool) (xs : List X) → Apart xs → Apart (filter test xs ++ filter (λ x. not (test x)) xs)
  apart-sorted test [] apart = tt
  apart-sorted test (x ∷ xs) apart =
      apart-one test (test x) x (filter test xs) (filter (λ y. not (test y)) xs) (All-filter (R x) test xs apart.0) (All-filter (R x) (λ y. not (test y)) xs apart.0) (apart-sorted test xs apart.1)

-- ---- names of keys

abbrev own_name : WrittenKey → List ℕ
own_name key = unwrap_or key.text.name []

abbrev OtherNames : WrittenKey → WrittenKey → Type 0
OtherNames a b = same_name (own_name a) (own_name b) ≡ false

names-turned : (a b : WrittenKey) → OtherNames a b → OtherNames b a
names-turned a b e = other_name-turned (own_name a) (own_name b) e

abbrev named_front : Option (List ℕ) → List (List ℕ) → List (List ℕ)
named_front None names = names
named_front (Some name) names = name ∷ names

front-is : (o : Option (List ℕ)) (names : List (List ℕ)) → is_some o ≡ true → named_front o names ≡ unwrap_or o [] ∷ names
front-is None names some = absurd cc
front-is (Some name) names some = refl

front-text : (key : WrittenKey) (o : Option (List ℕ)) (keys : List WrittenKey) → key.text.name ≡ o → text_names (key ∷ keys) ≡ named_front o (text_names keys)
front-text key None keys e = rw e refl
front-text key (Some name) keys e = rw e refl

names-map : (keys : List WrittenKey) → AllByRecursion IsNamedText keys → text_names keys ≡ map own_name keys
names-map [] named = refl
names-map (key ∷ keys) named =
    let rest = names-map keys named.1 in
    rw (front-text key key.text.name keys refl, front-is key.text.name (text_names keys) named.0) (ap (λ (names : List (List ℕ)). own_name key ∷ names) rest)

all-names : (name : List ℕ) (keys : List WrittenKey) → AllByRecursion (λ other. same_name name other ≡ false) (map own_name keys) → AllByRecursion (λ key. same_name name (own_name key) ≡ false) keys
all-names name [] all = tt
all-names name (key ∷ keys) all = (all.0, all-names name keys all.1)

names-all : (name : List ℕ) (keys : List WrittenKey) → AllByRecursion (λ key. same_name name (own_name key) ≡ false) keys → AllByRecursion (λ other. same_name name other ≡ false) (map own_name keys)
names-all name [] all = tt
names-all name (key ∷ keys) all = (all.0, names-all name keys all.1)

differ-apart : (keys : List WrittenKey) → Differ (map own_name keys) → Apart OtherNames names-turned keys
differ-apart [] differ = tt
differ-apart (key ∷ keys) differ = (all-names (own_name key) keys differ.0, differ-apart keys differ.1)

apart-differ : (keys : List WrittenKey) → Apart OtherNames names-turned keys → Differ (map own_name keys)
apart-differ [] apart = tt
apart-differ (key ∷ keys) apart = (names-all (own_name key) keys apart.0, apart-differ keys apart.1)

-- keys of different names have different names when the unique ones stand in front
pub differ-sorted : (keys : List WrittenKey) → AllByRecursion IsNamedText keys → Differ (text_names keys) → Differ (text_names (filter (λ key. key.is_unique) keys ++ filter (λ key. not key.is_unique) keys))
differ-sorted keys named differ =
    let sorted = filter (λ (key : WrittenKey). key.is_unique) keys ++ filter (λ (key : WrittenKey). not key.is_unique) keys in
    let all : AllByRecursion IsNamedText sorted = All-append IsNamedText (filter (λ (key : WrittenKey). key.is_unique) keys) (filter (λ (key : WrittenKey). not key.is_unique) keys) (All-filter IsNamedText (λ key. key.is_unique) keys named) (All-filter IsNamedText (λ key. not key.is_unique) keys named) in
    let own : Differ (map own_name keys) = subst Differ (names-map keys named) differ in
    let apart = apart-sorted OtherNames names-turned (λ (key : WrittenKey). key.is_unique) keys (differ-apart keys own) in
    subst Differ (sym (names-map sorted all)) (apart-differ sorted apart)
