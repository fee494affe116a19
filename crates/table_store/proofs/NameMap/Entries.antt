-- What becomes of the names and the values of a map's entries.
use Rattle.std.proofs.Common.{◌≡◌, ℕ, zero, suc, ◌+◌, ◌<◌, ◌≤◌, Bool, true, false, not, cond, nat_lt, List, [], ◌∷◌, ◌++◌, length, map, set, remove, slice_get, position, String, Some, None, refl, sym, ap, ◌∙◌, subst, ltb-false, arith}
use Rattle.std.specs.List.{insert, list_any, position_or_len}
use Rattle.std.specs.Map.{keys_of, values_of, lookup}
use Rattle.std.specs.Option.{option_map_or}
use Rattle.std.specs.Str.{bytes_eq}
use Rattle.std.specs.String.{string_bytes, string_eq}
use Rattle.std.proofs.Math.Seq.{map-set_same}
use Rattle.std.proofs.lemmas.Cmp.{nat_list_eq_equiv}
use Rattle.std.proofs.lemmas.Bool.{or_parts}
use Rattle.std.proofs.Math.ListN.{get_or-map}
use Rattle.std.proofs.lemmas.List.{length-map, map-set}
use Rattle.std.proofs.lemmas.Option.{slice_get-get_or, slice_get_within, get_or_from_slice_get}
use Rattle.std.proofs.lemmas.List.Sums.{prefix_len-le-length}
use Rattle.indexmap.specs.IndexMap.{IndexMap, move_index, insert_entry, insert_index}
use Rattle.indexmap.proofs.CallerLemmas.{insert_entry-new}
pub use Rattle.indexmap.proofs.SetLemmas.{map-insert, map-remove}
use Rattle.indexmap.specs.Layout.{set_value_at}
use Rattle.table_store.specs.NameMap.NameMaps.{NamedValues, named_values, with_value, names_before, has_name}

-- ---- lists

pub got_map : {X Y : Type 0} (f : X → Y) (xs : List X) (n : ℕ) (x : X) → slice_get xs n ≡ Some x → slice_get (map f xs) n ≡ Some (f x)
got_map f xs n x at =
    slice_get-get_or (map f xs) n (f x) (subst (λ k. n < k) (sym (length-map xs f)) (slice_get_within xs n x at))
    ∙ ap Some (get_or-map f xs n x) ∙ ap (λ y. Some (f y)) (get_or_from_slice_get xs n x x at)

put_back : {X : Type 0} (xs : List X) (n : ℕ) (x : X) → n < length xs → insert (remove xs n) n x ≡ set xs n x
put_back [] n x lt = absurd (let no : ⊥ = omega (arith, lt) in no)
put_back (y ∷ xs) zero x lt = refl
put_back (y ∷ xs) (suc n) x lt = ap (λ ys. y ∷ ys) (put_back xs n x (omega (arith, lt)))

last_is : {X : Type 0} (xs : List X) (x : X) → slice_get (xs ++ x ∷ []) (length xs) ≡ Some x
last_is [] x = refl
last_is (y ∷ xs) x = last_is xs x

without_last : {X : Type 0} (xs : List X) (x : X) → remove (xs ++ x ∷ []) (length xs) ≡ xs
without_last [] x = refl
without_last (y ∷ xs) x = ap (λ ys. y ∷ ys) (without_last xs x)

-- what goes last and is moved to the place where one was taken out stands in place of that one
pub moved_back : {X : Type 0} (xs : List X) (n : ℕ) (x : X) → n < length xs → move_index (remove xs n ++ x ∷ []) (length (remove xs n)) n ≡ set xs n x
moved_back xs n x lt =
    ap (λ o. option_map_or (λ y. insert (remove (remove xs n ++ x ∷ []) (length (remove xs n))) n y) o (remove xs n ++ x ∷ [])) (last_is (remove xs n) x)
    ∙ ap (λ ys. insert ys n x) (without_last (remove xs n) x)
    ∙ put_back xs n x lt

-- ---- a name that doesn't stand

none_removed : {X : Type 0} (p : X → Bool) (xs : List X) (n : ℕ) → list_any p xs ≡ false → list_any p (remove xs n) ≡ false
none_removed p [] zero none = refl
none_removed p [] (suc n) none = refl
none_removed p (x ∷ xs) zero none = (or_parts (p x) (list_any p xs) none).1
none_removed p (x ∷ xs) (suc n) none =
    let parts = or_parts (p x) (list_any p xs) none in
    rw parts.0 (none_removed p xs n parts.1)

-- the two ways to compare names
same_way : (a b : List ℕ) → bytes_eq a b ≡ bytes_eq b a
same_way a b = nat_list_eq_equiv.symm a b

-- it is no key
pub absent : {A T : Type 0} (name : List ℕ) (es : List (String A × T)) → has_name name (map string_bytes (keys_of es)) ≡ false → lookup (λ k. bytes_eq name (string_bytes k)) es ≡ None
absent name [] none = refl
absent name (e ∷ es) none =
    let parts = or_parts (bytes_eq (string_bytes e.0) name) (has_name name (map string_bytes (keys_of es))) none in
    rw (same_way name (string_bytes e.0), parts.0) (absent name es parts.1)

-- and would go last
pub goes_last : {A T : Type 0} (name : List ℕ) (es : List (String A × T)) → has_name name (map string_bytes (keys_of es)) ≡ false → position_or_len (λ k. bytes_eq name (string_bytes k)) (keys_of es) ≡ length es
goes_last name [] none = refl
goes_last name (e ∷ es) none =
    let parts = or_parts (bytes_eq (string_bytes e.0) name) (has_name name (map string_bytes (keys_of es))) none in
    rw (same_way name (string_bytes e.0), parts.0, goes_last name es parts.1) (omega arith)

-- nor is it one where an entry is taken out
pub still_absent : {A T : Type 0} (name : List ℕ) (es : List (String A × T)) (n : ℕ) → has_name name (map string_bytes (keys_of es)) ≡ false → has_name name (map string_bytes (keys_of (remove es n))) ≡ false
still_absent name es n none =
    ap (λ ks. has_name name (map string_bytes ks)) (map-remove (λ e. e.0) es n) ∙ ap (has_name name) (map-remove string_bytes (keys_of es) n) ∙ none_removed (λ other. bytes_eq other name) (map string_bytes (keys_of es)) n none

-- ---- the place of a name

pub before_is : {A : Type 0} (name : List ℕ) (ks : List (String A)) → position_or_len (λ k. bytes_eq name (string_bytes k)) ks ≡ names_before name (map string_bytes ks)
before_is name [] = refl
before_is name (k ∷ ks) = rw (same_way name (string_bytes k)) (ap (λ n. cond (not (bytes_eq (string_bytes k) name)) (1 + n) 0) (before_is name ks))

some_at : (b : Bool) (n i : ℕ) → Some i ≡ cond b (Some n) None → i ≡ n
some_at true n i is = let same : Some i ≡ Some n = is in cc
some_at false n i is = absurd cc

pub found_at : {A : Type 0} (name : List ℕ) (ks : List (String A)) (i : ℕ) → Some i ≡ position (λ k. bytes_eq name (string_bytes k)) ks → i ≡ names_before name (map string_bytes ks)
found_at name ks i is = some_at (nat_lt (position_or_len (λ k. bytes_eq name (string_bytes k)) ks) (length ks)) (position_or_len (λ k. bytes_eq name (string_bytes k)) ks) i is ∙ before_is name ks

none_at : (b : Bool) (n : ℕ) → None ≡ cond b (Some n) None → b ≡ false
none_at true n is = absurd cc
none_at false n is = refl

pub missing_at : {A : Type 0} (name : List ℕ) (ks : List (String A)) → None ≡ position (λ k. bytes_eq name (string_bytes k)) ks → length ks ≡ names_before name (map string_bytes ks)
missing_at name ks is =
    let n : ℕ = position_or_len (λ k. bytes_eq name (string_bytes k)) ks in
    let past : length ks ≤ n = ltb-false n (length ks) (none_at (nat_lt n (length ks)) n is) in
    let most : n ≤ length ks = prefix_len-le-length (λ k. not (bytes_eq name (string_bytes k))) ks in
    let same : length ks ≡ n = omega (arith, past, most) in
    same ∙ before_is name ks

-- ---- names and values

module _ {A T : Type 0} where
  pub names_push : (es : List (String A × T)) (k : String A) (v : T) → map string_bytes (keys_of (es ++ (k, v) ∷ [])) ≡ map string_bytes (keys_of es) ++ string_bytes k ∷ []
  names_push [] k v = refl
  names_push (e ∷ es) k v = ap (λ ns. string_bytes e.0 ∷ ns) (names_push es k v)

  pub values_push : (es : List (String A × T)) (k : String A) (v : T) → values_of (es ++ (k, v) ∷ []) ≡ values_of es ++ v ∷ []
  values_push [] k v = refl
  values_push (e ∷ es) k v = ap (λ vs. e.1 ∷ vs) (values_push es k v)

  pub names_remove : (es : List (String A × T)) (n : ℕ) → map string_bytes (keys_of (remove es n)) ≡ remove (map string_bytes (keys_of es)) n
  names_remove es n = ap (map string_bytes) (map-remove (λ e. e.0) es n) ∙ map-remove string_bytes (keys_of es) n

  pub values_remove : (es : List (String A × T)) (n : ℕ) → values_of (remove es n) ≡ remove (values_of es) n
  values_remove es n = map-remove (λ e. e.1) es n

  pub names_set : (es : List (String A × T)) (n : ℕ) (k : String A) (v : T) → map string_bytes (keys_of (set es n (k, v))) ≡ set (map string_bytes (keys_of es)) n (string_bytes k)
  names_set es n k v = ap (map string_bytes) (map-set (λ (e : String A × T). e.0) es n (k, v)) ∙ map-set string_bytes (keys_of es) n k

  pub values_kept : (es : List (String A × T)) (n : ℕ) (old k : String A) (v : T) → slice_get es n ≡ Some (old, v) → values_of (set es n (k, v)) ≡ values_of es
  values_kept es n old k v at = map-set_same (λ e. e.1) es n (k, v) (old, v) (ap (λ e. e.1) (sym (get_or_from_slice_get es n (old, v) (old, v) at)))

  pub name_at : (es : List (String A × T)) (n : ℕ) (k : String A) (v : T) → slice_get es n ≡ Some (k, v) → slice_get (map string_bytes (keys_of es)) n ≡ Some (string_bytes k)
  name_at es n k v at = got_map string_bytes (keys_of es) n k (got_map (λ e. e.0) es n (k, v) at)

  same_names : (es : List (String A × T)) (n : ℕ) (w : T) → keys_of (set_value_at es n w) ≡ keys_of es
  same_names [] n w = refl
  same_names (e ∷ es) zero w = refl
  same_names (e ∷ es) (suc n) w = ap (λ ks. e.0 ∷ ks) (same_names es n w)

  value_set : (es : List (String A × T)) (n : ℕ) (w : T) → values_of (set_value_at es n w) ≡ set (values_of es) n w
  value_set [] zero w = refl
  value_set [] (suc n) w = refl
  value_set (e ∷ es) zero w = refl
  value_set (e ∷ es) (suc n) w = ap (λ vs. e.1 ∷ vs) (value_set es n w)

  -- a value that is written at a place
  pub written : (es : List (String A × T)) (n : ℕ) (w : T) (room : ℕ) → named_values (set_value_at es n w) room ≡ with_value (named_values es room) n w
  written es n w room = same_named (ap (map string_bytes) (same_names es n w)) (value_set es n w)
    where
      same_named : {ns ns' : List (List ℕ)} {vs vs' : List T} → ns ≡ ns' → vs ≡ vs' → let a : NamedValues T = record { names = ns; values = vs; spare = room } in a ≡ record { names = ns'; values = vs'; spare = room }
      same_named a b = λ i. record { names = a i; values = b i; spare = room }

  -- a key that goes in where it isn't among the entries
  pub put_last : {S : Type 0} (m : IndexMap (String A) T S) (k : String A) (v : T) → has_name (string_bytes k) (map string_bytes (keys_of m.entries)) ≡ false → insert_entry string_eq m.entries k v ≡ m.entries ++ (k, v) ∷ []
  put_last m k v none = insert_entry-new string_eq m k v (absent (string_bytes k) m.entries none)

  -- and in place of the one that was taken out
  pub put_at : {S : Type 0} (m : IndexMap (String A) T S) (es : List (String A × T)) (n : ℕ) (k : String A) (v : T) → n < length es → m.entries ≡ remove es n → has_name (string_bytes k) (map string_bytes (keys_of es)) ≡ false
      → move_index (insert_entry string_eq m.entries k v) (insert_index string_eq m k) n ≡ set es n (k, v)
  put_at m es n k v lt is none =
      let still : has_name (string_bytes k) (map string_bytes (keys_of m.entries)) ≡ false = ap (λ fs. has_name (string_bytes k) (map string_bytes (keys_of fs))) is ∙ still_absent (string_bytes k) es n none in
      ap (λ fs. move_index fs (insert_index string_eq m k) n) (put_last m k v still)
      ∙ ap (λ i. move_index (m.entries ++ (k, v) ∷ []) i n) (goes_last (string_bytes k) m.entries still)
      ∙ ap (λ fs. move_index (fs ++ (k, v) ∷ []) (length fs) n) is
      ∙ moved_back es n (k, v) lt
