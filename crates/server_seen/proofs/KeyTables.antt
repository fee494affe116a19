-- Tables whose rows are keys.
use Rattle.std.proofs.Common.{◌≡◌, ℕ, zero, suc, ◌+◌, ◌<◌, ◌≤◌, Bool, true, false, ◌||◌, List, [], ◌∷◌, ◌++◌, length, take, get_or, find, cond, is_some, Option, Some, None, Ordering, Less, Equal, Greater, refl, sym, ap, ◌∙◌, subst, arith, length-append, zero-add}
use Rattle.std.specs.Prelude.{option_to_list}
use Rattle.std.proofs.lemmas.Bool.{false≢true, true≢false}
use Rattle.std.proofs.lemmas.List.{take_all, take_more}
use Rattle.std.specs.Ordering.{is_eq, match_ordering}
use Rattle.std.specs.List.{AllByRecursion, slice_get}
use Rattle.base_values.specs.declared.value.Value.{Value}
use Rattle.base_values.specs.KeyOrder.{compare_keys}
use Rattle.base_values.proofs.Orders.{keys_total}
use Rattle.base_values.specs.declared.gho_schema.schema.Schema.{Schema}
use Rattle.base_values.specs.GhoSchema.Rows.{key_of, key_places, with_row}
use Rattle.base_values.specs.GhoSchema.Tables.{Ascends}
use Rattle.table_store.specs.RowLists.{is_at}
use Rattle.table_store.specs.Databases.{TableRows, row_at_key}
use Rattle.table_store.proofs.Orders.{Row}
use Rattle.table_store.proofs.Ascending.{none_parts}
use Rattle.base_values.proofs.GhoSchema.Orders.{all-with_row}
use Rattle.server_model.specs.Rows.{same_row, stands}
use Rattle.server_seen.specs.Written.{with_key}
use Rattle.server_seen.specs.FittingChanges.{KeysAscend}
use Rattle.server_seen.specs.Stored.{counted, IsKeyTable}
use Rattle.server_seen.proofs.TouchedKeys.{before_all}

-- a key's values at the first places are the key
no_values : (from n : ℕ) → key_of (counted from n) [] ≡ []
unfolding key_of
no_values from zero = refl
no_values from (suc n) = no_values (suc from) n

after_one : (value : Value) (row : Row) (from n : ℕ) → key_of (counted (suc from) n) (value ∷ row) ≡ key_of (counted from n) row
unfolding key_of
after_one value row from zero = refl
after_one value row from (suc n) = ap (λ (vs : Row). option_to_list (slice_get row from) ++ vs) (after_one value row (suc from) n)

pub whole_key : (n : ℕ) (key : Row) → length key ≤ n → key_of (counted 0 n) key ≡ key
unfolding key_of
whole_key zero [] le = refl
whole_key zero (value ∷ key) le = absurd (omega arith)
whole_key (suc n) [] le = no_values 1 n
whole_key (suc n) (value ∷ key) le = ap (λ (vs : Row). value ∷ vs) (after_one value key 0 n ∙ whole_key n key (omega arith))

-- a row's key has at most as many values as the key has columns
at_most_one : (found : Option Value) → length (option_to_list found) ≤ 1
at_most_one None = omega arith
at_most_one (Some value) = omega arith

pub length_key : (places : List ℕ) (row : Row) → length (key_of places row) ≤ length places
unfolding key_of
length_key [] row = omega arith
length_key (place ∷ places) row =
    omega (arith, length-append (option_to_list (slice_get row place)) (key_of places row), at_most_one (slice_get row place), length_key places row)

pub length-counted : (from n : ℕ) → length (counted from n) ≡ n
length-counted from zero = refl
length-counted from (suc n) = ap suc (length-counted (suc from) n)

pub counted-more : (from n : ℕ) → counted from n ++ (from + n) ∷ [] ≡ counted from (n + 1)
counted-more from zero = ap (λ (k : ℕ). k ∷ []) (omega arith)
counted-more from (suc n) =
    let next : suc from + n ≡ from + suc n = omega arith in
    let more : suc n + 1 ≡ suc (n + 1) = omega arith in
    let rest : counted (suc from) n ++ (from + suc n) ∷ [] ≡ counted (suc from) (n + 1) = subst (λ (k : ℕ). counted (suc from) n ++ k ∷ [] ≡ counted (suc from) (n + 1)) next (counted-more (suc from) n) in
    ap (λ (ps : List ℕ). from ∷ ps) rest ∙ ap (counted from) (sym more)

pub counted-next : (n : ℕ) → counted 0 n ++ n ∷ [] ≡ counted 0 (n + 1)
counted-next n = ap (λ (k : ℕ). counted 0 n ++ k ∷ []) (sym (zero-add n)) ∙ counted-more 0 n

-- places that are the first ones, one by one
pub first_more : (places : List ℕ) (n d : ℕ) → n < length places → get_or places n d ≡ n → take n places ≡ counted 0 n → take (n + 1) places ≡ counted 0 (n + 1)
first_more places n d lt here so_far =
    take_more places n d lt ∙ ap (λ (place : ℕ). take n places ++ place ∷ []) here ∙ ap (λ (ps : List ℕ). ps ++ n ∷ []) so_far ∙ counted-next n

pub all_first : (places : List ℕ) (n : ℕ) → length places ≤ n → take n places ≡ counted 0 n → places ≡ counted 0 (length places)
all_first places n le so_far =
    let all : places ≡ counted 0 n = sym (take_all n places le) ∙ so_far in
    all ∙ ap (counted 0) (sym (ap length all ∙ length-counted 0 n))

-- each of the rows is its key
abbrev pub AreKeys : List ℕ → List Row → Type 0
AreKeys places keys = AllByRecursion (λ key. key_of places key ≡ key) keys

all_whole : (places : List ℕ) (keys : List Row) → places ≡ counted 0 (length places) → AllByRecursion (λ key. length key ≤ length places) keys → AreKeys places keys
all_whole places [] is le = tt
all_whole places (key ∷ keys) is le = (ap (λ (ps : List ℕ). key_of ps key) is ∙ whole_key (length places) key le.0, all_whole places keys is le.1)

pub are_keys : (table : TableRows) → IsKeyTable table → AreKeys (key_places table.schema) table.rows
are_keys table is = all_whole (key_places table.schema) table.rows is.places is.lengths

pub is_key : (table : TableRows) (key : Row) → IsKeyTable table → length key ≤ length (key_places table.schema) → key_of (key_places table.schema) key ≡ key
is_key table key is le = ap (λ (ps : List ℕ). key_of ps key) is.places ∙ whole_key (length (key_places table.schema)) key le

pub new_key_table : (table : TableRows) (n : ℕ) → key_places table.schema ≡ counted 0 n → table.rows ≡ [] → IsKeyTable table
new_key_table table n places none =
    let many : length (key_places table.schema) ≡ n = ap length places ∙ length-counted 0 n in
    record { places = places ∙ ap (counted 0) (sym many); lengths = subst (λ (keys : List Row). AllByRecursion (λ key. length key ≤ length (key_places table.schema)) keys) (sym none) tt }

-- a key is found exactly where it stands
some_or : (b : Bool) (row : Row) (rest : Option Row) → is_some (cond b (Some row) rest) ≡ (b || is_some rest)
some_or true row rest = refl
some_or false row rest = refl

pub found_stands : (places : List ℕ) (key : Row) (keys : List Row) → AreKeys places keys → is_some (find (is_at places key) keys) ≡ stands key keys
unfolding stands
found_stands places key [] are = refl
found_stands places key (first ∷ keys) are =
    some_or (is_at places key first) first (find (is_at places key) keys)
    ∙ ap (λ (k : Row). same_row key k || is_some (find (is_at places key) keys)) are.0
    ∙ ap (λ (b : Bool). same_row key first || b) (found_stands places key keys are.1)

new_here : (o : Ordering) (key first : Row) (keys placed other : List Row) → is_eq o ≡ false → placed ≡ other → match_ordering o (key ∷ first ∷ keys) (key ∷ first ∷ keys) (first ∷ placed) ≡ match_ordering o (key ∷ first ∷ keys) (first ∷ keys) (first ∷ other)
new_here Less key first keys placed other apart same = refl
new_here Equal key first keys placed other apart same = absurd (cc)
new_here Greater key first keys placed other apart same = ap (λ (ks : List Row). first ∷ ks) same

pub placed_key : (places : List ℕ) (key : Row) (keys : List Row) → key_of places key ≡ key → AreKeys places keys → find (is_at places key) keys ≡ None → with_row places key keys ≡ with_key key keys
unfolding with_row with_key
placed_key places key [] is are none = refl
placed_key places key (first ∷ keys) is are none =
    let parts = none_parts (is_at places key first) first (find (is_at places key) keys) none in
    let apart : is_eq (compare_keys key first) ≡ false = ap (λ (k : Row). is_eq (compare_keys key k)) (sym are.0) ∙ parts.0 in
    let order : compare_keys (key_of places key) (key_of places first) ≡ compare_keys key first = ap (λ (k : Row). compare_keys k (key_of places first)) is ∙ ap (compare_keys key) are.0 in
    ap (λ (o : Ordering). match_ordering o (key ∷ first ∷ keys) (key ∷ first ∷ keys) (first ∷ with_row places key keys)) order
    ∙ new_here (compare_keys key first) key first keys (with_row places key keys) (with_key key keys) apart (placed_key places key keys is are.1 parts.1)

-- one that stands stays as it is
pub ascend_keys : (places : List ℕ) (keys : List Row) → AreKeys places keys → Ascends places keys → KeysAscend keys
ascend_keys places [] are ascends = tt
ascend_keys places (first ∷ keys) are ascends = (less keys are.1 ascends.0, ascend_keys places keys are.1 ascends.1) where
  less : (others : List Row) → AreKeys places others → AllByRecursion (λ other. compare_keys (key_of places first) (key_of places other) ≡ Less) others → AllByRecursion (λ other. compare_keys first other ≡ Less) others
  less [] are all = tt
  less (other ∷ others) are_others all =
      (ap (λ (k : Row). compare_keys k other) (sym are.0) ∙ ap (compare_keys (key_of places first)) (sym are_others.0) ∙ all.0, less others are_others.1 all.1)

pub none_stands : (key : Row) (keys : List Row) → AllByRecursion (λ other. compare_keys key other ≡ Less) keys → stands key keys ≡ false
unfolding stands
none_stands key [] less = refl
none_stands key (first ∷ keys) less = ap (λ (o : Ordering). is_eq o || stands key keys) less.0 ∙ none_stands key keys less.1

kept_here : (o : Ordering) (key first : Row) (keys placed : List Row) → compare_keys key first ≡ o → KeysAscend (first ∷ keys) → (is_eq o || stands key keys) ≡ true → (stands key keys ≡ true → placed ≡ keys)
    → match_ordering o (key ∷ first ∷ keys) (first ∷ keys) (first ∷ placed) ≡ first ∷ keys
kept_here Less key first keys placed is ascend stood rest = absurd (true≢false (sym stood ∙ none_stands key keys (before_all key first keys is ascend.0)))
kept_here Equal key first keys placed is ascend stood rest = refl
kept_here Greater key first keys placed is ascend stood rest = ap (λ (ks : List Row). first ∷ ks) (rest stood)

pub kept_key : (key : Row) (keys : List Row) → KeysAscend keys → stands key keys ≡ true → with_key key keys ≡ keys
unfolding stands with_key
kept_key key [] ascend stood = absurd (false≢true stood)
kept_key key (first ∷ keys) ascend stood = kept_here (compare_keys key first) key first keys (with_key key keys) refl ascend stood (λ (there : stands key keys ≡ true). kept_key key keys ascend.1 there)

-- a key is among them exactly where its row is found
some_is : (found : Option Row) (row : Row) → found ≡ Some row → is_some found ≡ true
some_is found row is = ap is_some is

pub key_there : (table : TableRows) (key row : Row) → IsKeyTable table → row_at_key table key ≡ Some row → stands key table.rows ≡ true
key_there table key row is found = sym (found_stands (key_places table.schema) key table.rows (are_keys table is)) ∙ some_is (row_at_key table key) row found

pub key_not_there : (table : TableRows) (key : Row) → IsKeyTable table → row_at_key table key ≡ None → stands key table.rows ≡ false
key_not_there table key is none = sym (found_stands (key_places table.schema) key table.rows (are_keys table is)) ∙ ap is_some none

-- one that isn't there is put in
pub new_row : (table : TableRows) (key : Row) → IsKeyTable table → length key ≤ length (key_places table.schema) → row_at_key table key ≡ None → row_at_key table (key_of (key_places table.schema) key) ≡ None
new_row table key is le none = ap (row_at_key table) (is_key table key is le) ∙ none

pub new_keys : (table : TableRows) (key : Row) → IsKeyTable table → length key ≤ length (key_places table.schema) → row_at_key table key ≡ None → with_row (key_places table.schema) key table.rows ≡ with_key key table.rows
new_keys table key is le none = placed_key (key_places table.schema) key table.rows (is_key table key is le) (are_keys table is) none

pub key_inserted : (table after : TableRows) (key : Row) → IsKeyTable table → length key ≤ length (key_places table.schema) → after.schema ≡ table.schema → after.rows ≡ with_row (key_places table.schema) key table.rows → IsKeyTable after
key_inserted table after key is le schema rows = record {
  places = ap key_places schema ∙ is.places ∙ ap (λ (s : Schema). counted 0 (length (key_places s))) (sym schema);
  lengths =
      subst (λ (s : Schema). AllByRecursion (λ k. length k ≤ length (key_places s)) after.rows) (sym schema)
      (subst (λ (rs : List Row). AllByRecursion (λ k. length k ≤ length (key_places table.schema)) rs) (sym rows) (all-with_row (λ (k : Row). length k ≤ length (key_places table.schema)) (key_places table.schema) key table.rows le is.lengths));
}

-- one that is there stays
pub old_keys : (table : TableRows) (key row : Row) → IsKeyTable table → Ascends (key_places table.schema) table.rows → row_at_key table key ≡ Some row → with_key key table.rows ≡ table.rows
old_keys table key row is ascends found = kept_key key table.rows (ascend_keys (key_places table.schema) table.rows (are_keys table is) ascends) (key_there table key row is found)
