-- Going through the items of an array and the keys of a table, as loops and chains do.
use Rattle.std.proofs.Common.{◌≡◌, ℕ, ◌+◌, ◌<◌, ◌≤◌, Bool, ◌&&◌, List, [], ◌∷◌, ◌++◌, length, drop, map, get_or, Result, Ok, Err, String, Global, string_bytes, refl, sym, ap, ◌∙◌, append_assoc}
use Rattle.std.proofs.lemmas.List.{append-nil, drop_all}
use Rattle.std.specs.List.{list_all}
use Rattle.std.specs.BTreeMap.{BTreeMap, keys}
use Rattle.std.specs.Map.{keys_of}
use Rattle.toml.proofs.Views.{Entry, items_view-drop}
use Rattle.toml.specs.declared.value.Value.{Value}
use Rattle.toml.specs.Data.{Data, item}
use Rattle.toml.specs.View.{view, items_view, members_view}
use Rattle.base_values.specs.SchemaRules.Results.{◌>>=◌}
use Rattle.plan_keys.specs.declared.fault.KeyRefusal.{KeyRefusal}
use Rattle.base_values.specs.declared.fault.Fault.{Fault}
use Rattle.base_values.specs.declared.fault.Fault.TheVariants as faults
use Rattle.base_values.specs.Faults.{Refuses}
use Rattle.plan_keys.specs.Walks.{all_keys, all_items, each_item}

pub all_items-view : (test : Data → Bool) (values : List Value) → all_items test (items_view values) ≡ list_all (λ (value : Value). test (view value)) values
all_items-view test [] = refl
all_items-view test (value ∷ values) = ap (λ (rest : Bool). test (view value) && rest) (all_items-view test values)

pub all_keys-view : (test : List ℕ → Bool) (entries : List Entry) → all_keys test (members_view entries) ≡ list_all (λ (key : String Global). test (string_bytes key)) (keys_of entries)
all_keys-view test [] = refl
all_keys-view test (entry ∷ entries) = ap (λ (rest : Bool). test (string_bytes entry.0) && rest) (all_keys-view test entries)

-- the item at this place is the first of those from there on
from_here : (values : List Value) (i : ℕ) (value : Value) → i < length values → value ≡ get_or values i value → items_view (drop i values) ≡ item (view value) (items_view (drop (i + 1) values))
from_here values i value lt is = items_view-drop values i value lt ∙ ap (λ (v : Value). item (view v) (items_view (drop (i + 1) values))) (sym is)

-- what was read so far, and what is still read
abbrev pub with_front : {A C : Type 0} → List A → Result (List A) C → Result (List A) C
with_front front (Ok others) = Ok (front ++ others)
with_front front (Err refusal) = Err refusal

regroup : {A C : Type 0} (front : List A) (found : A) (others : Result (List A) C) → with_front front (others >>= λ others. Ok (found ∷ others)) ≡ with_front (front ++ (found ∷ [])) others
regroup front found (Ok others) = ap (λ xs. Ok xs) (simp append_assoc)
regroup front found (Err refusal) = refl

pub goes_on : {A : Type 0} (read : Data → Result A KeyRefusal) (front : List A) (values : List Value) (i : ℕ) (value : Value) (found : A) (total : Result (List A) KeyRefusal) → i < length values → value ≡ get_or values i value
    → read (view value) ≡ Ok found → with_front front (each_item read (items_view (drop i values))) ≡ total → with_front (front ++ (found ∷ [])) (each_item read (items_view (drop (i + 1) values))) ≡ total
unfolding each_item
goes_on read front values i value found total lt is e so_far =
    let one : with_front front (each_item read (items_view (drop i values))) ≡ with_front (front ++ (found ∷ [])) (each_item read (items_view (drop (i + 1) values))) =
    rw (from_here values i value lt is, e) (regroup front found (each_item read (items_view (drop (i + 1) values)))) in
    sym one ∙ so_far

refuses : {A : Type 0} (read : Data → Result A KeyRefusal) (front : List A) (values : List Value) (i : ℕ) (value : Value) (refusal : KeyRefusal) (total : Result (List A) KeyRefusal) → i < length values → value ≡ get_or values i value
    → read (view value) ≡ Err refusal → with_front front (each_item read (items_view (drop i values))) ≡ total → total ≡ Err refusal
unfolding each_item
refuses read front values i value refusal total lt is e so_far =
    let one : with_front front (each_item read (items_view (drop i values))) ≡ Err refusal = rw (from_here values i value lt is, e) refl in
    sym so_far ∙ one

pub fails : {A : Type 0} (read : Data → Result A KeyRefusal) (front : List A) (values : List Value) (i : ℕ) (value : Value) (fault : Fault KeyRefusal) (total : Result (List A) KeyRefusal) → i < length values → value ≡ get_or values i value
    → Refuses fault (read (view value)) → with_front front (each_item read (items_view (drop i values))) ≡ total → Refuses fault total
fails read front values i value faults.Memory total lt is e so_far = tt
fails read front values i value (faults.Refused refusal) total lt is e so_far = refuses read front values i value refusal total lt is e so_far

pub ended : {A : Type 0} (read : Data → Result A KeyRefusal) (front : List A) (values : List Value) (i : ℕ) (total : Result (List A) KeyRefusal) → length values ≤ i
    → with_front front (each_item read (items_view (drop i values))) ≡ total → total ≡ Ok front
unfolding each_item
ended read front values i total le so_far =
    let one : with_front front (each_item read (items_view (drop i values))) ≡ Ok front = rw (drop_all i values le) (ap (λ xs. Ok xs) (append-nil front)) in
    sym so_far ∙ one

-- the keys of a map, as its walk gives them
pub all_keys-map : (test : List ℕ → Bool) (map : BTreeMap (String Global) Value) → list_all (λ (key : String Global). test (string_bytes key)) (keys map) ≡ all_keys test (members_view map.entries)
all_keys-map test map = sym (all_keys-view test map.entries)
