-- Arrays of strings, each on lines of its own with a comma behind it.
use Rattle.std.proofs.Common.{◌≡◌, ◌∙◌, ℕ, zero, suc, ◌+◌, ◌-◌, ◌<◌, List, [], ◌∷◌, ◌++◌, length, map, Some, refl, ap, arith, append_assoc, length-append}
use Rattle.std.specs.List.{AllByRecursion, flat_map, range_with_len}
use Rattle.toml_parser.specs.Lexical.{skip_from, skip_blank}
use Rattle.toml.specs.Data.{string, array, Items, no_items, push_item}
use Rattle.toml.specs.Parse.{read_map, after_element, items, val}
use Rattle.toml.proofs.ReadValues.{item_join, item_join-none, item_join-push}
use Rattle.toml.proofs.Turns.{items_end, items_more}
use Rattle.law_texts.specs.Workloads.Document.Plans.{text_items}

feed_close : (rest : List ℕ) → skip_blank (10 ∷ 93 ∷ rest) ≡ 93 ∷ rest
unfolding skip_from
feed_close rest = refl

feed_quote : (rest : List ℕ) → skip_blank (10 ∷ 34 ∷ rest) ≡ 34 ∷ rest
unfolding skip_from
feed_quote rest = refl

comma_then : (rest : List ℕ) → after_element 93 (44 ∷ rest) ≡ Some rest
unfolding after_element skip_from
comma_then rest = refl

-- how an element is spelled behind its first quote, and what it is
pub record IsSpelled (depth : ℕ) (spell : List ℕ) (spelled said : List ℕ) : Type 0 where
  pub spelled_is : spell ≡ 34 ∷ (spelled ++ 44 ∷ 10 ∷ [])
  pub read : (rest : List ℕ) → val depth (34 ∷ (spelled ++ (44 ∷ rest))) ≡ Some (string said, 44 ∷ rest)

module _ {X : Type 0} (depth : ℕ) (spell spelled said : X → List ℕ) where
  abbrev pub Is : X → Type 0
  Is x = IsSpelled depth (spell x) (spelled x) (said x)

  regrouped : (x : X) (xs : List X) (rest : List ℕ) → Is x → (spell x ++ flat_map spell xs) ++ rest ≡ 34 ∷ (spelled x ++ (44 ∷ 10 ∷ (flat_map spell xs ++ rest)))
  regrouped x xs rest is =
      ap (λ (text : List ℕ). (text ++ flat_map spell xs) ++ rest) is.spelled_is ∙ append_assoc (34 ∷ (spelled x ++ 44 ∷ 10 ∷ [])) (flat_map spell xs) rest
      ∙ ap (λ (text : List ℕ). 34 ∷ text) (append_assoc (spelled x) (44 ∷ 10 ∷ []) (flat_map spell xs ++ rest))

  items_read : (xs : List X) (rest : List ℕ) (found : Items) (fuel : ℕ) → AllByRecursion Is xs → length xs < fuel
      → items (val depth) fuel found (10 ∷ (flat_map spell xs ++ (93 ∷ rest))) ≡ Some (item_join found (text_items (map said xs)), rest)
  unfolding text_items
  items_read [] rest found fuel all room =
      items_end (val depth) fuel found (10 ∷ 93 ∷ rest) room (rw (feed_close rest) refl) ∙ rw (feed_close rest, item_join-none found) refl
  items_read (x ∷ xs) rest found fuel all room =
      let following : List ℕ = 10 ∷ (flat_map spell xs ++ (93 ∷ rest)) in
      let text : List ℕ = 34 ∷ (spelled x ++ (44 ∷ following)) in
      let at_start : skip_blank (10 ∷ text) ≡ text = feed_quote (spelled x ++ (44 ∷ following)) in
      let value : val depth (skip_blank (10 ∷ text)) ≡ Some (string (said x), 44 ∷ following) = ap (val depth) at_start ∙ all.0.read following in
      ap (λ (bytes : List ℕ). items (val depth) fuel found (10 ∷ bytes)) (regrouped x xs (93 ∷ rest) all.0)
      ∙ items_more (val depth) fuel found (10 ∷ text) (string (said x)) (44 ∷ following) following (omega (arith, room)) (rw at_start refl) value (comma_then following)
      ∙ items_read xs rest (push_item found (string (said x))) (fuel - 1) all.1 (omega (arith, room))
      ∙ ap (λ (made : Items). Some (made, rest)) (item_join-push found (string (said x)) (text_items (map said xs)))

  long_enough : (xs : List X) (rest : List ℕ) → AllByRecursion Is xs → length xs < suc (length (flat_map spell xs ++ (93 ∷ rest)))
  long_enough [] rest all = omega arith
  long_enough (x ∷ xs) rest all =
      let more = long_enough xs rest all.1 in
      omega (arith, more, ap length (regrouped x xs (93 ∷ rest) all.0), length-append (spelled x) (44 ∷ 10 ∷ (flat_map spell xs ++ (93 ∷ rest))))

  pub array_read : (xs : List X) (rest : List ℕ) → AllByRecursion Is xs → val (suc depth) (91 ∷ 10 ∷ (flat_map spell xs ++ (93 ∷ rest))) ≡ Some (array (text_items (map said xs)), rest)
  unfolding val
  array_read xs rest all =
      let more = long_enough xs rest all in
      ap (read_map array) (items_read xs rest no_items (length (91 ∷ 10 ∷ (flat_map spell xs ++ (93 ∷ rest)))) all (omega (arith, more)))

-- what holds of each place below an end holds of each place of a range
pub all_places : (P : ℕ → Type 0) (from count : ℕ) → ((place : ℕ) → place < from + count → P place) → AllByRecursion P (range_with_len from count)
all_places P from zero each = tt
all_places P from (suc count) each = (each from (omega arith), all_places P (from + 1) count (λ place less. each place (omega (arith, less))))
