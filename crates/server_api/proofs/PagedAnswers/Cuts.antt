-- The first keys of some rows, and the rows behind them.
use Rattle.std.proofs.Common.{◌≡◌, ℕ, suc, ◌+◌, ◌-◌, ◌<◌, ◌≤◌, true, false, List, [], ◌∷◌, ◌++◌, take, drop, length, map, refl, sym, ap, ◌∙◌, subst, append_assoc, append-nil, arith}
use Rattle.std.proofs.lemmas.Bool.{lt-ltb, le-ltb}
use Rattle.std.proofs.lemmas.List.{length-map, length-drop, take-map}
use Rattle.std.proofs.Math.Seq.{take-nil, drop-nil}
use Rattle.std.specs.Prelude.{nat_lt}
use Rattle.base_values.specs.declared.value.Value.{Value}
use Rattle.base_values.specs.declared.span.Span.{Span}
use Rattle.server_model.specs.declared.answer.Answer.TheVariants as answers
use Rattle.server_model.specs.Chunks.{first_keys, last_of, end_key}

-- how far a walk is that has made some keys, and has rows left
pub record Walked {X Y : Type 0} (f : X → Y) (n : ℕ) (keys : List Y) (rows : List X) (size : ℕ) (all : List X) : Type 0 where
  pub keys_are : keys ++ map f (take (size - n) rows) ≡ map f (take size all)
  pub left : drop (size - n) rows ≡ drop size all

pub starts : {X Y : Type 0} (f : X → Y) (size : ℕ) (all : List X) → Walked f 0 [] all size all
starts f size all = let whole : size - 0 ≡ size = omega arith in record { keys_are = rw whole refl; left = rw whole refl }

pub goes_on : {X Y : Type 0} (f : X → Y) (n size : ℕ) (keys : List Y) (row : X) (rows rest all : List X) → n < size → rows ≡ row ∷ rest → Walked f n keys rows size all → Walked f (n + 1) (keys ++ f row ∷ []) rest size all
goes_on f n size keys row rows rest all more are walked =
    let one : size - n ≡ suc (size - (n + 1)) = omega (arith, more) in
    record {
      keys_are = append_assoc keys (f row ∷ []) (map f (take (size - (n + 1)) rest)) ∙ rw (are, one) at walked.keys_are;
      left = rw (are, one) at walked.left;
    }

pub runs_out : {X Y : Type 0} (f : X → Y) (n size : ℕ) (keys : List Y) (rows all : List X) → rows ≡ [] → Walked f n keys rows size all → (keys ≡ map f (take size all)) × (rows ≡ drop size all)
runs_out f n size keys rows all none walked =
    let no_keys : map f (take (size - n) rows) ≡ [] = ap (λ rs. map f (take (size - n) rs)) none ∙ ap (map f) (take-nil (size - n)) in
    let no_rows : drop (size - n) rows ≡ [] = ap (drop (size - n)) none ∙ drop-nil (size - n) in
    (sym (append-nil keys) ∙ ap (λ ks. keys ++ ks) (sym no_keys) ∙ walked.keys_are, none ∙ sym no_rows ∙ walked.left)

pub is_done : {X Y : Type 0} (f : X → Y) (n size : ℕ) (keys : List Y) (rows all : List X) → size ≤ n → Walked f n keys rows size all → (keys ≡ map f (take size all)) × (rows ≡ drop size all)
is_done f n size keys rows all over walked =
    let none : size - n ≡ 0 = omega (arith, over) in
    (sym (append-nil keys) ∙ rw none at walked.keys_are, rw none at walked.left)

-- where more than these rows are left, there are more keys
pub cut_keys : {X : Type 0} (f : X → List Value) (span : Span) (size : ℕ) (items : List X) (next : X) (following : List X) → drop size items ≡ next ∷ following
    → first_keys span size (map f items) ≡ answers.Keys (map f (take size items)) (last_of [] (map f (take size items)))
cut_keys f span size items next following more =
    let less : size < length items = omega (arith, sym (length-drop size items) ∙ ap length more) in
    let long : nat_lt size (length (map f items)) ≡ true = lt-ltb size (length (map f items)) (subst (λ n. size < n) (sym (length-map items f)) less) in
    rw (take-map f size items) (rw long refl)

-- where none is left, they are all
pub all_keys : {X : Type 0} (f : X → List Value) (span : Span) (size : ℕ) (items : List X) → drop size items ≡ [] → first_keys span size (map f items) ≡ answers.Keys (map f (take size items)) (end_key span.high)
all_keys f span size items none =
    let few : length items ≤ size = omega (arith, sym (length-drop size items) ∙ ap length none) in
    let short : nat_lt size (length (map f items)) ≡ false = le-ltb size (length (map f items)) (subst (λ n. n ≤ size) (sym (length-map items f)) few) in
    rw (take-map f size items) (rw short refl)
