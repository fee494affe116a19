-- Among rows in order of their keys each key has one row, so that a row that stands is taken out by its key.
use Rattle.std.proofs.Common.{◌≡◌, ℕ, Bool, true, false, not, ◌&&◌, ◌||◌, List, [], ◌∷◌, Less, Equal, refl, sym, ap, ◌∙◌}
use Rattle.std.proofs.lemmas.Bool.{false≢true}
use Rattle.std.specs.Ordering.{is_eq}
use Rattle.std.specs.List.{AllByRecursion}
use Rattle.std.proofs.lemmas.Cmp.{tied_itself}
use Rattle.base_values.specs.KeyOrder.{compare_keys}
use Rattle.base_values.proofs.Orders.{keys_total}
use Rattle.base_values.specs.GhoSchema.Rows.{key_of}
use Rattle.base_values.specs.GhoSchema.Tables.{Ascends}
use Rattle.table_store.specs.RowLists.{is_at, without_key}
use Rattle.table_store.proofs.Orders.{Row}
use Rattle.table_store.proofs.Ascending.{ascends-filter}
use Rattle.table_store.proofs.RowLaws.{key_is}
use Rattle.server_model.specs.Rows.{same_row, stands, without_row}
use Rattle.server_model.proofs.LockedRows.Standing.{one_row, same_itself, stands-filter, one_list}

-- a row is at its own key
pub own_key : (places : List ℕ) (row : Row) → is_at places (key_of places row) row ≡ true
own_key places row = ap is_eq (tied_itself keys_total (key_of places row))

-- a row that stands behind another has a greater key
pub stands_after : (places : List ℕ) (first row : Row) (rows : List Row) → AllByRecursion (λ other. compare_keys (key_of places first) (key_of places other) ≡ Less) rows → stands row rows ≡ true
    → compare_keys (key_of places first) (key_of places row) ≡ Less
unfolding stands
stands_after places first row [] less stood = absurd (false≢true stood)
stands_after places first row (next ∷ rows) less stood = at (same_row row next) refl stood (stands_after places first row rows less.1) where
  at : (b : Bool) → same_row row next ≡ b → (b || stands row rows) ≡ true → (stands row rows ≡ true → compare_keys (key_of places first) (key_of places row) ≡ Less) → compare_keys (key_of places first) (key_of places row) ≡ Less
  at true same some rest = ap (λ (r : Row). compare_keys (key_of places first) (key_of places r)) (one_row row next same) ∙ less.0
  at false same some rest = rest some

less_not : (places : List ℕ) (a b : Row) → compare_keys (key_of places a) (key_of places b) ≡ Less → key_of places a ≡ key_of places b → Less ≡ Equal
less_not places a b less same = sym less ∙ ap (λ (k : Row). compare_keys k (key_of places b)) same ∙ tied_itself keys_total (key_of places b)

-- two rows of one key that stand are one row
pub one_of_key : (places : List ℕ) (a b : Row) (rows : List Row) → Ascends places rows → stands a rows ≡ true → stands b rows ≡ true → key_of places a ≡ key_of places b → a ≡ b
unfolding stands
one_of_key places a b [] ascends one two keys = absurd (false≢true one)
one_of_key places a b (first ∷ rows) ascends one two keys = at (same_row a first) (same_row b first) refl refl one two (one_of_key places a b rows ascends.1) where
  at : (c d : Bool) → same_row a first ≡ c → same_row b first ≡ d → (c || stands a rows) ≡ true → (d || stands b rows) ≡ true → (stands a rows ≡ true → stands b rows ≡ true → key_of places a ≡ key_of places b → a ≡ b) → a ≡ b
  at true true p q one two rest = one_row a first p ∙ sym (one_row b first q)
  at true false p q one two rest =
      let less : compare_keys (key_of places first) (key_of places b) ≡ Less = stands_after places first b rows ascends.0 two in
      absurd (cc (less_not places first b less (ap (key_of places) (sym (one_row a first p)) ∙ keys)))
  at false true p q one two rest =
      let less : compare_keys (key_of places first) (key_of places a) ≡ Less = stands_after places first a rows ascends.0 one in
      absurd (cc (less_not places first a less (ap (key_of places) (sym (one_row b first q)) ∙ sym keys)))
  at false false p q one two rest = rest one two keys

-- a row that stands is taken out by its key
pub same_removal : (places : List ℕ) (row : Row) (rows : List Row) → Ascends places rows → stands row rows ≡ true → without_key places (key_of places row) rows ≡ without_row row rows
same_removal places row rows ascends stood =
    one_list places (without_key places (key_of places row) rows) (without_row row rows) (ascends-filter places (λ other. not (is_at places (key_of places row) other)) rows ascends) (ascends-filter places (λ other. not (same_row row other)) rows ascends)
    (λ other. stands-filter (λ r. not (is_at places (key_of places row) r)) other rows ∙ each other (stands other rows) refl ∙ sym (stands-filter (λ r. not (same_row row r)) other rows)) where
      tests : (other : Row) → stands other rows ≡ true → (b c : Bool) → is_at places (key_of places row) other ≡ b → same_row row other ≡ c → b ≡ c
      tests other there true true p q = refl
      tests other there true false p q =
          let same : row ≡ other = one_of_key places row other rows ascends stood there (key_is places (key_of places row) other p) in
          sym (same_itself row) ∙ ap (same_row row) same ∙ q
      tests other there false true p q = sym p ∙ ap (is_at places (key_of places row)) (sym (one_row row other q)) ∙ own_key places row
      tests other there false false p q = refl

      each : (other : Row) (s : Bool) → stands other rows ≡ s → (s && not (is_at places (key_of places row) other)) ≡ (s && not (same_row row other))
      each other true there = ap not (tests other there (is_at places (key_of places row) other) (same_row row other) refl refl)
      each other false there = refl
