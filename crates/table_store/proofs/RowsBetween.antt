-- The rows in a span stand together.
use Rattle.std.proofs.Common.{◌≡◌, ℕ, zero, suc, ◌+◌, Bool, true, false, not, ◌&&◌, List, [], ◌∷◌, take, drop, filter, cond, refl, sym, ap, ◌∙◌, one-add}
use Rattle.std.specs.List.{AllByRecursion, prefix_len}
use Rattle.std.proofs.lemmas.Bool.{not-false}
use Rattle.base_values.specs.GhoSchema.Tables.{Ascends}
use Rattle.table_store.proofs.Orders.{Row, FailsOn}

pub ascends-drop : (places : List ℕ) (n : ℕ) (rows : List Row) → Ascends places rows → Ascends places (drop n rows)
ascends-drop places zero rows ascends = ascends
ascends-drop places (suc n) [] ascends = tt
ascends-drop places (suc n) (row ∷ rows) ascends = ascends-drop places n rows ascends.1

-- no row passes
pub none_pass : (test : Row → Bool) (rows : List Row) → AllByRecursion (λ row. test row ≡ false) rows → filter test rows ≡ []
none_pass test [] fail = refl
none_pass test (row ∷ rows) fail = rw fail.0 (none_pass test rows fail.1)

-- the rows that pass stand in front
front_passes : (test : Row → Bool) (row : Row) (rows : List Row) (b : Bool) → test row ≡ b → (test row ≡ false → AllByRecursion (λ other. test other ≡ false) rows) → filter test rows ≡ take (prefix_len test rows) rows
    → cond b (row ∷ filter test rows) (filter test rows) ≡ take (cond b (1 + prefix_len test rows) 0) (row ∷ rows)
front_passes test row rows true is fails others = rw (one-add (prefix_len test rows)) (ap (λ (rs : List Row). row ∷ rs) others)
front_passes test row rows false is fails others = none_pass test rows (fails is)

pub in_front : (test : Row → Bool) (rows : List Row) → FailsOn test rows → filter test rows ≡ take (prefix_len test rows) rows
in_front test [] fails = refl
in_front test (row ∷ rows) fails = front_passes test row rows (test row) refl fails.0 (in_front test rows fails.1)

-- where the first test passes everywhere, the second decides
second_decides : (first second : Row → Bool) (rows : List Row) → AllByRecursion (λ row. not (first row) ≡ false) rows → filter (λ row. first row && second row) rows ≡ filter second rows
second_decides first second [] passes = refl
second_decides first second (row ∷ rows) passes =
    let here : first row ≡ true = not-false (first row) passes.0 in
    rw (here, second_decides first second rows passes.1) refl

-- the number of rows before those that pass the first test
abbrev pub start : (Row → Bool) → List Row → ℕ
start first rows = prefix_len (λ row. not (first row)) rows

starts : (first second : Row → Bool) (row : Row) (rows : List Row) (b : Bool) → first row ≡ b → FailsOn (λ other. not (first other)) (row ∷ rows) → FailsOn second (row ∷ rows)
    → filter (λ other. first other && second other) rows ≡ take (prefix_len second (drop (start first rows) rows)) (drop (start first rows) rows)
    → filter (λ other. first other && second other) (row ∷ rows) ≡ take (prefix_len second (drop (start first (row ∷ rows)) (row ∷ rows))) (drop (start first (row ∷ rows)) (row ∷ rows))
starts first second row rows true is under fails others =
    let here : not (first row) ≡ false = rw is refl in
    let at_once : start first (row ∷ rows) ≡ 0 = rw is refl in
    second_decides first second (row ∷ rows) (here, under.0 here) ∙ in_front second (row ∷ rows) fails
    ∙ sym (ap (λ (n : ℕ). take (prefix_len second (drop n (row ∷ rows))) (drop n (row ∷ rows))) at_once)
starts first second row rows false is under fails others =
    let later : start first (row ∷ rows) ≡ suc (start first rows) = rw is (one-add (start first rows)) in
    let skipped : filter (λ other. first other && second other) (row ∷ rows) ≡ filter (λ other. first other && second other) rows = rw is refl in
    skipped ∙ others ∙ sym (ap (λ (n : ℕ). take (prefix_len second (drop n (row ∷ rows))) (drop n (row ∷ rows))) later)

-- The rows that pass the first test stand behind those that fail it, and among them those that pass the second in front.
pub between : (first second : Row → Bool) (rows : List Row) → FailsOn (λ row. not (first row)) rows → FailsOn second rows
    → filter (λ row. first row && second row) rows ≡ take (prefix_len second (drop (start first rows) rows)) (drop (start first rows) rows)
between first second [] under fails = refl
between first second (row ∷ rows) under fails = starts first second row rows (first row) refl under fails (between first second rows under.1 fails.1)
