-- The migrated table at each moment of the log, and what the ALTER makes of its rows: all that the ghost relation speaks of.
-- (After gh-ost's documentation, "How gh-ost works"; the form is this project's.)
use Rattle.std.specs.Prelude.{◌≡◌, ℕ, ◌+◌, ◌<◌, ◌≤◌, Bool, true, false, Option, Some}

-- *Timeline* of a table whose rows have keys of K and converted rows in M: the row of a key after this many logged events;
-- whether the event at a place of the log writes the row of a key, deletes it or changes one of its unique keys; the converted
-- row; whether two rows have equal values in a unique key that the ALTER keeps; and whether two converted rows clash.
pub record Timeline (K R M : Type 0) : Type 0 where
  pub row_at : ℕ → K → Option R
  pub touches : ℕ → K → Bool
  pub converted_row : R → Option M
  pub rows_clash : R → R → Bool
  pub converted_rows_clash : M → M → Bool

-- The row of a key before an event that leaves this one and doesn't touch the key: it clashes with whatever this one clashes
-- with.
pub record RowBefore {K R M : Type 0} (timeline : Timeline K R M) (i : ℕ) (key : K) (row : R) : Type 0 where
  pub before : R
  pub stands : timeline.row_at i key ≡ Some before
  pub same : (other : R) → timeline.rows_clash row other ≡ true → timeline.rows_clash before other ≡ true

-- *The timeline is one of valid tables*, up to this end of the log.
pub record IsTimeline {K R M : Type 0} (timeline : Timeline K R M) (end : ℕ) : Type 0 where
  -- no two rows of one moment clash
  pub apart : (i : ℕ) (key other : K) (a b : R) → i ≤ end → timeline.row_at i key ≡ Some a → timeline.row_at i other ≡ Some b → timeline.rows_clash a b ≡ true → key ≡ other
  -- an event that doesn't touch a key leaves its row's unique keys
  pub still : (i : ℕ) (key : K) (row : R) → i < end → timeline.touches i key ≡ false → timeline.row_at (i + 1) key ≡ Some row → RowBefore timeline i key row
  -- converted rows clash only where their rows do
  pub clashes : (i j : ℕ) (key other : K) (a b : R) (made more : M) → i ≤ end → j ≤ end → timeline.row_at i key ≡ Some a → timeline.row_at j other ≡ Some b
      → timeline.converted_row a ≡ Some made → timeline.converted_row b ≡ Some more → timeline.converted_rows_clash made more ≡ true → timeline.rows_clash a b ≡ true
  -- rows clash both ways
  pub turned : (a b : R) → timeline.rows_clash a b ≡ true → timeline.rows_clash b a ≡ true

-- no event from one place of the log up to another touches the key
abbrev pub Untouched : {K R M : Type 0} → Timeline K R M → ℕ → ℕ → K → Type 0
Untouched timeline position end key = (i : ℕ) → position ≤ i → i < end → timeline.touches i key ≡ false

-- the converted row that has this key at one moment from the position to the end
pub record ConvertedRowFrom {K R M : Type 0} (timeline : Timeline K R M) (position end : ℕ) (key : K) (made : M) : Type 0 where
  pub moment : ℕ
  pub row : R
  pub from : position ≤ moment
  pub to : moment ≤ end
  pub stands : timeline.row_at moment key ≡ Some row
  pub imaged : timeline.converted_row row ≡ Some made

-- the two are the same up to the end
pub record AreAlike {K R M : Type 0} (timeline other : Timeline K R M) (end : ℕ) : Type 0 where
  pub rows : (i : ℕ) (key : K) → i ≤ end → timeline.row_at i key ≡ other.row_at i key
  pub touches : (i : ℕ) (key : K) → i < end → timeline.touches i key ≡ other.touches i key
  pub converted_rows : (row : R) → timeline.converted_row row ≡ other.converted_row row
