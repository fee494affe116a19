-- What events do to the migrated table, and the applier's statements to the ghost, key by key. (MySQL's manual, "REPLACE
-- Statement", "DELETE Statement", "UPDATE Statement".)
use Rattle.std.specs.Prelude.{◌≡◌, ℕ, ◌+◌, Bool, true, false, Option, Some, None, ◌⊎◌}
use Rattle.proof_journals.specs.Ghost.Relation.Timelines.{Timeline}

-- The event at this place names two keys, of the row before it and of the row after it: no other row changes.
pub record EventOfKeys {K R M : Type 0} (timeline : Timeline K R M) (i : ℕ) (old new : K) : Type 0 where
  pub untouched : (key : K) → (old ≡ key → ⊥) → (new ≡ key → ⊥) → timeline.touches i key ≡ false
  pub same : (key : K) → (old ≡ key → ⊥) → (new ≡ key → ⊥) → timeline.row_at (i + 1) key ≡ timeline.row_at i key

-- a row that clashes with the new one is gone
pub record Displaced {M : Type 0} (clash : M → M → Bool) (made : M) (before after : Option M) : Type 0 where
  pub was : M
  pub stood : before ≡ Some was
  pub clashes : clash was made ≡ true
  pub gone : after ≡ None

-- *REPLACE* of the row of a key: it exists, and what clashed with it is gone
pub record Replaced {K M : Type 0} (clash : M → M → Bool) (key : K) (made : M) (before after : K → Option M) : Type 0 where
  pub here : after key ≡ Some made
  pub others : (other : K) → (key ≡ other → ⊥) → (after other ≡ before other) ⊎ Displaced clash made (before other) (after other)

-- *DELETE* by key
pub record Deleted {K M : Type 0} (key : K) (before after : K → Option M) : Type 0 where
  pub here : after key ≡ None
  pub others : (other : K) → (key ≡ other → ⊥) → after other ≡ before other

-- *UPDATE* by key, not refused: the row that stood there is now this one; where none stood, none does
pub record Updated {K M : Type 0} (key : K) (made : M) (before after : K → Option M) : Type 0 where
  pub here : ((before key ≡ None) × (after key ≡ None)) ⊎ (after key ≡ Some made)
  pub others : (other : K) → (key ≡ other → ⊥) → after other ≡ before other

-- *What applying an event does* to the ghost at one key, where the first half of the event took out the rows of these keys.
pub data AppliedAt {K R M : Type 0} (timeline : Timeline K R M) (half : K → Bool) (position : ℕ) (before after : K → Option M) (key : K) : Type 0 where
  -- the key is none of the event's
  kept : half key ≡ false → timeline.touches position key ≡ false → timeline.row_at (position + 1) key ≡ timeline.row_at position key → after key ≡ before key → AppliedAt timeline half position before after key
  -- its row was displaced by the event's, whose key is another
  displaced : (made new : M) (row : R) (other : K) → (other ≡ key → ⊥) → timeline.row_at (position + 1) key ≡ timeline.row_at position key → before key ≡ Some made → timeline.row_at (position + 1) other ≡ Some row → timeline.converted_row row ≡ Some new
      → timeline.converted_rows_clash made new ≡ true → after key ≡ None → AppliedAt timeline half position before after key
  -- the converted row of the event is written
  written : (row : R) (made : M) → timeline.row_at (position + 1) key ≡ Some row → timeline.converted_row row ≡ Some made → after key ≡ Some made → AppliedAt timeline half position before after key
  -- the event leaves no row
  removed : timeline.row_at (position + 1) key ≡ None → after key ≡ None → AppliedAt timeline half position before after key
  -- an UPDATE that changes no unique key finds no row
  missed : half key ≡ false → timeline.touches position key ≡ false → before key ≡ None → after key ≡ None → AppliedAt timeline half position before after key
