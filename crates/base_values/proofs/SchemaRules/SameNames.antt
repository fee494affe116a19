-- Names that are one, whatever the case of letters.
use Rattle.std.proofs.Common.{◌≡◌, ℕ, Bool, true, false, List, refl, sym, map}
use Rattle.std.specs.Char.{to_ascii_lowercase}
use Rattle.std.proofs.lemmas.Slice.Eq.{bytes_eq-Decides}
use Rattle.base_values.specs.GhoSchema.Names.{same_name}

pub same_name-own : (name : List ℕ) → same_name name name ≡ true
unfolding same_name
same_name-own name = (bytes_eq-Decides (map to_ascii_lowercase name) (map to_ascii_lowercase name)).1 refl

pub same_name-turned : (a b : List ℕ) → same_name a b ≡ true → same_name b a ≡ true
unfolding same_name
same_name-turned a b e = (bytes_eq-Decides (map to_ascii_lowercase b) (map to_ascii_lowercase a)).1 (sym ((bytes_eq-Decides (map to_ascii_lowercase a) (map to_ascii_lowercase b)).0 e))

other-by : (a b : Bool) → (b ≡ true → a ≡ true) → a ≡ false → b ≡ false
other-by a true turned e = absurd (let no : a ≡ true = turned refl in cc)
other-by a false turned e = refl

pub other_name-turned : (a b : List ℕ) → same_name a b ≡ false → same_name b a ≡ false
other_name-turned a b e = other-by (same_name a b) (same_name b a) (same_name-turned b a) e
