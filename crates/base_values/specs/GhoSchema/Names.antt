-- How names compare, and which are kept for the migration's own tables.
use Rattle.std.specs.Prelude.{codes, ℕ, Bool, false, ◌&&◌, ◌||◌, nat_eq, List, [], ◌∷◌, map}
use Rattle.std.specs.Char.{to_ascii_lowercase}
use Rattle.std.specs.List.{ends_with, starts_with}
use Rattle.std.specs.Str.{bytes_eq}

-- The two are one keyword, or one name of a column or a key: the case of ASCII letters doesn't matter
-- (MySQL's manual, "Identifier Case Sensitivity").
unfoldable pub same_name : List ℕ → List ℕ → Bool
same_name a b = bytes_eq (map to_ascii_lowercase a) (map to_ascii_lowercase b)

-- the word is one of these, without regard to case
abbrev pub is_one_of : List (List ℕ) → List ℕ → Bool
is_one_of [] word = false
is_one_of (known ∷ others) word = same_name word known || is_one_of others word

-- The name begins with _ and ends as those of the migration's own tables do (this project's rule).
abbrev pub is_kept : List ℕ → Bool
is_kept name = starts_with nat_eq name (codes "_") && (ends_with nat_eq name (codes "_gho") || ends_with nat_eq name (codes "_ghc") || ends_with nat_eq name (codes "_del"))
