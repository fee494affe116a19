-- How a text is cut into words. This project's rule: bytes are compared exactly, and there are no comments.
use Rattle.std.specs.Prelude.{ℕ, ◌+◌, Bool, not, ◌||◌, ◌==◌, List, length, take, drop, position, Option, Some, None}
use Rattle.std.specs.List.{filter, slice_split}

-- blank, tab, carriage return and line feed
abbrev pub is_space : ℕ → Bool
is_space byte = byte == 32 || byte == 9 || byte == 13 || byte == 10

abbrev pub is_empty : List ℕ → Bool
is_empty word = length word == 0

-- *Words* of a text: its parts between white space
abbrev pub spaced_words : List ℕ → List (List ℕ)
spaced_words text = filter (λ word. not (is_empty word)) (slice_split is_space text)

abbrev pub parts_around : List ℕ → Option ℕ → Option (List ℕ × List ℕ)
parts_around word None = None
parts_around word (Some place) = Some (take place word, drop (place + 1) word)

-- what comes before and after the first such mark in a word; none where it has none
abbrev pub parts_at : ℕ → List ℕ → Option (List ℕ × List ℕ)
parts_at mark word = parts_around word (position (λ byte. byte == mark) word)
