-- The lines of a trace: what is between its line feeds. This project's rule.
use Rattle.std.specs.Prelude.{codes, ℕ, ◌+◌, ◌==◌, Bool, true, false, ◌&&◌, ◌||◌, nat_eq, if◌then◌else◌, List, [], ◌∷◌, take, drop, map, Option, Some, None}
use Rattle.std.specs.List.{ends_with, join_with_byte, list_any, slice_split, starts_with}
use Rattle.std.specs.Str.{bytes_eq}
use Rattle.top_trace_reader.specs.declared.lines.Parts.{Parts}

-- what is between line feeds: a text that ends in one has an empty line after it
abbrev pub lines_of : List ℕ → List (List ℕ)
lines_of text = slice_split (λ byte. byte == 10) text

-- what is between blanks
abbrev pub words_of : List ℕ → List (List ℕ)
words_of line = slice_split (λ byte. byte == 32) line

-- ---- the line before the turns

abbrev pub is_journal : List ℕ → Bool
is_journal line = bytes_eq line (codes "#journal")

-- the place among those after it, or where there is none, this one, where it is such a line
abbrev pub place_from : Bool → Option ℕ → Option ℕ
place_from here (Some place) = Some (place + 1)
place_from here None = if here then Some 0 else None

-- the place of the last line that is `#journal`, from 0
unfoldable pub journal_place : List (List ℕ) → Option ℕ
journal_place [] = None
journal_place (line ∷ lines) = place_from (is_journal line) (journal_place lines)

-- the place of the last of the lines so far, where the line of this place is looked at
abbrev pub place_with : ℕ → Bool → Option ℕ → Option ℕ
place_with place true last = Some place
place_with place false last = last

-- the plan before that line and the line feed ahead of it, and the lines after it
pub record TraceParts : Type 0 where
  pub plan : List ℕ
  pub lines : List (List ℕ)

-- these, of what the code found
abbrev pub parts_data : Parts → TraceParts
parts_data parts = record { plan = parts.plan.items; lines = map (λ line. line.now) parts.lines.now }

abbrev pub parts_around : List (List ℕ) → Option ℕ → Option TraceParts
parts_around lines None = None
parts_around lines (Some place) = Some (record { plan = join_with_byte 10 (take place lines); lines = drop (place + 1) lines })

unfoldable pub parts_of : List (List ℕ) → Option TraceParts
parts_of lines = parts_around lines (journal_place lines)

-- ---- the tables that are left

-- a parenthesis is in front
abbrev pub opens : List ℕ → Bool
opens [] = false
opens (byte ∷ others) = byte == 40

-- the word `table`, a name, and a parenthesis in front of a word
abbrev pub names_columns : List (List ℕ) → Bool
names_columns [] = false
names_columns (first ∷ []) = false
names_columns (first ∷ second ∷ others) = bytes_eq first (codes "table") && list_any opens others

-- The line of a table: `table t (id, b)`. (A name may have blanks, commas and parentheses, so names aren't read back.)
unfoldable pub is_table_line : List ℕ → Bool
is_table_line line = names_columns (words_of line) && ends_with nat_eq line (codes ")")

-- the line that names all tables that exist: `tables _t_del t`
unfoldable pub is_names_line : List ℕ → Bool
is_names_line line = bytes_eq line (codes "tables") || starts_with nat_eq line (codes "tables ")
