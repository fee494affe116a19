-- That hint rows are read back. (gh-ost, "Cut-over".)
use Rattle.std.specs.Prelude.{◌≡◌, ◌<◌, ℕ, Some}
use Rattle.tool_changelog.specs.Hints.{hint_of, hint_row}

-- *Hint rows are read back*: the hint row of an attempt is read as the hint of that attempt. (Attempts count from 1.)
abbrev pub HintRowsReadBack : Type 0
HintRowsReadBack = (attempt : ℕ) → 0 < attempt → hint_of (hint_row attempt) ≡ Some attempt
