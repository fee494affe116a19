-- *Checkpoint rows*: the rows of the changelog that say how far the migration has come.
-- (gh-ost keeps checkpoints in its changelog, so as to resume: its document `resume.md`; their columns are this project's rule.)
use Rattle.std.specs.Prelude.{codes, ℕ, pos, nat_le, if◌then◌else◌, List, [], ◌∷◌, ◌++◌, Option, Some, None}
use Rattle.std.specs.Fmt.{signed_decimal}
use Rattle.std.specs.Option.{option_map}
use Rattle.base_values.specs.declared.value.Value.{Value}
use Rattle.base_values.specs.declared.value.Value.TheVariants.{Num, Text}
use Rattle.base_values.specs.Literals.{printed_row}
use Rattle.base_values.specs.StoredValues.{character_count}
use Rattle.tool_changelog.specs.declared.checkpoint.Reach.{Reach}
use Rattle.tool_changelog.specs.declared.checkpoint.Reach.TheVariants.{Nothing, To, All}

-- a dash for nothing, the key as a row, and a star for all
abbrev pub reach_text : Reach → List ℕ
reach_text Nothing = codes "-"
reach_text (To key) = printed_row key
reach_text All = codes "*"

-- the position and the reach with a blank between them
abbrev pub checkpoint_text : ℕ → Reach → List ℕ
checkpoint_text position reach = (signed_decimal (pos position) ++ codes " ") ++ reach_text reach

-- the text where it has at most 255 characters, as the changelog's column
abbrev pub short_text : List ℕ → Option Value
short_text text = if nat_le (character_count text) 255 then Some (Text text) else None

abbrev pub checkpoint_value : ℕ → Reach → Option Value
checkpoint_value position reach = short_text (checkpoint_text position reach)

-- the checkpoint row: nought, `checkpoint`, and the text; none where the text has more than 255 characters
unfoldable pub checkpoint_row : ℕ → Reach → Option (List Value)
checkpoint_row position reach = option_map (λ value. Num (pos 0) ∷ Text (codes "checkpoint") ∷ value ∷ []) (checkpoint_value position reach)
