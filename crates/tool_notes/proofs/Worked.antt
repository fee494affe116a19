-- Worked rows.
use Rattle.std.proofs.Common.{◌≡◌, [], ◌∷◌, Some, None, refl, codes}
use Rattle.std.specs.Prelude.{pos}
use Rattle.std.specs.Fmt.{digits}
use Rattle.base_values.specs.declared.value.Value.TheVariants.{Num, Text}
use Rattle.base_values.specs.Literals.{printed, listed, printed_row}
use Rattle.base_values.specs.StoredValues.{character_count}
use Rattle.tool_changelog.specs.Heartbeats.{heartbeat_row}
use Rattle.tool_changelog.specs.Hints.{hint_row}
use Rattle.tool_changelog.specs.declared.checkpoint.Reach.TheVariants.{Nothing, To}
use Rattle.tool_changelog.specs.Checkpoints.{checkpoint_row}
use Rattle.sql_words.specs.Front.{front_at}
use Rattle.sql_words.specs.Readings.{words_after}
use Rattle.tool_notes.specs.Readings.{checkpoint_of}
use Rattle.tool_notes.specs.Heartbeats.{heartbeat_of}

-- the checkpoint behind the key (2), with no event applied
row_after_two : checkpoint_row 0 (To (Num (pos 2) ∷ [])) ≡ Some (Num (pos 0) ∷ Text (codes "checkpoint") ∷ Text (codes "0 (2)") ∷ [])
unfolding checkpoint_row printed_row listed printed character_count digits
row_after_two = refl

-- nothing is copied
row_of_nothing : checkpoint_row 12 Nothing ≡ Some (Num (pos 0) ∷ Text (codes "checkpoint") ∷ Text (codes "12 -") ∷ [])
unfolding checkpoint_row character_count digits
row_of_nothing = refl

-- the seventh heartbeat
seventh : heartbeat_row 7 ≡ Num (pos 1000007) ∷ Text (codes "heartbeat") ∷ Text (codes "7") ∷ []
unfolding heartbeat_row digits
seventh = refl

seventh_read : heartbeat_of (heartbeat_row 7) ≡ Some 7
unfolding heartbeat_row digits
seventh_read = refl

-- a hint row is no heartbeat
hint_is_none : heartbeat_of (hint_row 7) ≡ None
unfolding hint_row digits
hint_is_none = refl

-- the checkpoint behind the key (2) is read again
row_after_two_read : checkpoint_of (Num (pos 0) ∷ Text (codes "checkpoint") ∷ Text (codes "0 (2)") ∷ []) ≡ Some (record { position = 0; reach = To (Num (pos 2) ∷ []) })
unfolding printed_row listed printed character_count front_at words_after digits
row_after_two_read = refl

-- a position with a nought in front is no checkpoint's
nought_in_front : checkpoint_of (Num (pos 0) ∷ Text (codes "checkpoint") ∷ Text (codes "07 *") ∷ []) ≡ None
unfolding printed_row listed printed character_count front_at words_after digits
nought_in_front = refl

-- a hint row is no checkpoint
hint_is_no_checkpoint : checkpoint_of (hint_row 7) ≡ None
unfolding hint_row digits
hint_is_no_checkpoint = refl
