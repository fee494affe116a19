-- How a checkpoint row is read: what is read of it counts where its row is this row. This project's rule.
use Rattle.std.specs.Prelude.{codes, ℕ, ◌^◌, pos, Bool, false, nat_lt, ◌==◌, ◌&&◌, if◌then◌else◌, List, [], ◌∷◌, Option, Some, None, Result, Ok, Err}
use Rattle.std.specs.List.{flat_map, before_first, after_first}
use Rattle.std.specs.Option.{option_to_list, option_and_then}
use Rattle.std.specs.Ordering.{int_eq}
use Rattle.std.specs.Str.{bytes_eq}
use Rattle.base_values.specs.declared.value.Value.{Value}
use Rattle.base_values.specs.declared.value.Value.TheVariants.{Num, Text}
use Rattle.sql_words.specs.declared.word.WordFault.{WordFault}
use Rattle.sql_words.specs.Readings.{Reading, words_of}
use Rattle.sql_grammar.specs.WordValues.ReadBack.{word_value}
use Rattle.tool_changelog.specs.declared.checkpoint.Reach.{Reach}
use Rattle.tool_changelog.specs.declared.checkpoint.Reach.TheVariants.{Nothing, To, All}
use Rattle.tool_notes.specs.declared.checkpoint.Checkpoint.{Checkpoint}
use Rattle.tool_changelog.specs.Checkpoints.{checkpoint_value}

-- the literals among the words
abbrev pub literals_among : List Reading → List Value
literals_among words = flat_map (λ word. option_to_list (word_value word.class word.text)) words

abbrev pub literals_read : Result (List Reading) WordFault → List Value
literals_read (Ok words) = literals_among words
literals_read (Err fault) = []

-- the literals of a text; none where it has a fault
abbrev pub literals : List ℕ → List Value
literals text = literals_read (words_of text)

-- one number of 64 bits
abbrev pub position_of : List Value → Option ℕ
position_of (Num (pos number) ∷ []) = if nat_lt number (2 ^ 64) then Some number else None
position_of values = None

-- the reach that a text tells
abbrev pub reach_of : List ℕ → Reach
reach_of text = if bytes_eq text (codes "-") then Nothing else (if bytes_eq text (codes "*") then All else To (literals text))

abbrev pub is_blank : ℕ → Bool
is_blank byte = byte == 32

abbrev pub note_at : List ℕ → Option ℕ → Option Checkpoint
note_at following None = None
note_at following (Some position) = Some (record { position = position; reach = reach_of following })

-- the checkpoint that a text tells: its position comes before the first blank, and its reach after it
abbrev pub note_of : List ℕ → Option Checkpoint
note_of text = note_at (after_first is_blank text) (position_of (literals (before_first is_blank text)))

abbrev pub has_text : Option Value → List ℕ → Bool
has_text (Some (Text value)) text = bytes_eq value text
has_text value text = false

-- the checkpoint, where its row has just this text
abbrev pub checked : List ℕ → Checkpoint → Option Checkpoint
checked text note = if has_text (checkpoint_value note.position note.reach) text then Some note else None

-- the checkpoint whose row this is
abbrev pub checkpoint_of : List Value → Option Checkpoint
checkpoint_of (Num id ∷ (Text hint ∷ (Text value ∷ []))) = if int_eq id (pos 0) && bytes_eq hint (codes "checkpoint") then option_and_then (checked value) (note_of value) else None
checkpoint_of row = None
