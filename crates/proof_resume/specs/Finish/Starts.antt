-- What a new copier and a new applier start from: the range of keys that is answered, and sessions that hold nothing.
use Rattle.std.specs.Prelude.{◌≡◌, List, Option}
use Rattle.base_values.specs.GhoSchema.Rows.{key_places}
use Rattle.base_values.specs.GhoSchema.Tables.{Ascends}
use Rattle.server_model.specs.Chunks.{ends_of, keys_of}
use Rattle.server_model.specs.declared.answer.Answer.TheVariants as answers
use Rattle.server_model.specs.declared.answer.KeyRange.{KeyRange}
use Rattle.proof_journals.specs.Ghost.Rows.Moments.{Row}
use Rattle.proof_journals.specs.Ghost.Rows.Timelines.{Migration}
use Rattle.proof_journals.specs.Scenes.{Stored}
use Rattle.proof_resume.specs.Settled.Ranges.{rows_now, IsRangeNow}

-- *Answered ranges are of the rows as they exist*, where the server answers with their least and their greatest key
abbrev pub RangesAreNow : Type 0
RangesAreNow =
    (m : Migration) (rows : List Row) (now : Stored) (range : Option KeyRange) → Ascends (key_places m.schema) (rows_now m rows now) → answers.Ends range ≡ ends_of (keys_of (key_places m.schema) (rows_now m rows now)) → IsRangeNow m rows now range
