-- The range of keys that a new tool copies from a checkpoint on.
use Rattle.std.specs.Prelude.{◌≡◌, true, List, [], length, Option, Some, None}
use Rattle.std.specs.List.{AllByRecursion}
use Rattle.base_values.specs.declared.span.Bound.TheVariants.{Closed}
use Rattle.base_values.specs.declared.span.Span.{Span}
use Rattle.base_values.specs.Spans.{has}
use Rattle.base_values.specs.GhoSchema.Rows.{key_of, key_places}
use Rattle.server_model.specs.declared.answer.KeyRange.{KeyRange}
use Rattle.tool_program.specs.declared.chunk_copier.copier.CopyRange.{CopyRange}
use Rattle.proof_journals.specs.Scenes.{Stored}
use Rattle.proof_journals.specs.Ghost.Rows.Moments.{Row, rows_at}
use Rattle.proof_journals.specs.Ghost.Rows.Timelines.{Migration}

-- the rows of the migrated table as they exist
abbrev pub rows_now : Migration → List Row → Stored → List Row
rows_now m rows now = rows_at m.name (key_places m.schema) rows now.log (length now.log)

-- *The range* of the migrated table's rows as they exist; none where it has none
abbrev pub IsRangeNow : Migration → List Row → Stored → Option KeyRange → Type 0
IsRangeNow m rows now None = rows_now m rows now ≡ []
IsRangeNow m rows now (Some range) = AllByRecursion (λ row. has (record { low = Closed range.least; high = Closed range.greatest }) (key_of (key_places m.schema) row) ≡ true) (rows_now m rows now)

-- what is left to copy of a range
abbrev pub range_left : Option CopyRange → Option Span
range_left None = None
range_left (Some range) = Some (record { low = range.low; high = Closed range.top })
