-- What the log says of a table.
use Rattle.std.specs.Prelude.{ℕ, List}
use Rattle.base_values.specs.declared.event.Change.{Change}
use Rattle.base_values.specs.declared.event.RowEvent.{RowEvent}
use Rattle.tool_program.specs.EventApplier.Appliers.{events_of}
use Rattle.run_rebuild.specs.Rebuilds.{changes_of}

-- what a log says of the table of this name, in order
abbrev pub changes_logged : List ℕ → List RowEvent → List Change
changes_logged name log = changes_of (events_of name log)
