-- What holds of the copier at any time, besides what its steps say. (This project's rule.)
use Rattle.std.specs.Prelude.{◌<◌}
use Rattle.tool_program.specs.declared.chunk_copier.copier.CopyStep.{CopyStep}
use Rattle.tool_program.specs.declared.chunk_copier.copier.CopyStep.TheVariants.{Copying}

-- a row is copied only where the chunk has one that wasn't
abbrev pub StepFits : CopyStep → Type 0
StepFits (Copying chunk copied) = copied < chunk.keys
StepFits step = Unit {0}
