-- *Read back*: what a new tool reads in the changelog's row with id 0.
use Rattle.std.specs.Prelude.{◌≡◌, List, Some}
use Rattle.server_model.specs.declared.entry.Entry.{Entry}
use Rattle.tool_notes.specs.declared.checkpoint.Checkpoint.{Checkpoint}
use Rattle.tool_notes.specs.Readings.{checkpoint_of}
use Rattle.tool_program.specs.Tools.{Work}
use Rattle.proof_journals.specs.Ghost.Rows.Moments.{Row}
use Rattle.proof_migration.specs.Migration.Copier.CopierPlace.{copy_state}
use Rattle.proof_resume.specs.Reached.Coverage.{IsBehindTool, left_in}

-- *The row is read as a checkpoint behind the tool*, as it is after these turns
pub record IsReadBehind (journal : List Entry) (work : Work) (row : Row) : Type 0 where
  pub found : Checkpoint
  pub read : checkpoint_of row ≡ Some found
  pub behind : IsBehindTool found work.applier.position (left_in (copy_state journal work.copier))
