use Rattle.tool_notes.proofs.Rows.{rows_are_read}
use Rattle.tool_notes.proofs.laws.checkpoint_rows_are_read.Goals as goal

pub returns : goal.returns
returns c = rows_are_read
