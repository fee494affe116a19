use Rattle.tool_notes.proofs.Rows.{read_has_row}
use Rattle.tool_notes.proofs.laws.read_checkpoints_have_their_row.Goals as goal

pub returns : goal.returns
returns c = read_has_row
