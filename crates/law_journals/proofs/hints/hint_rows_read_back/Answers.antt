use Rattle.law_journals.proofs.HintRows.{hints_read}
use Rattle.law_journals.proofs.hints.hint_rows_read_back.Goals as goal

pub returns : goal.returns
returns c = hints_read
