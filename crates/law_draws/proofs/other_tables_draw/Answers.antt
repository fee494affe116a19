use Rattle.law_draws.proofs.OtherTables.{other_tables_draw}
use Rattle.law_draws.proofs.other_tables_draw.Goals as goal

pub returns : goal.returns
returns c = other_tables_draw
