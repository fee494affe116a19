use Rattle.std.proofs.Common.{sym, ◌∙◌}
use Rattle.server_seen.proofs.MetRows.{none_displaced}
use Rattle.server_seen.proofs.met_rows.rows_clashing.Goals as goal

pub returns-in-None : goal.returns-in-None
returns-in-None c = c.new.ensures ∙ sym (none_displaced c.args.table.now.table c.args.new.now (sym c.in-None.ensures))
