use Rattle.std.proofs.Common.{option_copied, sym, ap}
use Rattle.server_seen.proofs.SeenTables.{seen_none}
use Rattle.server_seen.proofs.seen.SeenTable.unwritten_table.Goals as goal

pub returns-in-None-clause-rows : goal.returns-in-None-clause-rows
returns-in-None-clause-rows c = rw (← c.self.view_is) (sym (seen_none c.self.inside.table.now.table (option_copied c.self.inside.written) (ap option_copied c.in-None.is)))
