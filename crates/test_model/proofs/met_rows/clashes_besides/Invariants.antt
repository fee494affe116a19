use Rattle.std.proofs.Common.{◌≡◌, drop}
use Rattle.server_model.specs.StatementResults.{clashes_besides}
use Rattle.test_model.proofs.met_rows.clashes_besides.Given as goal

-- the rows that are left decide
abbrev pub invariant-loop-row : goal.invariant-loop-row
invariant-loop-row l = clashes_besides l.schema l.new l.old (drop l.row-index l.rows) ≡ clashes_besides l.schema l.new l.old l.rows
