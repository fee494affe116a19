use Rattle.std.proofs.Common.{drop}
use Rattle.proof_journals.specs.Ghost.Statements.{SameColumns}
use Rattle.server_transaction.proofs.CopiedRows.{Left}
use Rattle.server_transaction.proofs.row_copies.columns.takes_as_is.Given as goal

-- the columns that are left decide
abbrev pub invariant-loop-new : goal.invariant-loop-new
invariant-loop-new l = Left (SameColumns l.into.columns l.map) l.rest (drop l.new-index l.map)
