use Rattle.std.proofs.Common.{◌≡◌, drop}
use Rattle.server_model.specs.StatementResults.{updates}
use Rattle.test_model.specs.RowUpdates.{changes_after}
use Rattle.test_model.proofs.updates.steps.Given as goal

-- the rows that are left make of the changes so far what all make
abbrev pub invariant-loop-old : goal.invariant-loop-old
invariant-loop-old l = changes_after l.going.changes (updates l.schema l.sets (drop l.old-index l.met) l.going.rows) ≡ changes_after l.fn.going.changes (updates l.schema l.sets l.met l.fn.going.rows)
