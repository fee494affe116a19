use Rattle.std.proofs.Common.{◌≡◌, ◌++◌, length, filter, Some}
use Rattle.server_model.specs.Rows.{lies_under}
use Rattle.server_seen.proofs.span_rows.copies_under.Given as goal

-- the rows so far, and those of the others that lie under it
abbrev pub invariant-loop-row : goal.invariant-loop-row
invariant-loop-row l = l.met ++ filter (lies_under (Some l.index) l.span) l.rows ≡ filter (lies_under (Some l.index) l.span) l.fn.rows

abbrev pub decreases-loop-row : goal.decreases-loop-row
decreases-loop-row l = length l.rows
