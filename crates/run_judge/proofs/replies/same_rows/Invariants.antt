use Rattle.std.proofs.Common.{◌≡◌, drop}
use Rattle.run_audit.specs.Audits.{same_rows}
use Rattle.run_judge.proofs.replies.same_rows.Given as goal

-- the rows that are left decide
abbrev pub invariant-loop-place : goal.invariant-loop-place
invariant-loop-place l = same_rows (drop l.place l.rows) (drop l.place l.others) ≡ same_rows l.rows l.others
