use Rattle.std.proofs.Common.{◌≡◌, drop, length}
use Rattle.sql_change.specs.AlteredSchema.{same_columns}
use Rattle.sql_change.proofs.alters.same_columns.Given as goal

-- what stands from here on gives the answer to all
abbrev pub invariant-loop-i : goal.invariant-loop-i
invariant-loop-i l = record {
  same : same_columns l.origins (drop l.i l.places) (drop l.i l.old) ≡ same_columns l.origins l.places l.old;
  long : length l.places ≡ length l.old;
}
