use Rattle.std.proofs.Common.{◌≡◌, drop}
use Rattle.sql_change.specs.AlteredSchema.{steps}
use Rattle.sql_change.specs.AlteredSoFar.{Stands}
use Rattle.sql_change.proofs.alters.steps.Given as goal

-- the clauses from here on give what all give, and the table stands
abbrev pub invariant-loop-clause : goal.invariant-loop-clause
invariant-loop-clause l = record {
  said : steps l.approve l.standing (drop l.clause-index l.clauses) ≡ steps l.approve l.fn.start l.clauses;
  stands : Stands l.standing;
}
