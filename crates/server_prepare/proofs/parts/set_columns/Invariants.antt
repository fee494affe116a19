use Rattle.std.proofs.Common.{◌≡◌, ◌++◌, drop, map}
use Rattle.server_prepare.proofs.parts.set_columns.Given as goal

-- the items so far, and those that are still copied, are all
abbrev pub invariant-loop-set : goal.invariant-loop-set
invariant-loop-set l = l.names ++ map (λ set. set.column) (drop l.set-index l.sets) ≡ map (λ set. set.column) l.sets
