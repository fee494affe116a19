use Rattle.std.proofs.Common.{◌≡◌, ◌++◌, drop, map}
use Rattle.server_prepare.proofs.parts.set_values.Given as goal

-- the items so far, and those that are still copied, are all
abbrev pub invariant-loop-set : goal.invariant-loop-set
invariant-loop-set l = l.values ++ map (λ set. set.value) (drop l.set-index l.sets) ≡ map (λ set. set.value) l.sets
