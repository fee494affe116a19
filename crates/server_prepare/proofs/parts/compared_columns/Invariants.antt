use Rattle.std.proofs.Common.{◌≡◌, ◌++◌, drop, map}
use Rattle.server_prepare.proofs.parts.compared_columns.Given as goal

-- the items so far, and those that are still copied, are all
abbrev pub invariant-loop-comparison : goal.invariant-loop-comparison
invariant-loop-comparison l = l.names ++ map (λ comparison. comparison.column) (drop l.comparison-index l.comparisons) ≡ map (λ comparison. comparison.column) l.comparisons
