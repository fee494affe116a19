use Rattle.std.proofs.Common.{◌≡◌, ◌++◌, take}
use Rattle.std.specs.Prelude.{codes}
use Rattle.std.specs.List.{flat_map}
use Rattle.base_values.specs.Literals.{printed}
use Rattle.base_values.proofs.printer.push_listed.Given as goal

-- the first value and those so far are written
abbrev pub invariant-loop-value : goal.invariant-loop-value
invariant-loop-value l = l.into ≡ l.initial.into ++ flat_map (λ next. codes ", " ++ printed next) (take l.value-index l.rest)
