use Rattle.std.proofs.Common.{◌≡◌, ◌++◌, codes, take}
use Rattle.std.specs.List.{flat_map}
use Rattle.sql_show.proofs.printer.push_joined.Given as goal

-- the first line and those so far are written
abbrev pub invariant-loop-line : goal.invariant-loop-line
invariant-loop-line l = l.into ≡ l.initial.into ++ flat_map (λ next. codes ",\n  " ++ next) (take l.line-index l.others)
