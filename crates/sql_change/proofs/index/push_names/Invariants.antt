use Rattle.std.proofs.Common.{◌≡◌, ◌++◌, take}
use Rattle.std.specs.List.{filter_map}
use Rattle.sql_change.proofs.index.push_names.Given as goal

-- the names so far
abbrev pub invariant-loop-index : goal.invariant-loop-index
invariant-loop-index l = l.names ≡ l.fn.names ++ filter_map (λ index. index.name) (take l.index-index l.indexes)
