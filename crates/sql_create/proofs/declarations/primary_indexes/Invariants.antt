use Rattle.std.proofs.Common.{◌≡◌, map, take}
use Rattle.sql_create.specs.DeclaredSchema.{primary_index}
use Rattle.sql_create.proofs.declarations.primary_indexes.Given as goal

-- the keys so far
abbrev pub invariant-loop-columns : goal.invariant-loop-columns
invariant-loop-columns l = l.indexes ≡ map (primary_index l.names) (take l.columns-index l.primaries)
