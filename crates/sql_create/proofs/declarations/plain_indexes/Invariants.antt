use Rattle.std.proofs.Common.{◌≡◌, map, take, not}
use Rattle.std.specs.Prelude.{filter}
use Rattle.sql_create.specs.DeclaredSchema.{key_index}
use Rattle.sql_create.proofs.declarations.plain_indexes.Given as goal

-- the keys so far
abbrev pub invariant-loop-key : goal.invariant-loop-key
invariant-loop-key l = l.indexes ≡ map (key_index l.names) (filter (λ key. not key.is_unique) (take l.key-index l.keys))
