use Rattle.std.proofs.Common.{take}
use Rattle.std.specs.List.{AllByRecursion}
use Rattle.std.specs.Str.{IsUtf8}
use Rattle.table_store.specs.Databases.{database}
use Rattle.top_call.proofs.whole_replays.opening.read_names.Given as goal

-- the names so far are UTF-8
abbrev pub invariant-loop-n : goal.invariant-loop-n
invariant-loop-n l = AllByRecursion (λ table. IsUtf8 table.schema.name) (database (take l.n l.tables))
