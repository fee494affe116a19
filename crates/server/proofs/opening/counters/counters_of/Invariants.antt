use Rattle.std.proofs.Common.{◌≡◌, ◌++◌, drop}
use Rattle.std.specs.List.{flat_map}
use Rattle.table_store.specs.Databases.{database}
use Rattle.server_model.specs.States.{counter_of}
use Rattle.server.proofs.opening.counters.counters_of.Given as goal

-- the counters so far, with those of the tables that are left, are all
abbrev pub invariant-loop-n : goal.invariant-loop-n
invariant-loop-n l = l.counters.items ++ flat_map counter_of (database (drop l.n l.tables)) ≡ flat_map counter_of (database l.tables)
