use Rattle.std.specs.List.{flat_map}
use Rattle.table_store.specs.Databases.{database}
use Rattle.table_store.specs.PagedTables.PagedDatabases.{stored_of}
use Rattle.server_model.specs.States.{counter_of}
use Rattle.server.proofs.OpeningCounters.{one_table}
use Rattle.server.proofs.opening.counters.counters_of.Goals as goal

pub loop-n-preserved : goal.loop-n-preserved
loop-n-preserved c =
    one_table c.args.tables.now c.loop-n.n (stored_of c.at.result.now) c.loop-n.counters.items c.push_counter.new.counters.items (flat_map counter_of (database c.args.tables.now)) c.at.ensures c.in_ok-push_counter.ensures c.loop-n.invariant
