use Rattle.std.proofs.Common.{take}
use Rattle.std.specs.List.{AllByRecursion}
use Rattle.server_log.specs.Laws.{IsHeld}
use Rattle.server_log.proofs.event_costs.table_events.read_row.Given as goal

-- the texts so far are UTF-8
abbrev pub invariant-loop-value : goal.invariant-loop-value
invariant-loop-value l = AllByRecursion IsHeld (take l.value-index l.row)
