-- Images of rows, one after the other.
use Rattle.std.proofs.Common.{List, ◌++◌, Option, Some, None}
use Rattle.table_store.proofs.Orders.{Row}

-- the images so far, and behind them those of the others, where each has one
abbrev pub with_converted_rows : List Row → Option (List Row) → Option (List Row)
with_converted_rows front None = None
with_converted_rows front (Some others) = Some (front ++ others)
