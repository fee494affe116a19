-- What events cost in the log.
use Rattle.std.specs.Prelude.{ℕ, ◌-◌, ◌^◌, min, List, length}
use Rattle.std.specs.List.{sum_by}
use Rattle.base_values.specs.declared.event.RowEvent.{RowEvent}
use Rattle.server_log.specs.Encodings.{encoded}

-- In how many bytes the events are encoded.
abbrev pub bytes_of : List RowEvent → ℕ
bytes_of events = sum_by (λ event. length (encoded event)) events

-- The cost of events: that number, or 2^64 - 1 where it is more. This project's rule.
abbrev pub cost_of : List RowEvent → ℕ
cost_of events = min (bytes_of events) (2 ^ 64 - 1)
