-- The cost of events, one after the other.
use Rattle.std.proofs.Common.{◌≡◌, ℕ, ◌+◌, ◌-◌, ◌^◌, ◌<◌, ◌≤◌, List, length, take, get_or, min, subst, sym, ap, ◌∙◌, arith}
use Rattle.std.proofs.lemmas.List.{take_all}
use Rattle.std.proofs.lemmas.List.Sums.{sum_by_more, sum_by_more_le}
use Rattle.base_values.specs.declared.event.RowEvent.{RowEvent}
use Rattle.server_log.specs.Encodings.{encoded}
use Rattle.server_log.specs.EventCosts.Costs.{bytes_of, cost_of}

-- a sum that stops at the most, with one more
stops : (sum more most : ℕ) → min (min sum most + more) most ≡ min (sum + more) most
stops sum more most = omega arith

-- the bytes of the events up to one and with it
pub bytes_more : (events : List RowEvent) (i : ℕ) (event : RowEvent) → i < length events → event ≡ get_or events i event → bytes_of (take i events) + length (encoded event) ≡ bytes_of (take (i + 1) events)
bytes_more events i event within is =
    sym (sum_by_more (λ (one : RowEvent). length (encoded one)) events i event within ∙ ap (λ (one : RowEvent). bytes_of (take i events) + length (encoded one)) (sym is))

-- ... which are within those of all
pub bytes_within : (events : List RowEvent) (i : ℕ) (event : RowEvent) → i < length events → event ≡ get_or events i event → bytes_of (take i events) + length (encoded event) ≤ bytes_of events
bytes_within events i event within is =
    subst (λ (one : RowEvent). bytes_of (take i events) + length (encoded one) ≤ bytes_of events) (sym is) (sum_by_more_le (λ (one : RowEvent). length (encoded one)) events i event within)

-- the bytes of all events
pub bytes_whole : (events : List RowEvent) (i : ℕ) → length events ≤ i → bytes_of (take i events) ≡ bytes_of events
bytes_whole events i past = ap bytes_of (take_all i events past)

-- the cost of the events up to one and with it
pub cost_more : (events : List RowEvent) (i : ℕ) (event : RowEvent) → i < length events → event ≡ get_or events i event → min (cost_of (take i events) + length (encoded event)) (2 ^ 64 - 1) ≡ cost_of (take (i + 1) events)
cost_more events i event within is =
    stops (bytes_of (take i events)) (length (encoded event)) (2 ^ 64 - 1) ∙ ap (λ n. min n (2 ^ 64 - 1)) (bytes_more events i event within is)

pub ruleset of_costs = (cost_more)
