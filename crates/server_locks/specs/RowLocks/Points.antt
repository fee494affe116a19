-- Spans of one key.
use Rattle.std.specs.Prelude.{Bool, false, List}
use Rattle.std.specs.Ordering.{is_eq}
use Rattle.base_values.specs.declared.value.Value.{Value}
use Rattle.base_values.specs.declared.span.Bound.{Bound}
use Rattle.base_values.specs.declared.span.Bound.TheVariants.{Open, Closed, Free}
use Rattle.base_values.specs.declared.span.Span.{Span}
use Rattle.base_values.specs.KeyOrder.{compare_keys}

-- the upper end is closed at this key
abbrev pub closes_at : List Value → Bound → Bool
closes_at low Free = false
closes_at low (Open high) = false
closes_at low (Closed high) = is_eq (compare_keys low high)

-- both ends are closed at the same key
abbrev pub are_one_key : Bound → Bound → Bool
are_one_key Free high = false
are_one_key (Open low) high = false
are_one_key (Closed low) high = closes_at low high

-- The span is that of one key.
abbrev pub is_point : Span → Bool
is_point span = are_one_key span.low span.high
