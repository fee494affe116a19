-- Which keys a span has, and when two spans leave room for a common one. A span is a set of keys between two ends, as MySQL's manual has it for range conditions ("Range Optimization") and locks ("InnoDB Locking").
use Rattle.std.specs.Prelude.{Bool, true, ◌&&◌, List}
use Rattle.std.specs.Ordering.{is_lt, is_le}
use Rattle.base_values.specs.declared.kind.Kind.{Kind}
use Rattle.base_values.specs.declared.value.Value.{Value}
use Rattle.base_values.specs.declared.span.Bound.{Bound}
use Rattle.base_values.specs.declared.span.Bound.TheVariants.{Open, Closed, Free}
use Rattle.base_values.specs.declared.span.Span.{Span}
use Rattle.base_values.specs.KeyOrder.{compare_keys}
use Rattle.base_values.specs.StoredValues.{AreOfKinds}

-- The key is on the inner side of a lower end.
abbrev pub above : Bound → List Value → Bool
above (Open end) key = is_lt (compare_keys end key)
above (Closed end) key = is_le (compare_keys end key)
above Free key = true

-- The key is on the inner side of an upper end.
abbrev pub below : Bound → List Value → Bool
below (Open end) key = is_lt (compare_keys key end)
below (Closed end) key = is_le (compare_keys key end)
below Free key = true

-- The span has the key.
unfoldable pub has : Span → List Value → Bool
has span key = above span.low key && below span.high key

-- The span of one key.
abbrev pub point : List Value → Span
point key = record { low = Closed key; high = Closed key }

-- A lower and an upper end leave room between them: the lower comes first, or both are closed at one key.
abbrev pub leave_room : Bound → Bound → Bool
leave_room Free high = true
leave_room low Free = true
leave_room (Closed low) (Closed high) = is_le (compare_keys low high)
leave_room (Closed low) (Open high) = is_lt (compare_keys low high)
leave_room (Open low) (Closed high) = is_lt (compare_keys low high)
leave_room (Open low) (Open high) = is_lt (compare_keys low high)

-- Two spans leave room for a common key: each lower end does with each upper end. Whether a key of the columns' kinds lies there is not asked.
unfoldable pub meets : Span → Span → Bool
meets a b = leave_room a.low a.high && leave_room a.low b.high && leave_room b.low a.high && leave_room b.low b.high

-- An end, where it is a key, is of the columns' kinds.
abbrev pub EndOfKinds : Bound → List Kind → Type 0
EndOfKinds (Open end) kinds = AreOfKinds end kinds
EndOfKinds (Closed end) kinds = AreOfKinds end kinds
EndOfKinds Free kinds = Unit {0}

-- A span of keys of the columns' kinds.
pub record SpanOfKinds (span : Span) (kinds : List Kind) : Type 0 where
  pub low : EndOfKinds span.low kinds
  pub high : EndOfKinds span.high kinds
