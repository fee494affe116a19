use Rattle.std.proofs.Common.{◌≡◌, ◌+◌, ◌^◌, ◌<◌, ◌≤◌, ◌++◌, take, drop, length, vec_len, vec_capacity}
use Rattle.std.specs.List.{AllByRecursion}
use Rattle.server_log.specs.Encodings.{values_bytes}
use Rattle.server_log.specs.Laws.{IsHeld}
use Rattle.server_log.proofs.encoding.put_values.Given as goal

-- what was put so far, with the rest, is all; there is room for the rest, which is no longer than all
abbrev pub invariant-loop-value : goal.invariant-loop-value
invariant-loop-value l = record {
  items : l.into.items ++ values_bytes (drop l.value-index l.values) ≡ l.fn.into.items ++ values_bytes l.values;
  short : length (values_bytes (drop l.value-index l.values)) < 2 ^ 32;
  len : vec_len l.into + length (values_bytes (drop l.value-index l.values)) ≡ vec_len l.fn.into + length (values_bytes l.values);
  room : vec_len l.into + length (values_bytes (drop l.value-index l.values)) ≤ vec_capacity l.into;
  capacity : vec_capacity l.fn.into ≤ vec_capacity l.into;
  held : AllByRecursion IsHeld (take l.value-index l.values);
}
