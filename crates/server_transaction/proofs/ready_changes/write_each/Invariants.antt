use Rattle.std.proofs.Common.{◌≡◌, ◌≤◌, ◌+◌, ◌-◌, ◌++◌, length, map, drop}
use Rattle.std.specs.Prelude.{vec_len, vec_capacity}
use Rattle.std.specs.List.{AllByRecursion}
use Rattle.base_values.specs.GhoSchema.Rows.{key_places}
use Rattle.server_transaction.specs.Ready.{wrote_each, IsReady}
use Rattle.server_transaction.proofs.ready_changes.write_each.Given as goal

-- what the changes that are left write besides is what all write, and there is room for them
abbrev pub invariant-loop-one : goal.invariant-loop-one
invariant-loop-one l = record {
  schema : l.written.schema ≡ l.fn.written.schema;
  all : wrote_each (key_places l.fn.written.schema) (drop (length l.yielded) l.fn.ready.items) l.written.written ≡ wrote_each (key_places l.fn.written.schema) l.fn.ready.items l.fn.written.written;
  ready : AllByRecursion (IsReady (key_places l.fn.written.schema)) (drop (length l.yielded) l.fn.ready.items);
  room : length (drop (length l.yielded) l.fn.ready.items) + length (drop (length l.yielded) l.fn.ready.items) ≤ l.written.spare;
  keys : l.keys.items ++ map (λ one. one.gone) (drop (length l.yielded) l.fn.ready.items) ≡ l.fn.keys.items ++ map (λ one. one.gone) l.fn.ready.items;
  key_room : length (drop (length l.yielded) l.fn.ready.items) ≤ vec_capacity l.keys - vec_len l.keys;
}
