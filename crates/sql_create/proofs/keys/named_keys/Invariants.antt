use Rattle.std.proofs.Common.{◌≡◌, length, drop}
use Rattle.std.specs.Prelude.{fold}
use Rattle.sql_create.specs.Keys.{no_keys, with_key}
use Rattle.sql_create.proofs.keys.named_keys.Given as goal

-- what the keys from here on make of those so far
abbrev pub invariant-loop-key : goal.invariant-loop-key
invariant-loop-key l = fold (with_key l.names) l.named (drop (length l.yielded) l.fn.keys) ≡ fold (with_key l.names) no_keys l.fn.keys
