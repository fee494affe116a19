use Rattle.std.proofs.Common.{◌≡◌, ◌++◌, take}
use Rattle.std.specs.Prelude.{codes}
use Rattle.std.specs.List.{flat_map}
use Rattle.base_values.specs.Literals.{hexadecimal}
use Rattle.base_values.proofs.printer.quoted_bytes.Given as goal

-- the bytes so far are written
abbrev pub invariant-loop-byte : goal.invariant-loop-byte
invariant-loop-byte l = l.quoted ≡ codes "x'" ++ flat_map hexadecimal (take l.byte-index l.bytes)
