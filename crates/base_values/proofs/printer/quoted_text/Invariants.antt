use Rattle.std.proofs.Common.{◌≡◌, ◌++◌}
use Rattle.std.specs.Prelude.{codes, encode_utf8_all}
use Rattle.std.specs.List.{flat_map}
use Rattle.base_values.specs.Literals.{escaped}
use Rattle.base_values.proofs.printer.quoted_text.Given as goal

-- the characters so far are written
abbrev pub invariant-loop-character : goal.invariant-loop-character
invariant-loop-character l = l.quoted ≡ codes "'" ++ flat_map escaped (encode_utf8_all l.yielded)
