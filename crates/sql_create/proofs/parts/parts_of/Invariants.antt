use Rattle.std.proofs.Common.{◌≡◌, length, drop}
use Rattle.std.specs.Prelude.{fold}
use Rattle.sql_create.specs.Parts.{no_parts, with_item}
use Rattle.sql_create.proofs.parts.parts_of.Given as goal

-- what the items from here on make of the parts so far
abbrev pub invariant-loop-item : goal.invariant-loop-item
invariant-loop-item l = fold with_item l.parts (drop (length l.yielded) l.fn.items) ≡ fold with_item no_parts l.fn.items
