use Rattle.std.proofs.Common.{◌≡◌, ◌-◌, length}
use Rattle.sql_grammar.specs.Attributes.{unwritten, with_attribute}
use Rattle.sql_grammar.specs.Listed.{gathered}
use Rattle.sql_alter.specs.Column.{new_attribute_at}
use Rattle.sql_alter.proofs.column.new_attributes_at.Given as goal

-- what is read from here on makes the same of what stands so far
abbrev pub invariant-loop : goal.invariant-loop
invariant-loop l = gathered (new_attribute_at l.version) with_attribute (length l.words - l.counter) l.attributes l.rest ≡ gathered (new_attribute_at l.fn.version) with_attribute (length l.words) unwritten l.fn.words
