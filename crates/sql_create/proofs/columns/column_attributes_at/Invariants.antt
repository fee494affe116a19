use Rattle.std.proofs.Common.{◌≡◌, ◌-◌, length}
use Rattle.sql_grammar.specs.Listed.{gathered}
use Rattle.sql_create.specs.Columns.{unwritten_column, with_column_attribute, column_attribute_at}
use Rattle.sql_create.proofs.columns.column_attributes_at.Given as goal

-- what is read from here on makes the same of what stands so far
abbrev pub invariant-loop : goal.invariant-loop
invariant-loop l = gathered (column_attribute_at l.version) with_column_attribute (length l.words - l.counter) l.attributes l.rest ≡ gathered (column_attribute_at l.fn.version) with_column_attribute (length l.words) unwritten_column l.fn.words
