use Rattle.std.proofs.Common.{◌≡◌, ◌-◌, length}
use Rattle.sql_grammar.specs.Listed.{gathered}
use Rattle.sql_statement.specs.Conditions.{and_equality_at, with_set}
use Rattle.sql_statement.proofs.conditions.more_equalities_at.Given as goal

-- what is read from here on adds the same to the equalities so far
abbrev pub invariant-loop : goal.invariant-loop
invariant-loop l = gathered and_equality_at with_set (length l.words - l.counter) l.all l.rest ≡ gathered and_equality_at with_set (length l.words) l.fn.sets l.fn.words
