use Rattle.std.proofs.Common.{◌≡◌, ◌-◌, length}
use Rattle.sql_grammar.specs.Listed.{listed}
use Rattle.sql_grammar.proofs.Lists.{with_front}
use Rattle.sql_statement.specs.declared.code.StatementCode.TheVariants.{Syntax}
use Rattle.sql_statement.specs.Rows.{set_at}
use Rattle.sql_statement.proofs.rows.sets_at.Given as goal

-- the sets so far, and those that are still read
abbrev pub invariant-loop : goal.invariant-loop
invariant-loop l = with_front l.sets (listed set_at Syntax (length l.words - l.counter) l.rest) ≡ listed set_at Syntax (length l.words) l.fn.words
