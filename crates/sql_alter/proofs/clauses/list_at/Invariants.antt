use Rattle.std.proofs.Common.{◌≡◌, ◌-◌, length}
use Rattle.sql_grammar.specs.Listed.{listed}
use Rattle.sql_grammar.proofs.Lists.{with_front}
use Rattle.sql_change.specs.declared.code.AlterCode.TheVariants.{Syntax}
use Rattle.sql_alter.specs.Clauses.{clause_at}
use Rattle.sql_alter.proofs.clauses.list_at.Given as goal

-- the clauses so far, and those that are still read
abbrev pub invariant-loop : goal.invariant-loop
invariant-loop l = with_front l.clauses (listed (clause_at l.version) Syntax (length l.words - l.counter) l.rest) ≡ listed (clause_at l.fn.version) Syntax (length l.words) l.fn.words
