use Rattle.std.proofs.Common.{◌≡◌, ◌-◌, length}
use Rattle.sql_grammar.specs.declared.code.SchemaCode.TheVariants.{Syntax}
use Rattle.sql_grammar.specs.Listed.{listed}
use Rattle.sql_grammar.specs.Pieces.{name_at}
use Rattle.sql_grammar.proofs.Lists.{with_front}
use Rattle.sql_grammar.proofs.keys.names_at.Given as goal

-- the names so far, and those that are still read
abbrev pub invariant-loop : goal.invariant-loop
invariant-loop l = with_front l.names (listed name_at Syntax (length l.words - l.counter) l.rest) ≡ listed name_at Syntax (length l.words) l.fn.words
