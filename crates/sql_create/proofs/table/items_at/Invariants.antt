use Rattle.std.proofs.Common.{◌≡◌, ◌-◌, length}
use Rattle.sql_grammar.specs.declared.code.SchemaCode.TheVariants.{Syntax}
use Rattle.sql_grammar.specs.Listed.{listed}
use Rattle.sql_grammar.proofs.Lists.{with_front}
use Rattle.sql_create.specs.Written.{item_at}
use Rattle.sql_create.proofs.table.items_at.Given as goal

-- the items so far, and those that are still read
abbrev pub invariant-loop : goal.invariant-loop
invariant-loop l = with_front l.items (listed (item_at l.version) Syntax (length l.words - l.counter) l.rest) ≡ listed (item_at l.fn.version) Syntax (length l.words) l.fn.words
