use Rattle.std.proofs.Common.{◌≡◌, ◌-◌, length}
use Rattle.sql_grammar.specs.Listed.{gathered}
use Rattle.sql_create.specs.Options.{no_options, with_option, option_at}
use Rattle.sql_create.proofs.options.options_at.Given as goal

-- what is read from here on makes the same of what stands so far
abbrev pub invariant-loop : goal.invariant-loop
invariant-loop l = gathered (option_at l.version) with_option (length l.words - l.counter) l.options l.rest ≡ gathered (option_at l.fn.version) with_option (length l.words) no_options l.fn.words
