-- The versions of a plan, and what each has. This project's rule.
use Rattle.std.specs.Prelude.{codes, ℕ, ◌==◌, Bool, ◌&&◌}
use Rattle.sql_grammar.specs.declared.token.Token.{Token}
use Rattle.sql_grammar.specs.Tokens.{is_keyword}

-- version 2 has AUTO_INCREMENT
abbrev pub has_counters : ℕ → Bool
has_counters version = version == 2

-- AUTO_INCREMENT, where the version has it
abbrev pub is_auto_increment : ℕ → Token → Bool
is_auto_increment version word = is_keyword word (codes "AUTO_INCREMENT") && has_counters version
