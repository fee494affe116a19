use Rattle.std.proofs.Common.{◌≡◌, map, take}
use Rattle.sql_words.specs.Readings.{views}
use Rattle.sql_grammar.specs.Tokens.{token_of}
use Rattle.sql_grammar.proofs.tokens.tokens_of.Given as goal

-- the words so far
abbrev pub invariant-loop-word : goal.invariant-loop-word
invariant-loop-word l = l.tokens.items ≡ map token_of (views (take l.word-index l.words))
