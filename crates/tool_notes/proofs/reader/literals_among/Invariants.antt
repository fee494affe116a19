use Rattle.std.proofs.Common.{◌≡◌, take}
use Rattle.std.specs.List.{flat_map}
use Rattle.std.specs.Option.{option_to_list}
use Rattle.sql_grammar.specs.WordValues.ReadBack.{word_value}
use Rattle.tool_notes.proofs.reader.literals_among.Given as goal

-- the literals among the words so far
abbrev pub invariant-loop-word : goal.invariant-loop-word
invariant-loop-word l = l.values ≡ flat_map (λ word. option_to_list (word_value word.class word.text.now)) (take l.word-index l.words)
