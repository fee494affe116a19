use Rattle.std.proofs.Common.{◌≡◌, drop}
use Rattle.std.specs.List.{slice_get}
use Rattle.tool_program.specs.ToolSetup.Meanings.{words_in}
use Rattle.tool_program.proofs.tool_setup.operator.word_after.Given as goal

-- the word is among those of the commands that are left
abbrev pub invariant-loop-command : goal.invariant-loop-command
invariant-loop-command l = slice_get (words_in (drop l.command-index l.commands)) l.left ≡ slice_get (words_in l.commands) l.taken
