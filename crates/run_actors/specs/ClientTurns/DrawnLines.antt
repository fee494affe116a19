-- The script that is left to a client, with the number that its next line drew. (A server draws one only for a line that is done or
-- lost in that turn.)
use Rattle.std.specs.Prelude.{ℕ, List, Option, Some, None}
use Rattle.base_script.specs.declared.script.ScriptLine.{ScriptLine}
use Rattle.tool_program.specs.JournalWords.Clients.{lines_drawn}

abbrev pub left_drawn : Option ℕ → List ScriptLine → List ScriptLine
left_drawn None lines = lines
left_drawn (Some number) lines = lines_drawn number lines
