-- A client whose line drew a number has as many lines left as before.
use Rattle.std.proofs.Common.{◌≡◌, ℕ, List, [], ◌∷◌, length, Option, Some, None, refl, ap}
use Rattle.base_script.specs.declared.script.ScriptLine.{ScriptLine}
use Rattle.tool_program.specs.JournalWords.Clients.{Reached, lines_drawn, with_draw, word_numbered}

pub drawn_length : (draw : Option ℕ) (client : Reached) → length (with_draw draw client).left ≡ length client.left
drawn_length None client = refl
drawn_length (Some number) client = by client.left where
  by : (lines : List ScriptLine) → length (lines_drawn number lines) ≡ length lines
  by [] = refl
  by (line ∷ lines) = refl

-- after its first line come the same lines
pub drawn_front : (draw : Option ℕ) (client : Reached) (line : ScriptLine) (lines : List ScriptLine) → client.left ≡ line ∷ lines → (first : ScriptLine) × ((with_draw draw client).left ≡ first ∷ lines)
drawn_front None client line lines is = (line, is)
drawn_front (Some number) client line lines is = (record line { word = word_numbered (Some number) line.word }, ap (lines_drawn number) is)
