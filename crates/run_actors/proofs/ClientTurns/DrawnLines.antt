-- A script whose next line drew a number.
use Rattle.std.proofs.Common.{◌≡◌, ℕ, Bool, List, [], ◌∷◌, Option, Some, None, refl, sym, ap}
use Rattle.base_script.specs.declared.script.ScriptLine.{ScriptLine}
use Rattle.base_script.specs.declared.script.ScriptWord.{ScriptWord}
use Rattle.base_script.specs.declared.script.ScriptWord.TheVariants as words
use Rattle.base_script.specs.declared.statement.Statement.{Statement}
use Rattle.base_script.specs.declared.statement.Statement.TheVariants as statements
use Rattle.server_model.specs.declared.transaction.Mark.{Mark}
use Rattle.server_model.specs.Drawing.{numbered}
use Rattle.tool_program.specs.JournalWords.Clients.{ends_with, left_after, lines_drawn, word_numbered}
use Rattle.tool_program.proofs.JournalWords.DrawnLines.{numbered_ends, numbered_left}
use Rattle.run_actors.specs.ClientTurns.DrawnLines.{left_drawn}

unnumbered : (word : ScriptWord) → word_numbered None word ≡ word
unnumbered words.Begin = refl
unnumbered words.Commit = refl
unnumbered words.Rollback = refl
unnumbered (words.Do statement) = refl

pub first_drawn : (draw : Option ℕ) (line : ScriptLine) (lines : List ScriptLine) → left_drawn draw (line ∷ lines) ≡ record line { word = word_numbered draw line.word } ∷ lines
first_drawn None line lines = ap (λ (w : ScriptWord). record line { word = w } ∷ lines) (sym (unnumbered line.word))
first_drawn (Some number) line lines = refl

pub none_drawn : (draw : Option ℕ) → left_drawn draw [] ≡ []
none_drawn None = refl
none_drawn (Some number) = refl

pub after_drawn : (draw : Option ℕ) (inside : Bool) (mark : Mark) (line : ScriptLine) (lines : List ScriptLine) → left_after inside mark (record line { word = word_numbered draw line.word }) lines ≡ left_after inside mark line lines
after_drawn None inside mark line lines = ap (λ (w : ScriptWord). left_after inside mark (record line { word = w }) lines) (unnumbered line.word)
after_drawn (Some number) inside mark line lines = numbered_left inside number mark line lines

pub ends_drawn : (draw : Option ℕ) (inside : Bool) (mark : Mark) (word : ScriptWord) → ends_with inside (word_numbered draw word) mark ≡ ends_with inside word mark
ends_drawn None inside mark word = ap (λ (w : ScriptWord). ends_with inside w mark) (unnumbered word)
ends_drawn (Some number) inside mark word = numbered_ends inside number word mark

numbered_twice : (first second : ℕ) (statement : Statement) → numbered (Some second) (numbered (Some first) statement) ≡ numbered (Some second) statement
numbered_twice first second (statements.Insert table columns values drawn) = refl
numbered_twice first second (statements.Replace table columns values drawn) = refl
numbered_twice first second (statements.Delete table condition) = refl
numbered_twice first second (statements.Update table sets condition) = refl
numbered_twice first second (statements.Select table shown condition) = refl

word_twice : (first second : ℕ) (word : ScriptWord) → word_numbered (Some second) (word_numbered (Some first) word) ≡ word_numbered (Some second) word
word_twice first second words.Begin = refl
word_twice first second words.Commit = refl
word_twice first second words.Rollback = refl
word_twice first second (words.Do statement) = ap words.Do (numbered_twice first second statement)

-- the last number counts
pub drawn_again : (draw : Option ℕ) (number : ℕ) (lines : List ScriptLine) → lines_drawn number (left_drawn draw lines) ≡ left_drawn (Some number) lines
drawn_again None number lines = refl
drawn_again (Some first) number [] = refl
drawn_again (Some first) number (line ∷ lines) = ap (λ (w : ScriptWord). record line { word = w } ∷ lines) (word_twice first number line.word)
