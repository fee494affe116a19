-- A line with the number that it drew goes on, ends its transaction and leaves the others as it does without.
use Rattle.std.proofs.Common.{◌≡◌, ℕ, Bool, true, false, cond, List, [], ◌∷◌, ◌++◌, Option, Some, None, refl, sym, ap, ◌∙◌}
use Rattle.base_script.specs.declared.script.ScriptLine.{ScriptLine}
use Rattle.base_script.specs.declared.script.ScriptWord.{ScriptWord}
use Rattle.base_script.specs.declared.script.ScriptWord.TheVariants as words
use Rattle.server_model.specs.declared.transaction.Mark.{Mark}
use Rattle.server_model.specs.declared.transaction.Mark.TheVariants as marks
use Rattle.server_model.specs.declared.transaction.TxnEnd.{TxnEnd}
use Rattle.server_model.specs.declared.transaction.TxnLine.{TxnLine}
use Rattle.tool_program.specs.JournalWords.Clients.{word_numbered, Reached, is_inside, ends_with, closes, after_transaction, left_after, kept_unless, with_line}

abbrev pub line_numbered : ℕ → ScriptLine → ScriptLine
line_numbered number line = record line { word = word_numbered (Some number) line.word }

pub numbered_ends : (inside : Bool) (number : ℕ) (word : ScriptWord) (mark : Mark) → ends_with inside (word_numbered (Some number) word) mark ≡ ends_with inside word mark
numbered_ends inside number words.Begin mark = refl
numbered_ends inside number words.Commit mark = refl
numbered_ends inside number words.Rollback mark = refl
numbered_ends true number (words.Do statement) marks.Answered = refl
numbered_ends false number (words.Do statement) marks.Answered = refl
numbered_ends inside number (words.Do statement) marks.TimedOut = refl
numbered_ends inside number (words.Do statement) (marks.Lost side) = refl

pub numbered_closes : (number : ℕ) (word : ScriptWord) → closes (word_numbered (Some number) word) ≡ closes word
numbered_closes number words.Begin = refl
numbered_closes number words.Commit = refl
numbered_closes number words.Rollback = refl
numbered_closes number (words.Do statement) = refl

pub numbered_left : (inside : Bool) (number : ℕ) (mark : Mark) (line : ScriptLine) (lines : List ScriptLine) → left_after inside mark (line_numbered number line) lines ≡ left_after inside mark line lines
numbered_left true number marks.Answered line lines = refl
numbered_left true number marks.TimedOut line lines = ap (λ (b : Bool). cond b lines (after_transaction lines)) (numbered_closes number line.word)
numbered_left true number (marks.Lost side) line lines = refl
numbered_left false number marks.Answered line lines = refl
numbered_left false number marks.TimedOut line lines = refl
numbered_left false number (marks.Lost side) line lines = refl

kept_inside : (ended : Option TxnEnd) (lines : List TxnLine) (a b : TxnLine) → is_inside (kept_unless ended (lines ++ a ∷ [])) ≡ is_inside (kept_unless ended (lines ++ b ∷ []))
kept_inside (Some ended) lines a b = refl
kept_inside None [] a b = refl
kept_inside None (line ∷ lines) a b = refl

pub numbered_inside : (client : Reached) (number : ℕ) (word : ScriptWord) (mark : Mark) → is_inside (kept_unless (ends_with (is_inside client.lines) word mark) (with_line client word mark))
    ≡ is_inside (kept_unless (ends_with (is_inside client.lines) (word_numbered (Some number) word) mark) (with_line client (word_numbered (Some number) word) mark))
numbered_inside client number word mark =
    kept_inside (ends_with (is_inside client.lines) word mark) client.lines (record { word = word; mark = mark }) (record { word = word_numbered (Some number) word; mark = mark })
    ∙ ap (λ (e : Option TxnEnd). is_inside (kept_unless e (with_line client (word_numbered (Some number) word) mark))) (sym (numbered_ends (is_inside client.lines) number word mark))
