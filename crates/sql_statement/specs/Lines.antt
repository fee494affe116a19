-- What a line of a script asks for, by its text.
use Rattle.std.specs.Prelude.{ℕ, Bool, true, false, not, if◌then◌else◌, List, [], ◌∷◌, Option, Some, None, Result, Ok, Err}
use Rattle.std.specs.List.{list_any}
use Rattle.sql_grammar.specs.declared.token.Token.{Token}
use Rattle.sql_grammar.specs.declared.tokens.TextWords.{TextWords}
use Rattle.sql_grammar.specs.Tokens.{text_words}
use Rattle.base_script.specs.declared.script.ScriptWord.{ScriptWord}
use Rattle.sql_statement.specs.declared.code.ScriptCode.{ScriptCode}
use Rattle.sql_statement.specs.declared.code.ScriptCode.TheVariants as codes
use Rattle.sql_statement.specs.declared.code.StatementCode.{StatementCode}
use Rattle.sql_statement.specs.Statements.{statement_of}

abbrev pub of_statement : Result ScriptWord StatementCode → Result (Option ScriptWord) ScriptCode
of_statement (Ok asked) = Ok (Some asked)
of_statement (Err code) = Err (codes.Statement code)

-- a line without words asks for nothing
abbrev pub asked_of : List Token → Result (Option ScriptWord) ScriptCode
asked_of [] = Ok None
asked_of (word ∷ rest) = of_statement (statement_of (word ∷ rest))

-- What the words of a line's text ask for; a fault of its words comes first.
abbrev pub line_of : TextWords → Result (Option ScriptWord) ScriptCode
line_of text = if text.is_faulty then Err codes.Word else asked_of text.words

-- a text without words, but for comments, is no line of a script
abbrev pub is_empty : List Token → Bool
is_empty [] = true
is_empty (word ∷ rest) = false

abbrev pub is_line : TextWords → Bool
is_line text = if text.is_faulty then true else not (is_empty text.words)

-- lines are still to come
abbrev pub has_lines : List (List ℕ) → Bool
has_lines texts = list_any (λ text. is_line (text_words text)) texts
