-- *Scripts*: the lines of a client's text, or the first that is refused.
use Rattle.std.specs.Prelude.{ℕ, ◌+◌, ◌-◌, ◌^◌, min, Bool, true, false, not, ◌&&◌, if◌then◌else◌, List, [], ◌∷◌, ◌++◌, Option, Some, None, Result, Ok, Err}
use Rattle.std.specs.List.{list_any}
use Rattle.std.specs.Str.{bytes_eq}
use Rattle.std.specs.Str.Lines.{lines}
use Rattle.sql_grammar.specs.Reads.{◌>>=◌}
use Rattle.sql_grammar.specs.Tokens.{text_words}
use Rattle.base_script.specs.declared.script.ScriptLine.{ScriptLine}
use Rattle.base_script.specs.declared.script.ScriptWord.{ScriptWord}
use Rattle.base_script.specs.declared.script.ScriptWord.TheVariants.{Begin, Commit, Rollback, Do}
use Rattle.base_script.specs.declared.statement.Statement.{Statement}
use Rattle.base_script.specs.declared.statement.Statement.TheVariants.{Insert, Replace, Delete, Update, Select}
use Rattle.sql_statement.specs.declared.code.ScriptCode.{ScriptCode}
use Rattle.sql_statement.specs.declared.code.ScriptCode.TheVariants.{BeginInside, EndOutside, LeftOpen, ToolTable}
use Rattle.sql_statement.specs.declared.code.ScriptRefusal.{ScriptRefusal}
use Rattle.sql_statement.specs.Lines.{line_of, has_lines}

abbrev pub table_of : Statement → List ℕ
table_of (Insert table columns values drawn) = table
table_of (Replace table columns values drawn) = table
table_of (Delete table condition) = table
table_of (Update table sets condition) = table
table_of (Select table shown condition) = table

-- the line names one of these tables
abbrev pub names_one_of : List (List ℕ) → ScriptWord → Bool
names_one_of tables (Do statement) = list_any (λ table. bytes_eq table (table_of statement)) tables
names_one_of tables Begin = false
names_one_of tables Commit = false
names_one_of tables Rollback = false

-- where a transaction is open, it ends
abbrev pub closed : Bool → Result Bool ScriptCode
closed true = Ok false
closed false = Err EndOutside

-- whether a transaction is open after a line, given whether one is before it: BEGIN is outside, COMMIT and ROLLBACK inside
abbrev pub open_after : Bool → ScriptWord → Result Bool ScriptCode
open_after is_open Begin = if is_open then Err BeginInside else Ok true
open_after is_open Commit = closed is_open
open_after is_open Rollback = closed is_open
open_after is_open (Do statement) = Ok is_open

-- the last line leaves no transaction open
abbrev pub ended_before : List (List ℕ) → Bool → Result Bool ScriptCode
ended_before texts is_open = if is_open && not (has_lines texts) then Err LeftOpen else Ok is_open

abbrev pub unless_tool : List (List ℕ) → Bool → ScriptWord → Result Bool ScriptCode
unless_tool tools is_open asked = if names_one_of tools asked then Err ToolTable else Ok is_open

-- Whether a transaction is open after a line, where it fits: with its transaction, with the texts of the lines to come, and
-- without a table of the tool's.
unfoldable pub fitting : List (List ℕ) → List (List ℕ) → Bool → Option ScriptWord → Result Bool ScriptCode
fitting tools texts is_open None = Ok is_open
fitting tools texts is_open (Some asked) = do
  is_open ← open_after is_open asked
  is_open ← ended_before texts is_open
  unless_tool tools is_open asked

-- what a line asks for, where it fits, and whether a transaction is open after it
unfoldable pub fitting_line : List (List ℕ) → List (List ℕ) → Bool → List ℕ → Result (Option ScriptWord × Bool) ScriptCode
fitting_line tools texts is_open text = do
  asked ← line_of (text_words text)
  is_open ← fitting tools texts is_open asked
  Ok (asked, is_open)

-- the line of this number is refused
abbrev pub at_line : {A : Type 0} → ℕ → Result A ScriptCode → Result A ScriptRefusal
at_line line (Ok x) = Ok x
at_line line (Err code) = Err (record { code = code; line = line })

abbrev pub numbered : ℕ → Option ScriptWord → List ScriptLine
numbered line None = []
numbered line (Some asked) = record { line = line; word = asked } ∷ []

-- lines count from 1, those without words too (and stay at the greatest number of 32 bits)
abbrev pub next_line : ℕ → ℕ
next_line line = min (line + 1) (2 ^ 32 - 1)

-- the lines from here on, where a transaction is open or not
unfoldable pub lines_from : List (List ℕ) → Bool → ℕ → List (List ℕ) → Result (List ScriptLine) ScriptRefusal
lines_from tools is_open number [] = Ok []
lines_from tools is_open number (text ∷ texts) = do
  line ← at_line number (fitting_line tools texts is_open text)
  others ← lines_from tools line.1 (next_line number) texts
  Ok (numbered number line.0 ++ others)

-- The script that a text is, where these are the tool's tables. It is cut at line feeds before any word is read.
abbrev pub script_of : List (List ℕ) → List ℕ → Result (List ScriptLine) ScriptRefusal
script_of tools text = lines_from tools false 1 (lines text)
