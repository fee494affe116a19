-- The number and the name of each refusal of a script's line (this project's).
use Rattle.std.specs.Prelude.{codes, ℕ, List}
use Rattle.sql_statement.specs.declared.code.StatementCode.{StatementCode}
use Rattle.sql_statement.specs.declared.code.StatementCode.TheVariants.{Syntax, Scope}
use Rattle.sql_statement.specs.declared.code.ScriptCode.{ScriptCode}
use Rattle.sql_statement.specs.declared.code.ScriptCode.TheVariants.{Word, Statement, BeginInside, EndOutside, LeftOpen, ToolTable}

abbrev pub statement_code : StatementCode → ℕ × List ℕ
statement_code Syntax = (41, codes "statement_syntax")
statement_code Scope = (42, codes "statement_scope")

abbrev pub script_code : ScriptCode → ℕ × List ℕ
script_code Word = (40, codes "script_word")
script_code (Statement code) = statement_code code
script_code BeginInside = (43, codes "begin_inside")
script_code EndOutside = (44, codes "end_outside")
script_code LeftOpen = (45, codes "left_open")
script_code ToolTable = (46, codes "tool_table")
