-- *Clients* of a plan: a script a client, or the first line that is refused. This project's rule.
use Rattle.std.specs.Prelude.{ℕ, Bool, true, false, not, ◌&&◌, ◌||◌, nat_lt, if◌then◌else◌, List, [], ◌∷◌, Result, Ok, Err}
use Rattle.std.specs.List.{count_by, sum_by}
use Rattle.base_values.specs.SchemaRules.Results.{◌>>=◌}
use Rattle.base_values.specs.ToolNames.{ghost_name, log_name, old_name}
use Rattle.base_script.specs.declared.script.ScriptLine.{ScriptLine}
use Rattle.base_script.specs.declared.script.ScriptWord.{ScriptWord}
use Rattle.base_script.specs.declared.script.ScriptWord.TheVariants as words
use Rattle.base_script.specs.declared.statement.Condition.{Condition}
use Rattle.base_script.specs.declared.statement.Condition.TheVariants.{All, Equal, Range}
use Rattle.base_script.specs.declared.statement.Shown.{Shown}
use Rattle.base_script.specs.declared.statement.Shown.TheVariants as shown
use Rattle.base_script.specs.declared.statement.Statement.{Statement}
use Rattle.base_script.specs.declared.statement.Statement.TheVariants.{Insert, Replace, Delete, Update, Select}
use Rattle.sql_statement.specs.Scripts.{script_of}
use Rattle.plan_keys.specs.declared.fault.KeyRefusal.TheVariants.{TooMany}
use Rattle.plan_reader.specs.declared.limits.TheConstants.{STATEMENT_LIMIT, OPEN_SELECT_LIMIT}
use Rattle.plan_reader.specs.declared.fault.PlanRefusal.{PlanRefusal}
use Rattle.plan_reader.specs.declared.fault.PlanRefusal.TheVariants.{Keys}
use Rattle.plan_reader.specs.Refusals.{of_script}
use Rattle.plan_reader.specs.Walks.{each_from}

-- ---- how many statements there are

-- the line is a statement; BEGIN, COMMIT and ROLLBACK are none
unfoldable pub is_statement : ScriptWord → Bool
is_statement (words.Do statement) = true
is_statement words.Begin = false
is_statement words.Commit = false
is_statement words.Rollback = false

-- the condition is an equality
abbrev pub is_equality : Condition → Bool
is_equality All = false
is_equality (Equal sets) = true
is_equality (Range comparisons) = false

-- rows are shown, and not how many there are
abbrev pub shows_rows : Shown → Bool
shows_rows shown.All = true
shows_rows (shown.Columns names) = true
shows_rows shown.Count = false

-- a SELECT that may show many rows
abbrev pub is_open : Statement → Bool
is_open (Select table selected condition) = shows_rows selected && not (is_equality condition)
is_open (Insert table columns values drawn) = false
is_open (Replace table columns values drawn) = false
is_open (Delete table condition) = false
is_open (Update table sets condition) = false

unfoldable pub is_open_select : ScriptWord → Bool
is_open_select (words.Do statement) = is_open statement
is_open_select words.Begin = false
is_open_select words.Commit = false
is_open_select words.Rollback = false

-- how many lines of the scripts pass the test
abbrev pub line_count : (ScriptWord → Bool) → List (List ScriptLine) → ℕ
line_count test scripts = sum_by (λ script. count_by (λ line. test line.word) script) scripts

-- more than 50,000 statements, or more than 64 SELECTs that may show many rows
abbrev pub has_many_statements : List (List ScriptLine) → Bool
has_many_statements scripts = nat_lt STATEMENT_LIMIT (line_count is_statement scripts) || nat_lt OPEN_SELECT_LIMIT (line_count is_open_select scripts)

abbrev pub few_statements : List (List ScriptLine) → Result (List (List ScriptLine)) PlanRefusal
few_statements scripts = if has_many_statements scripts then Err (Keys TooMany) else Ok scripts

-- ---- the scripts

-- the script of the client of this number, where these are the tool's tables
abbrev pub client_script : List (List ℕ) → ℕ → List ℕ → Result (List ScriptLine) PlanRefusal
client_script tools client text = of_script client (script_of tools text)

abbrev pub scripts_of : List (List ℕ) → List (List ℕ) → Result (List (List ScriptLine)) PlanRefusal
scripts_of tools texts = each_from (client_script tools) 1 texts

-- the names of the tool's tables, which no client may name
abbrev pub tool_names : List ℕ → List (List ℕ)
tool_names migrated = ghost_name migrated ∷ log_name migrated ∷ old_name migrated ∷ []

-- *Clients*: each script is read first, and only then it is counted how many statements there are.
unfoldable pub clients_of : List ℕ → List (List ℕ) → Result (List (List ScriptLine)) PlanRefusal
clients_of migrated texts = scripts_of (tool_names migrated) texts >>= few_statements
