-- *Operator*: the commands of an operator's text, one a line, or the first line that is none. This project's rule.
use Rattle.std.specs.Prelude.{codes, ℕ, ◌+◌, ◌-◌, ◌^◌, min, Bool, true, false, if◌then◌else◌, List, [], ◌∷◌, ◌++◌, option_to_list, Option, Some, None, Result, Ok}
use Rattle.std.specs.List.{count_by}
use Rattle.std.specs.Option.{option_map}
use Rattle.std.specs.Str.{bytes_eq}
use Rattle.std.specs.Str.Lines.{lines}
use Rattle.base_values.specs.SchemaRules.Results.{◌>>=◌}
use Rattle.base_script.specs.declared.operator.Command.{Command}
use Rattle.base_script.specs.declared.operator.OperatorWord.{OperatorWord}
use Rattle.base_script.specs.declared.operator.OperatorWord.TheVariants.{Throttle, NoThrottle, ChunkSize, Unpostpone, Panic, Wait}
use Rattle.plan_orders.specs.declared.fault.OrderRefusal.{OrderRefusal}
use Rattle.plan_orders.specs.declared.fault.OrderRefusal.TheVariants as refusals
use Rattle.plan_orders.specs.declared.operator.TheConstants.{CHUNK_SIZE_LIMIT, WAIT_LIMIT}
use Rattle.plan_orders.specs.Numbers.{number_up_to}
use Rattle.plan_orders.specs.Refusals.{or_refused}
use Rattle.plan_orders.specs.Words.{spaced_words, parts_at}

-- `chunk-size=N` with N from 1 to 100,000
abbrev pub chunk_size_of : Option (List ℕ × List ℕ) → Option OperatorWord
chunk_size_of None = None
chunk_size_of (Some parts) = if bytes_eq parts.0 (codes "chunk-size") then option_map ChunkSize (number_up_to CHUNK_SIZE_LIMIT parts.1) else None

-- the command that one word is
unfoldable pub operator_word : List ℕ → Option OperatorWord
operator_word word =
    if bytes_eq word (codes "throttle") then Some Throttle
    else if bytes_eq word (codes "no-throttle") then Some NoThrottle
    else if bytes_eq word (codes "unpostpone") then Some Unpostpone
    else if bytes_eq word (codes "panic") then Some Panic
    else chunk_size_of (parts_at 61 word)

-- a command that takes one turn
abbrev pub once : OperatorWord → Command
once word = record { word = word; units = 1 }

abbrev pub waits : ℕ → Command
waits units = record { word = Wait; units = units }

-- `wait N` with N from 1 to 100,000
abbrev pub wait_of : List ℕ → List ℕ → Option Command
wait_of word number = if bytes_eq word (codes "wait") then option_map waits (number_up_to WAIT_LIMIT number) else None

-- the command that a line's words are
abbrev pub command_of : List (List ℕ) → Option Command
command_of [] = None
command_of (word ∷ []) = option_map once (operator_word word)
command_of (word ∷ number ∷ []) = wait_of word number
command_of (word ∷ number ∷ other ∷ others) = None

-- what a line of this number commands: nothing where it has no words
abbrev pub line_command : ℕ → List (List ℕ) → Result (Option Command) OrderRefusal
line_command line [] = Ok None
line_command line (word ∷ words) = or_refused (refusals.Command line) (option_map Some (command_of (word ∷ words)))

-- lines count from 1, those without words too (and stay at the greatest number of 32 bits)
abbrev pub next_line : ℕ → ℕ
next_line line = min (line + 1) (2 ^ 32 - 1)

-- the commands of the lines from here on
unfoldable pub commands_from : ℕ → List (List ℕ) → Result (List Command) OrderRefusal
commands_from line [] = Ok []
commands_from line (text ∷ texts) = do
  command ← line_command line (spaced_words text)
  others ← commands_from (next_line line) texts
  Ok (option_to_list command ++ others)

-- a line has a word
abbrev pub has_words : List (List ℕ) → Bool
has_words [] = false
has_words (word ∷ words) = true

-- how many lines of a text have a word
abbrev pub command_count : List ℕ → ℕ
command_count text = count_by (λ line. has_words (spaced_words line)) (lines text)

-- the commands that a text is, or its first line that is none
abbrev pub operator_of : List ℕ → Result (List Command) OrderRefusal
operator_of text = commands_from 1 (lines text)
