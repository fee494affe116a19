-- *Command* of a command line: `check`, `replay`, `run`, `run --workers N`, `run --workers=N`, `generate N`, `trace`, `audit`, or
-- `rebuild` with or without a number as `run` has it. This project's rule.
use Rattle.std.specs.Prelude.{codes, ℕ, ◌&&◌, if◌then◌else◌, List, [], ◌∷◌, take, drop, Option, Some, None, option_and_then, option_map}
use Rattle.std.specs.Str.{bytes_eq}
use Rattle.top_words.specs.declared.command.Command.{Command}
use Rattle.top_words.specs.declared.command.Command.TheVariants.{Check, Replay, Run, Generate, Trace, Audit, Rebuild}
use Rattle.top_words.specs.Numbers.{number_of, workers_of}

-- a command without a number; a run and a rebuild have 4 workers where it doesn't say
abbrev pub plain_command : List ℕ → Option Command
plain_command name =
    if bytes_eq name (codes "check") then Some Check
    else if bytes_eq name (codes "replay") then Some Replay
    else if bytes_eq name (codes "run") then Some (Run 4)
    else if bytes_eq name (codes "trace") then Some Trace
    else if bytes_eq name (codes "audit") then Some Audit
    else if bytes_eq name (codes "rebuild") then Some (Rebuild 4)
    else None

abbrev pub run_by : List ℕ → Option Command
run_by number = option_map Run (workers_of number)

abbrev pub rebuild_by : List ℕ → Option Command
rebuild_by number = option_map Rebuild (workers_of number)

abbrev pub generate_of : List ℕ → Option Command
generate_of number = option_map Generate (number_of number)

-- what follows `--workers=` in a word
abbrev pub attached_number : List ℕ → Option (List ℕ)
attached_number word = if bytes_eq (take 10 word) (codes "--workers=") then Some (drop 10 word) else None

-- `generate N`, `run --workers=N` and `rebuild --workers=N`
abbrev pub numbered_command : List ℕ → List ℕ → Option Command
numbered_command name word =
    if bytes_eq name (codes "generate") then generate_of word
    else if bytes_eq name (codes "run") then option_and_then run_by (attached_number word)
    else if bytes_eq name (codes "rebuild") then option_and_then rebuild_by (attached_number word)
    else None

-- `run --workers N` and `rebuild --workers N`
abbrev pub option_command : List ℕ → List ℕ → List ℕ → Option Command
option_command name option word =
    if bytes_eq name (codes "run") && bytes_eq option (codes "--workers") then run_by word
    else if bytes_eq name (codes "rebuild") && bytes_eq option (codes "--workers") then rebuild_by word
    else None

-- the command that the words after the program's name are, if they are one
abbrev pub command : List (List ℕ) → Option Command
command [] = None
command (name ∷ []) = plain_command name
command (name ∷ word ∷ []) = numbered_command name word
command (name ∷ option ∷ word ∷ []) = option_command name option word
command (name ∷ option ∷ word ∷ other ∷ others) = None
