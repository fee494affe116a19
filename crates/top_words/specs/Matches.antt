-- What `clap` is told of the program, and the command that its matches tell.
use Rattle.std.specs.Prelude.{codes, Bool, true, if◌then◌else◌, List, Option, Some, None, option_and_then}
use Rattle.std.specs.Str.{bytes_eq}
use Rattle.clap.specs.Words.{App, Row, Rule, Text, first_of, new_app, new_rule}
use Rattle.clap.specs.Simple.{on_top, with_rule, with_subcommand}
use Rattle.top_words.specs.declared.command.Command.{Command}
use Rattle.top_words.specs.declared.command.Command.TheVariants.{Check, Replay, Run, Trace, Audit, Rebuild}
use Rattle.top_words.specs.Commands.{generate_of, rebuild_by, run_by}

-- one level of subcommands, and no binary's name among the words
abbrev pub workers_rule : Rule
workers_rule = record (new_rule (codes "workers")) { long = Some (codes "workers") }

-- `run` and `rebuild`, whose number comes after `--workers`
abbrev pub workers_app : Text → App
workers_app name = with_rule (new_app name) workers_rule

abbrev pub generate_app : App
generate_app = with_rule (new_app (codes "generate")) (new_rule (codes "number"))

abbrev pub bare_app : App
bare_app = on_top (λ s. record s { no_binary_name = true }) (new_app (codes "ghost"))

abbrev pub program : App
program =
    with_subcommand
    (with_subcommand
    (with_subcommand
    (with_subcommand (with_subcommand (with_subcommand (with_subcommand bare_app (new_app (codes "check")).top) (new_app (codes "replay")).top) (workers_app (codes "run")).top) generate_app.top)
    (new_app (codes "trace")).top)
    (new_app (codes "audit")).top)
    (workers_app (codes "rebuild")).top

-- a run has 4 workers where no number was given
abbrev pub run_chosen : Option Text → Option Command
run_chosen None = Some (Run 4)
run_chosen (Some number) = run_by number

-- a rebuild has 4 shards where no number was given
abbrev pub rebuild_chosen : Option Text → Option Command
rebuild_chosen None = Some (Rebuild 4)
rebuild_chosen (Some number) = rebuild_by number

-- the command of a subcommand's name and of the numbers that were given
abbrev pub command_chosen : Text → Option Text → Option Text → Option Command
command_chosen name workers number =
    if bytes_eq name (codes "check") then Some Check
    else if bytes_eq name (codes "replay") then Some Replay
    else if bytes_eq name (codes "run") then run_chosen workers
    else if bytes_eq name (codes "generate") then option_and_then generate_of number
    else if bytes_eq name (codes "trace") then Some Trace
    else if bytes_eq name (codes "audit") then Some Audit
    else if bytes_eq name (codes "rebuild") then rebuild_chosen workers
    else None

-- the command that the matches of a subcommand tell
abbrev pub chosen : Option (Text × List Row) → Option Command
chosen None = None
chosen (Some matches) = command_chosen matches.0 (first_of (codes "workers") matches.1) (first_of (codes "number") matches.1)

-- the word after which `clap` takes any word as it is
abbrev pub is_escape : Text → Bool
is_escape word = bytes_eq word (codes "--")
