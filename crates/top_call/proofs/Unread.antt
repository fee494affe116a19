-- Under words that ask for neither a plan nor a trace nothing is taken from the source.
use Rattle.std.proofs.Common.{◌≡◌, ℕ, false, List, [], Option, Some, None}
use Rattle.std.specs.Io.KnownBytes.{Consumes}
use Rattle.std.proofs.lemmas.Bool.{true≢false}
use Rattle.tool_program.specs.Orders.{WorkerTurn}
use Rattle.server_model.specs.declared.entry.Entry.{Entry}
use Rattle.top_words.specs.Commands.{command}
use Rattle.top_words.specs.declared.command.Command.{Command}
use Rattle.top_words.specs.declared.command.Command.TheVariants.{Check, Replay, Run, Generate, Trace, Audit, Rebuild}
use Rattle.top_endings.specs.declared.printed.Printed.{Printed}
use Rattle.top_endings.specs.Endings.{Taking, Giving, reads_source}
use Rattle.top_call.specs.Comings.{ComesTo, Does}

unread_by : (chosen : Option Command) (source : Taking) (printed : Option Printed) (turns : List WorkerTurn) (journal : List Entry) → ComesTo chosen source printed turns journal → reads_source chosen ≡ false → Consumes source.before source.after []
unfolding ComesTo
unread_by None source printed turns journal comes none = comes.takes_none
unread_by (Some Check) source printed turns journal comes none = absurd (true≢false none)
unread_by (Some Replay) source printed turns journal comes none = absurd (true≢false none)
unread_by (Some (Run workers)) source printed turns journal comes none = absurd (true≢false none)
unread_by (Some Trace) source printed turns journal comes none = absurd (true≢false none)
unread_by (Some Audit) source printed turns journal comes none = absurd (true≢false none)
unread_by (Some (Rebuild workers)) source printed turns journal comes none = absurd (true≢false none)
unread_by (Some (Generate number)) source printed turns journal comes none = comes.takes_none

-- *The source is left as it was*, whatever the status
pub unread : (words : List (List ℕ)) (source : Taking) (sink : Giving) (turns : List WorkerTurn) (journal : List Entry) (number : ℕ) → Does words source sink turns journal number → reads_source (command words) ≡ false → Consumes source.before source.after []
unread words source sink turns journal number does none = unread_by (command words) source does.printed turns journal does.comes none
