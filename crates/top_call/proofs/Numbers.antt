-- A status is told by its number.
use Rattle.std.proofs.Common.{◌≡◌, ℕ, ◌==◌, if◌then◌else◌, List, Option, refl, sym, ap, ◌∙◌, subst}
use Rattle.tool_program.specs.Orders.{WorkerTurn}
use Rattle.server_model.specs.declared.entry.Entry.{Entry}
use Rattle.top_words.specs.Commands.{command}
use Rattle.top_words.specs.declared.command.Command.{Command}
use Rattle.top_endings.specs.declared.status.Status.{Status}
use Rattle.top_endings.specs.declared.status.Status.TheVariants.{Done, Usage, Refused, Reverted, ReadFault, WriteFault, NoMemory, TurnsSpent, No}
use Rattle.top_endings.specs.Endings.{Taking, Giving, status_number}
use Rattle.top_call.specs.Promises.{Ends, EndsUnder, PrintsDone}

abbrev numbered : ℕ → Status
numbered number =
    if number == 0 then Done else if number == 1 then Usage else if number == 2 then Refused else if number == 3 then Reverted
    else if number == 4 then ReadFault else if number == 5 then WriteFault else if number == 6 then NoMemory else if number == 7 then TurnsSpent else No

number_tells : (status : Status) → numbered (status_number status) ≡ status
number_tells Done = refl
number_tells Usage = refl
number_tells Refused = refl
number_tells Reverted = refl
number_tells ReadFault = refl
number_tells WriteFault = refl
number_tells NoMemory = refl
number_tells TurnsSpent = refl
number_tells No = refl

-- *What stands under a status's number*
pub under : (status : Status) (words : List (List ℕ)) (source : Taking) (sink : Giving) (turns : List WorkerTurn) (journal : List Entry) (number : ℕ) → Ends words source sink turns journal number → number ≡ status_number status → EndsUnder status words source sink turns journal
under status words source sink turns journal number ends is =
    subst (λ (s : Status). EndsUnder s words source sink turns journal) (sym (number_tells ends.status) ∙ ap numbered (sym ends.number_is ∙ is) ∙ number_tells status) ends.under

-- *What stands under status 0*, of the command that the words are
pub under_done : (chosen : Option Command) (words : List (List ℕ)) (source : Taking) (sink : Giving) (turns : List WorkerTurn) (journal : List Entry) (number : ℕ) → Ends words source sink turns journal number → number ≡ 0 → command words ≡ chosen → PrintsDone chosen source sink turns journal
under_done chosen words source sink turns journal number ends is command_is =
    subst (λ (one : Option Command). PrintsDone one source sink turns journal) command_is (under Done words source sink turns journal number ends is)
