-- Faulty words.
use Rattle.std.proofs.Common.{◌≡◌, ℕ, true, List, Option, None, Some, inl, inr, refl, sym, ap, ◌∙◌, subst}
use Rattle.std.proofs.lemmas.Bool.{false≢true}
use Rattle.std.proofs.lemmas.Option.{none-some}
use Rattle.tool_program.specs.Orders.{WorkerTurn}
use Rattle.server_model.specs.declared.entry.Entry.{Entry}
use Rattle.top_words.specs.Commands.{command}
use Rattle.top_words.specs.declared.command.Command.{Command}
use Rattle.top_words.specs.declared.command.Command.TheVariants.{Audit}
use Rattle.top_endings.specs.declared.command.PlanCommand.{PlanCommand}
use Rattle.top_endings.specs.declared.status.Status.{Status}
use Rattle.top_endings.specs.declared.status.Status.TheVariants as statuses
use Rattle.top_endings.specs.Endings.{Taking, Giving, asked, reads_source, status_number, IsUsageOrLost}
use Rattle.top_call.specs.Promises.{Ends, EndsUnder, PrintsDone}

module _ (words : List (List ℕ)) (source : Taking) (sink : Giving) (turns : List WorkerTurn) (journal : List Entry) (none : command words ≡ None) where
  not_done : PrintsDone (command words) source sink turns journal → ⊥
  not_done prints = subst (λ (chosen : Option Command). PrintsDone chosen source sink turns journal) none prints

  not_read : reads_source (command words) ≡ true → ⊥
  not_read reads = false≢true (sym (ap reads_source none) ∙ reads)

  not_asked : (chosen : PlanCommand) → command words ≡ Some (asked chosen) → ⊥
  not_asked chosen is = none-some (asked chosen) (sym none ∙ is)

  faulty_status : (status : Status) → EndsUnder status words source sink turns journal → IsUsageOrLost (status_number status)
  faulty_status statuses.Done under = absurd (not_done under)
  faulty_status statuses.Usage under = inl refl
  faulty_status statuses.Refused under = absurd (not_read under.reads)
  faulty_status statuses.Reverted under = absurd (not_asked under.chosen under.command_is)
  faulty_status statuses.ReadFault under = absurd (not_read under.reads)
  faulty_status statuses.WriteFault under = inr (inl refl)
  faulty_status statuses.NoMemory under = inr (inr refl)
  faulty_status statuses.TurnsSpent under = absurd (not_asked under.chosen under.command_is)
  faulty_status statuses.No under = absurd (none-some Audit (sym none ∙ under.command_is))

-- *Faulty words get the usage*, unless the sink fails or memory runs out
pub faulty_words : (words : List (List ℕ)) (source : Taking) (sink : Giving) (turns : List WorkerTurn) (journal : List Entry) (number : ℕ) → Ends words source sink turns journal number → command words ≡ None → IsUsageOrLost number
faulty_words words source sink turns journal number ends none = subst IsUsageOrLost (sym ends.number_is) (faulty_status words source sink turns journal none ends.status ends.under)
