-- The turn that comes next, by what is due. (This project's rule.)
use Rattle.base_script.specs.declared.actor.Actor.{Actor}
use Rattle.run_state.specs.declared.run_state.RunState.{RunState}
use Rattle.run_state.specs.NextAsked.{asked_of}
use Rattle.run_turns.specs.declared.due.NextTurn.{NextTurn}
use Rattle.run_turns.specs.declared.due.NextTurn.TheVariants.{Cut, Given}
use Rattle.run_turns.specs.declared.due_turns.migration_run.turn.Turn.{Turn}
use Rattle.run_turns.specs.DueTurns.Due.{cut_turn, own_turn}

abbrev pub turn_in : RunState → Actor → NextTurn → Turn
turn_in run_state actor (Cut other) = cut_turn other
turn_in run_state actor (Given next) = own_turn run_state.plan.now run_state.journal.items actor (asked_of run_state next)
