-- What a line says became of a client's line, without the reply. (This project's rule.)
use Rattle.std.specs.Prelude.{Bool, false}
use Rattle.run_actors.specs.declared.client_turns.outcome.LineOutcome.{LineOutcome}
use Rattle.run_actors.specs.ClientTurns.ActorStates.{line_outcome_as}
use Rattle.run_audit.specs.declared.line.LineAnswer.{LineAnswer}
use Rattle.run_audit.specs.declared.line.LineAsked.TheVariants.{Call}
use Rattle.run_audit.specs.declared.line.TraceLine.{TraceLine}
use Rattle.run_audit.specs.Rules.{became_of_line}

-- what became of a line that was called or polled
abbrev pub called_outcome : LineAnswer → LineOutcome
called_outcome answer = line_outcome_as (became_of_line false Call answer)

-- what became of the client's line in a turn, where it waited before or didn't
abbrev pub outcome_in : Bool → TraceLine → LineOutcome
outcome_in waits line = line_outcome_as (became_of_line waits line.asked line.answer)
