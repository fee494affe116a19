use Rattle.run_state.specs.NextAsked.{asked_of}
use Rattle.run_turns.proofs.RunTurns.Planned.{own_planned}
use Rattle.run_turns.proofs.due.turn_of.Goals as goal

pub side_due-side-requires-clause-planned : goal.side_due-side-requires-clause-planned
side_due-side-requires-clause-planned g c = own_planned c.args.run_state.now.plan.now c.args.run_state.now.journal.items c.args.actor (asked_of c.args.run_state.now c.in-Given.next) c.requires.run_state.strangers (rw c.in-Given.is at c.requires.due)
