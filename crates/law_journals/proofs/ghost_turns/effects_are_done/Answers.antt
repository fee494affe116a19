use Rattle.proof_journals.proofs.Ghost.Leaving.{effects_are_done}
use Rattle.proof_journals.proofs.Ghost.Undone.{cuts_are_left, effects_answer, undone_is_left}
use Rattle.law_journals.proofs.ghost_turns.effects_are_done.Goals as goal

pub returns-clause-done : goal.returns-clause-done
returns-clause-done c = effects_are_done

pub returns-clause-answered : goal.returns-clause-answered
returns-clause-answered c = effects_answer

pub returns-clause-undone : goal.returns-clause-undone
returns-clause-undone c = undone_is_left

pub returns-clause-cut : goal.returns-clause-cut
returns-clause-cut c = cuts_are_left
