use Rattle.proof_journals.proofs.Ghost.Copies.{copies_alter, scene_copies_alter}
use Rattle.law_journals.proofs.ghost_turns.copies_alter.Goals as goal

pub returns-clause-served : goal.returns-clause-served
returns-clause-served c = copies_alter

pub returns-clause-scene : goal.returns-clause-scene
returns-clause-scene c = scene_copies_alter
