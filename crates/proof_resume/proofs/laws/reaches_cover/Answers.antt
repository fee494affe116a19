use Rattle.proof_resume.proofs.Reached.Coverage.{reaches_cover, stays_behind}
use Rattle.proof_resume.proofs.laws.reaches_cover.Goals as goal

pub returns-clause-covers : goal.returns-clause-covers
returns-clause-covers c = reaches_cover

pub returns-clause-stays : goal.returns-clause-stays
returns-clause-stays c = stays_behind
