use Rattle.std.proofs.Common.{rules}
use Rattle.run_desk.proofs.Keeps.{serves_as}
use Rattle.run_desk.proofs.steps.serve.Goals as goal

pub fetch_add-requires : goal.fetch_add-requires
fetch_add-requires g c = (search rules, search rules, serves_as _ _ _ _ _ _ _ (search rules) c.requires.holds)
