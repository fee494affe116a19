use Rattle.std.proofs.Common.{rules}
use Rattle.run_desk.proofs.Keeps.{counts_as}
use Rattle.run_desk.proofs.steps.count.Goals as goal

pub fetch_add-requires : goal.fetch_add-requires
fetch_add-requires g c = (search rules, search rules, counts_as _ _ _ _ _ _ _ c.requires.holds)
