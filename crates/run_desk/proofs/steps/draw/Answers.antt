-- A worker that rests draws a ticket.
use Rattle.std.proofs.Common.{rules}
use Rattle.run_desk.proofs.Keeps.{draws_as}
use Rattle.run_desk.proofs.steps.draw.Goals as goal

pub fetch_add-requires : goal.fetch_add-requires
fetch_add-requires g c = (search rules, search rules, draws_as _ _ _ _ _ _ _ c.requires.rests.0)
