use Rattle.run_turns.proofs.Holding.{Seeks}
use Rattle.run_turns.proofs.replica.Replica.is_caught.Given as goal

-- the actors from here on decide
abbrev pub invariant-loop-place : goal.invariant-loop-place
invariant-loop-place g l = Seeks l.run.plan l.run.journal l.self.held l.place l.is_someone_ready
