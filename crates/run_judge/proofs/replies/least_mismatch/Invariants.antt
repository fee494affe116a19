use Rattle.std.proofs.Common.{◌≡◌, drop}
use Rattle.run_judge.proofs.ComparedReplies.{worst_of}
use Rattle.run_judge.proofs.replies.least_mismatch.Given as goal

-- the replies that are left decide, and the least turn so far
abbrev pub invariant-loop-place : goal.invariant-loop-place
invariant-loop-place l = worst_of (drop l.place l.given) (drop l.place l.replies) l.least ≡ worst_of l.given l.replies l.fn.worst
