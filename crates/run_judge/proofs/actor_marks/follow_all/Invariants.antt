use Rattle.std.proofs.Common.{◌≡◌, ◌++◌, map, take, drop}
use Rattle.run_judge.specs.ActorMarks.{marks_after}
use Rattle.run_judge.proofs.actor_marks.follow_all.Given as goal

-- those up to here are marked, and those from here on are as they were
abbrev pub invariant-loop-marks : goal.invariant-loop-marks
invariant-loop-marks l = take l.marks-index l.marks-items ++ map (marks_after l.line) (drop l.marks-index l.marks-items) ≡ map (marks_after l.line) l.fn.all.items
