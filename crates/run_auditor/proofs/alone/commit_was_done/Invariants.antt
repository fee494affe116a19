use Rattle.std.proofs.Common.{◌≡◌, drop}
use Rattle.server_model.specs.Alone.{commit_was_done}
use Rattle.run_auditor.proofs.alone.commit_was_done.Given as goal

-- the last of the lines so far, with those that are left, decides
abbrev pub invariant-loop-next : goal.invariant-loop-next
invariant-loop-next l = commit_was_done l.last (drop l.next-index l.lines) ≡ commit_was_done l.line l.lines
