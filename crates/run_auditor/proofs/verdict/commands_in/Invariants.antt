use Rattle.std.proofs.Common.{◌≡◌, take}
use Rattle.run_audit.specs.Rules.{commands_in}
use Rattle.run_auditor.proofs.verdict.commands_in.Given as goal

-- those of the turns so far
abbrev pub invariant-loop-line : goal.invariant-loop-line
invariant-loop-line l = l.count ≡ commands_in (take l.line-index l.lines)
