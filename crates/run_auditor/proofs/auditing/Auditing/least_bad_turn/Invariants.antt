use Rattle.std.proofs.Common.{◌≡◌, take}
use Rattle.run_audit.specs.Audits.{least}
use Rattle.run_auditor.specs.Auditing.{IsAuditing, noted_turns}
use Rattle.run_auditor.proofs.auditing.Auditing.least_bad_turn.Given as goal

-- what is kept is what the turns so far say
abbrev pub invariant-loop-line : goal.invariant-loop-line
invariant-loop-line l = record {
  auditing : IsAuditing l.plan (take l.line-index l.trace.lines) l.self;
  noted : l.self.noted ≡ least (noted_turns l.plan (take l.line-index l.trace.lines));
}
