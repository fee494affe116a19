use Rattle.std.proofs.Common.{take}
use Rattle.top_report.proofs.ClientLines.Ending.{SoFar}
use Rattle.top_report.proofs.client_lines.pasts.push_history.Given as goal

-- what stands is the history of the turns so far
abbrev pub invariant-loop-entry : goal.invariant-loop-entry
invariant-loop-entry l = SoFar l.plan (take l.entry-index l.journal) l.walks.items l.renaming l.fn.into l.into
