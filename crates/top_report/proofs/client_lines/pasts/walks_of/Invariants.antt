use Rattle.std.proofs.Common.{◌≡◌, map, take}
use Rattle.top_report.specs.ClientLines.Walks.{new_walk}
use Rattle.top_report.proofs.client_lines.pasts.walks_of.Given as goal

-- the walks so far
abbrev pub invariant-loop-script : goal.invariant-loop-script
invariant-loop-script l = l.walks.items ≡ map new_walk (take l.script-index l.scripts)
