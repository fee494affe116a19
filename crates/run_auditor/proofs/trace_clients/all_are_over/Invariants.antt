use Rattle.std.proofs.Common.{◌≡◌, ◌+◌, List, drop}
use Rattle.run_audit.specs.declared.line.TraceLine.{TraceLine}
use Rattle.run_audit.specs.Rules.{all_are_over}
use Rattle.run_auditor.specs.AllClients.{AreFollowed}
use Rattle.run_auditor.proofs.trace_clients.all_are_over.Given as goal

-- the clients from here on decide
abbrev pub invariant-loop-place : goal.invariant-loop-place
invariant-loop-place l = (before : List TraceLine) → AreFollowed l.plan before l.clients.items → all_are_over l.plan before (l.place + 1) (drop l.place l.plan.clients) ≡ all_are_over l.plan before 1 l.plan.clients
