use Rattle.std.proofs.Common.{◌≡◌, ◌+◌, take}
use Rattle.plan_reader.specs.Clients.{is_statement, line_count}
use Rattle.plan_reader.proofs.clients.have_more_statements.Given as goal

-- the statements so far, and those that may still come, are the limit
abbrev pub invariant-loop-script : goal.invariant-loop-script
invariant-loop-script l = l.left + line_count is_statement (take l.script-index l.scripts) ≡ l.limit
