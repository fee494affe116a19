use Rattle.std.proofs.Common.{◌≡◌, ◌+◌, take}
use Rattle.plan_reader.specs.Clients.{is_open_select, line_count}
use Rattle.plan_reader.proofs.clients.have_more_open_selects.Given as goal

-- the SELECTs so far, and those that may still come, are the limit
abbrev pub invariant-loop-script : goal.invariant-loop-script
invariant-loop-script l = l.left + line_count is_open_select (take l.script-index l.scripts) ≡ l.limit
