use Rattle.std.proofs.Common.{◌≡◌, drop}
use Rattle.server_model.specs.Alone.{lines_run, nothing_ran}
use Rattle.test_histories.proofs.runs.lines_run.Given as goal

-- the lines that are left lead from what was run so far to what is run of all
abbrev pub invariant-loop-line : goal.invariant-loop-line
invariant-loop-line l = lines_run l.tables (record { replies = l.replies; writes = l.writes }) (drop l.line-index l.lines) ≡ lines_run l.tables nothing_ran l.lines
