use Rattle.std.proofs.Common.{◌≡◌, drop}
use Rattle.server_model.specs.Alone.{lines_run, nothing_ran}
use Rattle.server_storage.specs.Storage.{committed, written}
use Rattle.run_auditor.specs.AloneSessions.{IsAlone}
use Rattle.run_auditor.proofs.alone.run_lines.Given as goal

-- the lines that are left lead from what was run so far to what is run of all
abbrev pub invariant-loop-line : goal.invariant-loop-line
invariant-loop-line l = record {
  alone : IsAlone (committed l.storage) (written l.storage);
  kept : committed l.storage ≡ committed l.fn.storage;
  runs : lines_run (committed l.fn.storage) (record { replies = l.replies; writes = written l.storage 1 }) (drop l.line-index l.lines) ≡ lines_run (committed l.fn.storage) nothing_ran l.lines;
}
