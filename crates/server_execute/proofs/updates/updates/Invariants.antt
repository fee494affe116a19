use Rattle.std.proofs.Common.{◌≡◌, drop}
use Rattle.server_execute.proofs.UpdatedRows.{IsGoing}
use Rattle.server_execute.proofs.updates.updates.Given as goal

-- what is changed so far, and what is left
abbrev pub invariant-loop-place : goal.invariant-loop-place
invariant-loop-place l = record {
  schema : l.written.schema ≡ l.seen.schema;
  going : IsGoing l.seen.schema l.sets l.met l.seen.rows l.written.written l.all (drop l.place l.met);
}
