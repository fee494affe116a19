use Rattle.std.proofs.Common.{◌≡◌, ◌+◌, ◌≤◌, drop}
use Rattle.std.specs.List.{count_by}
use Rattle.server_model.specs.States.{is_of}
use Rattle.server_log.proofs.log.reading.count_from.Given as goal

-- the count so far, with that of the events from here on, is that of all from the position on
abbrev pub invariant-loop-place : goal.invariant-loop-place
invariant-loop-place l = record {
  counted : l.count + count_by (is_of l.tables) (drop l.place l.log.events) ≡ count_by (is_of l.tables) (drop l.position l.log.events);
  few : l.count ≤ l.place;
}
