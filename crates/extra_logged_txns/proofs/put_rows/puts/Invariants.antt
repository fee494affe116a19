use Rattle.std.proofs.Common.{◌≡◌, ◌≤◌, take}
use Rattle.std.specs.List.{count_by}
use Rattle.extra_logged_txns.specs.Puts.{is_put}
use Rattle.extra_logged_txns.proofs.put_rows.puts.Given as goal

-- the count so far is that of the events so far
abbrev pub invariant-loop-event : goal.invariant-loop-event
invariant-loop-event l = record {
  counted : l.count ≡ count_by is_put (take l.event-index l.events);
  few : l.count ≤ l.event-index;
}
