use Rattle.std.proofs.Common.{◌≡◌, ◌++◌, length, drop}
use Rattle.server_model.specs.Operations.{events_of}
use Rattle.server_transaction.proofs.events.events_of.Given as goal

-- the events so far, and those of the changes that are left
abbrev pub invariant-loop-change : goal.invariant-loop-change
invariant-loop-change l = l.events.items ++ events_of l.table (drop (length l.yielded) l.fn.changes) ≡ events_of l.table l.fn.changes
