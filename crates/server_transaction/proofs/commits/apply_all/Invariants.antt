use Rattle.std.proofs.Common.{◌≡◌, ◌≤◌, ◌+◌, ℕ, List, length, drop}
use Rattle.std.specs.List.{AllZip}
use Rattle.std.specs.Vec.Iter.{into_iter_items, into_iter_len}
use Rattle.table_store.specs.Databases.{database, spare_in}
use Rattle.server_model.specs.Operations.{after_events}
use Rattle.server_transaction.specs.FittingEvents.{EventsFit}
use Rattle.server_transaction.specs.Premises.{IsGoneIn}
use Rattle.server_transaction.specs.Rooms.{puts_in}
use Rattle.server_transaction.proofs.commits.apply_all.Given as goal

-- the events that are left make of the tables what all make of the first ones
abbrev pub invariant-loop-event : goal.invariant-loop-event
invariant-loop-event l = record {
  same : after_events (database l.tables) (drop (length l.yielded) l.fn.events.items) ≡ after_events (database l.fn.tables) l.fn.events.items;
  fit : EventsFit (database l.tables) (drop (length l.yielded) l.fn.events.items);
  keys : AllZip (IsGoneIn (database l.tables)) (drop (length l.yielded) l.fn.events.items) (into_iter_items l.keys);
  many : into_iter_len l.keys ≡ length (into_iter_items l.keys);
  room : (name : List ℕ) → puts_in name (drop (length l.yielded) l.fn.events.items) ≤ spare_in name l.tables;
  spare : (name : List ℕ) → spare_in name l.fn.tables + puts_in name (drop (length l.yielded) l.fn.events.items) ≤ spare_in name l.tables + puts_in name l.fn.events.items;
}
