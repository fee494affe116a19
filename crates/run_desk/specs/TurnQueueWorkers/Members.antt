-- *Member*: a pass that a turn queue gave to one of its workers. *Stopped*: how a worker's turns ended. (This project's rules.)
use Rattle.std.specs.Prelude.{◌<◌, Bool, true, false, List}
use Rattle.run_desk.specs.declared.shared_state.Entry.{Entry}
use Rattle.run_desk.specs.Turns.{TurnQueueView, PassView, IsPassOf}

-- the pass is the turn queue's, and its worker's number is below their count
abbrev pub IsMember : {O E : Type 0} → TurnQueueView O → PassView O E → Type 0
IsMember turn_queue pass = IsPassOf turn_queue pass × (pass.worker < turn_queue.workers)

-- how a worker stops: it found the end, where the shared state is over on what the worker has seen; or there was no memory for a
-- turn, though the shared state isn't over on that
abbrev pub HasStopped : {O E : Type 0} → (List (Entry E) → Type 0) → Bool → PassView O E → Type 0
HasStopped is_over true pass = is_over pass.seen
HasStopped is_over false pass = ¬ is_over pass.seen
