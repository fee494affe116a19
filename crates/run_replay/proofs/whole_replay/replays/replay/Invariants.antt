use Rattle.std.proofs.Common.{◌≡◌, ℕ, ◌≤◌, length, List, Option}
use Rattle.run_turns.specs.Runs.{RunView}
use Rattle.run_replay.specs.declared.whole_replay.place.OrderPlace.{OrderPlace}
use Rattle.run_replay.specs.WholeReplay.Marks.{logged_at_mark}
use Rattle.run_replay.specs.WholeReplay.Replays.{IsReplaying}
use Rattle.run_replay.proofs.whole_replay.replays.replay.Given as goal

pub record Replaying (before now : RunView) (place : OrderPlace) (turn : ℕ) (tables : List (List ℕ)) (logged : Option ℕ) : Type 0 where
  pub replaying : IsReplaying now place
  pub plan : now.plan ≡ before.plan
  pub count : turn ≤ length now.journal
  pub marked : logged ≡ logged_at_mark now.plan tables now.journal

-- so many turns were taken, all of them the replay's, and the events were counted at the mark
abbrev pub invariant-loop-turn : goal.invariant-loop-turn
invariant-loop-turn g l = Replaying l.fn.feed.run l.feed.run l.place l._turn l.tables l.logged
