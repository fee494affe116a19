-- *Feed run*: a run, and how much of its log a replica holds, which follows from the run's turns. (This project's rule.)
use Rattle.std.specs.Prelude.{◌≡◌, ◌≤◌, ℕ, true, false, None}
use Rattle.base_script.specs.declared.actor.Actor.{Actor}
use Rattle.tool_program.specs.JournalWords.KeptPlans.{cut_due}
use Rattle.tool_program.specs.Orders.{caught_up, may_go, replica_length, risen}
use Rattle.run_turns.specs.declared.run.Stepped.{Stepped}
use Rattle.run_turns.specs.declared.run.Stepped.TheVariants.{Took, Idle}
use Rattle.run_turns.specs.Runs.{RunView, is_over, Steps}
use Rattle.run_turns.specs.declared.replica.Replica.{Replica}
use Rattle.run_turns.specs.Replicas.{IsReplicaOf}

-- a run, and how many of the log's first events its replica holds
pub record FeedView : Type 0 where
  pub run : RunView
  pub held : ℕ

-- *Caught up*: the replica holds what it holds by the rule, so no catch-up is due
abbrev pub IsCaughtUp : FeedView → Type 0
IsCaughtUp feed = feed.held ≡ replica_length feed.run.plan feed.run.journal

-- the catch-up, where one is due, is all that the replica lacks of what it holds by the rule
pub record IsFeedRun (run : RunView) (replica : Replica) : Type 0 where
  pub of : IsReplicaOf run.plan replica
  pub pause : 1 ≤ run.plan.options.replica_pause
  pub holds : caught_up run.plan run.journal replica.held ≡ replica_length run.plan run.journal

-- *Steps with a replica*: as a run steps, but that an actor which may not go takes no turn, unless a loss between calls is due
abbrev pub FeedSteps : RunView → Actor → Stepped → RunView → Type 0
FeedSteps before actor Idle after = (is_over before.plan before.journal ≡ false) × (cut_due before.plan before.journal ≡ None) × (may_go before.plan before.journal actor ≡ false) × (after ≡ before)
FeedSteps before actor Took after = Steps before actor Took after × (cut_due before.plan before.journal ≡ None → may_go before.plan before.journal actor ≡ true)
FeedSteps before actor stepped after = Steps before actor stepped after

-- what the replica holds after a step that left this run: it takes over the next events only after a turn
abbrev pub held_after_step : Stepped → RunView → ℕ → ℕ
held_after_step Took run held = risen run.plan run.journal held
held_after_step stepped run held = held
