-- *Replaying*: a run whose turns so far are a replay's, with what is left of the order. (This project's rule.)
use Rattle.std.specs.Prelude.{◌≡◌, ◌+◌, true, List, [], ◌∷◌, ◌++◌, length, None}
use Rattle.server_model.specs.declared.entry.Entry.{Entry}
use Rattle.plan_data.specs.PlanData.{PlanData}
use Rattle.tool_program.specs.JournalWords.Journals.{opening, state_at}
use Rattle.tool_program.specs.JournalWords.KeptPlans.{cut_due}
use Rattle.tool_program.specs.JournalWords.Sessions.{NumbersSessions}
use Rattle.tool_program.specs.Orders.{queue_at, next_actor, ReplayOrder}
use Rattle.proof_journals.specs.Run.Kept.{IsKept}
use Rattle.run_turns.specs.declared.run.Stepped.{Stepped}
use Rattle.run_turns.specs.declared.run.Stepped.TheVariants.{Took, Idle, Over, NoMemory}
use Rattle.run_turns.specs.Runs.{RunView, is_over, IsUnmoved, Stops}
use Rattle.run_replay.specs.declared.whole_replay.place.OrderPlace.{OrderPlace}
use Rattle.run_replay.specs.WholeReplay.Places.{queue_of}

-- a run without turns, on a server at the plan's opening
pub record IsFresh (run : RunView) : Type 0 where
  pub journal : run.journal ≡ []
  pub server : run.server ≡ opening run.plan

-- the turns so far are a replay's, this is what is left of the order, and the server is the one after them
pub record IsReplaying (run : RunView) (place : OrderPlace) : Type 0 where
  pub kept : IsKept run.plan run.journal
  pub order : ReplayOrder run.plan run.journal
  pub numbered : NumbersSessions run.journal
  pub stops : Stops run.plan run.journal
  pub server : run.server ≡ state_at run.plan run.journal
  pub queue : queue_of run.plan place ≡ queue_at run.plan run.journal

-- *Stalled*: nobody may go, and no loss between calls is due
pub record IsStalled (plan : PlanData) (journal : List Entry) : Type 0 where
  pub uncut : cut_due plan journal ≡ None
  pub nobody : next_actor plan journal ≡ None

-- one turn more was taken, in the order of a replay
pub record GoesOn (before after : RunView) (place : OrderPlace) : Type 0 where
  pub replaying : IsReplaying after place
  pub plan : after.plan ≡ before.plan
  pub count : length after.journal ≡ length before.journal + 1
  pub entry : Entry
  pub journal : after.journal ≡ before.journal ++ entry ∷ []

-- *Passes*: what the turn that comes next answers, and what it leaves
abbrev pub Passes : RunView → Stepped → RunView → OrderPlace → Type 0
Passes before Took after place = GoesOn before after place
Passes before Over after place = (is_over before.plan before.journal ≡ true) × (after ≡ before)
Passes before Idle after place = IsStalled before.plan before.journal × (after ≡ before)
Passes before NoMemory after place = IsUnmoved before after
