-- *Run*: a plan's turns taken one by one on a server, each of them written into the journal. (This project's rule.)
use Rattle.std.specs.Prelude.{◌≡◌, nat_le, Bool, true, false, ◌||◌, List, [], ◌∷◌, ◌++◌, length, Some, None}
use Rattle.base_script.specs.declared.actor.Actor.{Actor}
use Rattle.server_model.specs.Along.{Along}
use Rattle.server_model.specs.declared.entry.Entry.{Entry}
use Rattle.server_model.specs.States.{State}
use Rattle.plan_data.specs.PlanData.{PlanData}
use Rattle.tool_program.specs.JournalWords.Journals.{after_entry}
use Rattle.tool_program.specs.Verdicts.{has_ended}
use Rattle.proof_journals.specs.Run.Counts.{IsAfter}
use Rattle.run_turns.specs.declared.due_turns.migration_run.turn.Turn.{Turn}
use Rattle.run_turns.specs.DueTurns.Due.{due, MayCost, next_entry}
use Rattle.run_turns.specs.declared.run.Stepped.{Stepped}
use Rattle.run_turns.specs.declared.run.Stepped.TheVariants.{Took, Idle, Over, NoMemory}

-- a run of a plan
pub record RunView : Type 0 where
  pub plan : PlanData
  -- the turns so far
  pub journal : List Entry
  -- the server
  pub server : State

-- *Over*: no further turn is taken, since the run has ended, or has as many turns as the plan allows
unfoldable pub is_over : PlanData → List Entry → Bool
is_over plan journal = has_ended plan journal || nat_le plan.options.turn_limit (length journal)

-- *Stops*: no turn was taken of a run that was over already
unfoldable pub Stops : PlanData → List Entry → Type 0
Stops plan journal = Along (λ before entry. is_over plan before ≡ false) [] journal

-- the run after a turn: the server answered it
abbrev pub with_turn : RunView → Turn → RunView
with_turn run turn = record run { journal = run.journal ++ next_entry run.journal run.server turn ∷ []; server = after_entry run.server (next_entry run.journal run.server turn) }

-- the turn that was due where this actor was to take one was taken
pub record TakesTurn (before : RunView) (actor : Actor) (after : RunView) : Type 0 where
  pub turn : Turn
  pub is_due : due before.plan before.journal actor ≡ Some turn
  pub taken : after ≡ with_turn before turn

-- no turn was taken; the server may have made a session that is lost again
pub record IsUnmoved (before after : RunView) : Type 0 where
  pub plan : after.plan ≡ before.plan
  pub journal : after.journal ≡ before.journal
  pub server : IsAfter before.server after.server

-- *Steps*: what a step of an actor answers, and what it leaves. It wants memory only of a turn that isn't free.
abbrev pub Steps : RunView → Actor → Stepped → RunView → Type 0
Steps before actor Over after = (is_over before.plan before.journal ≡ true) × (after ≡ before)
Steps before actor Idle after = (is_over before.plan before.journal ≡ false) × (due before.plan before.journal actor ≡ None) × (after ≡ before)
Steps before actor Took after = (is_over before.plan before.journal ≡ false) × TakesTurn before actor after
Steps before actor NoMemory after = (is_over before.plan before.journal ≡ false) × MayCost before.plan before.journal before.server actor × IsUnmoved before after
