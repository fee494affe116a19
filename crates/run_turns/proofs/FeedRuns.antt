-- A run and its replica stay together from turn to turn.
use Rattle.std.proofs.Common.{◌≡◌, ◌≤◌, ℕ, Bool, true, false, cond, ◌&&◌, not, List, [], length, Option, Some, None, refl, sym, ap, ◌∙◌, subst}
use Rattle.std.specs.Prelude.{is_some}
use Rattle.std.proofs.lemmas.Bool.{false≢true, and_parts}
use Rattle.std.proofs.Math.Bool.{and-false}
use Rattle.base_script.specs.declared.actor.Actor.{Actor}
use Rattle.server_model.specs.declared.entry.Asked.{Asked}
use Rattle.server_model.specs.declared.entry.Entry.{Entry}
use Rattle.plan_data.specs.PlanData.{PlanData}
use Rattle.tool_program.specs.Feeds.{is_held_back}
use Rattle.tool_program.specs.JournalWords.Journals.{state_at}
use Rattle.tool_program.specs.JournalWords.KeptPlans.{cut_due}
use Rattle.tool_program.specs.Orders.{caught_up, is_caught, is_ready, may_go, may_go_at, replica_length, risen}
use Rattle.tool_program.specs.Programs.{given}
use Rattle.run_turns.specs.declared.due_turns.migration_run.turn.Turn.{Turn}
use Rattle.run_turns.specs.DueTurns.Due.{due, due_by, given_turn, next_entry}
use Rattle.run_turns.specs.declared.run.Stepped.{Stepped}
use Rattle.run_turns.specs.declared.run.Stepped.TheVariants.{Took, Idle, Over, NoMemory}
use Rattle.run_turns.specs.Runs.{RunView, is_over, IsUnmoved, Steps, TakesTurn}
use Rattle.run_turns.specs.declared.replica.Replica.{Replica}
use Rattle.run_turns.specs.FeedRuns.{held_after_step, FeedSteps, IsFeedRun}
use Rattle.run_turns.specs.Replicas.{IsReplicaOf}
use Rattle.run_turns.proofs.Holding.{length_more, length_none}

-- TOGETHER

-- before the first turn
pub begins : (run : RunView) (replica : Replica) → run.journal ≡ [] → 1 ≤ run.plan.options.replica_pause → IsReplicaOf run.plan replica → replica.held ≡ 0 → IsFeedRun run replica
begins run replica fresh pause of none = record {
  of = of;
  pause = pause;
  holds = ap (caught_up run.plan run.journal) none ∙ ap (λ (journal : List Entry). caught_up run.plan journal 0) fresh ∙ sym (ap (replica_length run.plan) fresh ∙ length_none run.plan);
}

either_way : (b : Bool) (n : ℕ) → cond b n n ≡ n
either_way true n = refl
either_way false n = refl

-- after a catch-up none is due
caught_twice : (plan : PlanData) (journal : List Entry) (held : ℕ) → caught_up plan journal (caught_up plan journal held) ≡ caught_up plan journal held
caught_twice plan journal held = by (is_caught plan journal held) refl
  where
    by : (b : Bool) → is_caught plan journal held ≡ b → caught_up plan journal (cond b (length (state_at plan journal).log) held) ≡ cond b (length (state_at plan journal).log) held
    by true is = either_way (is_caught plan journal (length (state_at plan journal).log)) (length (state_at plan journal).log)
    by false is = ap (λ (b : Bool). cond b (length (state_at plan journal).log) held) is

pub catches_up : (run : RunView) (old new : Replica) → IsFeedRun run old → IsReplicaOf run.plan new → new.held ≡ caught_up run.plan run.journal old.held → IsFeedRun run new
catches_up run old new is of held = record {
  of = of;
  pause = is.pause;
  holds = ap (caught_up run.plan run.journal) held ∙ caught_twice run.plan run.journal old.held ∙ is.holds;
}

-- after a turn more
pub goes_on : (before : RunView) (actor : Actor) (after : RunView) (old new : Replica) → IsFeedRun before old → old.held ≡ replica_length before.plan before.journal → TakesTurn before actor after → IsReplicaOf after.plan new → new.held ≡ risen after.plan after.journal old.held → IsFeedRun after new
goes_on before actor after old new is caught takes of rise = record {
  of = of;
  pause = subst (λ (plan : PlanData). 1 ≤ plan.options.replica_pause) (sym plan_is) is.pause;
  holds =
      ap (caught_up after.plan after.journal) (rise ∙ ap (risen after.plan after.journal) caught)
      ∙ ap (λ (run : RunView). caught_up run.plan run.journal (risen run.plan run.journal (replica_length before.plan before.journal))) takes.taken
      ∙ sym (ap (λ (run : RunView). replica_length run.plan run.journal) takes.taken ∙ length_more before.plan before.journal (next_entry before.journal before.server takes.turn));
}
  where
    plan_is : after.plan ≡ before.plan
    plan_is = ap (λ (run : RunView). run.plan) takes.taken

-- where no turn was taken
unmoved : (before after : RunView) (replica : Replica) → IsFeedRun before replica → IsUnmoved before after → IsFeedRun after replica
unmoved before after replica is still = record {
  of = subst (λ (plan : PlanData). IsReplicaOf plan replica) (sym still.plan) is.of;
  pause = subst (λ (plan : PlanData). 1 ≤ plan.options.replica_pause) (sym still.plan) is.pause;
  holds =
      ap (λ (plan : PlanData). caught_up plan after.journal replica.held) still.plan ∙ ap (λ (journal : List Entry). caught_up before.plan journal replica.held) still.journal ∙ is.holds
      ∙ sym (ap (λ (plan : PlanData). replica_length plan after.journal) still.plan ∙ ap (replica_length before.plan) still.journal);
}

pub stays : (before : RunView) (actor : Actor) (stepped : Stepped) (after : RunView) (replica : Replica) → IsFeedRun before replica → Steps before actor stepped after → (stepped ≡ Took → ⊥) → IsFeedRun after replica
stays before actor Took after replica is steps none = absurd (none refl)
stays before actor Idle after replica is steps none = subst (λ (run : RunView). IsFeedRun run replica) (sym steps.2) is
stays before actor Over after replica is steps none = subst (λ (run : RunView). IsFeedRun run replica) (sym steps.1) is
stays before actor NoMemory after replica is steps none = unmoved before after replica is steps.2

pub held_stays : (stepped : Stepped) (run : RunView) (held : ℕ) → (stepped ≡ Took → ⊥) → held ≡ held_after_step stepped run held
held_stays Took run held none = absurd (none refl)
held_stays Idle run held none = refl
held_stays Over run held none = refl
held_stays NoMemory run held none = refl

-- whether an actor may go, by what the replica holds
pub goes_as_held : (plan : PlanData) (journal : List Entry) (held : ℕ) (actor : Actor) → held ≡ replica_length plan journal → may_go_at plan journal held actor ≡ may_go plan journal actor
goes_as_held plan journal held actor is = ap (λ (n : ℕ). may_go_at plan journal n actor) is

-- A STEP

none_is : (cut : Option Actor) → not (is_some cut) ≡ true → cut ≡ None
none_is None so = refl
none_is (Some actor) so = absurd (false≢true so)

-- an actor's turn is due only where it is ready
turn_given : (plan : PlanData) (journal : List Entry) (actor : Actor) (asked : Option Asked) (turn : Turn) → given_turn plan journal actor asked ≡ Some turn → is_some asked ≡ true
turn_given plan journal actor (Some asked) turn is = refl
turn_given plan journal actor None turn is = absurd cc

nothing_given : (plan : PlanData) (journal : List Entry) (actor : Actor) (asked : Option Asked) → given_turn plan journal actor asked ≡ None → is_some asked ≡ false
nothing_given plan journal actor None is = refl
nothing_given plan journal actor (Some asked) is = absurd cc

ready_by : (plan : PlanData) (journal : List Entry) (actor : Actor) (cut : Option Actor) (turn : Turn) → due_by plan journal actor cut ≡ Some turn → cut ≡ None → is_ready plan journal actor ≡ true
ready_by plan journal actor None turn is none = turn_given plan journal actor (given plan journal actor) turn is
ready_by plan journal actor (Some other) turn is none = absurd cc

unready_by : (plan : PlanData) (journal : List Entry) (actor : Actor) (cut : Option Actor) → due_by plan journal actor cut ≡ None → (cut ≡ None) × (is_ready plan journal actor ≡ false)
unready_by plan journal actor None is = (refl, nothing_given plan journal actor (given plan journal actor) is)
unready_by plan journal actor (Some other) is = absurd cc

module _ (before : RunView) (actor : Actor) (held : ℕ) (caught : held ≡ replica_length before.plan before.journal) where
  -- *Holds*: no loss between calls is due, and the replica holds the actor back
  abbrev holds : Bool
  holds = not (is_some (cut_due before.plan before.journal)) && is_held_back before.plan before.journal held actor

  abbrev by_rule : Bool
  by_rule = is_held_back before.plan before.journal (replica_length before.plan before.journal) actor

  holds_by_rule : holds ≡ (not (is_some (cut_due before.plan before.journal)) && by_rule)
  holds_by_rule = ap (λ (n : ℕ). not (is_some (cut_due before.plan before.journal)) && is_held_back before.plan before.journal n actor) caught

  -- an actor that is held back takes no turn
  pub held_idles : is_over before.plan before.journal ≡ false → holds ≡ true → FeedSteps before actor Idle before
  held_idles going so =
      let parts = and_parts (not (is_some (cut_due before.plan before.journal))) by_rule (sym holds_by_rule ∙ so) in
      (going, none_is (cut_due before.plan before.journal) parts.0, ap (λ (b : Bool). is_ready before.plan before.journal actor && not b) parts.1 ∙ and-false (is_ready before.plan before.journal actor), refl)

  goes : holds ≡ false → (turn : Turn) → due_by before.plan before.journal actor (cut_due before.plan before.journal) ≡ Some turn → cut_due before.plan before.journal ≡ None → may_go before.plan before.journal actor ≡ true
  goes free turn is none =
      let unheld : by_rule ≡ false = sym (ap (λ (cut : Option Actor). not (is_some cut) && by_rule) none) ∙ sym holds_by_rule ∙ free in
      ap (λ (b : Bool). b && not by_rule) (ready_by before.plan before.journal actor (cut_due before.plan before.journal) turn is none) ∙ ap not unheld

  -- another's step is the run's
  pub steps_on : (stepped : Stepped) (after : RunView) → holds ≡ false → Steps before actor stepped after → FeedSteps before actor stepped after
  unfolding due
  steps_on Took after free steps = (steps, goes free steps.1.turn steps.1.is_due)
  steps_on Idle after free steps =
      let parts = unready_by before.plan before.journal actor (cut_due before.plan before.journal) steps.1 in
      (steps.0, parts.0, ap (λ (b : Bool). b && not by_rule) parts.1, steps.2)
  steps_on Over after free steps = steps
  steps_on NoMemory after free steps = steps
