-- What the turn that comes next answers.
use Rattle.std.proofs.Common.{◌≡◌, true, false, None, Some, refl, sym, ap, ◌∙◌, subst}
use Rattle.std.specs.Prelude.{is_some}
use Rattle.std.proofs.lemmas.Bool.{true≢false}
use Rattle.base_script.specs.declared.actor.Actor.TheVariants.{Op}
use Rattle.tool_program.specs.JournalWords.KeptPlans.{cut_due}
use Rattle.tool_program.specs.Orders.{chosen}
use Rattle.proof_feeds.proofs.Choosing.{chosen_goes}
use Rattle.run_turns.specs.declared.run.Stepped.{Stepped}
use Rattle.run_turns.specs.declared.run.Stepped.TheVariants.{Took, Idle, Over, NoMemory}
use Rattle.run_turns.specs.Runs.{RunView}
use Rattle.run_turns.specs.FeedRuns.{FeedSteps}
use Rattle.run_replay.specs.declared.whole_replay.place.OrderPlace.{OrderPlace}
use Rattle.run_replay.specs.declared.whole_replay.place.NextTurn.{NextTurn}
use Rattle.run_replay.specs.WholeReplay.Places.{queue_of, choice_of}
use Rattle.run_replay.specs.WholeReplay.Replays.{IsReplaying, Passes}
use Rattle.run_replay.proofs.WholeReplay.GoingOn.{cut_taken, turn_taken, stalls}

-- a loss between calls
cut_passes : (run : RunView) (place : OrderPlace) (stepped : Stepped) (after : RunView) → IsReplaying run place → is_some (cut_due run.plan run.journal) ≡ true → FeedSteps run Op stepped after → Passes run stepped after place
cut_passes run place Took after is cut steps = cut_taken run Op after place is steps.0.1 steps.0.0 cut
cut_passes run place Idle after is cut steps = absurd (true≢false (sym cut ∙ ap is_some steps.1))
cut_passes run place Over after is cut steps = steps
cut_passes run place NoMemory after is cut steps = steps.2

-- the next actor's turn
turn_passes : (run : RunView) (place : OrderPlace) (next : NextTurn) (stepped : Stepped) (after : RunView) → IsReplaying run place → is_some (cut_due run.plan run.journal) ≡ false → Some (choice_of run.plan next) ≡ chosen run.plan run.journal (queue_of run.plan place)
    → FeedSteps run next.actor stepped after → Passes run stepped after next.following
turn_passes run place next Took after is uncut chooses steps = turn_taken run next.actor after place is steps.0.1 steps.0.0 next uncut chooses refl
turn_passes run place next Idle after is uncut chooses steps =
    absurd (true≢false (sym (chosen_goes run.plan run.journal (queue_of run.plan place) (choice_of run.plan next) (sym chooses)) ∙ steps.2))
turn_passes run place next Over after is uncut chooses steps = steps
turn_passes run place next NoMemory after is uncut chooses steps = steps.2

-- AFTER THE CATCH-UP, which leaves the run

module _ (before now : RunView) (place : OrderPlace) (same : now ≡ before) (replaying : IsReplaying before place) where
  replays_now : IsReplaying now place
  replays_now = subst (λ (run : RunView). IsReplaying run place) (sym same) replaying

  pub pass_cut : (stepped : Stepped) (after : RunView) → is_some (cut_due now.plan now.journal) ≡ true → FeedSteps now Op stepped after → Passes before stepped after place
  pass_cut stepped after cut steps = subst (λ (run : RunView). Passes run stepped after place) same (cut_passes now place stepped after replays_now cut steps)

  pub pass_turn : (next : NextTurn) (stepped : Stepped) (after : RunView) → is_some (cut_due now.plan now.journal) ≡ false → Some (choice_of now.plan next) ≡ chosen now.plan now.journal (queue_of now.plan place)
      → FeedSteps now next.actor stepped after → Passes before stepped after next.following
  pass_turn next stepped after uncut chooses steps = subst (λ (run : RunView). Passes run stepped after next.following) same (turn_passes now place next stepped after replays_now uncut chooses steps)

  -- nobody may go
  pub pass_stalls : is_some (cut_due now.plan now.journal) ≡ false → None ≡ chosen now.plan now.journal (queue_of now.plan place) → Passes before Idle now place
  pass_stalls uncut chooses = subst (λ (run : RunView). Passes run Idle now place) same (stalls now place replays_now uncut chooses, refl)
