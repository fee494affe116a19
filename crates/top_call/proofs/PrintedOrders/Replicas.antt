-- Whoever may go is the same whatever order of turns the plan asks for.
use Rattle.std.proofs.Common.{◌≡◌, ℕ, Bool, false, not, ◌&&◌, cond, List, [], ◌∷◌, ◌++◌, length, Option, refl, ap, ◌∙◌}
use Rattle.std.specs.Prelude.{is_some, ◌==◌}
use Rattle.std.specs.List.{fold, list_any}
use Rattle.std.proofs.Math.Path.{fun_ext}
use Rattle.base_script.specs.declared.actor.Actor.{Actor}
use Rattle.server_model.specs.declared.entry.Asked.{Asked}
use Rattle.server_model.specs.declared.entry.Entry.{Entry}
use Rattle.plan_data.specs.PlanData.{PlanData}
use Rattle.plan_data.specs.declared.runs.ActorRun.{ActorRun}
use Rattle.tool_program.specs.Feeds.{holds_call, is_held_back}
use Rattle.tool_program.specs.JournalWords.Journals.{state_at}
use Rattle.tool_program.specs.Orders.{actors, caught_up, held_after, held_behind, is_caught, is_ready, may_go, may_go_at, replica_length, risen, Held}
use Rattle.top_call.specs.PrintedOrders.{ordered}
use Rattle.top_call.proofs.PrintedOrders.Programs.{fold_same, given_same}

module _ (plan : PlanData) (runs : List ActorRun) where
  actors_same : actors (ordered plan runs) ≡ actors plan
  unfolding actors
  actors_same = refl

  ready_same : (journal : List Entry) → is_ready (ordered plan runs) journal ≡ is_ready plan journal
  ready_same journal = fun_ext (λ actor. ap is_some (given_same plan runs journal actor))

  -- with a replica that holds so much
  go_same : (journal : List Entry) (held : ℕ) (actor : Actor) → may_go_at (ordered plan runs) journal held actor ≡ may_go_at plan journal held actor
  unfolding is_held_back
  go_same journal held actor =
      ap (λ (asked : Option Asked). is_some asked && not (cond (plan.options.replica_step == 0) false (holds_call plan (state_at plan journal) held actor asked))) (given_same plan runs journal actor)

  caught_same : (journal : List Entry) (held : ℕ) → is_caught (ordered plan runs) journal held ≡ is_caught plan journal held
  caught_same journal held =
      ap (λ (test : Actor → Bool). list_any test (actors (ordered plan runs)) && not (list_any (may_go_at (ordered plan runs) journal held) (actors (ordered plan runs)))) (ready_same journal)
      ∙ ap (λ (test : Actor → Bool). list_any (is_ready plan journal) (actors (ordered plan runs)) && not (list_any test (actors (ordered plan runs)))) (fun_ext (go_same journal held))
      ∙ ap (λ (all : List Actor). list_any (is_ready plan journal) all && not (list_any (may_go_at plan journal held) all)) actors_same

  caught_up_same : (journal : List Entry) (held : ℕ) → caught_up (ordered plan runs) journal held ≡ caught_up plan journal held
  caught_up_same journal held = ap (λ (b : Bool). cond b (length (state_at plan journal).log) held) (caught_same journal held)

  held_same : (now : Held) (journal : List Entry) → fold (held_after (ordered plan runs)) now journal ≡ fold (held_after plan) now journal
  held_same now journal = fold_same (held_after (ordered plan runs)) (held_after plan) step now journal where
    step : (now : Held) (entry : Entry) → held_after (ordered plan runs) now entry ≡ held_after plan now entry
    step now entry = ap (λ (n : ℕ). let one : Held = record { before = now.before ++ entry ∷ []; held = risen plan (now.before ++ entry ∷ []) n } in one) (caught_up_same now.before now.held)

  length_same : (journal : List Entry) → replica_length (ordered plan runs) journal ≡ replica_length plan journal
  unfolding replica_length held_behind
  length_same journal =
      let start : Held = record { before = []; held = 0 } in
      ap (λ (now : Held). caught_up (ordered plan runs) journal now.held) (held_same start journal) ∙ caught_up_same journal (fold (held_after plan) start journal).held

  pub may_go_same : (journal : List Entry) (actor : Actor) → may_go (ordered plan runs) journal actor ≡ may_go plan journal actor
  may_go_same journal actor = ap (λ (n : ℕ). may_go_at (ordered plan runs) journal n actor) (length_same journal) ∙ go_same journal (replica_length plan journal) actor
