-- What the applier waits with needs names of tables.
use Rattle.std.proofs.Common.{◌≡◌, Bool, true, false, List, [], ◌∷◌, ◌++◌, Some, refl, sym, ap, ◌∙◌, subst}
use Rattle.base_script.specs.declared.actor.Actor.{Actor}
use Rattle.base_script.specs.declared.actor.Actor.TheVariants.{Op, Apply}
use Rattle.server_model.specs.Entries.{same_actor}
use Rattle.server_model.specs.declared.answer.Answer.TheVariants as answers
use Rattle.server_model.specs.declared.entry.Asked.{Asked}
use Rattle.server_model.specs.declared.entry.Asked.TheVariants.{Call, Poll, Command, Cut}
use Rattle.server_model.specs.declared.entry.Entry.{Entry}
use Rattle.server_model.specs.declared.request.Request.{Request}
use Rattle.plan_data.specs.PlanData.{PlanData}
use Rattle.tool_program.specs.Programs.{given, IsGiven}
use Rattle.proof_journals.specs.Machine.Standings.{Standing, free, standing_of, answered, answers_to, needs_names, IsAbout, is_called, is_polled}
use Rattle.proof_journals.proofs.Actors.{same_actor_is}
use Rattle.proof_journals.proofs.Machine.Journals.{IsRun, IsTogether, Asking, calls_so, polls_so, asking}
use Rattle.proof_journals.proofs.Machine.Seated.{IsKnown, IsServed, others_stand, own_stands, own_fits, own_lost}
use Rattle.proof_migration.proofs.ToolPhase.Owners.{commands_operator}
use Rattle.proof_migration.proofs.Attempt.Standing.{none_some}
use Rattle.proof_migration.proofs.Program.Hints.Courses.{IsWait, waits_wait}

-- what the applier waits with
abbrev pub NeedsNames : PlanData → List Entry → Type 0
NeedsNames plan journal = (request : Request) → (standing_of plan journal Apply).waits ≡ Some request → needs_names request ≡ true

module _ (plan : PlanData) (journal : List Entry) (entry : Entry) (together : IsTogether plan journal) (run : IsRun plan journal entry) (was : NeedsNames plan journal) where
  abbrev has : Actor → Standing
  has = standing_of plan journal

  abbrev now_has : Actor → Standing
  now_has = standing_of plan (journal ++ entry ∷ [])

  known : IsKnown plan journal
  known = together.known

  served : IsServed plan journal entry
  served = record { answered = run.answered; seated = record { session = run.followed.session } }

  own_needs : entry.actor ≡ Apply → (request : Request) → (now_has Apply).waits ≡ Some request → needs_names request ≡ true
  unfolding given
  own_needs who request some = by entry.asked refl run.followed.given where
    lost : entry.asked ≡ Cut → needs_names request ≡ true
    lost cut = none_some request (now_has Apply).waits (ap (λ (s : Standing). s.waits) (subst (λ (a : Actor). now_has a ≡ free) who (own_lost plan journal entry known served cut))) some

    with : (called : Request) → IsAbout called (has Apply) entry.asked → needs_names request ≡ true
    with called about =
        let there : IsAbout called (has entry.actor) entry.asked = subst (λ (a : Actor). IsAbout called (has a) entry.asked) (sym who) about in
        let stands : now_has Apply ≡ answered called entry.answer (has Apply) = subst (λ (a : Actor). now_has a ≡ answered called entry.answer (has a)) who (own_stands plan journal entry known served called there) in
        let wait : IsWait called request entry.answer = waits_wait called request entry.answer (has Apply) (ap (λ (s : Standing). s.waits) (sym stands) ∙ some) in
        ap needs_names (sym wait.same) ∙ ap (answers_to called) (sym wait.is) ∙ own_fits plan journal entry known served called there

    asked_so : Asking plan journal Apply entry.asked → needs_names request ≡ true
    asked_so (calls_so called asks none call) = with called (is_called asks none)
    asked_so (polls_so called asks waits) = with called (is_polled asks waits)

    by : (asked : Asked) → entry.asked ≡ asked → IsGiven plan journal entry asked → needs_names request ≡ true
    by Cut asks gives = lost asks
    by (Call called) asks gives = asked_so (asking plan journal Apply entry.asked together.server (ap (given plan journal) (sym who) ∙ gives ∙ ap Some (sym asks)))
    by Poll asks gives = asked_so (asking plan journal Apply entry.asked together.server (ap (given plan journal) (sym who) ∙ gives ∙ ap Some (sym asks)))
    by (Command word) asks gives = absurd (no (sym (commands_operator plan journal entry.actor word gives) ∙ who)) where
      no : Op ≡ Apply → ⊥
      no both = cc

  -- *Behind one turn more*
  pub needs_more : NeedsNames plan (journal ++ entry ∷ [])
  needs_more request some = by (same_actor entry.actor Apply) refl where
    by : (b : Bool) → same_actor entry.actor Apply ≡ b → needs_names request ≡ true
    by true same = own_needs (same_actor_is entry.actor Apply same) request some
    by false differ = was request (ap (λ (s : Standing). s.waits) (sym (others_stand plan journal entry known served Apply differ)) ∙ some)
