-- The stage, where the last answer isn't taken yet.
use Rattle.std.proofs.Common.{◌≡◌, ◌≤◌, ℕ, ◌+◌, ◌-◌, List, [], ◌∷◌, ◌++◌, length, take, drop, Some, sym, ap, ◌∙◌, subst, append_assoc, arith}
use Rattle.std.specs.List.{slice_get}
use Rattle.std.proofs.lemmas.List.{length-append, take-append-drop}
use Rattle.std.proofs.lemmas.Option.{same_Some}
use Rattle.server_model.specs.declared.answer.Answer.{Answer}
use Rattle.server_model.specs.declared.entry.Entry.{Entry}
use Rattle.server_model.specs.States.{State}
use Rattle.plan_data.specs.PlanData.{PlanData}
use Rattle.tool_program.specs.JournalWords.Journals.{state_at}
use Rattle.tool_finish.specs.declared.stage.Stage.{Stage}
use Rattle.tool_finish.specs.Finishes.{took, verdict_in, is_over, stage_behind, finish_verdict}
use Rattle.tool_finish.specs.Stages.{FitsStage, ends, verdict_behind}
use Rattle.tool_finish.proofs.Holding.{holds_fits, took_ends, took_verdict, took_numbered}
use Rattle.tool_finish.proofs.Walking.{stage_holds, stage_more}
use Rattle.proof_journals.specs.Run.Counts.{IsAfter}
use Rattle.run_finish.specs.Invariants.{IsAnswered}
use Rattle.run_finish.proofs.Parts.{last_of}

module _ (plan : PlanData) (run turns : List Entry) (stage : Stage) (answered : IsAnswered plan run turns stage) where
  abbrev before : List Entry
  before = run ++ answered.before

  whole : run ++ turns ≡ before ++ answered.entry ∷ []
  whole = ap (λ (all : List Entry). run ++ all) answered.last ∙ sym (append_assoc run answered.before (answered.entry ∷ []))

  count : length (run ++ turns) ≡ length before + 1
  count = ap length whole ∙ length-append before (answered.entry ∷ [])

  pub some_turns : 1 ≤ length (run ++ turns)
  some_turns = omega (arith, count)

  -- the last turn is this one
  pub last_is : (entry : Entry) → slice_get (run ++ turns) (length (run ++ turns) - 1) ≡ Some entry → answered.entry ≡ entry
  last_is entry is =
      let one : length (run ++ turns) - 1 ≡ length before = omega (arith, count) in
      same_Some answered.entry entry (sym (last_of before answered.entry) ∙ ap (λ (all : List Entry). slice_get all (length before)) (sym whole) ∙ ap (slice_get (run ++ turns)) (sym one) ∙ is)

  -- it may take an answer
  pub fits : FitsStage (length (run ++ turns) - 1) stage
  fits =
      let one : length before ≡ length (run ++ turns) - 1 = omega (arith, count) in
      subst (λ (n : ℕ). FitsStage n stage) one
      (subst (FitsStage (length before)) (sym answered.at) (holds_fits plan before (stage_behind plan run answered.before) (stage_holds plan run answered.before)))

  -- the stage behind the turns
  pub behind_is : stage_behind plan run turns ≡ took plan (run ++ turns) (state_at plan (run ++ turns)) answered.entry.answer stage
  behind_is =
      ap (stage_behind plan run) answered.last
      ∙ stage_more plan run answered.before answered.entry
      ∙ ap (λ (all : List Entry). took plan all (state_at plan all) answered.entry.answer (stage_behind plan run answered.before)) (sym whole)
      ∙ ap (took plan (run ++ turns) (state_at plan (run ++ turns)) answered.entry.answer) (sym answered.at)

  -- ... as the server tells it
  pub taken_is : (server : State) (answer : Answer) → IsAfter (state_at plan (run ++ turns)) server → answered.entry.answer ≡ answer → took plan (run ++ turns) server answer stage ≡ stage_behind plan run turns
  taken_is server answer following same =
      ap (λ (s : State). took plan (run ++ turns) s answer stage) following.same
      ∙ took_numbered plan (run ++ turns) server.made (state_at plan (run ++ turns)) answer stage
      ∙ ap (λ (a : Answer). took plan (run ++ turns) (state_at plan (run ++ turns)) a stage) (sym same)
      ∙ sym behind_is

  pub over_is : ends stage ≡ is_over (stage_behind plan run turns)
  over_is = sym (ap is_over behind_is ∙ took_ends plan (run ++ turns) (state_at plan (run ++ turns)) answered.entry.answer stage)

  pub verdict_is : verdict_behind plan (run ++ turns) stage ≡ finish_verdict plan run turns
  unfolding finish_verdict
  verdict_is = sym (ap (verdict_in plan (run ++ turns)) behind_is ∙ took_verdict plan (run ++ turns) (state_at plan (run ++ turns)) answered.entry.answer stage)

pub verdict_now : (plan : PlanData) (run turns : List Entry) (stage : Stage) → stage ≡ stage_behind plan run turns → verdict_in plan (run ++ turns) stage ≡ finish_verdict plan run turns
unfolding finish_verdict
verdict_now plan run turns stage is = ap (verdict_in plan (run ++ turns)) is

-- THE WHOLE JOURNAL

module _ (plan : PlanData) (count : ℕ) (journal : List Entry) (stage : Stage) (answered : IsAnswered plan (take count journal) (drop count journal) stage) where
  all_is : take count journal ++ drop count journal ≡ journal
  all_is = take-append-drop count journal

  pub fits_at : FitsStage (length journal - 1) stage
  fits_at = subst (λ (all : List Entry). FitsStage (length all - 1) stage) all_is (fits plan (take count journal) (drop count journal) stage answered)

  pub some_at : 1 ≤ length journal
  some_at = subst (λ (all : List Entry). 1 ≤ length all) all_is (some_turns plan (take count journal) (drop count journal) stage answered)

  pub taken_at : (server : State) (entry : Entry) → IsAfter (state_at plan journal) server → slice_get journal (length journal - 1) ≡ Some entry → took plan journal server entry.answer stage ≡ stage_behind plan (take count journal) (drop count journal)
  taken_at server entry following last =
      ap (λ (all : List Entry). took plan all server entry.answer stage) (sym all_is)
      ∙ taken_is plan (take count journal) (drop count journal) stage answered server entry.answer (subst (λ (all : List Entry). IsAfter (state_at plan all) server) (sym all_is) following)
      (ap (λ (one : Entry). one.answer) (last_is plan (take count journal) (drop count journal) stage answered entry (ap (λ (all : List Entry). slice_get all (length all - 1)) all_is ∙ last)))
