-- The stage behind one turn more.
use Rattle.std.proofs.Common.{◌≡◌, ℕ, ◌+◌, true, false, List, [], ◌∷◌, ◌++◌, length, refl, sym, ap, ◌∙◌, subst, append_assoc, append-nil, arith}
use Rattle.std.specs.Prelude.{fold, is_some}
use Rattle.std.proofs.lemmas.List.Sums.{fold-append}
use Rattle.server_model.specs.declared.entry.Entry.{Entry}
use Rattle.plan_data.specs.PlanData.{PlanData}
use Rattle.tool_program.specs.JournalWords.Journals.{state_at}
use Rattle.tool_finish.specs.declared.stage.Stage.{Stage}
use Rattle.tool_finish.specs.Finishes.{losing, next, took, is_over, Walk, walked, stage_behind}
use Rattle.tool_finish.proofs.Holding.{Holds, took_holds, begins_holding, next_comes}

turns_walked : (plan : PlanData) (walk : Walk) (turns : List Entry) → (fold (walked plan) walk turns).turns ≡ walk.turns ++ turns
turns_walked plan walk [] = sym (append-nil walk.turns)
turns_walked plan walk (entry ∷ turns) = turns_walked plan (walked plan walk entry) turns ∙ append_assoc walk.turns (entry ∷ []) turns

walk_holds : (plan : PlanData) (walk : Walk) (turns : List Entry) → Holds plan walk.turns walk.stage → Holds plan (fold (walked plan) walk turns).turns (fold (walked plan) walk turns).stage
walk_holds plan walk [] is = is
walk_holds plan walk (entry ∷ turns) is = walk_holds plan (walked plan walk entry) turns (took_holds plan walk.turns entry (state_at plan (walk.turns ++ entry ∷ [])) walk.stage is)

abbrev begins : PlanData → List Entry → Walk
begins plan run = record { turns = run; stage = losing plan run }

-- *It holds behind any turns*
pub stage_holds : (plan : PlanData) (run turns : List Entry) → Holds plan (run ++ turns) (stage_behind plan run turns)
unfolding stage_behind
stage_holds plan run turns = subst (λ (all : List Entry). Holds plan all (fold (walked plan) (begins plan run) turns).stage) (turns_walked plan (begins plan run) turns) (walk_holds plan (begins plan run) turns (begins_holding plan run))

-- *One turn more*
pub stage_more : (plan : PlanData) (run turns : List Entry) (entry : Entry) → stage_behind plan run (turns ++ entry ∷ []) ≡ took plan ((run ++ turns) ++ entry ∷ []) (state_at plan ((run ++ turns) ++ entry ∷ [])) entry.answer (stage_behind plan run turns)
unfolding stage_behind
stage_more plan run turns entry =
    ap (λ (walk : Walk). walk.stage) (fold-append (walked plan) (begins plan run) turns (entry ∷ []))
    ∙ ap (λ (all : List Entry). took plan (all ++ entry ∷ []) (state_at plan (all ++ entry ∷ [])) entry.answer (fold (walked plan) (begins plan run) turns).stage) (turns_walked plan (begins plan run) turns)

-- *A call comes next* until it is over
pub calls_come : (plan : PlanData) (run turns : List Entry) → is_over (stage_behind plan run turns) ≡ false → is_some (next plan (run ++ turns) (stage_behind plan run turns)) ≡ true
calls_come plan run turns going = next_comes plan (run ++ turns) (stage_behind plan run turns) (stage_holds plan run turns) going
