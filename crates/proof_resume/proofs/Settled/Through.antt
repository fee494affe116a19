-- Over settling turns the new table stays settled.
use Rattle.std.proofs.Common.{◌≡◌, ℕ, List, [], ◌∷◌, ◌++◌, Option, sym, subst, append_assoc}
use Rattle.std.proofs.lemmas.List.{append-nil}
use Rattle.base_values.specs.declared.span.Span.{Span}
use Rattle.server_model.specs.declared.entry.Entry.{Entry}
use Rattle.server_model.specs.declared.session.Limits.{Limits}
use Rattle.proof_journals.specs.Holdings.{stored}
use Rattle.proof_journals.specs.Scenes.{Scene, Stored}
use Rattle.proof_journals.specs.Turns.{IsSceneRun, scene_state}
use Rattle.proof_journals.specs.Ghost.Rows.Moments.{Row}
use Rattle.proof_journals.specs.Ghost.Rows.Timelines.{IsPlanned, Migration}
use Rattle.proof_journals.proofs.Ghost.Turns.{run_front}
use Rattle.proof_resume.specs.Settled.Laws.{SettledThrough}
use Rattle.proof_resume.specs.Settled.NewTable.{IsSettled}
use Rattle.proof_resume.specs.Settled.SettlingTurns.{IsSettling, SettlesSo}
use Rattle.proof_resume.specs.Settled.SettlingTurns.IsSettling.{stores_nothing, keeps_away}
use Rattle.proof_resume.proofs.Settled.QuietTurns.{quiet_turns}
use Rattle.proof_resume.proofs.Settled.KeptAway.{turns_settle}

one_turn : (m : Migration) (rows : List Row) → IsPlanned m rows → (limits : Limits) (scene : Scene) (journal : List Entry) (entry : Entry) → IsSceneRun limits scene (journal ++ entry ∷ []) → SettlesSo m limits scene journal entry → (position : ℕ) (left : Option Span) (made : List Row)
    → IsSettled m rows (stored (scene_state limits scene journal)) position left made → IsSettled m rows (stored (scene_state limits scene (journal ++ entry ∷ []))) position left made
one_turn m rows planned limits scene journal entry run turn position left made settled = by turn.settling where
  by : IsSettling m limits scene journal entry → IsSettled m rows (stored (scene_state limits scene (journal ++ entry ∷ []))) position left made
  by (keeps_away none away) = turns_settle m rows planned limits scene journal entry run turn.sides none away position left made settled
  by (stores_nothing quiet) = subst (λ (s : Stored). IsSettled m rows s position left made) (sym (quiet_turns limits scene journal entry run turn.sides quiet)) settled

-- *Settled through.*
pub settled_through : SettledThrough
settled_through m rows planned limits scene journal [] run turns position left made settled = subst (λ (j : List Entry). IsSettled m rows (stored (scene_state limits scene j)) position left made) (sym (append-nil journal)) settled
settled_through m rows planned limits scene journal (entry ∷ rest) run turns position left made settled =
    let same : (journal ++ entry ∷ []) ++ rest ≡ journal ++ entry ∷ rest = append_assoc journal (entry ∷ []) rest in
    let longer : IsSceneRun limits scene ((journal ++ entry ∷ []) ++ rest) = subst (IsSceneRun limits scene) (sym same) run in
    subst (λ (j : List Entry). IsSettled m rows (stored (scene_state limits scene j)) position left made) same
    (settled_through m rows planned limits scene (journal ++ entry ∷ []) rest longer turns.1 position left made
    (one_turn m rows planned limits scene journal entry (run_front limits scene (journal ++ entry ∷ []) rest longer) turns.0 position left made settled))
