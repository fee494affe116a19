-- Every list of turns has a faithful journal.
use Rattle.std.proofs.Common.{◌≡◌, List, [], ◌∷◌, ◌++◌, refl, sym, ap, ◌∙◌}
use Rattle.server_model.specs.declared.session.Limits.{Limits}
use Rattle.server_model.specs.Along.{Along}
use Rattle.proof_journals.specs.Scenes.{Scene}
use Rattle.proof_journals.specs.Turns.{Turn, unanswered, answered, kept_from, scene_state, inner, answer_at, missed_at, drawn_at, IsReported}
use Rattle.server_model.specs.declared.entry.Entry.{Entry}
use Rattle.proof_journals.specs.Laws.{TurnsHaveJournals}
use Rattle.proof_journals.proofs.Journals.{state_more}
use Rattle.server_model.specs.States.{State, opened}
use Rattle.tool_program.specs.JournalWords.Journals.{after_entry, state_after}

from_here : (limits : Limits) (scene : Scene) (before : List Entry) (state : State) (turns : List Turn) → scene_state limits scene before ≡ state → Along (IsReported limits scene) before (kept_from state turns)
unfolding kept_from
from_here limits scene before state [] same = tt
from_here limits scene before state (turn ∷ turns) same = (
  record { answer = ap (λ (s : State). answer_at turn.side (inner s (answered state turn))) (sym same); missed = ap (λ (s : State). missed_at turn.side (inner s (answered state turn))) (sym same); draw = ap (λ (s : State). drawn_at turn.side s (answered state turn)) (sym same) },
  from_here limits scene (before ++ answered state turn ∷ []) (after_entry state (unanswered turn)) turns (state_more (opened limits scene.opening) before (answered state turn) ∙ ap (λ (s : State). after_entry s (answered state turn)) same),
)

pub turns_have_journals : TurnsHaveJournals
unfolding state_after
turns_have_journals limits scene turns = from_here limits scene [] (opened limits scene.opening) turns refl
