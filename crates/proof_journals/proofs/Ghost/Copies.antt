-- A whole copy: it starts with the invariant, its turns keep it, and at its end the new table is the altered one.
use Rattle.std.proofs.Common.{◌≡◌, ℕ, List, [], ◌∷◌, None, refl, sym, ◌∙◌, subst}
use Rattle.base_values.specs.GhoSchema.Rows.{key_places}
use Rattle.base_values.specs.GhoSchema.Tables.{Ascends}
use Rattle.server_model.specs.declared.entry.Entry.{Entry}
use Rattle.server_model.specs.declared.session.Limits.{Limits}
use Rattle.proof_journals.specs.Scenes.{Scene, SessionHold, Stored}
use Rattle.proof_journals.specs.Holdings.{face_of}
use Rattle.proof_journals.specs.Turns.{IsSceneRun, scene_state}
use Rattle.server_model.proofs.LockedRows.Tests.{turned}
use Rattle.proof_journals.proofs.Ghost.Rows.TimelineLaws.{each_table}
use Rattle.proof_journals.specs.Ghost.Rows.Moments.{Row}
use Rattle.proof_journals.specs.Ghost.Rows.Timelines.{IsPlanned, Migration}
use Rattle.proof_journals.specs.Ghost.Copies.{IsAltered, IsCopyEnd, IsCopyStart, IsInScene, SceneTurns, range_of, rows_now}
use Rattle.proof_journals.specs.Ghost.HeldKeys.{Clustered}
use Rattle.proof_journals.specs.Ghost.Invariant.{IsServed}
use Rattle.proof_journals.specs.Ghost.Laws.{CopiesAlter, SceneCopiesAlter}
use Rattle.proof_journals.specs.Ghost.ToolTurns.{KeptTool, ToolMoment, ToolRun, ToolStands}
use Rattle.proof_journals.specs.Ghost.ToolTurns.ToolStands.{at_rest}
use Rattle.proof_journals.specs.Ghost.Tool.{CopyState, ToolInvariant, no_ghost, start_places}
use Rattle.proof_journals.specs.Ghost.Tool.ApplyState.{Idle}
use Rattle.proof_journals.specs.Ghost.Tool.CopyState.{Waiting}
use Rattle.proof_journals.proofs.Ghost.Running.{any_kept, runs_keep}
use Rattle.proof_journals.proofs.Ghost.Starting.{tool_ends, tool_starts, tool_starts_empty}
use Rattle.proof_journals.proofs.Ghost.Turns.{run_front, writes_fit}

-- *The start*: the invariant holds with all of the range left
start_kept : (m : Migration) (at : Clustered m.schema) (rows : List Row) (copier applier : ℕ) (now : ToolMoment) → IsPlanned m rows → IsCopyStart m rows copier applier now → (olds : List Row) → rows_now m rows now ≡ olds
    → KeptTool m at rows (Waiting (range_of (key_places m.schema) olds)) Idle now.position copier applier now.stored now.hold
start_kept m at rows copier applier now plan start [] are =
    record {
      progress = start_places now.position now.stored;
      ghost = no_ghost;
      here = refl;
      tool = tool_starts_empty m at rows now.position copier applier now.stored now.hold plan start.fits start.noted are start.old start.empty start.copier_rests start.applier_rests start.differ start.two (turned copier applier start.two);
    }
start_kept m at rows copier applier now plan start (first ∷ others) are =
    record {
      progress = start_places now.position now.stored;
      ghost = no_ghost;
      here = refl;
      tool = tool_starts m at rows now.position copier applier now.stored now.hold first others plan start.fits start.noted are
          (subst (Ascends (key_places m.schema)) are (each_table m.name m.schema plan.old_key now.stored.log rows _ plan.table start.fits).ascends) start.old start.empty start.copier_rests start.applier_rests start.differ start.two (turned copier applier start.two);
    }

pub start_stands : (m : Migration) (at : Clustered m.schema) (rows : List Row) (copier applier : ℕ) (now : ToolMoment) → IsPlanned m rows → IsCopyStart m rows copier applier now → ToolStands m at rows copier applier now
start_stands m at rows copier applier now plan start =
    at_rest start.resting (subst (λ (copy : CopyState). KeptTool m at rows copy Idle now.position copier applier now.stored now.hold) (sym start.range) (start_kept m at rows copier applier now plan start (rows_now m rows now) refl))

-- *The end*: whatever the applier had to do
pub end_altered : (m : Migration) (at : Clustered m.schema) (rows : List Row) (copier applier : ℕ) (now : ToolMoment) → IsPlanned m rows → IsCopyEnd now → ToolStands m at rows copier applier now → IsAltered m now.stored.tables
end_altered m at rows copier applier now plan end stands =
    any_kept (IsAltered m now.stored.tables) m at rows copier applier now
    (λ apply kept.
    let tool : ToolInvariant m at rows (Waiting None) apply kept.progress kept.ghost copier applier now.stored now.hold = subst (λ (copy : CopyState). ToolInvariant m at rows copy apply kept.progress kept.ghost copier applier now.stored now.hold) end.copied kept.tool in
    record {
      rows = rows_now m rows now;
      made = kept.ghost.committed;
      old = tool.kept.old;
      new = tool.kept.new;
      altered = tool_ends m at rows apply kept.progress kept.ghost copier applier now.stored now.hold plan tool (kept.here ∙ end.applied);
    }) stands

-- *Copies make the altered table.*
pub copies_alter : CopiesAlter
copies_alter m at rows place copier applier plan is first moments start run end =
    end_altered m at rows copier applier _ plan end (runs_keep m at rows place copier applier plan is first moments (start_stands m at rows copier applier first plan start) run)

-- ---- in a scene

-- at each moment of a scene the server keeps what it keeps
moment_served : (limits : Limits) (scene : Scene) (journal : List Entry) (now : ToolMoment) → IsSceneRun limits scene journal → IsInScene limits scene journal now → IsServed now.stored now.hold
moment_served limits scene journal now run here =
    let front : IsSceneRun limits scene here.made = run_front limits scene here.made here.left (subst (IsSceneRun limits scene) (sym here.journal_is) run) in
    let held : ℕ → SessionHold = λ n. (face_of (scene_state limits scene here.made).sessions n).hold in
    subst (λ (hold : ℕ → SessionHold). IsServed now.stored hold) (sym here.hold_is) (subst (λ (s : Stored). IsServed s held) (sym here.stored_is) (writes_fit limits scene here.made front))

scene_run : (m : Migration) (at : Clustered m.schema) (rows : List Row) (place copier applier : ℕ) (limits : Limits) (scene : Scene) (journal : List Entry) → IsSceneRun limits scene journal → (first : ToolMoment) (moments : List ToolMoment)
    → SceneTurns m at rows place copier applier limits scene journal first moments → ToolRun m at rows place copier applier first moments
scene_run m at rows place copier applier limits scene journal run first [] turns = tt
scene_run m at rows place copier applier limits scene journal run first (next ∷ others) turns =
    (moment_served limits scene journal first run turns.0, turns.1, scene_run m at rows place copier applier limits scene journal run next others turns.2)

-- *Copies in a scene make it so.*
pub scene_copies_alter : SceneCopiesAlter
scene_copies_alter m at rows place copier applier plan is limits scene journal run first moments start turns end =
    copies_alter m at rows place copier applier plan is first moments start (scene_run m at rows place copier applier limits scene journal run first moments turns) end
