-- A new tool starts, and makes the altered table.
use Rattle.std.proofs.Common.{[], refl, sym, ap, subst}
use Rattle.server_model.specs.States.{State}
use Rattle.tool_program.specs.declared.event_applier.applier.ApplyStep.{ApplyStep}
use Rattle.proof_journals.specs.Scenes.{SessionHold}
use Rattle.proof_journals.specs.Holdings.{face_of, stored}
use Rattle.proof_journals.specs.Turns.{scene_state}
use Rattle.proof_journals.specs.Ghost.Invariant.{NotOf}
use Rattle.proof_journals.specs.Ghost.ToolTurns.{KeptTool}
use Rattle.proof_journals.specs.Ghost.ToolTurns.ToolStands.{at_rest}
use Rattle.proof_journals.specs.Ghost.Tool.{CopyState, start_places}
use Rattle.proof_journals.specs.Ghost.Tool.ApplyState.{Idle}
use Rattle.proof_migration.specs.Migration.Applier.ApplierPlace as applying
use Rattle.proof_migration.specs.Migration.Applier.ApplierPlace.{StepIsBusy}
use Rattle.proof_migration.specs.Migration.Copier.CopierPlace.{AfterReported, StepKnows}
use Rattle.proof_migration.specs.Migration.Machines.{hold_at, journal_after, machines_after}
use Rattle.proof_migration.proofs.Migration.Migrating.{ends, runs_keep}
use Rattle.proof_resume.specs.Settled.Laws.{NewToolsStart, ResumedCopiesAlter}
use Rattle.proof_resume.specs.Settled.NewTable.{only_committed}
use Rattle.proof_resume.proofs.Settled.NewTable.{settled_starts}

-- *New tools start.*
pub new_tools_start : NewToolsStart
new_tools_start m at rows limits scene journal now left made new copies settled =
    let state : State = scene_state limits scene journal in
    record {
      tool = record {
        stands = at_rest (ap (applying.plan_at m journal) new.reading)
            (subst (λ (c : CopyState). KeptTool m at rows c Idle (now.applier).position now.copier_session now.applier_session (stored state) (hold_at state)) (sym copies)
            (record {
              progress = start_places (now.applier).position (stored state);
              ghost = only_committed made;
              here = refl;
              tool = settled_starts m at rows now.copier_session now.applier_session (now.applier).position (stored state) (hold_at state) left made (new.free now.copier_session) (new.free now.applier_session) new.two new.other settled;
            }));
        away = λ n no_copier no_applier. subst (λ (h : SessionHold). NotOf m.new.name h.writes) (sym (new.free n)) tt;
      };
      copier_knows = record { following = subst (AfterReported journal) (sym new.following) tt; step = subst (StepKnows journal (now.copier).range) (sym new.choosing) tt; sized = new.sized };
      applier_knows = record { step = subst (applying.StepKnows m journal) (sym new.reading) tt; sized = new.batched };
      busy = subst (λ (s : ApplyStep). StepIsBusy s (face_of state.sessions now.applier_session).busy) (sym new.reading) tt;
    }

-- *Resumed copies alter the table.*
pub resumed_copies_alter : ResumedCopiesAlter
resumed_copies_alter m at rows place plan is_place finds named limits scene journal now steps run was turns end =
    ends m at rows place plan is_place limits scene (journal_after journal steps) (machines_after now steps) run end
    (runs_keep m at rows place plan is_place finds named limits scene journal now steps run turns was)
