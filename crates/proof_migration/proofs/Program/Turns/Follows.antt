-- What a journal that is kept has: it was kept before, its last turn, and its scene.
use Rattle.std.proofs.Common.{◌≡◌, ◌⊎◌, true, List, [], ◌∷◌, ◌++◌, sym, ◌∙◌, subst, inl, inr}
use Rattle.std.proofs.lemmas.Bool.{true≢false}
use Rattle.server_model.specs.declared.entry.Entry.{Entry}
use Rattle.plan_data.specs.PlanData.{PlanData}
use Rattle.tool_program.specs.JournalWords.Journals.{IsAnswered, state_at}
use Rattle.tool_program.specs.JournalWords.KeptPlans.{IsPlanned as IsTurnPlanned, KeepsPlan}
use Rattle.tool_program.specs.JournalWords.Sessions.{IsSeated, KeepsSessions}
use Rattle.tool_program.specs.Programs.{Follows, IsFollowed}
use Rattle.tool_program.specs.Tools.{Work, Migrating, moment}
use Rattle.proof_journals.specs.Plans.{limits_of, scene_of}
use Rattle.proof_journals.specs.Turns.{IsSceneRun}
use Rattle.proof_journals.proofs.PlanJournals.{plan_runs_are_scene_runs}
use Rattle.proof_journals.specs.Ghost.Rows.Moments.{Row}
use Rattle.proof_journals.specs.Ghost.Rows.Timelines.{Migration}
use Rattle.proof_journals.proofs.Ghost.Turns.{along_next}
use Rattle.proof_journals.proofs.ServerTurns.Agreements.{along_front}
use Rattle.proof_journals.specs.Run.Kept.{IsKept}
use Rattle.proof_journals.proofs.Machine.Journals.{IsRun}
use Rattle.proof_journals.proofs.Machine.Marks.{IfUnmarked, Unmarked, is_marked}
use Rattle.proof_migration.specs.Program.Turns.Laws.{IsMigrationOf}
use Rattle.proof_migration.specs.ToolPhase.Unaltered.{IsUnaltered}
use Rattle.proof_migration.proofs.ToolPhase.Unaltered.Away.{IsKnownAsked}
use Rattle.proof_migration.proofs.ToolPhase.Unaltered.Runs.{unaltered_runs}

-- a journal that is kept was kept before
pub kept_front : (plan : PlanData) (front rest : List Entry) → IsKept plan (front ++ rest) → IsKept plan front
unfolding KeepsPlan Follows KeepsSessions
kept_front plan front rest kept = record {
  faithful = along_front (λ before entry. IsAnswered (state_at plan before) entry) [] front rest kept.faithful;
  planned = along_front (IsTurnPlanned plan) [] front rest kept.planned;
  follows = along_front (IsFollowed plan) [] front rest kept.follows;
  sessions = along_front IsSeated [] front rest kept.sessions;
}

-- its last turn
pub kept_run : (plan : PlanData) (journal : List Entry) (entry : Entry) → IsKept plan (journal ++ entry ∷ []) → IsRun plan journal entry
unfolding Follows
kept_run plan journal entry kept = record {
  answered = along_next (λ before one. IsAnswered (state_at plan before) one) [] journal entry [] kept.faithful;
  followed = along_next (IsFollowed plan) [] journal entry [] kept.follows;
}

pub kept_scene : (plan : PlanData) (m : Migration) (rows : List Row) → IsMigrationOf plan m rows → (journal : List Entry) → IsKept plan journal → IsUnaltered plan journal → IsSceneRun (limits_of plan) (scene_of plan journal) journal
kept_scene plan m rows of journal kept off = plan_runs_are_scene_runs plan journal (unaltered_runs plan journal of.runs of.serial kept off)

-- the cut-over isn't done, and the new table stands
pub unmarked_now : (plan : PlanData) (journal : List Entry) (work : Work) → IsKnownAsked plan journal → IsUnaltered plan journal → (moment plan journal).tool.tool_phase ≡ Migrating work → Unmarked plan journal work
unmarked_now plan journal work known off tool_phase = by known.marking.tool_phase where
  by : (is_marked plan journal ≡ true) ⊎ IfUnmarked plan journal (moment plan journal).tool.tool_phase → Unmarked plan journal work
  by (inl marked) = absurd (true≢false (sym marked ∙ off))
  by (inr un) = subst (IfUnmarked plan journal) tool_phase un
