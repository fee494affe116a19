-- So a new tool starts right, and exchanges the tables when the new one is the altered one.
use Rattle.std.proofs.Common.{◌≡◌, List, [], ◌∷◌, ◌++◌, length, drop, append_assoc, append-nil, Option, Some, refl, sym, ap, ◌∙◌, subst}
use Rattle.std.proofs.Math.Seq.{drop-append_seam}
use Rattle.server_model.proofs.LockedRows.Tests.{turned}
use Rattle.table_store.specs.Databases.{find_table}
use Rattle.server_model.specs.Along.{Along}
use Rattle.server_model.specs.declared.answer.Answer.TheVariants as answers
use Rattle.server_model.specs.declared.answer.KeyRange.{KeyRange}
use Rattle.server_model.specs.declared.entry.Entry.{Entry}
use Rattle.plan_data.specs.PlanData.{PlanData}
use Rattle.tool_notes.specs.declared.checkpoint.Checkpoint.{Checkpoint}
use Rattle.tool_program.specs.JournalWords.Journals.{IsAnswered, IsFaithful, state_at}
use Rattle.tool_program.specs.Tools.{Migrating, Work, moment}
use Rattle.tool_finish.specs.declared.stage.Stage.TheVariants.{Ranging}
use Rattle.tool_finish.specs.Finishes.{IsFinish, IsFinishTurn, applier_from, copier_from, stage_behind}
use Rattle.proof_journals.specs.Plans.{limits_of, scene_of}
use Rattle.proof_journals.specs.Run.Kept.{IsKept}
use Rattle.proof_migration.specs.Migration.Machines.{MigrationStands}
use Rattle.proof_journals.specs.Ghost.HeldKeys.{Clustered}
use Rattle.proof_journals.specs.Ghost.Rows.Moments.{Row}
use Rattle.proof_journals.specs.Ghost.Rows.Timelines.{Migration}
use Rattle.proof_journals.proofs.ServerTurns.Agreements.{along_front}
use Rattle.proof_migration.specs.Migration.Copier.CopierPlace.{copy_state}
use Rattle.proof_migration.specs.Migration.Planning.{migration_of}
use Rattle.proof_migration.specs.ToolPhase.Unaltered.{IsUnaltered}
use Rattle.proof_migration.specs.Program.Turns.Laws.{IsMigrationOf}
use Rattle.proof_migration.proofs.Program.Follows.{own_table}
use Rattle.proof_migration.proofs.ToolPhase.Unaltered.Runs.{unaltered_runs}
use Rattle.proof_bounds.specs.AttemptTurns.Attempts.{MayTry}
use Rattle.proof_migration.specs.Program.Turns.Goes.{StandsFor, machines_of}
use Rattle.proof_resume.specs.Finish.Walks.{StartsRight}
use Rattle.proof_resume.proofs.Finish.Walks.{finishes_alter}
use Rattle.proof_plain.specs.Plans.{IsShort, PlainPlan}
use Rattle.proof_resume.specs.Reached.Coverage.{IsBehindTool, left_in}
use Rattle.proof_resume.specs.Starts.Beginnings.{IsCleared, StageFinds, StartsFrom}
use Rattle.proof_resume.specs.Starts.Laws.{FinishesExchangeAltered, FinishesStartRight}
use Rattle.proof_resume.proofs.Starts.Reading.{found_is_behind}
use Rattle.proof_resume.proofs.Starts.Stages.{IsLast, last_turn}
use Rattle.proof_resume.proofs.Starts.Starting.{finishes_start, ranges_start}

-- a rule along a list, from each entry with those before it
along_each : {E : Type 0} (keeps : List E → E → Type 0) (start front back : List E) → ((one : List E) (entry : E) (rest : List E) → one ++ entry ∷ rest ≡ front ++ back → keeps (start ++ one) entry) → Along keeps (start ++ front) back
along_each {E} keeps start front [] each = tt
along_each {E} keeps start front (entry ∷ back) each = (
  each front entry back refl,
  subst (λ (l : List E). Along keeps l back) (sym (append_assoc start front (entry ∷ []))) (along_each keeps start (front ++ entry ∷ []) back (λ one other rest same. each one other rest (same ∙ append_assoc front (entry ∷ []) back))),
)

module _ (plan : PlanData) (m : Migration) (at : Clustered m.schema) (rows : List Row) (of : IsMigrationOf plan m rows) (tries : MayTry plan) (plain : PlainPlan plan) (opening : find_table m.name plan.tables ≡ Some (record { schema = m.schema; rows = rows })) (run : List Entry) (work : Work) (kept : IsKept plan run)
    (off : IsUnaltered plan run) (phase : (moment plan run).tool.tool_phase ≡ Migrating work) (short : IsShort run) (turns : List Entry) (faithful : IsFaithful plan (run ++ turns)) (finish : IsFinish plan run turns) where
  abbrev Right : List Entry → Entry → Type 0
  Right before entry = (found : Checkpoint) (range : Option KeyRange) → stage_behind plan run (drop (length run) before) ≡ Ranging found → entry.answer ≡ answers.Ends range → StandsFor plan m at rows (before ++ entry ∷ []) (copier_from plan found.reach range) (applier_from plan found.position)

  -- the turns up to this one
  faithful_to : (front : List Entry) (entry : Entry) (rest : List Entry) → front ++ entry ∷ rest ≡ turns → IsFaithful plan (run ++ (front ++ entry ∷ []))
  faithful_to front entry rest same =
      along_front (λ before one. IsAnswered (state_at plan before) one) [] (run ++ (front ++ entry ∷ [])) rest
      (subst (IsFaithful plan) (sym (append_assoc run (front ++ entry ∷ []) rest ∙ ap (λ (l : List Entry). run ++ l) (append_assoc front (entry ∷ []) rest ∙ same))) faithful)

  finish_to : (front : List Entry) (entry : Entry) (rest : List Entry) → front ++ entry ∷ rest ≡ turns → IsFinish plan run (front ++ entry ∷ [])
  unfolding IsFinish
  finish_to front entry rest same = along_front (IsFinishTurn plan run) run (front ++ entry ∷ []) rest (subst (λ (l : List Entry). Along (IsFinishTurn plan run) run l) (sym (append_assoc front (entry ∷ []) rest ∙ same)) finish)

  right : (front : List Entry) (entry : Entry) (rest : List Entry) → front ++ entry ∷ rest ≡ turns → Right (run ++ front) entry
  right front entry rest same found range at_stage answered copies applies states =
      subst (λ (r : Option KeyRange). MigrationStands m at rows (limits_of plan) (scene_of plan []) ((run ++ front) ++ entry ∷ []) (machines_of (copier_from plan found.reach r) copies (applier_from plan found.position) applies)) one_range
      (finishes_start plan m at rows of opening run work kept off phase ((run ++ front) ++ entry ∷ []) entry.answer start found behind of.runs.fitting.chunk of.runs.fitting.batch copies applies states.two (turned copies applies states.two)) where
        stage : stage_behind plan run front ≡ Ranging found
        stage = ap (stage_behind plan run) (sym (drop-append_seam run front)) ∙ at_stage

        last : IsLast plan m rows of run work kept off phase front entry
        last = last_turn plan m rows of run work kept off phase front entry (faithful_to front entry rest same) (finish_to front entry rest same)

        cleared : IsCleared plan m run (run ++ front) found
        cleared = subst (StageFinds plan m run (run ++ front)) stage last.finds

        behind : IsBehindTool found work.applier.position (left_in (copy_state run work.copier))
        behind = found_is_behind plan m at rows of tries plain opening run work kept off phase short found cleared.stored

        start : StartsFrom plan m rows run ((run ++ front) ++ entry ∷ []) entry.answer
        start = ranges_start plan m at rows of opening run work kept off phase front entry found stage (faithful_to front entry rest same) (finish_to front entry rest same)

        one_range : start.range ≡ range
        one_range = let both : answers.Ends start.range ≡ answers.Ends range = sym start.answered ∙ answered in cc

  pub starts_right : StartsRight plan m at rows run turns
  starts_right = subst (λ (l : List Entry). Along Right l turns) (append-nil run) (along_each Right run [] turns right)

-- *Finishes start right.*
pub finishes_start_right : FinishesStartRight
finishes_start_right plan m at rows of tries plain opening run work kept off phase short turns faithful finish = starts_right plan m at rows of tries plain opening run work kept off phase short turns faithful finish

-- *Finishes exchange the altered table.*
pub finishes_exchange_altered : FinishesExchangeAltered
finishes_exchange_altered plan is at of tries plain run work kept off phase short turns faithful finish =
    finishes_alter plan is at is.table.rows of run turns (unaltered_runs plan run of.runs of.serial kept off) kept finish faithful
    (finishes_start_right plan (migration_of is.table.schema is.new) at is.table.rows of tries plain (own_table plan is) run work kept off phase short turns faithful finish)
