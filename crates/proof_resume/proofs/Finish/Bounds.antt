-- A new tool takes few turns: those of its copier and its applier as the run's rows and events allow, and no more than 79 others.
use Rattle.std.proofs.Common.{◌≡◌, ℕ, ◌+◌, ◌*◌, ◌≤◌, Bool, true, false, List, [], ◌∷◌, ◌++◌, length, drop, cond, refl, sym, ap, ◌∙◌, subst, append_assoc, append-nil, arith}
use Rattle.std.specs.Prelude.{is_some}
use Rattle.std.proofs.lemmas.Bool.{true≢false}
use Rattle.std.proofs.Math.Seq.{drop-append_seam}
use Rattle.base_script.specs.declared.script.ScriptLine.{ScriptLine}
use Rattle.table_store.specs.Databases.{find_table}
use Rattle.server_model.specs.Along.{Along}
use Rattle.server_model.specs.declared.entry.Entry.{Entry}
use Rattle.plan_data.specs.declared.plan.TheConstants.{CLIENT_LIMIT}
use Rattle.plan_data.specs.PlanData.{PlanData}
use Rattle.tool_program.specs.JournalWords.Journals.{state_at, IsAnswered, IsFaithful}
use Rattle.tool_program.specs.Orders.{actors, clients_from}
use Rattle.tool_finish.specs.declared.stage.Stage.{Stage}
use Rattle.tool_finish.specs.declared.stage.Stage.TheVariants.{Losing, Listing, Reading, Clearing, ReadingCounter, SettingCounter, Ranging, Copying, Applying, Exchanging, DroppingLog, DroppingOld, RollingBack, Done, Reverted}
use Rattle.tool_finish.specs.Checkpoints.{has_checkpoint}
use Rattle.tool_finish.specs.Finishes.{first_live, stage_behind, IsFinish, IsFinishTurn}
use Rattle.proof_journals.specs.Ghost.HeldKeys.{Clustered}
use Rattle.proof_journals.specs.Run.Kept.{IsKept}
use Rattle.proof_journals.proofs.ServerTurns.Agreements.{along_front}
use Rattle.proof_migration.specs.Migration.Planning.{migration_of}
use Rattle.proof_migration.specs.Program.Turns.Laws.{IsMigrationOf}
use Rattle.proof_migration.specs.ToolPhase.Runnable.{IsAlterable}
use Rattle.proof_migration.specs.ToolPhase.Unaltered.{IsUnaltered}
use Rattle.proof_migration.proofs.ToolPhase.Unaltered.Away.{unaltered_front}
use Rattle.proof_migration.proofs.Program.Follows.{own_table}
use Rattle.proof_bounds.specs.AttemptTurns.Attempts.{MayTry}
use Rattle.proof_plain.specs.Plans.{IsShort, PlainPlan}
use Rattle.proof_resume.specs.Finish.Bounds.{count_of, events_left, FinishesAreFew}
use Rattle.proof_resume.specs.Finish.Counts.{is_working, other_turns, ReadsCheckpoint}
use Rattle.proof_resume.specs.Finish.Verdicts.{was_altered}
use Rattle.proof_resume.proofs.Finish.BoundsStages.{LeftAt}
use Rattle.proof_resume.proofs.Finish.BoundsTurns.{all_guards, leaves_fewer, work_turn}
use Rattle.proof_resume.proofs.Finish.Counts.{other_turns_are_few}
use Rattle.proof_resume.proofs.Finish.Marks.{MarkAt}
use Rattle.proof_resume.proofs.Finish.Readings.{finishes_read_checkpoints}
use Rattle.proof_resume.proofs.Finish.Verdicts.{Guards}
use Rattle.proof_resume.proofs.Starts.Finishable.{migrates, Migrates}

-- the turns of the copier and of the applier at work
abbrev work_turns : PlanData → List Entry → List Entry → List Entry → ℕ
work_turns plan run before [] = 0
work_turns plan run before (entry ∷ turns) = work_turn (stage_behind plan run (drop (length run) before)) + work_turns plan run (before ++ entry ∷ []) turns

-- all turns
all_counted : (plan : PlanData) (run before turns : List Entry) → length turns ≡ other_turns plan run before turns + work_turns plan run before turns
all_counted plan run before [] = refl
all_counted plan run before (entry ∷ turns) =
    by (is_working (stage_behind plan run (drop (length run) before))) (other_turns plan run (before ++ entry ∷ []) turns) (work_turns plan run (before ++ entry ∷ []) turns) (all_counted plan run (before ++ entry ∷ []) turns) where
      by : (b : Bool) (others works : ℕ) → length turns ≡ others + works → length (entry ∷ turns) ≡ (cond b 0 1 + others) + (cond b 1 0 + works)
      by true others works same = omega (arith, same)
      by false others works same = omega (arith, same)

-- THE ACTORS

clients_counted : (client : ℕ) (scripts : List (List ScriptLine)) → length (clients_from client scripts) ≡ length scripts
unfolding clients_from
clients_counted client [] = refl
clients_counted client (script ∷ scripts) = let rest = clients_counted (client + 1) scripts in omega (arith, rest)

actors_few : (plan : PlanData) → length plan.clients ≤ CLIENT_LIMIT → length (actors plan) ≤ 70
unfolding actors
actors_few plan few = let same = clients_counted 1 plan.clients in omega (arith, few, same)

-- THE TURNS UP TO ONE

module _ (plan : PlanData) (run turns : List Entry) (finish : IsFinish plan run turns) (faithful : IsFaithful plan (run ++ turns)) where
  faithful_to : (front : List Entry) (entry : Entry) (rest : List Entry) → front ++ entry ∷ rest ≡ turns → IsFaithful plan (run ++ (front ++ entry ∷ []))
  faithful_to front entry rest same =
      along_front (λ before one. IsAnswered (state_at plan before) one) [] (run ++ (front ++ entry ∷ [])) rest
      (subst (IsFaithful plan) (sym (append_assoc run (front ++ entry ∷ []) rest ∙ ap (λ (l : List Entry). run ++ l) (append_assoc front (entry ∷ []) rest ∙ same))) faithful)

  finish_to : (front : List Entry) (entry : Entry) (rest : List Entry) → front ++ entry ∷ rest ≡ turns → IsFinish plan run (front ++ entry ∷ [])
  unfolding IsFinish
  finish_to front entry rest same = along_front (IsFinishTurn plan run) run (front ++ entry ∷ []) rest (subst (λ (l : List Entry). Along (IsFinishTurn plan run) run l) (sym (append_assoc front (entry ∷ []) rest ∙ same)) finish)

-- THE RENAME WAS DONE IN THE RUN

abbrev IsMarked : PlanData → List Entry → Type 0
IsMarked plan run = was_altered plan run ≡ true

-- so that nothing is copied or applied
module _ (plan : PlanData) (is : IsAlterable plan) (of : IsMigrationOf plan (migration_of is.table.schema is.new) is.table.rows) (run : List Entry) (kept : IsKept plan run) (has : has_checkpoint plan run ≡ true) (marked : IsMarked plan run) (turns : List Entry) (finish : IsFinish plan run turns) (faithful : IsFaithful plan (run ++ turns)) where
  rests_at : (front : List Entry) (stage : Stage) → MarkAt plan (run ++ front) stage → work_turn stage ≡ 0
  rests_at front (Copying copier applier) off = absurd (true≢false (sym marked ∙ unaltered_front plan run front off))
  rests_at front (Applying applier) off = absurd (true≢false (sym marked ∙ unaltered_front plan run front off))
  rests_at front Losing off = refl
  rests_at front Listing off = refl
  rests_at front (Reading seen) off = refl
  rests_at front (Clearing found) off = refl
  rests_at front (ReadingCounter found) off = refl
  rests_at front (SettingCounter found number) off = refl
  rests_at front (Ranging found) off = refl
  rests_at front Exchanging off = refl
  rests_at front (DroppingLog old) off = refl
  rests_at front DroppingOld off = refl
  rests_at front (RollingBack row) off = refl
  rests_at front Done off = refl
  rests_at front (Reverted row) off = refl

  front_of : (front : List Entry) (entry : Entry) (rest : List Entry) → front ++ entry ∷ rest ≡ turns → IsFinish plan run front × IsFaithful plan (run ++ front)
  unfolding IsFinish
  front_of front entry rest same = (
    along_front (IsFinishTurn plan run) run front (entry ∷ rest) (subst (λ (l : List Entry). Along (IsFinishTurn plan run) run l) (sym same) finish),
    along_front (λ before one. IsAnswered (state_at plan before) one) [] (run ++ front) (entry ∷ rest) (subst (IsFaithful plan) (sym (append_assoc run front (entry ∷ rest) ∙ ap (λ (l : List Entry). run ++ l) same)) faithful),
  )

  none_works : (front rest : List Entry) → front ++ rest ≡ turns → work_turns plan run (run ++ front) rest ≤ 0
  none_works front [] same = omega arith
  none_works front (entry ∷ rest) same =
      let both = front_of front entry rest same in
      let guards : Guards plan run front = all_guards plan (migration_of is.table.schema is.new) is.table.rows of run front kept has both.0 both.1 in
      let here : work_turn (stage_behind plan run (drop (length run) (run ++ front))) ≡ 0 = ap (λ (l : List Entry). work_turn (stage_behind plan run l)) (drop-append_seam run front) ∙ rests_at front (stage_behind plan run front) guards.marked.marks in
      let later : work_turns plan run ((run ++ front) ++ entry ∷ []) rest ≤ 0 =
      subst (λ (j : List Entry). work_turns plan run j rest ≤ 0) (sym (append_assoc run front (entry ∷ []))) (none_works (front ++ entry ∷ []) rest (append_assoc front (entry ∷ []) rest ∙ same)) in
      omega (arith, here, later)

-- THE RENAME WASN'T DONE IN THE RUN

module _ (plan : PlanData) (is : IsAlterable plan) (at : Clustered is.table.schema) (of : IsMigrationOf plan (migration_of is.table.schema is.new) is.table.rows) (tries : MayTry plan) (plain : PlainPlan plan)
    (run turns : List Entry) (kept : IsKept plan run) (off : IsUnaltered plan run) (short : IsShort run) (has : has_checkpoint plan run ≡ true) (finish : IsFinish plan run turns) (faithful : IsFaithful plan (run ++ turns)) where
  some_work : Migrates plan run
  some_work = migrates plan run has

  abbrev allowed : ℕ
  allowed = 4 * count_of (find_table plan.table (state_at plan run).tables) + 3 + 6 * events_left plan (state_at plan run)

  works_few : (front rest : List Entry) → front ++ rest ≡ turns → (left : ℕ) → LeftAt plan allowed (run ++ front) left (stage_behind plan run front) → work_turns plan run (run ++ front) rest ≤ left
  works_few front [] same left at_stage = omega arith
  works_few front (entry ∷ rest) same left at_stage =
      let fewer =
      leaves_fewer plan is at of tries plain run some_work.work kept off some_work.phase short has front entry (finish_to plan run turns finish faithful front entry rest same) (faithful_to plan run turns finish faithful front entry rest same) left at_stage in
      let rest_few : work_turns plan run (run ++ (front ++ entry ∷ [])) rest ≤ fewer.left = works_few (front ++ entry ∷ []) rest (append_assoc front (entry ∷ []) rest ∙ same) fewer.left fewer.then in
      let later : work_turns plan run ((run ++ front) ++ entry ∷ []) rest ≤ fewer.left = subst (λ (j : List Entry). work_turns plan run j rest ≤ fewer.left) (sym (append_assoc run front (entry ∷ []))) rest_few in
      let one : work_turn (stage_behind plan run front) + fewer.left ≤ left = fewer.fewer in
      let here : work_turn (stage_behind plan run (drop (length run) (run ++ front))) ≡ work_turn (stage_behind plan run front) = ap (λ (l : List Entry). work_turn (stage_behind plan run l)) (drop-append_seam run front) in
      omega (arith, one, here, later)

  begins : LeftAt plan allowed (run ++ []) allowed (stage_behind plan run [])
  unfolding stage_behind
  begins = by (is_some (first_live plan run)) where
    by : (b : Bool) → LeftAt plan allowed (run ++ []) allowed (cond b Losing Listing)
    by true = omega arith
    by false = omega arith

-- *Finishes are few*
pub finishes_are_few : FinishesAreFew
finishes_are_few plan is at of tries plain clients runs run turns kept short has finish faithful =
    let reads : ReadsCheckpoint plan run turns = finishes_read_checkpoints plan (migration_of is.table.schema is.new) at is.table.rows of tries plain (own_table plan is) runs run turns kept short has finish faithful in
    let others : other_turns plan run run turns ≤ 9 + length (actors plan) = other_turns_are_few plan run turns of.runs of.serial kept has finish faithful reads in
    let all : length turns ≡ other_turns plan run run turns + work_turns plan run run turns = all_counted plan run run turns in
    let actors_most : length (actors plan) ≤ 70 = actors_few plan clients in
    let works : work_turns plan run run turns ≤ 4 * count_of (find_table plan.table (state_at plan run).tables) + 3 + 6 * events_left plan (state_at plan run) = by (was_altered plan run) refl in
    omega (arith, others, all, actors_most, works) where
      by : (b : Bool) → was_altered plan run ≡ b → work_turns plan run run turns ≤ 4 * count_of (find_table plan.table (state_at plan run).tables) + 3 + 6 * events_left plan (state_at plan run)
      by true marked =
          let none : work_turns plan run (run ++ []) turns ≤ 0 = none_works plan is of run kept has marked turns finish faithful [] turns refl in
          let here : work_turns plan run run turns ≤ 0 = subst (λ (j : List Entry). work_turns plan run j turns ≤ 0) (append-nil run) none in omega (arith, here)
      by false off =
          subst (λ (j : List Entry). work_turns plan run j turns ≤ 4 * count_of (find_table plan.table (state_at plan run).tables) + 3 + 6 * events_left plan (state_at plan run)) (append-nil run)
          (works_few plan is at of tries plain run turns kept off short has finish faithful [] turns refl _ (begins plan is at of tries plain run turns kept off short has finish faithful))
