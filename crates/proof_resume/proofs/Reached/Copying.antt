-- After each turn of a run each key that was copied is copied.
use Rattle.std.proofs.Common.{◌≡◌, ℕ, ◌+◌, ◌<◌, Bool, true, false, List, [], ◌∷◌, ◌++◌, length, Option, Some, None, refl, sym, ap, ◌∙◌, subst, arith}
use Rattle.base_values.specs.declared.span.Bound.{Bound}
use Rattle.base_values.specs.declared.span.Bound.TheVariants.{Closed}
use Rattle.base_values.specs.declared.span.Span.{Span}
use Rattle.server_model.specs.declared.answer.Answer.{Answer}
use Rattle.server_model.specs.declared.answer.Answer.TheVariants as answers
use Rattle.server_model.specs.declared.entry.Entry.{Entry}
use Rattle.server_model.specs.declared.request.Request.{Request}
use Rattle.plan_data.specs.PlanData.{PlanData}
use Rattle.tool_program.specs.declared.chunk_copier.copier.Copier.{Copier}
use Rattle.tool_program.specs.declared.chunk_copier.copier.CopyRange.{CopyRange}
use Rattle.tool_program.specs.declared.chunk_copier.copier.CopyStep.{CopyStep}
use Rattle.tool_program.specs.declared.chunk_copier.copier.CopyStep.TheVariants.{Choosing, Spanning, Copying, Committing}
use Rattle.tool_program.specs.ChunkCopier.Copiers as copiers
use Rattle.tool_program.specs.ChunkCopier.Copiers.{low_end, resized}
use Rattle.tool_program.specs.Tools.{Migrating, Work, is_reverting, moment}
use Rattle.proof_journals.specs.Plans.{limits_of, scene_of}
use Rattle.proof_journals.specs.Run.Kept.{IsKept}
use Rattle.proof_journals.specs.Ghost.HeldKeys.{Clustered}
use Rattle.proof_journals.specs.Ghost.Rows.Moments.{Row}
use Rattle.proof_journals.specs.Ghost.Rows.Timelines.{Migration}
use Rattle.proof_journals.specs.Ghost.Rows.Views.{is_done}
use Rattle.proof_journals.specs.Ghost.Tool.{CopyState}
use Rattle.proof_journals.specs.Ghost.Tool.CopyState.{Waiting}
use Rattle.proof_migration.specs.ToolPhase.Unaltered.{IsUnaltered}
use Rattle.proof_migration.specs.Migration.Copier.CopierPlace.{AfterReported, CopierKnows, StepKnows, copy_state, state_at_step}
use Rattle.proof_migration.specs.Migration.Copier.Laws.{IsCopierTurn}
use Rattle.proof_migration.specs.Program.Turns.Laws.{GoesSomehow, IsMigrationOf}
use Rattle.proof_migration.proofs.Migration.Copier.Chunks.{state_more, taking_state}
use Rattle.proof_migration.proofs.Migration.Copier.Knowing.{Asks, after_more, asks_at, low_more, step_more}
use Rattle.proof_resume.specs.Reached.Coverage.{left_in}
use Rattle.proof_resume.specs.Reached.ChunkEnds.{CopierRecalls, EndIsAbove, StepEnds}
use Rattle.proof_resume.specs.Reached.Laws.{ComesFurther, ReachesRise}
use Rattle.proof_resume.proofs.Reached.ChunkEnds.{ends_stay_above, left_shrinks}
use Rattle.proof_resume.proofs.Reached.CopierEnds.{ends_stay, step_sized}
use Rattle.proof_resume.proofs.Reached.CopierTurns.{copier_keeps}
use Rattle.proof_resume.proofs.Reached.Recalling.{took_known}

-- no answer changes the range
range_after : (turn : ℕ) (copier : Copier) (step : CopyStep) (answer : Answer) → (copiers.after_answer turn copier step answer).range ≡ copier.range
range_after turn copier Choosing (answers.End end) = refl
range_after turn copier Choosing answer = refl
range_after turn copier (Spanning reported size) (answers.Keys keys end) = refl
range_after turn copier (Spanning reported size) answer = refl
range_after turn copier (Copying chunk copied) (answers.Ok count) = refl
range_after turn copier (Copying chunk copied) answer = refl
range_after turn copier (Committing chunk) (answers.Ok count) = refl
range_after turn copier (Committing chunk) answer = refl

pub range_took : (turn : ℕ) (copier : Copier) (answer : Answer) → (copiers.took turn copier answer).range ≡ copier.range
unfolding copiers.took
range_took turn copier answers.Lost = refl
range_took turn copier (answers.TimedOut waited) = refl
range_took turn copier answer = range_after turn copier copier.step answer

-- ANOTHER SIZE OF CHUNKS CHANGES NOTHING

state_sized : (journal : List Entry) (one : Copier) (size : ℕ) → copy_state journal (resized size one) ≡ copy_state journal one
state_sized journal one size = by one.is_copied refl where
  by_step : (range : CopyRange) (step : CopyStep) → state_at_step journal (resized size one) range step ≡ state_at_step journal one range step
  by_step range Choosing = refl
  by_step range (Spanning reported old) = refl
  by_step range (Copying chunk copied) = refl
  by_step range (Committing chunk) = refl

  ranged : (range : Option CopyRange) → one.range ≡ range → one.is_copied ≡ false → copy_state journal (resized size one) ≡ copy_state journal one
  ranged None is going = rw (going, is) refl
  ranged (Some range) is going = taking_state journal (resized size one) range one.step is going refl ∙ by_step range one.step ∙ sym (taking_state journal one range one.step is going refl)

  by : (b : Bool) → one.is_copied ≡ b → copy_state journal (resized size one) ≡ copy_state journal one
  by true is = rw is refl
  by false is = ranged one.range refl is

recalls_sized : (more : List Entry) (one : Copier) (size : ℕ) → CopierRecalls more one → CopierRecalls more (resized size one)
recalls_sized more one size recalls = record { following = recalls.following; step = recalls.step; ends = λ range is. step_sized EndIsAbove more one size range one.step (recalls.ends range is) }

further_sized : (journal more : List Entry) (old one : Copier) (size : ℕ) → ComesFurther journal more old one → ComesFurther journal more old (resized size one)
further_sized journal more old one size further =
    record { recalls = recalls_sized more one size further.recalls; shrinks = λ key done. ap (λ (s : CopyState). is_done (left_in s) key) (state_sized more one size) ∙ further.shrinks key done }

spans_sized : (more : List Entry) (one : Copier) (reported other size : ℕ) → one.step ≡ Spanning reported other → copy_state more (record one { step = Spanning reported size }) ≡ copy_state more one
spans_sized more one reported other size here = by one.is_copied refl where
  ranged : (range : Option CopyRange) → one.range ≡ range → one.is_copied ≡ false → copy_state more (record one { step = Spanning reported size }) ≡ copy_state more one
  ranged None is going = rw (going, is) refl
  ranged (Some range) is going = taking_state more (record one { step = Spanning reported size }) range (Spanning reported size) is going refl ∙ sym (taking_state more one range (Spanning reported other) is going here)

  by : (b : Bool) → one.is_copied ≡ b → copy_state more (record one { step = Spanning reported size }) ≡ copy_state more one
  by true is = rw is refl
  by false is = ranged one.range refl is

further_spans : (journal more : List Entry) (old one : Copier) (reported other size : ℕ) → 0 < size → one.step ≡ Spanning reported other → ComesFurther journal more old one → ComesFurther journal more old (record one { step = Spanning reported size })
further_spans journal more old one reported other size some here further = record {
  recalls = record {
    following = further.recalls.following;
    step = ((subst (StepKnows more one.range) here further.recalls.step).0, some);
    ends = λ range at. subst (StepEnds more one range) here (further.recalls.ends range at);
  };
  shrinks = λ key done. ap (λ (s : CopyState). is_done (left_in s) key) (spans_sized more one reported other size here) ∙ further.shrinks key done;
}

-- A COPIER THAT STAYS, OR BEGINS ITS CHUNK AGAIN

module _ (journal : List Entry) (entry : Entry) (copier : Copier) (was : CopierRecalls journal copier) where
  abbrev longer : List Entry
  longer = journal ++ entry ∷ []

  recalls_still : CopierRecalls longer copier
  recalls_still = record {
    following = after_more journal (entry ∷ []) copier.following was.following;
    step = step_more journal (entry ∷ []) copier.range copier.step was.step;
    ends = λ range is. ends_stay EndIsAbove journal entry copier range was.following copier.step was.step (was.ends range is);
  }

  -- with chunks of one row it knows as much
  knows_one : CopierKnows journal (resized 1 copier)
  knows_one = record { following = was.following; step = was.step; sized = omega arith }

  state_same : copy_state longer copier ≡ copy_state journal copier
  state_same = by copier.is_copied refl where
    ranged : (range : Option CopyRange) → copier.range ≡ range → copier.is_copied ≡ false → copy_state longer copier ≡ copy_state journal copier
    ranged None is going = rw (going, is) refl
    ranged (Some range) is going = sym (state_sized longer copier 1) ∙ state_more journal (entry ∷ []) (resized 1 copier) range copier.step is going refl knows_one ∙ state_sized journal copier 1

    by : (b : Bool) → copier.is_copied ≡ b → copy_state longer copier ≡ copy_state journal copier
    by true is = rw is refl
    by false is = ranged copier.range refl is

  pub further_same : ComesFurther journal longer copier copier
  further_same = record { recalls = recalls_still; shrinks = λ key done. ap (λ (s : CopyState). is_done (left_in s) key) state_same ∙ done }

  abbrev again : Copier
  again = record copier { step = Choosing }

  again_shrinks : (key : Row) → is_done (left_in (copy_state journal copier)) key ≡ true → is_done (left_in (copy_state longer again)) key ≡ true
  again_shrinks key done = by copier.is_copied refl where
    all_done : (one : CopyState) → one ≡ Waiting None → is_done (left_in one) key ≡ true
    all_done one is = ap (λ (c : CopyState). is_done (left_in c) key) is

    ranged : (range : Option CopyRange) → copier.range ≡ range → copier.is_copied ≡ false → is_done (left_in (copy_state longer again)) key ≡ true
    ranged None is going = all_done (copy_state longer again) (rw (going, is) refl)
    ranged (Some range) is going = ap (λ (l : Option Span). is_done l key) (left_again ∙ sym left_now) ∙ done where
      left_now : left_in (copy_state journal copier) ≡ Some (record { low = low_end journal range copier.following; high = Closed range.top })
      left_now = ap left_in (taking_state journal copier range copier.step is going refl) ∙ by_step copier.step where
        by_step : (step : CopyStep) → left_in (state_at_step journal copier range step) ≡ Some (record { low = low_end journal range copier.following; high = Closed range.top })
        by_step Choosing = refl
        by_step (Spanning reported size) = refl
        by_step (Copying chunk copied) = refl
        by_step (Committing chunk) = refl

      left_again : left_in (copy_state longer again) ≡ Some (record { low = low_end journal range copier.following; high = Closed range.top })
      left_again = ap left_in (taking_state longer again range Choosing is going refl) ∙ ap (λ (b : Bound). Some (record { low = b; high = Closed range.top })) (low_more journal (entry ∷ []) range copier.following was.following)

    by : (b : Bool) → copier.is_copied ≡ b → is_done (left_in (copy_state longer again)) key ≡ true
    by true is = all_done (copy_state longer again) (rw is refl)
    by false is = ranged copier.range refl is

  pub further_again : ComesFurther journal longer copier again
  further_again = record { recalls = record { following = after_more journal (entry ∷ []) copier.following was.following; step = tt; ends = λ range is. tt }; shrinks = again_shrinks }

-- WHOLE TURNS

module _ (plan : PlanData) (m : Migration) (at : Clustered m.schema) (rows : List Row) (of : IsMigrationOf plan m rows) (journal : List Entry) (entry : Entry) (work : Work) (kept : IsKept plan (journal ++ entry ∷ [])) (off : IsUnaltered plan (journal ++ entry ∷ [])) (tool_phase : (moment plan journal).tool.tool_phase ≡ Migrating work)
    (goes : is_reverting (moment plan journal).tool.reason ≡ false → GoesSomehow plan m at rows journal) (was : CopierRecalls journal work.copier) where
  abbrev more : List Entry
  more = journal ++ entry ∷ []

  -- a turn of the copier, with chunks of any size
  module _ (size : ℕ) (request : Request) (turn : IsCopierTurn m (limits_of plan) (scene_of plan more) journal entry (resized size work.copier) request) (some : 0 < size) where
    abbrev one : Copier
    one = resized size work.copier

    abbrev after : Copier
    after = copiers.took (length journal + 1) one entry.answer

    asked : Asks journal one request
    asked = asks_at journal one request turn.given

    known_one : CopierKnows journal one
    known_one = record { following = was.following; step = was.step; sized = some }

    ends_one : StepEnds journal one asked.range one.step
    ends_one = step_sized EndIsAbove journal work.copier size asked.range work.copier.step (was.ends asked.range asked.is)

    same_range : (range : CopyRange) → work.copier.range ≡ Some range → asked.range ≡ range
    same_range range is = let both : Some asked.range ≡ Some range = sym asked.is ∙ is in cc

    known_then : AfterReported more after.following × StepKnows more after.range after.step
    known_then = took_known journal entry one was.following was.step some

    ends_then : (range : CopyRange) → after.range ≡ Some range → StepEnds more after range after.step
    ends_then range is =
        subst (λ (r : CopyRange). StepEnds more after r after.step) (same_range range (sym (range_took (length journal + 1) one entry.answer) ∙ is))
        (ends_stay_above m (limits_of plan) (scene_of plan more) journal entry one asked.range request turn asked.is known_one ends_one)

    further_one : ComesFurther journal more work.copier after
    further_one = record {
      recalls = record { following = known_then.0; step = known_then.1; ends = ends_then };
      shrinks = λ key done. left_shrinks m (limits_of plan) (scene_of plan more) journal entry one asked.range request turn asked.is asked.going known_one ends_one key (ap (λ (s : CopyState). is_done (left_in s) key) (state_sized journal work.copier size) ∙ done);
    }

  reaches_by : (then_work : Work) → (moment plan (journal ++ entry ∷ [])).tool.tool_phase ≡ Migrating then_work → ComesFurther journal (journal ++ entry ∷ []) work.copier then_work.copier
  reaches_by =
      copier_keeps plan m at rows of journal entry work kept off tool_phase goes (ComesFurther journal more work.copier) (further_same journal entry work.copier was) (further_again journal entry work.copier was)
      (further_sized journal more work.copier) (further_spans journal more work.copier) further_one

-- *Reaches rise.*
pub reaches_rise : ReachesRise
reaches_rise plan m at rows of journal entry work then_work kept off tool_phase then_phase goes was = reaches_by plan m at rows of journal entry work kept off tool_phase goes was then_work then_phase
