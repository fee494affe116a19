-- After each turn of the copier its chunk ends above the low end, or at the greatest key, and each key that was copied is copied.
use Rattle.std.proofs.Common.{◌≡◌, ◌+◌, Bool, true, false, List, [], ◌∷◌, ◌++◌, length, Option, Some, refl, sym, ap, ◌∙◌, subst, inl, inr}
use Rattle.base_values.specs.declared.span.Bound.{Bound}
use Rattle.base_values.specs.declared.span.Bound.TheVariants.{Open, Closed}
use Rattle.base_values.specs.declared.span.Span.{Span}
use Rattle.base_values.specs.Spans.{above}
use Rattle.server_model.specs.declared.answer.Answer.{Answer}
use Rattle.server_model.specs.declared.answer.Answer.TheVariants as answers
use Rattle.server_model.specs.declared.entry.Entry.{Entry}
use Rattle.server_model.specs.declared.request.Request.{Request}
use Rattle.server_model.specs.declared.session.Limits.{Limits}
use Rattle.server_model.specs.EarlierAnswers.{end_in}
use Rattle.server_model.specs.Entries.{answer_at}
use Rattle.tool_program.specs.declared.chunk_copier.copier.Chunk.{Chunk}
use Rattle.tool_program.specs.declared.chunk_copier.copier.Copier.{Copier}
use Rattle.tool_program.specs.declared.chunk_copier.copier.CopyRange.{CopyRange}
use Rattle.tool_program.specs.declared.chunk_copier.copier.CopyStep.{CopyStep}
use Rattle.tool_program.specs.declared.chunk_copier.copier.CopyStep.TheVariants.{Choosing, Spanning, Copying, Committing}
use Rattle.tool_program.specs.ChunkCopier.Copiers as copiers
use Rattle.tool_program.specs.ChunkCopier.Copiers.{low_end}
use Rattle.proof_journals.specs.Scenes.{Scene}
use Rattle.proof_journals.specs.Ghost.Rows.Moments.{Row}
use Rattle.proof_journals.specs.Ghost.Rows.Timelines.{Migration}
use Rattle.proof_journals.specs.Ghost.Rows.Views.{is_done}
use Rattle.proof_migration.specs.Migration.Copier.CopierPlace.{CopierKnows, StepKnows, copy_state, state_at_step}
use Rattle.proof_migration.specs.Migration.Copier.Laws.{IsCopierTurn}
use Rattle.proof_migration.proofs.Migration.Copier.Chunks.{taking_state}
use Rattle.proof_migration.proofs.Migration.Copier.Knowing.{low_more, same_step}
use Rattle.proof_resume.specs.Reached.Coverage.{left_in}
use Rattle.proof_resume.specs.Reached.ChunkEnds.{EndIsAbove, StepEnds}
use Rattle.proof_resume.specs.Reached.Laws.{EndsStayAbove, LeftShrinks}
use Rattle.proof_resume.proofs.Reached.Shrinking.{chunks_shrink, ends_above, spans_above}
use Rattle.proof_resume.proofs.Reached.CopierEnds.{chunk_same, ends_hold}

-- an end that is above, of a chunk that ends above
above_joined : (low : Bound) (first top end : Row) → EndIsAbove low end first → EndIsAbove low first top → EndIsAbove low end top
above_joined low first top end (inl same) first_so = subst (λ (k : Row). EndIsAbove low k top) (sym same) first_so
above_joined low first top end (inr over) first_so = inr over

module _ (m : Migration) (limits : Limits) (scene : Scene) (journal : List Entry) (entry : Entry) (copier : Copier) (range : CopyRange) (request : Request) (turn : IsCopierTurn m limits scene journal entry copier request) (is_range : copier.range ≡ Some range) (knows : CopierKnows journal copier)
    (was : StepEnds journal copier range copier.step) where
  abbrev longer : List Entry
  longer = journal ++ entry ∷ []

  low_same : low_end longer range copier.following ≡ low_end journal range copier.following
  low_same = low_more journal (entry ∷ []) range copier.following knows.following

  pub stays_above : StepEnds longer (copiers.took (length journal + 1) copier entry.answer) range (copiers.took (length journal + 1) copier entry.answer).step
  stays_above =
      ends_hold EndIsAbove m limits scene journal entry copier range request turn is_range knows was (λ table there low top size. ends_above low top size table)
      (λ table there low first size keys end some is first_so. above_joined low first range.top end (spans_above low first size table keys end some is) first_so)

  -- WHAT IS LEFT

  module _ (going : copier.is_copied ≡ false) where
    abbrev top : Row
    top = range.top

    abbrev low : Bound
    low = low_end journal range copier.following

    -- what is left before the turn, wherever the copier is
    left_now : left_in (copy_state journal copier) ≡ Some (record { low = low; high = Closed top })
    left_now = ap left_in (taking_state journal copier range copier.step is_range going refl) ∙ by copier.step where
      by : (step : CopyStep) → left_in (state_at_step journal copier range step) ≡ Some (record { low = low; high = Closed top })
      by Choosing = refl
      by (Spanning reported size) = refl
      by (Copying chunk copied) = refl
      by (Committing chunk) = refl

    -- a record after the same chunk leaves as much
    left_same : (step : CopyStep) → left_in (copy_state longer (record copier { step = step })) ≡ Some (record { low = low; high = Closed top })
    left_same step = ap left_in (taking_state longer (record copier { step = step }) range step is_range going refl) ∙ by step ∙ ap (λ (b : Bound). Some (record { low = b; high = Closed top })) low_same where
      by : (step : CopyStep) → left_in (state_at_step longer (record copier { step = step }) range step) ≡ Some (record { low = low_end longer range copier.following; high = Closed top })
      by Choosing = refl
      by (Spanning reported size) = refl
      by (Copying chunk copied) = refl
      by (Committing chunk) = refl

    abbrev Shrinks : Copier → Type 0
    Shrinks one = (key : Row) → is_done (left_in (copy_state journal copier)) key ≡ true → is_done (left_in (copy_state longer one)) key ≡ true

    shrinks_same : (step : CopyStep) → Shrinks (record copier { step = step })
    shrinks_same step key done = ap (λ (l : Option Span). is_done l key) (left_same step ∙ sym left_now) ∙ done

    shrinks_still : (step : CopyStep) → copier.step ≡ step → Shrinks copier
    shrinks_still step here = subst Shrinks (sym (same_step copier step here)) (shrinks_same step)

    shrinks_committed : (chunk : Chunk) → copier.step ≡ Committing chunk → Shrinks (copiers.committed copier chunk)
    shrinks_committed chunk here key done = by chunk.is_last refl where
      above_so : EndIsAbove low (end_in (answer_at journal chunk.reported)) top
      above_so = subst (StepEnds journal copier range) here was

      known : StepKnows journal copier.range (Committing chunk)
      known = subst (StepKnows journal copier.range) here knows.step

      was_done_so : is_done (Some (record { low = low; high = Closed top })) key ≡ true
      was_done_so = ap (λ (l : Option Span). is_done l key) (sym left_now) ∙ done

      left_then : chunk.is_last ≡ false → left_in (copy_state longer (copiers.committed copier chunk)) ≡ Some (record { low = Open (end_in (answer_at longer chunk.reported)); high = Closed top })
      left_then last = ap left_in (taking_state longer (copiers.committed copier chunk) range Choosing is_range last refl)

      by : (b : Bool) → chunk.is_last ≡ b → is_done (left_in (copy_state longer (copiers.committed copier chunk))) key ≡ true
      by true last = rw last refl
      by false last =
          ap (λ (l : Option Span). is_done l key) (left_then last ∙ ap (λ (k : Row). Some (record { low = Open k; high = Closed top })) (chunk_same journal entry copier chunk known))
          ∙ chunks_shrink low (end_in (answer_at journal chunk.reported)) top above_so key was_done_so

    after_shrinks : (step : CopyStep) → copier.step ≡ step → (answer : Answer) → Shrinks (copiers.after_answer (length journal + 1) copier step answer)
    after_shrinks Choosing here (answers.End end) = shrinks_same (Spanning (length journal + 1) copier.size)
    after_shrinks Choosing here answer = shrinks_still Choosing here
    after_shrinks (Spanning reported size) here (answers.Keys keys end) = shrinks_same (copiers.begun (record { reported = length journal + 1; keys = length keys; is_last = copiers.is_top copier.range end }))
    after_shrinks (Spanning reported size) here answer = shrinks_still (Spanning reported size) here
    after_shrinks (Copying chunk copied) here (answers.Ok count) = shrinks_same (copiers.after_copies chunk (copied + 1))
    after_shrinks (Copying chunk copied) here answer = shrinks_still (Copying chunk copied) here
    after_shrinks (Committing chunk) here (answers.Ok count) = shrinks_committed chunk here
    after_shrinks (Committing chunk) here answer = shrinks_still (Committing chunk) here

    pub shrinks_now : Shrinks (copiers.took (length journal + 1) copier entry.answer)
    unfolding copiers.took
    shrinks_now = by entry.answer where
      by : (answer : Answer) → Shrinks (copiers.took (length journal + 1) copier answer)
      by answers.Lost = shrinks_same Choosing
      by (answers.TimedOut waited) = shrinks_same Choosing
      by answer = after_shrinks copier.step refl answer

-- *What is left shrinks.*
pub left_shrinks : LeftShrinks
left_shrinks m limits scene journal entry copier range request turn is_range going knows was = shrinks_now m limits scene journal entry copier range request turn is_range knows was going

-- *Ends stay above.*
pub ends_stay_above : EndsStayAbove
ends_stay_above m limits scene journal entry copier range request turn is_range knows was = stays_above m limits scene journal entry copier range request turn is_range knows was
