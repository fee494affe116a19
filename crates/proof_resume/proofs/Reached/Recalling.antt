-- After each answer the copier recalls its turns.
use Rattle.std.proofs.Common.{◌≡◌, ℕ, ◌+◌, ◌<◌, Bool, true, false, cond, List, [], ◌∷◌, ◌++◌, length, Some, refl, ap, ◌∙◌, arith}
use Rattle.std.specs.Prelude.{◌==◌}
use Rattle.std.proofs.lemmas.Bool.Decides.{nat_tests}
use Rattle.server_model.specs.declared.answer.Answer.{Answer}
use Rattle.server_model.specs.declared.answer.Answer.TheVariants as answers
use Rattle.server_model.specs.declared.entry.Entry.{Entry}
use Rattle.tool_program.specs.declared.chunk_copier.copier.Chunk.{Chunk}
use Rattle.tool_program.specs.declared.chunk_copier.copier.Copier.{Copier}
use Rattle.tool_program.specs.declared.chunk_copier.copier.CopyStep.{CopyStep}
use Rattle.tool_program.specs.declared.chunk_copier.copier.CopyStep.TheVariants.{Choosing, Spanning, Copying, Committing}
use Rattle.tool_program.specs.ChunkCopier.Copiers as copiers
use Rattle.tool_program.proofs.JournalWords.Answers.{answer_here}
use Rattle.proof_migration.specs.Migration.Copier.CopierPlace.{AfterReported, IsChunkReported, StepKnows}
use Rattle.proof_migration.proofs.Migration.Copier.Knowing.{after_more, chunk_more, step_more}

module _ (journal : List Entry) (entry : Entry) (copier : Copier) (followed : AfterReported journal copier.following) (known : StepKnows journal copier.range copier.step) (sized : 0 < copier.size) where
  abbrev longer : List Entry
  longer = journal ++ entry ∷ []

  abbrev turn : ℕ
  turn = length journal + 1

  abbrev Known : Copier → Type 0
  Known one = AfterReported longer one.following × StepKnows longer one.range one.step

  stays_known : Known copier
  stays_known = (after_more journal (entry ∷ []) copier.following followed, step_more journal (entry ∷ []) copier.range copier.step known)

  followed_so : AfterReported longer copier.following
  followed_so = after_more journal (entry ∷ []) copier.following followed

  answer_known : (step : CopyStep) → StepKnows journal copier.range step → (answer : Answer) → entry.answer ≡ answer → Known (copiers.after_answer turn copier step answer)
  answer_known Choosing was (answers.End end) is = (followed_so, (record { answer = entry.answer; is = answer_here journal entry }, sized))
  answer_known Choosing was answer is = stays_known
  answer_known (Spanning reported size) was (answers.Keys keys end) is = (followed_so, by (length keys == 0) refl) where
    chunk : Chunk
    chunk = record { reported = turn; keys = length keys; is_last = copiers.is_top copier.range end }

    reads : IsChunkReported longer copier.range chunk
    reads = record { keys = keys; end = end; reported = answer_here journal entry ∙ ap Some is; counted = refl; last = refl }

    by : (b : Bool) → (length keys == 0) ≡ b → StepKnows longer copier.range (cond b (Committing chunk) (Copying chunk 0))
    by true none = reads
    by false some = (reads, grind (arith, nat_tests, some))
  answer_known (Spanning reported size) was answer is = stays_known
  answer_known (Copying chunk copied) was (answers.Ok count) is = (followed_so, by ((copied + 1) == chunk.keys) refl) where
    reads : IsChunkReported longer copier.range chunk
    reads = chunk_more journal (entry ∷ []) copier.range chunk was.0

    by : (b : Bool) → ((copied + 1) == chunk.keys) ≡ b → StepKnows longer copier.range (cond b (Committing chunk) (Copying chunk (copied + 1)))
    by true all = reads
    by false some = (reads, let less = was.1 in grind (arith, nat_tests, some, less))
  answer_known (Copying chunk copied) was answer is = stays_known
  answer_known (Committing chunk) was (answers.Ok count) is = (let reads : IsChunkReported longer copier.range chunk = chunk_more journal (entry ∷ []) copier.range chunk was in record { answer = _; is = reads.reported }, tt)
  answer_known (Committing chunk) was answer is = stays_known

  pub took_known : Known (copiers.took turn copier entry.answer)
  unfolding copiers.took
  took_known = by entry.answer refl where
    by : (answer : Answer) → entry.answer ≡ answer → Known (copiers.took turn copier answer)
    by answers.Lost is = (followed_so, tt)
    by (answers.TimedOut waited) is = (followed_so, tt)
    by answer is = answer_known copier.step known answer is
