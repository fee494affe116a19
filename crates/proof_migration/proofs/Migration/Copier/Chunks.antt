-- Where the copier is behind a turn, and what the ghost relation says of where it is.
use Rattle.std.proofs.Common.{◌≡◌, ℕ, false, List, ◌++◌, length, Option, Some, refl, sym, ap, ◌∙◌, subst}
use Rattle.base_values.specs.declared.span.Bound.{Bound}
use Rattle.base_values.specs.declared.span.Bound.TheVariants.{Closed}
use Rattle.base_values.specs.declared.span.Span.{Span}
use Rattle.server_model.specs.declared.answer.Answer.{Answer}
use Rattle.server_model.specs.declared.entry.Entry.{Entry}
use Rattle.server_model.specs.Entries.{answer_at}
use Rattle.server_model.specs.EarlierAnswers.{end_in, keys_in}
use Rattle.tool_program.specs.declared.chunk_copier.copier.Chunk.{Chunk}
use Rattle.tool_program.specs.declared.chunk_copier.copier.Copier.{Copier}
use Rattle.tool_program.specs.declared.chunk_copier.copier.CopyRange.{CopyRange}
use Rattle.tool_program.specs.declared.chunk_copier.copier.CopyStep.{CopyStep}
use Rattle.tool_program.specs.declared.chunk_copier.copier.CopyStep.TheVariants.{Choosing, Spanning, Copying, Committing}
use Rattle.tool_program.specs.ChunkCopier.Copiers.{low_end}
use Rattle.proof_journals.specs.Ghost.Tool.CopyState.{Waiting, Taking}
use Rattle.tool_program.proofs.JournalWords.Answers.{answer_more}
use Rattle.proof_migration.specs.Migration.Copier.CopierPlace.{CopierKnows, IsChunkReported, StepKnows, copy_state, left_of, state_at_step, taking_of}
use Rattle.proof_migration.proofs.Migration.Copier.Knowing.{low_more}

-- what is left, behind more turns
pub left_more : (journal more : List Entry) (copier : Copier) (range : CopyRange) → CopierKnows journal copier → left_of (journal ++ more) copier range ≡ left_of journal copier range
left_more journal more copier range knows = ap (λ (low : Bound). let s : Span = record { low = low; high = Closed range.top } in s) (low_more journal more range copier.following knows.following)

-- the chunk's keys and its end, as they were told
pub keys_are : (journal : List Entry) (range : Option CopyRange) (chunk : Chunk) (reported : IsChunkReported journal range chunk) → keys_in (answer_at journal chunk.reported) ≡ reported.keys
keys_are journal range chunk reported = ap keys_in reported.reported

pub same_answer : (journal more : List Entry) (range : Option CopyRange) (chunk : Chunk) → IsChunkReported journal range chunk → answer_at (journal ++ more) chunk.reported ≡ answer_at journal chunk.reported
same_answer journal more range chunk reported = answer_more journal more chunk.reported _ reported.reported ∙ sym reported.reported

-- in a chunk, behind more turns
pub taking_more : (journal more : List Entry) (copier : Copier) (range : CopyRange) (chunk : Chunk) (n : ℕ) → CopierKnows journal copier → IsChunkReported journal copier.range chunk → taking_of (journal ++ more) copier range chunk n ≡ taking_of journal copier range chunk n
taking_more journal more copier range chunk n knows reported =
    ap (λ (low : Bound). Taking low (end_in (answer_at (journal ++ more) chunk.reported)) range.top (keys_in (answer_at (journal ++ more) chunk.reported)) n) (low_more journal more range copier.following knows.following)
    ∙ ap (λ (a : Option Answer). Taking (low_end journal range copier.following) (end_in a) range.top (keys_in a) n) (same_answer journal more copier.range chunk reported)

-- where the copier is in a chunk
pub taking_state : (journal : List Entry) (copier : Copier) (range : CopyRange) (step : CopyStep) → copier.range ≡ Some range → copier.is_copied ≡ false → copier.step ≡ step → copy_state journal copier ≡ state_at_step journal copier range step
taking_state journal copier range step is going here = rw (going, is, here) refl

-- where it is, behind more turns
pub state_more : (journal more : List Entry) (copier : Copier) (range : CopyRange) (step : CopyStep) → copier.range ≡ Some range → copier.is_copied ≡ false → copier.step ≡ step → CopierKnows journal copier → copy_state (journal ++ more) copier ≡ copy_state journal copier
state_more journal more copier range step is going here knows =
    taking_state (journal ++ more) copier range step is going here ∙ by step (subst (StepKnows journal copier.range) here knows.step) ∙ sym (taking_state journal copier range step is going here)
  where
    by : (s : CopyStep) → StepKnows journal copier.range s → state_at_step (journal ++ more) copier range s ≡ state_at_step journal copier range s
    by Choosing known = ap (λ (s : Span). Waiting (Some s)) (left_more journal more copier range knows)
    by (Spanning reported size) known = ap (λ (s : Span). Waiting (Some s)) (left_more journal more copier range knows)
    by (Copying chunk copied) known = taking_more journal more copier range chunk copied knows known.0
    by (Committing chunk) known =
        ap (λ (a : Option Answer). taking_of (journal ++ more) copier range chunk (length (keys_in a))) (same_answer journal more copier.range chunk known)
        ∙ taking_more journal more copier range chunk (length (keys_in (answer_at journal chunk.reported))) knows known
