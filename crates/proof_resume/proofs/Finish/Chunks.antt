-- Each turn of a copier leaves one turn fewer.
use Rattle.std.proofs.Common.{◌≡◌, ◌≤◌, ◌<◌, ℕ, ◌+◌, ◌*◌, ◌==◌, Bool, true, false, cond, List, [], ◌∷◌, ◌++◌, length, Option, Some, None, refl, sym, ap, ◌∙◌, subst, arith}
use Rattle.std.specs.Ordering.{is_eq}
use Rattle.std.proofs.lemmas.Bool.{true≢false}
use Rattle.std.proofs.lemmas.Bool.Decides.{nat_tests}
use Rattle.std.proofs.lemmas.List.{length-append}
use Rattle.base_values.specs.declared.span.Bound.{Bound}
use Rattle.base_values.specs.declared.span.Bound.TheVariants.{Open, Closed}
use Rattle.base_values.specs.GhoSchema.Rows.{key_places}
use Rattle.base_values.specs.GhoSchema.Tables.{Ascends}
use Rattle.base_values.specs.KeyOrder.{compare_keys}
use Rattle.table_store.specs.Databases.{TableRows}
use Rattle.table_store.proofs.Orders.{Row}
use Rattle.server_model.specs.Chunks.{chunk_end, span_keys}
use Rattle.server_model.specs.EarlierAnswers.{end_in}
use Rattle.server_model.specs.Entries.{answer_at}
use Rattle.server_model.specs.declared.answer.Answer.{Answer}
use Rattle.server_model.specs.declared.answer.Answer.TheVariants as answers
use Rattle.server_model.specs.declared.entry.Entry.{Entry}
use Rattle.plan_data.specs.PlanData.{new_map}
use Rattle.tool_program.specs.ChunkCopier.Copiers.{after_copies, begun, is_top, low_end, new_copier}
use Rattle.tool_program.specs.ChunkCopier.Copiers as copiers
use Rattle.tool_program.specs.declared.chunk_copier.copier.Chunk.{Chunk}
use Rattle.tool_program.specs.declared.chunk_copier.copier.Copier.{Copier}
use Rattle.tool_program.specs.declared.chunk_copier.copier.CopyRange.{CopyRange}
use Rattle.tool_program.specs.declared.chunk_copier.copier.CopyStep.{CopyStep}
use Rattle.tool_program.specs.declared.chunk_copier.copier.CopyStep.TheVariants.{Choosing, Spanning, Copying, Committing}
use Rattle.tool_program.proofs.JournalWords.Answers.{answer_here, answer_more}
use Rattle.tool_finish.specs.Finishes.{range_from}
use Rattle.proof_migration.specs.Migration.Copier.CopierPlace.{AfterReported, IsAnsweredAt}
use Rattle.proof_migration.proofs.Migration.Copier.Knowing.{after_more, answered_more, low_more}
use Rattle.proof_resume.specs.Finish.Chunks.{left_behind, rows_above, CopiesLeft, CopierTurnsAreFew, LeavesCopies, LetsCopyGoOn, NewCopiersHaveFew, RangeLeft, StepGoesOn, StepLeft}
use Rattle.proof_resume.proofs.Finish.RowsAbove.{above_most, chunk_takes, ChunkTakes}

module _ (journal : List Entry) (entry : Entry) (table : TableRows) (turns : ℕ) (copier : Copier) (ascends : Ascends (key_places table.schema) table.rows) where
  abbrev more : List Entry
  more = journal ++ entry ∷ []

  abbrev turn : ℕ
  turn = length more

  answer_is : (answer : Answer) → entry.answer ≡ answer → answer_at more turn ≡ Some answer
  answer_is answer same = ap (answer_at more) (length-append journal (entry ∷ [])) ∙ answer_here journal entry ∙ ap Some same

  -- a chunk's end stays where it was read
  behind_same : (chunk : Chunk) → IsAnsweredAt journal chunk.reported → left_behind more table chunk ≡ left_behind journal table chunk
  behind_same chunk was = ap (λ (o : Option Answer). cond {A = ℕ} chunk.is_last 0 (4 * rows_above (Open (end_in o)) table + 3)) (answer_more journal (entry ∷ []) chunk.reported was.answer was.is ∙ sym was.is)

  module _ (range : CopyRange) (after : AfterReported journal copier.following) (sized : 1 ≤ copier.size) where
    abbrev low : Bound
    low = low_end journal range copier.following

    abbrev at : CopyStep → Copier
    at step = record copier { range = Some range; step = step }

    abbrev Left : CopyStep → Type 0
    Left step = StepLeft more table turns low range step

    abbrev Had : CopyStep → Type 0
    Had step = StepLeft journal table (turns + 1) low range step

    stepped : (step : CopyStep) → Left step → RangeLeft more table turns (at step) (Some range)
    stepped step left = (subst (λ (l : Bound). StepLeft more table turns l range step) (sym (low_more journal (entry ∷ []) range copier.following after)) left, after_more journal (entry ∷ []) copier.following after, sized)

    -- where the chunk ends
    asks : (end : Row) → entry.answer ≡ answers.End end → end ≡ chunk_end low range.top copier.size table → Had Choosing → Left (Spanning turn copier.size)
    asks end same is had = (omega (arith, had), sized, answer_is (answers.End end) same ∙ ap (λ (k : Row). Some (answers.End k)) is)

    -- its keys
    begins : (reported size : ℕ) (keys : List Row) (end : Row) → entry.answer ≡ answers.Keys keys end → answers.Keys keys end ≡ span_keys (record { low = low; high = Closed (end_in (answer_at journal reported)) }) size table → Had (Spanning reported size)
        → Left (begun (record { reported = turn; keys = length keys; is_last = is_top (Some range) end }))
    begins reported size keys end same is had = by (length keys == 0) refl where
      chunk : Chunk
      chunk = record { reported = turn; keys = length keys; is_last = is_top (Some range) end }

      takes : ChunkTakes low range.top table (length keys) end
      takes = chunk_takes low range.top size table had.1 ascends keys end (subst (λ (o : Option Answer). answers.Keys keys end ≡ span_keys (record { low = low; high = Closed (end_in o) }) size table) had.2 is)

      end_is : end_in (answer_at more turn) ≡ end
      end_is = ap end_in (answer_is (answers.Keys keys end) same)

      behind : (last : Bool) → is_eq (compare_keys end range.top) ≡ last → length keys + 1 + cond last 0 (4 * rows_above (Open (end_in (answer_at more turn))) table + 3) ≤ turns
      behind true is_last = let left = had.0 in let most = takes.most in omega (arith, left, most)
      behind false other =
          let left = had.0 in
          let passed = takes.passes other in
          let some = passed.0 in
          let fewer = passed.1 in
          subst (λ (k : Row). length keys + 1 + (4 * rows_above (Open k) table + 3) ≤ turns) (sym end_is) (omega (arith, left, some, fewer))

      few : length keys + 1 + left_behind more table chunk ≤ turns
      few = behind (is_eq (compare_keys end range.top)) refl

      nonzero : (n : ℕ) → (n == 0) ≡ false → 0 < n
      nonzero n other = grind (arith, nat_tests)

      read : IsAnsweredAt more turn
      read = record { answer = answers.Keys keys end; is = answer_is (answers.Keys keys end) same }

      by : (b : Bool) → (length keys == 0) ≡ b → Left (cond b (Committing chunk) (Copying chunk 0))
      by true none = (let left = few in omega (arith, left), read)
      by false some = (let left = few in omega (arith, left), nonzero (length keys) some, read)

    -- a row more is copied
    copies_on : (chunk : Chunk) (copied : ℕ) → Had (Copying chunk copied) → Left (after_copies chunk (copied + 1))
    copies_on chunk copied had = by (copied + 1 == chunk.keys) refl where
      read : IsAnsweredAt more chunk.reported
      read = answered_more journal (entry ∷ []) chunk.reported had.2

      last_one : (n k : ℕ) → (n + 1 == k) ≡ true → n + 1 ≡ k
      last_one n k is = grind (arith, nat_tests)

      later : (n k : ℕ) → n < k → (n + 1 == k) ≡ false → n + 1 < k
      later n k less other = grind (arith, nat_tests, less, other)

      by : (b : Bool) → (copied + 1 == chunk.keys) ≡ b → Left (cond b (Committing chunk) (Copying chunk (copied + 1)))
      by true last = (let left = had.0 in let all = last_one copied chunk.keys last in let same = behind_same chunk had.2 in omega (arith, left, all, same), read)
      by false other = (let left = had.0 in let same = behind_same chunk had.2 in omega (arith, left, same), later copied chunk.keys had.1 other, read)

    -- the chunk is committed
    commits : (chunk : Chunk) → Had (Committing chunk) → CopiesLeft more table turns (copiers.committed (at (Committing chunk)) chunk)
    commits chunk had open_still = (few, answered_more journal (entry ∷ []) chunk.reported had.1, sized) where
      few : 4 * rows_above (Open (end_in (answer_at more chunk.reported))) table + 3 ≤ turns
      few =
          let left = had.0 in
          let same = behind_same chunk had.1 in
          let behind : left_behind more table chunk ≡ 4 * rows_above (Open (end_in (answer_at more chunk.reported))) table + 3 = ap (λ (b : Bool). cond {A = ℕ} b 0 (4 * rows_above (Open (end_in (answer_at more chunk.reported))) table + 3)) open_still in
          omega (arith, left, same, behind)

    leaves : (step : CopyStep) (answer : Answer) → entry.answer ≡ answer → Had step → StepGoesOn journal table (at step) range step answer → LeavesCopies more table turns (copiers.took turn (at step) answer) (copiers.progress (at step) answer)
    unfolding copiers.took copiers.progress
    leaves Choosing (answers.End end) same had goes = λ going. stepped (Spanning turn copier.size) (asks end same goes had)
    leaves (Spanning reported size) (answers.Keys keys end) same had goes = λ going. stepped (begun (record { reported = turn; keys = length keys; is_last = is_top (Some range) end })) (begins reported size keys end same goes had)
    leaves (Copying chunk copied) (answers.Ok count) same had goes = λ going. stepped (after_copies chunk (copied + 1)) (copies_on chunk copied had)
    leaves (Copying chunk copied) (answers.Refused number (Some place)) same had goes = tt
    leaves (Committing chunk) (answers.Ok count) same had goes = commits chunk had
    leaves step answer same had goes = absurd goes

  in_range : (range : Option CopyRange) → RangeLeft journal table (turns + 1) (record copier { range = range }) range → LetsCopyGoOn journal table (record copier { range = range }) range entry.answer
      → LeavesCopies more table turns (copiers.took turn (record copier { range = range }) entry.answer) (copiers.progress (record copier { range = range }) entry.answer)
  in_range None left goes = absurd left
  in_range (Some range) left goes = leaves range left.1 left.2 copier.step entry.answer refl left.0 goes

-- *Each turn of a copier leaves one turn fewer*
pub copier_turns_are_few : CopierTurnsAreFew
copier_turns_are_few journal entry table turns copier ascends going left goes = in_range journal entry table turns copier ascends copier.range (left going) goes

-- *New copiers have few turns left*
pub new_copiers_have_few : NewCopiersHaveFew
new_copiers_have_few plan journal table reach range sized = by (range_from reach range) where
  by : (some : Option CopyRange) → CopiesLeft journal table (4 * length table.rows + 3) (new_copier plan.table (new_map plan) some plan.options.chunk_size)
  by None = λ going. absurd (true≢false going)
  by (Some one) = λ going. (let most = above_most one.low table in omega (arith, most), tt, sized)

-- a copier that copies has a turn left
pub some_left : (journal : List Entry) (table : TableRows) (copier : Copier) → copier.is_copied ≡ false → CopiesLeft journal table 0 copier → ⊥
some_left journal table copier going left = by copier.range (left going) where
  at : (low : Bound) (range : CopyRange) (step : CopyStep) → StepLeft journal table 0 low range step → ⊥
  at low range Choosing had = omega (arith, had)
  at low range (Spanning reported size) had = let left = had.0 in omega (arith, left)
  at low range (Copying chunk copied) had = let left = had.0 in let less = had.1 in omega (arith, left, less)
  at low range (Committing chunk) had = let left = had.0 in omega (arith, left)

  by : (range : Option CopyRange) → RangeLeft journal table 0 copier range → ⊥
  by None none = none
  by (Some range) had = at (low_end journal range copier.following) range copier.step had.0
