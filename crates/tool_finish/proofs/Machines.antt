-- The new tool's copier and applier behind an answer.
use Rattle.std.proofs.Common.{◌≡◌, ◌≤◌, ◌<◌, ℕ, ◌+◌, ◌==◌, Bool, true, false, List, [], ◌∷◌, ◌++◌, length, cond, Option, Some, None, refl, sym, ap, ◌∙◌, subst, arith}
use Rattle.std.specs.Prelude.{is_some}
use Rattle.std.specs.List.{slice_get}
use Rattle.std.proofs.lemmas.Bool.{true≢false, false≢true}
use Rattle.std.proofs.lemmas.Bool.Decides.{nat_tests}
use Rattle.std.proofs.lemmas.List.{length-append}
use Rattle.std.proofs.lemmas.Option.{slice_get-get_or}
use Rattle.base_values.specs.declared.value.Value.{Value}
use Rattle.server_model.specs.declared.answer.Answer.{Answer}
use Rattle.server_model.specs.declared.answer.Answer.TheVariants as answers
use Rattle.server_model.specs.declared.entry.Entry.{Entry}
use Rattle.server_model.specs.Entries.{answer_at}
use Rattle.server_model.specs.EarlierAnswers.{keys_in}
use Rattle.tool_program.specs.declared.chunk_copier.copier.Chunk.{Chunk}
use Rattle.tool_program.specs.declared.chunk_copier.copier.Copier.{Copier}
use Rattle.tool_program.specs.declared.chunk_copier.copier.CopyRange.{CopyRange}
use Rattle.tool_program.specs.declared.chunk_copier.copier.CopyStep.{CopyStep}
use Rattle.tool_program.specs.declared.chunk_copier.copier.CopyStep.TheVariants.{Choosing, Spanning, Copying, Committing}
use Rattle.tool_program.specs.ChunkCopier.CopierFacts as chunks
use Rattle.tool_program.specs.ChunkCopier.Copiers.{begun, after_copies, call_at, copies, key_at, call_in}
use Rattle.tool_program.specs.ChunkCopier.Copiers as copiers
use Rattle.tool_program.specs.declared.event_applier.applier.Applier.{Applier}
use Rattle.tool_program.specs.declared.event_applier.applier.ApplyStep.{ApplyStep}
use Rattle.tool_program.specs.declared.event_applier.applier.ApplyStep.TheVariants.{Reading, Beginning, Applying, Committing as Ending}
use Rattle.tool_program.specs.declared.event_applier.applier.Batch.{Batch}
use Rattle.tool_program.specs.declared.event_applier.applier.Part.{Part}
use Rattle.tool_program.specs.declared.event_applier.applier.Part.TheVariants.{Whole, Removal, Return}
use Rattle.tool_program.specs.EventApplier.Appliers.{batch_of, read_batch, after_statements, after_part, after_refusal}
use Rattle.tool_program.specs.EventApplier.Appliers as appliers
use Rattle.tool_program.specs.EventApplier.BatchPlans as batches
use Rattle.base_values.specs.declared.mysql_errors.TheConstants.{ER_DUP_ENTRY}
use Rattle.tool_program.proofs.JournalWords.Answers.{answer_more, answer_here}

-- THE COPIER

-- the chunk's keys are in the journal
pub record HasKeys (journal : List Entry) (chunk : Chunk) : Type 0 where
  pub reported : List (List Value)
  pub end : List Value
  pub is : answer_at journal chunk.reported ≡ Some (answers.Keys reported end)
  pub count : length reported ≡ chunk.keys

abbrev pub StepHasKeys : List Entry → CopyStep → Type 0
StepHasKeys journal (Copying chunk copied) = HasKeys journal chunk
StepHasKeys journal step = Unit {0}

-- What holds of a copier that has something to copy
pub record IsCopying (journal : List Entry) (copier : Copier) : Type 0 where
  pub some : is_some copier.range ≡ true
  pub few : copier.number ≤ length journal
  pub fits : chunks.StepFits copier.step
  pub keys : StepHasKeys journal copier.step

keys_more : (journal more : List Entry) (step : CopyStep) → StepHasKeys journal step → StepHasKeys (journal ++ more) step
keys_more journal more Choosing is = tt
keys_more journal more (Spanning reported size) is = tt
keys_more journal more (Copying chunk copied) is = record { reported = is.reported; end = is.end; is = answer_more journal more chunk.reported _ is.is; count = is.count }
keys_more journal more (Committing chunk) is = tt

few_more : (journal more : List Entry) (n : ℕ) → n ≤ length journal → n ≤ length (journal ++ more)
few_more journal more n few = let grown : length (journal ++ more) ≡ length journal + length more = length-append journal more in omega (arith, grown, few)

with_step : (journal more : List Entry) (copier : Copier) (old step : CopyStep) → IsCopying journal (record copier { step = old }) → chunks.StepFits step → StepHasKeys (journal ++ more) step → IsCopying (journal ++ more) (record copier { step = step })
with_step journal more copier old step is fits keys = record { some = is.some; few = few_more journal more copier.number is.few; fits = fits; keys = keys }

stays : (journal more : List Entry) (copier : Copier) (step : CopyStep) → IsCopying journal (record copier { step = step }) → IsCopying (journal ++ more) (record copier { step = step })
stays journal more copier step is = with_step journal more copier step step is is.fits (keys_more journal more step is.keys)

some_keys : (n : ℕ) → (n == 0) ≡ false → 0 < n
some_keys n other = grind (arith, nat_tests)

keys_left : (copied n : ℕ) → copied < n → ((copied + 1) == n) ≡ false → copied + 1 < n
keys_left copied n less other = grind (arith, nat_tests)

module _ (journal : List Entry) (entry : Entry) (copier : Copier) where
  abbrev more : List Entry
  more = journal ++ entry ∷ []

  begins : (chunk : Chunk) (old : CopyStep) → IsCopying journal (record copier { step = old }) → HasKeys more chunk → IsCopying more (record copier { step = begun chunk })
  begins chunk old is has = at (chunk.keys == 0) refl
    where
      at : (b : Bool) → (chunk.keys == 0) ≡ b → IsCopying more (record copier { step = cond b (Committing chunk) (Copying chunk 0) })
      at true none = with_step journal (entry ∷ []) copier old (Committing chunk) is tt tt
      at false other = with_step journal (entry ∷ []) copier old (Copying chunk 0) is (some_keys chunk.keys other) has

  at_choosing : (turn : ℕ) (answer : Answer) → IsCopying journal (record copier { step = Choosing }) → IsCopying more (copiers.took turn (record copier { step = Choosing }) answer)
  unfolding copiers.took
  at_choosing turn (answers.End end) is = with_step journal (entry ∷ []) copier Choosing (Spanning turn copier.size) is tt tt
  at_choosing turn answers.Lost is = stays journal (entry ∷ []) copier Choosing is
  at_choosing turn (answers.TimedOut waited) is = stays journal (entry ∷ []) copier Choosing is
  at_choosing turn answer is = stays journal (entry ∷ []) copier Choosing is

  at_spanning : (turn reported most : ℕ) (answer : Answer) → turn ≡ length journal + 1 → entry.answer ≡ answer → IsCopying journal (record copier { step = Spanning reported most }) → IsCopying more (copiers.took turn (record copier { step = Spanning reported most }) answer)
  unfolding copiers.took
  at_spanning turn reported most (answers.Keys keys end) turns same is = begins _ (Spanning reported most) is (record { reported = keys; end = end; is = ap (answer_at more) turns ∙ answer_here journal entry ∙ ap Some same; count = refl })
  at_spanning turn reported most answers.Lost turns same is = with_step journal (entry ∷ []) copier (Spanning reported most) Choosing is tt tt
  at_spanning turn reported most (answers.TimedOut waited) turns same is = with_step journal (entry ∷ []) copier (Spanning reported most) Choosing is tt tt
  at_spanning turn reported most answer turns same is = stays journal (entry ∷ []) copier (Spanning reported most) is

  at_copying : (turn : ℕ) (chunk : Chunk) (copied : ℕ) (answer : Answer) → IsCopying journal (record copier { step = Copying chunk copied }) → IsCopying more (copiers.took turn (record copier { step = Copying chunk copied }) answer)
  unfolding copiers.took
  at_copying turn chunk copied (answers.Ok count) is = at ((copied + 1) == chunk.keys) refl
    where
      at : (b : Bool) → ((copied + 1) == chunk.keys) ≡ b → IsCopying more (record copier { step = cond b (Committing chunk) (Copying chunk (copied + 1)) })
      at true same = with_step journal (entry ∷ []) copier (Copying chunk copied) (Committing chunk) is tt tt
      at false other = with_step journal (entry ∷ []) copier (Copying chunk copied) (Copying chunk (copied + 1)) is (keys_left copied chunk.keys is.fits other) (keys_more journal (entry ∷ []) (Copying chunk copied) is.keys)
  at_copying turn chunk copied answers.Lost is = with_step journal (entry ∷ []) copier (Copying chunk copied) Choosing is tt tt
  at_copying turn chunk copied (answers.TimedOut waited) is = with_step journal (entry ∷ []) copier (Copying chunk copied) Choosing is tt tt
  at_copying turn chunk copied answer is = stays journal (entry ∷ []) copier (Copying chunk copied) is

  at_committing : (turn : ℕ) (chunk : Chunk) (answer : Answer) → IsCopying journal (record copier { step = Committing chunk }) → IsCopying more (copiers.took turn (record copier { step = Committing chunk }) answer)
  unfolding copiers.took
  at_committing turn chunk (answers.Ok count) is =
      record { some = is.some; few = let grown : length more ≡ length journal + 1 = length-append journal (entry ∷ []) in let few : copier.number ≤ length journal = is.few in omega (arith, grown, few); fits = tt; keys = tt }
  at_committing turn chunk answers.Lost is = with_step journal (entry ∷ []) copier (Committing chunk) Choosing is tt tt
  at_committing turn chunk (answers.TimedOut waited) is = with_step journal (entry ∷ []) copier (Committing chunk) Choosing is tt tt
  at_committing turn chunk answer is = stays journal (entry ∷ []) copier (Committing chunk) is

  by_step : (turn : ℕ) (step : CopyStep) → turn ≡ length journal + 1 → IsCopying journal (record copier { step = step }) → IsCopying more (copiers.took turn (record copier { step = step }) entry.answer)
  by_step turn Choosing turns is = at_choosing turn entry.answer is
  by_step turn (Spanning reported most) turns is = at_spanning turn reported most entry.answer turns refl is
  by_step turn (Copying chunk copied) turns is = at_copying turn chunk copied entry.answer is
  by_step turn (Committing chunk) turns is = at_committing turn chunk entry.answer is

  -- *It goes on copying*
  pub copier_goes : (turn : ℕ) → turn ≡ length journal + 1 → IsCopying journal copier → IsCopying more (copiers.took turn copier entry.answer)
  copier_goes turn turns is = by_step turn copier.step turns is

-- A CALL COMES

copy_comes : (copier : Copier) (key : Option (List Value)) → is_some key ≡ true → is_some (copies copier key) ≡ true
copy_comes copier (Some key) is = refl
copy_comes copier None is = absurd (false≢true is)

step_comes : (journal : List Entry) (copier : Copier) (range : CopyRange) (step : CopyStep) → chunks.StepFits step → StepHasKeys journal step → is_some (call_at journal copier range step) ≡ true
step_comes journal copier range Choosing fits has = refl
step_comes journal copier range (Spanning reported size) fits has = refl
step_comes journal copier range (Committing chunk) fits has = refl
step_comes journal copier range (Copying chunk copied) fits has = copy_comes copier (key_at journal (Copying chunk copied)) (ap (λ (answer : Option Answer). is_some (slice_get (keys_in answer) copied)) has.is ∙ there)
  where
    within : copied < length has.reported
    within = subst (λ (n : ℕ). copied < n) (sym has.count) fits

    there : is_some (slice_get has.reported copied) ≡ true
    there = ap is_some (slice_get-get_or has.reported copied [] within)

range_comes : (journal : List Entry) (copier : Copier) (range : Option CopyRange) → is_some range ≡ true → chunks.StepFits copier.step → StepHasKeys journal copier.step → is_some (call_in journal copier range) ≡ true
range_comes journal copier (Some range) is fits has = step_comes journal copier range copier.step fits has
range_comes journal copier None is fits has = absurd (false≢true is)

-- *The copier calls* where not all is copied
pub copier_calls : (journal : List Entry) (copier : Copier) → copier.is_copied ≡ false → IsCopying journal copier → is_some (copiers.next journal copier) ≡ true
unfolding copiers.next
copier_calls journal copier going is = rw going (range_comes journal copier copier.range is.some is.fits is.keys)

-- THE APPLIER

batch_fits : (applier : Applier) (batch : Batch) → batches.StepFits (read_batch applier batch).step
batch_fits applier batch = at (batch.statements == 0) refl
  where
    at : (b : Bool) → (batch.statements == 0) ≡ b → batches.StepFits (cond b (appliers.moved applier batch) (record applier { step = Beginning batch })).step
    at true none = tt
    at false other = some_keys batch.statements other

statements_fit : (batch : Batch) (done : ℕ) → done < batch.statements → batches.StepFits (after_statements batch (done + 1))
statements_fit batch done less = at ((done + 1) == batch.statements) refl
  where
    at : (b : Bool) → ((done + 1) == batch.statements) ≡ b → batches.StepFits (cond b (Ending batch) (Applying batch (done + 1) Whole))
    at true same = tt
    at false other = keys_left done batch.statements less other

part_fits : (batch : Batch) (done : ℕ) (part : Part) → done < batch.statements → batches.StepFits (after_part batch done part)
part_fits batch done Removal less = less
part_fits batch done Whole less = statements_fit batch done less
part_fits batch done Return less = statements_fit batch done less

refusal_fits : (batch : Batch) (done : ℕ) (part : Part) (number : ℕ) → done < batch.statements → batches.StepFits (after_refusal batch done part number)
refusal_fits batch done part number less = at (number == ER_DUP_ENTRY)
  where
    at : (b : Bool) → batches.StepFits (cond b (Applying batch done Removal) (Applying batch done part))
    at true = less
    at false = less

applier_at : (turn : ℕ) (applier : Applier) (step : ApplyStep) (answer : Answer) → batches.StepFits step → batches.StepFits (appliers.took turn (record applier { step = step }) answer).step
unfolding appliers.took
applier_at turn applier step answers.Lost fits = tt
applier_at turn applier step (answers.TimedOut waited) fits = tt
applier_at turn applier Reading (answers.Events events following) fits = batch_fits (record applier { step = Reading }) (batch_of turn (record applier { step = Reading }) events following)
applier_at turn applier Reading answer fits = tt
applier_at turn applier (Beginning batch) (answers.Ok count) fits = fits
applier_at turn applier (Beginning batch) answer fits = fits
applier_at turn applier (Applying batch done part) (answers.Ok count) fits = part_fits batch done part fits
applier_at turn applier (Applying batch done part) (answers.Refused number column) fits = refusal_fits batch done part number fits
applier_at turn applier (Applying batch done part) answer fits = fits
applier_at turn applier (Ending batch) (answers.Ok count) fits = tt
applier_at turn applier (Ending batch) answer fits = tt

-- *The applier's step fits*
pub applier_goes : (turn : ℕ) (applier : Applier) (answer : Answer) → batches.StepFits applier.step → batches.StepFits (appliers.took turn applier answer).step
applier_goes turn applier answer fits = applier_at turn applier applier.step answer fits
