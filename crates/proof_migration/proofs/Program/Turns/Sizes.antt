-- A chunk's size may be set while the call for its end waits; and what of the machines no answer changes.
use Rattle.std.proofs.Common.{◌≡◌, ℕ, Bool, true, false, cond, List, ◌++◌, Option, Some, None, refl, sym, ap, ◌∙◌}
use Rattle.std.specs.Prelude.{◌==◌}
use Rattle.std.specs.List.{slice_get}
use Rattle.base_values.specs.declared.gho_schema.schema.Schema.{Schema}
use Rattle.base_values.specs.declared.span.Bound.{Bound}
use Rattle.base_values.specs.declared.span.Bound.TheVariants.{Closed}
use Rattle.base_values.specs.declared.row_conversion.map.MapColumn.{MapColumn}
use Rattle.server_model.specs.declared.answer.Answer.{Answer}
use Rattle.server_model.specs.declared.answer.Answer.TheVariants as answers
use Rattle.server_model.specs.declared.entry.Entry.{Entry}
use Rattle.server_model.specs.declared.request.Request.{Request}
use Rattle.server_model.specs.declared.request.Request.TheVariants as requests
use Rattle.server_model.specs.Entries.{answer_at}
use Rattle.server_model.specs.EarlierAnswers.{end_in, events_in, keys_in}
use Rattle.tool_program.specs.declared.chunk_copier.copier.Copier.{Copier}
use Rattle.tool_program.specs.declared.chunk_copier.copier.CopyRange.{CopyRange}
use Rattle.tool_program.specs.declared.chunk_copier.copier.CopyStep.{CopyStep}
use Rattle.tool_program.specs.declared.chunk_copier.copier.CopyStep.TheVariants.{Choosing, Spanning, Copying, Committing}
use Rattle.tool_program.specs.ChunkCopier.Copiers as copiers
use Rattle.tool_program.specs.ChunkCopier.Copiers.{resized}
use Rattle.tool_program.specs.declared.event_applier.applier.Applier.{Applier}
use Rattle.tool_program.specs.declared.event_applier.applier.ApplyStep.{ApplyStep}
use Rattle.tool_program.specs.declared.event_applier.applier.ApplyStep.TheVariants.{Reading, Beginning, Applying, Committing as Ending}
use Rattle.tool_program.specs.declared.event_applier.applier.Batch.{Batch}
use Rattle.tool_program.specs.EventApplier.Appliers as appliers
use Rattle.proof_journals.specs.Ghost.Rows.Timelines.{Migration}
use Rattle.proof_migration.specs.Migration.Copier.CopierPlace.{CopierKnows, StepKnows as CopyKnows}
use Rattle.proof_migration.proofs.Migration.Copier.Chunks.{same_answer}
use Rattle.proof_migration.proofs.Migration.Copier.Knowing.{asks_at, low_more}
use Rattle.proof_migration.specs.Migration.Applier.ApplierPlace.{ApplierKnows, StepKnows}
use Rattle.proof_migration.proofs.Migration.Applier.Knowing.{same_reported}
use Rattle.tool_program.proofs.JournalWords.Answers.{answer_more}

-- THE COPIER'S NEXT CALL BEHIND MORE TURNS

call_more : (journal more : List Entry) (copier : Copier) (range : CopyRange) (step : CopyStep) → CopierKnows journal copier → CopyKnows journal copier.range step → copiers.call_at (journal ++ more) copier range step ≡ copiers.call_at journal copier range step
call_more journal more copier range Choosing knows reported = ap (λ (low : Bound). Some (requests.ChunkEnd copier.table low range.top copier.size)) (low_more journal more range copier.following knows.following)
call_more journal more copier range (Spanning turn size) knows reported =
    ap (λ (low : Bound). Some (requests.BeginSpan copier.table (record { low = low; high = Closed (end_in (answer_at (journal ++ more) turn)) }) size)) (low_more journal more range copier.following knows.following)
    ∙ ap (λ (a : Option Answer). Some (requests.BeginSpan copier.table (record { low = copiers.low_end journal range copier.following; high = Closed (end_in a) }) size)) (answer_more journal more turn reported.0.answer reported.0.is ∙ sym reported.0.is)
call_more journal more copier range (Copying chunk copied) knows reported = ap (λ (a : Option Answer). copiers.copies copier (slice_get (keys_in a) copied)) (same_answer journal more copier.range chunk reported.0)
call_more journal more copier range (Committing chunk) knows reported = refl

pub next_more : (journal more : List Entry) (copier : Copier) (request : Request) → CopierKnows journal copier → copiers.next journal copier ≡ Some request → copiers.next (journal ++ more) copier ≡ Some request
unfolding copiers.next
next_more journal more copier request knows next =
    let asks = asks_at journal copier request next in
    ap (λ (b : Bool). cond b None (copiers.call_in (journal ++ more) copier copier.range)) asks.going ∙ ap (copiers.call_in (journal ++ more) copier) asks.is ∙ call_more journal more copier asks.range copier.step knows knows.step ∙ asks.call

-- SIZES

-- the one record is the other; or it has a chunk's end, with another size beside it
pub data Sized (one other : Copier) : Type 0 where
  same_so : one ≡ other → Sized one other
  spans_so : (reported old : ℕ) → one.step ≡ Spanning reported old → other ≡ record one { step = Spanning reported one.size } → Sized one other

sized_after : (turn size : ℕ) (copier : Copier) (step : CopyStep) (answer : Answer) → copier.step ≡ step → Sized (resized copier.size (copiers.after_answer turn (resized size copier) step answer)) (copiers.after_answer turn copier step answer)
sized_after turn size copier Choosing (answers.End end) here = spans_so turn size refl refl
sized_after turn size copier (Spanning reported old) (answers.Keys keys end) here = same_so refl
sized_after turn size copier (Copying chunk copied) (answers.Ok count) here = same_so refl
sized_after turn size copier (Committing chunk) (answers.Ok count) here = same_so refl
sized_after turn size copier step answer here = same_so refl

-- an answer that is taken with another size
pub sized_took : (turn size : ℕ) (copier : Copier) (answer : Answer) → Sized (resized copier.size (copiers.took turn (resized size copier) answer)) (copiers.took turn copier answer)
unfolding copiers.took
sized_took turn size copier answers.Lost = same_so refl
sized_took turn size copier (answers.TimedOut waited) = same_so refl
sized_took turn size copier answer = sized_after turn size copier copier.step answer refl

-- WHAT NO ANSWER CHANGES

map_after : (turn : ℕ) (copier : Copier) (step : CopyStep) (answer : Answer) → (copiers.after_answer turn copier step answer).map ≡ copier.map
map_after turn copier Choosing (answers.End end) = refl
map_after turn copier (Spanning reported size) (answers.Keys keys end) = refl
map_after turn copier (Copying chunk copied) (answers.Ok count) = refl
map_after turn copier (Committing chunk) (answers.Ok count) = refl
map_after turn copier step answer = refl

pub map_took : (turn : ℕ) (copier : Copier) (answer : Answer) → (copiers.took turn copier answer).map ≡ copier.map
unfolding copiers.took
map_took turn copier answers.Lost = refl
map_took turn copier (answers.TimedOut waited) = refl
map_took turn copier answer = map_after turn copier copier.step answer

-- the new table and the map
pub record Fixed : Type 0 where
  pub schema : Schema
  pub map : List MapColumn

abbrev pub fixed : Applier → Fixed
fixed applier = record { schema = applier.new_schema; map = applier.map }

fixed_read : (applier : Applier) (batch : Batch) → fixed (appliers.read_batch applier batch) ≡ fixed applier
fixed_read applier batch = by (batch.statements == 0) where
  by : (b : Bool) → fixed (cond b (appliers.moved applier batch) (record applier { step = Beginning batch })) ≡ fixed applier
  by true = refl
  by false = refl

fixed_after : (turn : ℕ) (applier : Applier) (step : ApplyStep) (answer : Answer) → fixed (appliers.after_answer turn applier step answer) ≡ fixed applier
fixed_after turn applier Reading (answers.Events events following) = fixed_read applier (appliers.batch_of turn applier events following)
fixed_after turn applier (Beginning batch) (answers.Ok count) = refl
fixed_after turn applier (Applying batch done part) (answers.Ok count) = refl
fixed_after turn applier (Applying batch done part) (answers.Refused number column) = refl
fixed_after turn applier (Ending batch) (answers.Ok count) = refl
fixed_after turn applier step answer = refl

pub fixed_took : (turn : ℕ) (applier : Applier) (answer : Answer) → fixed (appliers.took turn applier answer) ≡ fixed applier
unfolding appliers.took
fixed_took turn applier answers.Lost = refl
fixed_took turn applier (answers.TimedOut waited) = refl
fixed_took turn applier answer = fixed_after turn applier applier.step answer

-- THE APPLIER'S NEXT CALL BEHIND MORE TURNS

apply_call_more : (m : Migration) (journal more : List Entry) (applier : Applier) (step : ApplyStep) → StepKnows m journal step → appliers.call_at (journal ++ more) applier step ≡ appliers.call_at journal applier step
apply_call_more m journal more applier Reading knows = refl
apply_call_more m journal more applier (Beginning batch) knows = refl
apply_call_more m journal more applier (Applying batch done part) knows =
    ap (λ (a : Option Answer). appliers.statement_result applier (appliers.doing_in part (slice_get (appliers.planned applier (events_in a)) done))) (same_reported m journal more batch knows.0)
apply_call_more m journal more applier (Ending batch) knows = refl

pub apply_next_more : (m : Migration) (journal more : List Entry) (applier : Applier) → ApplierKnows m journal applier → appliers.next (journal ++ more) applier ≡ appliers.next journal applier
unfolding appliers.next
apply_next_more m journal more applier knows = apply_call_more m journal more applier applier.step knows.step
