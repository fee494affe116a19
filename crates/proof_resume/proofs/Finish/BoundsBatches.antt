-- How many turns an applier has left is kept from turn to turn: the statements that are planned stay those of its batch, and as many events
-- are left as before.
use Rattle.std.proofs.Common.{◌≡◌, ℕ, ◌+◌, ◌*◌, ◌≤◌, ◌<◌, ◌==◌, Bool, true, false, List, [], ◌∷◌, ◌++◌, length, take, cond, Option, Some, None, refl, sym, ap, ◌∙◌, subst, arith}
use Rattle.std.specs.List.{flat_map}
use Rattle.std.proofs.lemmas.List.{length-append}
use Rattle.std.proofs.lemmas.List.Sums.{sum_by-take-le}
use Rattle.base_values.specs.declared.event.RowEvent.{RowEvent}
use Rattle.base_values.specs.declared.gho_schema.schema.Schema.{Schema}
use Rattle.base_values.specs.declared.mysql_errors.TheConstants.{ER_DUP_ENTRY}
use Rattle.base_values.specs.declared.row_conversion.map.MapColumn.{MapColumn}
use Rattle.server_model.specs.EarlierAnswers.{events_in}
use Rattle.server_model.specs.Entries.{answer_at}
use Rattle.server_model.specs.declared.answer.Answer.{Answer}
use Rattle.server_model.specs.declared.answer.Answer.TheVariants as answers
use Rattle.server_model.specs.declared.entry.Entry.{Entry}
use Rattle.plan_data.specs.PlanData.{PlanData}
use Rattle.tool_program.specs.EventApplier.Appliers.{Doing, after_part, after_refusal, after_statements, batch_of, events_of, moved, planned, read_batch}
use Rattle.tool_program.specs.EventApplier.Appliers as appliers
use Rattle.tool_program.specs.declared.event_applier.applier.Applier.{Applier}
use Rattle.tool_program.specs.declared.event_applier.applier.ApplyStep.{ApplyStep}
use Rattle.tool_program.specs.declared.event_applier.applier.ApplyStep.TheVariants as batches
use Rattle.tool_program.specs.declared.event_applier.applier.Batch.{Batch}
use Rattle.tool_program.specs.declared.event_applier.applier.Part.{Part}
use Rattle.tool_program.specs.declared.event_applier.applier.Part.TheVariants.{Whole, Removal, Return}
use Rattle.tool_program.proofs.JournalWords.Answers.{answer_here, answer_more}
use Rattle.proof_bounds.specs.TaskTurns.Answers.{doing_turns, doings_turns, left_at}
use Rattle.proof_resume.specs.Finish.Batches.{parts_before, planned_after, LetsGoOn, TurnsLeft}
use Rattle.proof_resume.proofs.Finish.Batches.{next_more}
use Rattle.proof_resume.proofs.Finish.BoundsApplier.{batch_doings, AreDoings}
use Rattle.proof_resume.proofs.Finish.Machines.{IsApplierOf}

-- THE STATEMENTS OF THE BATCH

module _ (doings_of : Batch → List Doing) (doings : List Doing) where
  statements_are : (batch : Batch) (count : ℕ) → doings_of batch ≡ doings → AreDoings doings_of doings (after_statements batch count)
  statements_are batch count is = by (count == batch.statements) where
    by : (b : Bool) → AreDoings doings_of doings (cond b (batches.Committing batch) (batches.Applying batch count Whole))
    by true = tt
    by false = is

  part_are : (batch : Batch) (count : ℕ) (part : Part) → doings_of batch ≡ doings → AreDoings doings_of doings (after_part batch count part)
  part_are batch count Whole is = statements_are batch (count + 1) is
  part_are batch count Removal is = is
  part_are batch count Return is = statements_are batch (count + 1) is

  refusal_are : (batch : Batch) (count : ℕ) (part : Part) (number : ℕ) → doings_of batch ≡ doings → AreDoings doings_of doings (after_refusal batch count part number)
  refusal_are batch count part number is = by (number == ER_DUP_ENTRY) where
    by : (b : Bool) → AreDoings doings_of doings (cond b (batches.Applying batch count Removal) (batches.Applying batch count part))
    by true = is
    by false = is

  read_are : (applier : Applier) (batch : Batch) → doings_of batch ≡ doings → AreDoings doings_of doings (read_batch applier batch).step
  read_are applier batch is = by (batch.statements == 0) where
    by : (b : Bool) → AreDoings doings_of doings (cond b (moved applier batch) (record applier { step = batches.Beginning batch })).step
    by true = tt
    by false = is

module _ (doings_of : Batch → List Doing) (table : List ℕ) (log : List RowEvent) (turn position : ℕ) (applier : Applier) (doings : List Doing) where
  pub took_are : (step : ApplyStep) (answer : Answer) → ((events : List RowEvent) (next : ℕ) → answer ≡ answers.Events events next → doings_of (batch_of turn (record applier { step = batches.Reading }) events next) ≡ planned applier events) → AreDoings doings_of doings step
      → LetsGoOn table log (planned applier) position doings step answer → AreDoings doings_of (planned_after applier answer doings) (appliers.took turn (record applier { step = step }) answer).step
  unfolding appliers.took planned
  took_are batches.Reading (answers.Events events next) reads are goes = read_are doings_of (planned applier events) (record applier { step = batches.Reading }) (batch_of turn (record applier { step = batches.Reading }) events next) (reads events next refl)
  took_are (batches.Beginning batch) (answers.Ok count) reads are goes = are
  took_are (batches.Applying batch count part) (answers.Ok changed) reads are goes = part_are doings_of doings batch count part are
  took_are (batches.Applying batch count part) (answers.Refused number (Some place)) reads are goes = refusal_are doings_of doings batch count part number are
  took_are (batches.Applying batch count part) (answers.Refused number None) reads are goes = refusal_are doings_of doings batch count part number are
  took_are (batches.Committing batch) (answers.Ok count) reads are goes = tt
  took_are step answer reads are goes = absurd goes

-- what is planned depends on what no turn changes
abbrev planned_by : (schema : Schema) (map : List MapColumn) (table : List ℕ) (events : List RowEvent) → List Doing
planned_by schema map table events = flat_map (λ (e : RowEvent). appliers.doings schema map e.change) (events_of table events)

planned_same : (plan : PlanData) (one other : Applier) (events : List RowEvent) → IsApplierOf plan one → IsApplierOf plan other → planned one events ≡ planned other events
unfolding planned
planned_same plan one other events a b =
    ap (λ (s : Schema). planned_by s one.map one.table events) (a.schema ∙ sym b.schema) ∙ ap (λ (c : List MapColumn). planned_by other.new_schema c one.table events) (a.map ∙ sym b.map) ∙ ap (λ (t : List ℕ). planned_by other.new_schema other.map t events) (a.table ∙ sym b.table)

module _ (plan : PlanData) (journal : List Entry) (entry : Entry) (applier later : Applier) (of_plan : IsApplierOf plan applier) (of_later : IsApplierOf plan later) where
  abbrev more : List Entry
  more = journal ++ entry ∷ []

  -- the batch that is read now
  pub now_read : (events : List RowEvent) (next : ℕ) → entry.answer ≡ answers.Events events next → planned later (events_in (answer_at more (length more))) ≡ planned applier events
  now_read events next is =
      ap (λ (n : ℕ). planned later (events_in (answer_at more n))) (length-append journal (entry ∷ []))
      ∙ ap (λ (a : Option Answer). planned later (events_in a)) (answer_here journal entry ∙ ap Some is)
      ∙ planned_same plan later applier events of_later of_plan

  -- and one that was read before
  batch_same : (batch : Batch) → (answer : Answer) × (answer_at journal batch.read ≡ Some answer) → batch_doings more later batch ≡ batch_doings journal applier batch
  batch_same batch is =
      ap (λ (a : Option Answer). planned later (events_in a)) (answer_more journal (entry ∷ []) batch.read is.0 is.1 ∙ sym is.1) ∙ planned_same plan later applier (events_in (answer_at journal batch.read)) of_later of_plan

  pub are_more : (doings : List Doing) (step : ApplyStep) → ((batch : Batch) → step ≡ batches.Beginning batch → (answer : Answer) × (answer_at journal batch.read ≡ Some answer)) → ((batch : Batch) (count : ℕ) (part : Part) → step ≡ batches.Applying batch count part → (answer : Answer) × (answer_at journal batch.read ≡ Some answer))
      → AreDoings (batch_doings journal applier) doings step → AreDoings (batch_doings more later) doings step
  are_more doings batches.Reading begins applies are = tt
  are_more doings (batches.Beginning batch) begins applies are = batch_same batch (begins batch refl) ∙ are
  are_more doings (batches.Applying batch count part) begins applies are = batch_same batch (applies batch count part refl) ∙ are
  are_more doings (batches.Committing batch) begins applies are = tt

-- THE TURNS THAT ARE LEFT

-- in a log in which as many events are left from each position on
pub left_more : (table : List ℕ) (log later : List RowEvent) → ((position : ℕ) → left_at table later position ≡ left_at table log position) → (turns position : ℕ) (doings : List Doing) (step : ApplyStep) → TurnsLeft table log turns position doings step → TurnsLeft table later turns position doings step
left_more table log later same turns position doings batches.Reading is = subst (λ (n : ℕ). 6 * n ≤ turns) (sym (same position)) is
left_more table log later same turns position doings (batches.Beginning batch) is = (subst (λ (n : ℕ). 2 + doings_turns doings + 6 * n ≤ turns) (sym (same batch.next)) is.0, is.1, is.2)
left_more table log later same turns position doings (batches.Applying batch done part) is =
    (subst (λ (n : ℕ). 1 + doings_turns doings + 6 * n ≤ turns + (doings_turns (take done doings) + parts_before part)) (sym (same batch.next)) is.0, is.1, is.2, is.3)
left_more table log later same turns position doings (batches.Committing batch) is = subst (λ (n : ℕ). 1 + 6 * n ≤ turns) (sym (same batch.next)) is

-- some turn is left
pub turns_some : (table : List ℕ) (log : List RowEvent) (turns position : ℕ) (doings : List Doing) (step : ApplyStep) → (appliers.is_reading step ≡ true → 1 ≤ left_at table log position) → TurnsLeft table log turns position doings step → 1 ≤ turns
turns_some table log turns position doings batches.Reading some is = let left = some refl in omega (arith, left, is)
turns_some table log turns position doings (batches.Beginning batch) some is = let left = is.0 in omega (arith, left)
turns_some table log turns position doings (batches.Applying batch done part) some is =
    let left = is.0 in
    let next : doings_turns (take done doings) + parts_before part + 1 ≤ doings_turns (take (done + 1) doings) = next_more doings done part (within done batch.statements (length doings) is.2 is.1) is.3 in
    let all = sum_by-take-le doing_turns doings (done + 1) in
    omega (arith, left, next, all) where
      within : (count statements size : ℕ) → count < statements → statements ≡ size → count < size
      within count statements size less same = omega (arith, less, same)
turns_some table log turns position doings (batches.Committing batch) some is = omega (arith, is)
