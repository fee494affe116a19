-- Each turn of an applier leaves one turn fewer.
use Rattle.std.proofs.Common.{◌≡◌, ℕ, ◌+◌, ◌*◌, ◌≤◌, ◌<◌, ◌==◌, Bool, true, false, ◌||◌, List, [], ◌∷◌, ◌++◌, length, cond, Some, None, refl, sym, ap, ◌∙◌, subst, append_assoc, arith}
use Rattle.std.specs.Prelude.{count_by, drop, filter, get_or, take}
use Rattle.std.specs.Str.{bytes_eq}
use Rattle.std.proofs.lemmas.List.{append_cancel_left, take-append-drop}
use Rattle.std.proofs.lemmas.List.Sums.{length-filter, sum_by-append, sum_by-take-le, sum_by_more}
use Rattle.std.proofs.lemmas.Option.{slice_get-get_or}
use Rattle.std.specs.List.{slice_get}
use Rattle.std.proofs.lemmas.Bool.Decides.{nat_tests}
use Rattle.base_values.specs.declared.event.RowEvent.{RowEvent}
use Rattle.base_values.specs.declared.mysql_errors.TheConstants.{ER_DUP_ENTRY}
use Rattle.server_model.specs.declared.answer.Answer.{Answer}
use Rattle.server_model.specs.declared.answer.Answer.TheVariants as answers
use Rattle.server_model.specs.declared.outcome.Progress.TheVariants.{Going, TaskDone}
use Rattle.tool_program.specs.declared.event_applier.applier.Applier.{Applier}
use Rattle.tool_program.specs.declared.event_applier.applier.ApplyStep.{ApplyStep}
use Rattle.tool_program.specs.declared.event_applier.applier.ApplyStep.TheVariants as batches
use Rattle.tool_program.specs.declared.event_applier.applier.Batch.{Batch}
use Rattle.tool_program.specs.declared.event_applier.applier.Part.{Part}
use Rattle.tool_program.specs.declared.event_applier.applier.Part.TheVariants.{Whole, Removal, Return}
use Rattle.tool_program.specs.EventApplier.Appliers.{Changing, Doing, Putting, Removing, after_part, after_refusal, after_statements, batch_of, moved, nothing_planned, planned, read_batch}
use Rattle.tool_program.specs.EventApplier.Appliers as appliers
use Rattle.base_values.specs.ToolNames.{log_name}
use Rattle.server_model.specs.States.{is_of}
use Rattle.proof_journals.proofs.Sentry.Draining.{on_both}
use Rattle.proof_bounds.proofs.TaskTurns.ReadLogs.{planned_most}
use Rattle.proof_bounds.specs.TaskTurns.Answers.{doing_turns, doings_turns, left_at, IsClash}
use Rattle.proof_resume.specs.Finish.Batches.{parts_before, planned_after, ApplierTurnsAreFew, GoesInParts, LeavesTurns, LetsGoOn, ReadsLetGoOn, TurnsLeft}

part_less : (doing : Doing) (part : Part) → GoesInParts part (Some doing) → parts_before part + 1 ≤ doing_turns doing
part_less (Putting row) Whole fits = omega arith
part_less (Removing row) Whole fits = omega arith
part_less (Changing before after) Whole fits = omega arith
part_less (Changing before after) Removal fits = omega arith
part_less (Changing before after) Return fits = omega arith
part_less (Putting row) Removal fits = absurd fits
part_less (Removing row) Removal fits = absurd fits
part_less (Putting row) Return fits = absurd fits
part_less (Removing row) Return fits = absurd fits

pub next_more : (doings : List Doing) (done : ℕ) (part : Part) → done < length doings → GoesInParts part (slice_get doings done) → doings_turns (take done doings) + parts_before part + 1 ≤ doings_turns (take (done + 1) doings)
next_more doings done part less fits =
    let here = slice_get-get_or doings done (Removing []) less in
    let more = sum_by_more doing_turns doings done (Removing []) less in
    let one = part_less (get_or doings done (Removing [])) part (subst (GoesInParts part) here fits) in
    omega (arith, more, one)

module _ (table : List ℕ) (log : List RowEvent) (turn turns : ℕ) (applier : Applier) (doings : List Doing) where
  abbrev Left : ApplyStep → Type 0
  Left step = TurnsLeft table log turns applier.position doings step

  abbrev Had : ApplyStep → Type 0
  Had step = TurnsLeft table log (turns + 1) applier.position doings step

  -- a statement is done
  statements : (batch : Batch) (count : ℕ) (part : Part) → Had (batches.Applying batch count part) → Left (after_statements batch (count + 1))
  statements batch count part is = by (count + 1 == batch.statements) refl where
    within : (count statements size : ℕ) → count < statements → statements ≡ size → count < size
    within count statements size less same = omega (arith, less, same)

    more : doings_turns (take count doings) + parts_before part + 1 ≤ doings_turns (take (count + 1) doings)
    more = next_more doings count part (within count batch.statements (length doings) is.2 is.1) is.3

    later : (n k : ℕ) → n < k → (n + 1 == k) ≡ false → n + 1 < k
    later n k less other = grind (arith, nat_tests, less, other)

    by : (b : Bool) → (count + 1 == batch.statements) ≡ b → Left (cond b (batches.Committing batch) (batches.Applying batch (count + 1) Whole))
    by true last = let left = is.0 in let all = sum_by-take-le doing_turns doings (count + 1) in let next = more in omega (arith, left, all, next)
    by false other = (let left = is.0 in let next = more in omega (arith, left, next), is.1, later count batch.statements is.2 other, tt)

  -- the next part of an UPDATE
  goes_on : (batch : Batch) (count : ℕ) (part after : Part) → parts_before part + 1 ≤ parts_before after → GoesInParts after (slice_get doings count) → Had (batches.Applying batch count part) → Left (batches.Applying batch count after)
  goes_on batch count part after less fits is = (let left = is.0 in omega (arith, left, less), is.1, is.2, fits)

  done_part : (batch : Batch) (count : ℕ) (part : Part) → Had (batches.Applying batch count part) → Left (after_part batch count part)
  done_part batch count Whole is = statements batch count Whole is
  done_part batch count Removal is = goes_on batch count Removal Return (omega arith) is.3 is
  done_part batch count Return is = statements batch count Return is

  refused : (batch : Batch) (count : ℕ) (part : Part) (number : ℕ) → IsClash part (slice_get doings count) number → Had (batches.Applying batch count part) → Left (after_refusal batch count part number)
  refused batch count Whole number clash is =
      subst (λ (b : Bool). Left (cond b (batches.Applying batch count Removal) (batches.Applying batch count Whole))) (sym (ap (λ (k : ℕ). k == ER_DUP_ENTRY) clash.0)) (goes_on batch count Whole Removal (omega arith) clash.1 is)
  refused batch count Removal number clash is = absurd clash
  refused batch count Return number clash is = absurd clash

  -- events are read
  reads : (later : List Doing) (batch : Batch) (n : ℕ) → 1 ≤ n → n + left_at table log batch.next ≤ left_at table log applier.position → doings_turns later ≤ 3 * n → batch.statements ≡ length later → Had batches.Reading
      → LeavesTurns table log turns later (read_batch (record applier { step = batches.Reading }) batch) (nothing_planned batch.statements)
  reads later batch n some passes few counted is = by (batch.statements == 0) refl where
    nonzero : (n : ℕ) → (n == 0) ≡ false → 0 < n
    nonzero n other = grind (arith, nat_tests)

    by : (b : Bool) → (batch.statements == 0) ≡ b → LeavesTurns table log turns later (cond b (moved (record applier { step = batches.Reading }) batch) (record applier { step = batches.Beginning batch })) (cond b TaskDone Going)
    by true none = omega (arith, is, some, passes)
    by false other = (omega (arith, is, some, passes, few), counted, nonzero batch.statements other)

  leaves : (step : ApplyStep) (answer : Answer) → Had step → LetsGoOn table log (planned applier) applier.position doings step answer
      → LeavesTurns table log turns (planned_after applier answer doings) (appliers.took turn (record applier { step = step }) answer) (appliers.progress (record applier { step = step }) answer)
  unfolding appliers.took appliers.progress planned
  leaves batches.Reading (answers.Events events next) is goes = reads (planned applier events) (batch_of turn (record applier { step = batches.Reading }) events next) (length events) goes.0 goes.1 goes.2 refl is
  leaves (batches.Beginning batch) (answers.Ok count) is goes = (let left = is.0 in omega (arith, left), is.1, is.2, tt)
  leaves (batches.Applying batch count part) (answers.Ok changed) is goes = done_part batch count part is
  leaves (batches.Applying batch count part) (answers.Refused number (Some place)) is goes = tt
  leaves (batches.Applying batch count part) (answers.Refused number None) is goes = refused batch count part number goes is
  leaves (batches.Committing batch) (answers.Ok count) is goes = omega (arith, is)
  leaves step answer is goes = absurd goes

-- *Each turn of an applier leaves one turn fewer*
pub applier_turns_are_few : ApplierTurnsAreFew
applier_turns_are_few table log turn turns applier doings answer is goes = leaves table log turn turns applier doings applier.step answer is goes

-- WHAT IS READ

either_of : (table : List ℕ) (event : RowEvent) → is_of (table ∷ log_name table ∷ []) event ≡ on_both table event
either_of table event = by (bytes_eq event.table table) (bytes_eq event.table (log_name table)) where
  by : (a b : Bool) → (a || (b || false)) ≡ (a || b)
  by true b = refl
  by false true = refl
  by false false = refl

counted_alike : (table : List ℕ) (events : List RowEvent) → count_by (is_of (table ∷ log_name table ∷ [])) events ≡ length (filter (on_both table) events)
counted_alike table events = ap (λ (test : RowEvent → Bool). count_by test events) (λ i event. either_of table event i) ∙ sym (length-filter (on_both table) events)

-- *A read lets the applier go on*
pub reads_let_go_on : ReadsLetGoOn
reads_let_go_on table log position next events applier doings some is = (some, let all = whole in let one = came in omega (arith, all, one), planned_most applier events) where
  parts : drop position log ≡ is.part ++ drop next log
  parts =
      append_cancel_left (take position log) (drop position log) (is.part ++ drop next log)
      (take-append-drop position log ∙ sym (take-append-drop next log) ∙ ap (λ (l : List RowEvent). l ++ drop next log) is.joins ∙ append_assoc (take position log) is.part (drop next log))

  whole : left_at table log position ≡ count_by (is_of (table ∷ log_name table ∷ [])) is.part + left_at table log next
  whole = ap (count_by (is_of (table ∷ log_name table ∷ []))) parts ∙ sum_by-append (λ (e : RowEvent). cond (is_of (table ∷ log_name table ∷ []) e) 1 0) is.part (drop next log)

  came : count_by (is_of (table ∷ log_name table ∷ [])) is.part ≡ length events
  came = counted_alike table is.part ∙ ap (λ (l : List RowEvent). length l) (sym is.read)
