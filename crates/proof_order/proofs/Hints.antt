-- The applier's hint is what the journal tells that it came past.
use Rattle.std.proofs.Common.{◌≡◌, ◌⊎◌, ℕ, ◌+◌, suc, ◌==◌, Bool, true, false, cond, not, ◌||◌, List, [], ◌∷◌, ◌++◌, length, refl, sym, ap, ◌∙◌, subst, inl, inr, arith}
use Rattle.std.specs.List.{list_any, flat_map}
use Rattle.std.specs.Str.{bytes_eq}
use Rattle.std.proofs.lemmas.Bool.{true≢false, false≢true, or_left, or_right}
use Rattle.std.proofs.lemmas.Bool.Decides.{nat_tests}
use Rattle.base_script.specs.declared.actor.Actor.TheVariants.{Apply}
use Rattle.base_values.specs.declared.event.Change.{Change}
use Rattle.base_values.specs.declared.event.Change.TheVariants.{Write, Update, Delete}
use Rattle.base_values.specs.declared.event.RowEvent.{RowEvent}
use Rattle.base_values.specs.declared.gho_schema.schema.Schema.{Schema}
use Rattle.base_values.specs.declared.row_conversion.map.MapColumn.{MapColumn}
use Rattle.base_values.specs.declared.mysql_errors.TheConstants.{ER_DUP_ENTRY}
use Rattle.server_model.specs.declared.answer.Answer.{Answer}
use Rattle.server_model.specs.declared.answer.Answer.TheVariants as answers
use Rattle.server_model.specs.declared.entry.Asked.{Asked}
use Rattle.server_model.specs.declared.entry.Asked.TheVariants.{Call, Poll}
use Rattle.server_model.specs.declared.outcome.Progress.TheVariants.{Going, TaskDone, Unfit}
use Rattle.server_model.specs.declared.request.Request.{Request}
use Rattle.server_model.specs.declared.request.Request.TheVariants as requests
use Rattle.server_model.proofs.LockedRows.Tests.{same_number}
use Rattle.plan_data.specs.PlanData.{PlanData}
use Rattle.tool_changelog.specs.Hints.{last_hint}
use Rattle.tool_program.specs.declared.event_applier.applier.Applier.{Applier}
use Rattle.tool_program.specs.declared.event_applier.applier.ApplyStep.{ApplyStep}
use Rattle.tool_program.specs.declared.event_applier.applier.ApplyStep.TheVariants.{Reading, Beginning, Applying, Committing}
use Rattle.tool_program.specs.declared.event_applier.applier.Batch.{Batch}
use Rattle.tool_program.specs.declared.event_applier.applier.Part.{Part}
use Rattle.tool_program.specs.declared.event_applier.applier.Part.TheVariants.{Whole, Removal, Return}
use Rattle.tool_program.specs.EventApplier.Appliers.{changes_key, given_values, doings, events_of, planned, batch_of, moved, read_batch, after_statements, after_part, after_refusal, took, progress, progress_at, nothing_planned}
use Rattle.proof_journals.specs.Machine.Machines.{applier_asks}
use Rattle.proof_journals.specs.Machine.Standings.{needs_names}
use Rattle.proof_order.specs.CutOverOrder.{Hints, has_none, past, read_so, hints_after}

-- a batch that was read has the hint of what was read
abbrev pub StepAt : ApplyStep → ℕ → Type 0
StepAt Reading read = Unit {0}
StepAt (Beginning batch) read = batch.hint ≡ read
StepAt (Applying batch done part) read = batch.hint ≡ read
StepAt (Committing batch) read = batch.hint ≡ read

pub record AppliedAt (hints : Hints) (applier : Applier) : Type 0 where
  pub last : hints.last ≡ applier.hint
  pub among : (applier.hint ≡ 0) ⊎ (list_any (λ one. one == applier.hint) hints.passed ≡ true)
  pub step : StepAt applier.step hints.read

-- the applier asks this: it calls it, or polls it, which needs names then
pub data AsksSo (request : Request) (asked : Asked) : Type 0 where
  calls_it : asked ≡ Call request → AsksSo request asked
  polls_it : asked ≡ Poll → needs_names request ≡ true → AsksSo request asked

-- NOTHING IS PLANNED WHERE NO EVENT IS OF THE TABLE

some_doing : (schema : Schema) (map : List MapColumn) (change : Change) (rest : List _) → (length (doings schema map change ++ rest) == 0) ≡ false
some_doing schema map (Write row) rest = grind (arith, nat_tests)
some_doing schema map (Delete row) rest = grind (arith, nat_tests)
some_doing schema map (Update before after) rest = by (changes_key schema (given_values map before) (given_values map after)) where
  by : (b : Bool) → (length (cond b (Rattle.tool_program.specs.EventApplier.Appliers.Removing before ∷ Rattle.tool_program.specs.EventApplier.Appliers.Putting after ∷ []) (Rattle.tool_program.specs.EventApplier.Appliers.Changing before after ∷ []) ++ rest) == 0) ≡ false
  by true = grind (arith, nat_tests)
  by false = grind (arith, nat_tests)

planned_none : (schema : Schema) (map : List MapColumn) (table : List ℕ) (events : List RowEvent) → (length (flat_map (λ (event : RowEvent). doings schema map event.change) (events_of table events)) == 0) ≡ has_none table events
planned_none schema map table [] = refl
planned_none schema map table (event ∷ events) = by (planned_none schema map table events) (bytes_eq event.table table) where
  by : (length (flat_map (λ (event : RowEvent). doings schema map event.change) (events_of table events)) == 0) ≡ has_none table events → (b : Bool) → (length (flat_map (λ (event : RowEvent). doings schema map event.change) (cond b (event ∷ events_of table events) (events_of table events))) == 0) ≡ not (b || list_any (λ (event : RowEvent). bytes_eq event.table table) events)
  by later true = some_doing schema map event.change (flat_map (λ (event : RowEvent). doings schema map event.change) (events_of table events))
  by later false = later

none_planned : (applier : Applier) (events : List RowEvent) → (length (planned applier events) == 0) ≡ has_none applier.table events
unfolding planned
none_planned applier events = planned_none applier.new_schema applier.map applier.table events

-- ONE TURN OF THE APPLIER'S

here : (hint : ℕ) (passed : List ℕ) → list_any (λ one. one == hint) (hint ∷ passed) ≡ true
here hint passed = or_left (hint == hint) (list_any (λ one. one == hint) passed) (same_number hint)

module _ (plan : PlanData) (applier : Applier) (own : applier.table ≡ plan.table) (hints : Hints) where
  abbrev At : Hints → ApplyStep → Type 0
  At hints step = AppliedAt hints (record applier { step = step })

  steps : (old step : ApplyStep) → At hints old → StepAt step hints.read → At hints step
  steps old step at is = record { last = at.last; among = at.among; step = is }

  comes_past : (batch : Batch) (hint : ℕ) → batch.hint ≡ hint → AppliedAt (past hint hints) (moved applier batch)
  comes_past batch hint is = record { last = sym is; among = inr (subst (λ (h : ℕ). list_any (λ one. one == h) (hint ∷ hints.passed) ≡ true) (sym is) (here hint hints.passed)); step = tt }

  reads : (turn : ℕ) (events : List RowEvent) (next : ℕ) → At hints Reading → AppliedAt (read_so plan events hints) (read_batch (record applier { step = Reading }) (batch_of turn (record applier { step = Reading }) events next))
  reads turn events next at = by (has_none plan.table events) (length (planned (record applier { step = Reading }) events) == 0) (none_planned (record applier { step = Reading }) events ∙ ap (λ (t : List ℕ). has_none t events) own) where
    batch : Batch
    batch = batch_of turn (record applier { step = Reading }) events next

    hint_is : batch.hint ≡ last_hint plan.table hints.last events
    hint_is = ap (λ (t : List ℕ). last_hint t applier.hint events) own ∙ ap (λ (h : ℕ). last_hint plan.table h events) (sym at.last)

    by : (a b : Bool) → b ≡ a
        → AppliedAt (cond a (past (last_hint plan.table hints.last events) hints) (record hints { read = last_hint plan.table hints.last events })) (cond b (moved (record applier { step = Reading }) batch) (record applier { step = Beginning batch }))
    by true true same = comes_past batch (last_hint plan.table hints.last events) hint_is
    by false false same = record { last = at.last; among = at.among; step = hint_is }
    by true false same = absurd (false≢true same)
    by false true same = absurd (true≢false same)

  after_so : (batch : Batch) (done : ℕ) → batch.hint ≡ hints.read → StepAt (after_statements batch done) hints.read
  after_so batch done is = by (done == batch.statements) where
    by : (b : Bool) → StepAt (cond b (Committing batch) (Applying batch done Whole)) hints.read
    by true = is
    by false = is

  refused_so : (batch : Batch) (done number : ℕ) (part : Part) → batch.hint ≡ hints.read → StepAt (after_refusal batch done part number) hints.read
  refused_so batch done number part is = by (number == ER_DUP_ENTRY) where
    by : (b : Bool) → StepAt (cond b (Applying batch done Removal) (Applying batch done part)) hints.read
    by true = is
    by false = is

  part_so : (batch : Batch) (done : ℕ) (part : Part) → batch.hint ≡ hints.read → StepAt (after_part batch done part) hints.read
  part_so batch done Removal is = is
  part_so batch done Whole is = after_so batch (done + 1) is
  part_so batch done Return is = after_so batch (done + 1) is

  at_reading : (turn position limit : ℕ) (tables : List (List ℕ)) (answer : Answer) → At hints Reading → AppliedAt (hints_after plan Apply (Call (requests.ReadLog position limit tables)) answer hints) (took turn (record applier { step = Reading }) answer)
  unfolding took
  at_reading turn position limit tables (answers.Events events next) at = reads turn events next at
  at_reading turn position limit tables answers.Lost at = at
  at_reading turn position limit tables (answers.TimedOut waited) at = at
  at_reading turn position limit tables answer at = at

  at_beginning : (turn : ℕ) (batch : Batch) (answer : Answer) → At hints (Beginning batch) → AppliedAt hints (took turn (record applier { step = Beginning batch }) answer)
  unfolding took
  at_beginning turn batch answers.Lost at = steps (Beginning batch) Reading at tt
  at_beginning turn batch (answers.TimedOut waited) at = steps (Beginning batch) Reading at tt
  at_beginning turn batch (answers.Ok count) at = steps (Beginning batch) (Applying batch 0 Whole) at at.step
  at_beginning turn batch answer at = at

  at_applying : (turn : ℕ) (batch : Batch) (done : ℕ) (part : Part) (answer : Answer) → At hints (Applying batch done part) → AppliedAt hints (took turn (record applier { step = Applying batch done part }) answer)
  unfolding took
  at_applying turn batch done part answers.Lost at = steps (Applying batch done part) Reading at tt
  at_applying turn batch done part (answers.TimedOut waited) at = steps (Applying batch done part) Reading at tt
  at_applying turn batch done part (answers.Ok count) at = steps (Applying batch done part) (after_part batch done part) at (part_so batch done part at.step)
  at_applying turn batch done part (answers.Refused number column) at = steps (Applying batch done part) (after_refusal batch done part number) at (refused_so batch done number part at.step)
  at_applying turn batch done part answer at = at

  at_committing : (turn : ℕ) (batch : Batch) (answer : Answer) → At hints (Committing batch) → AppliedAt (hints_after plan Apply (Call requests.Commit) answer hints) (took turn (record applier { step = Committing batch }) answer)
  unfolding took
  at_committing turn batch answers.Lost at = steps (Committing batch) Reading at tt
  at_committing turn batch (answers.TimedOut waited) at = steps (Committing batch) Reading at tt
  at_committing turn batch (answers.Ok count) at = comes_past batch hints.read at.step
  at_committing turn batch answer at = at

  abbrev Left : Asked → Answer → ℕ → ApplyStep → Type 0
  Left asked answer turn step = AppliedAt (hints_after plan Apply asked answer hints) (took turn (record applier { step = step }) answer)

  by_step : (turn : ℕ) (step : ApplyStep) (request : Request) (asked : Asked) (answer : Answer) → AsksSo request asked → applier_asks step request ≡ true → At hints step → Left asked answer turn step
  by_step turn Reading (requests.ReadLog position limit tables) asked answer (calls_it asks) kind at = subst (λ (a : Asked). Left a answer turn Reading) (sym asks) (at_reading turn position limit tables answer at)
  by_step turn (Beginning batch) requests.Begin asked answer (calls_it asks) kind at = subst (λ (a : Asked). Left a answer turn (Beginning batch)) (sym asks) (at_beginning turn batch answer at)
  by_step turn (Applying batch done part) (requests.Do statement) asked answer (calls_it asks) kind at = subst (λ (a : Asked). Left a answer turn (Applying batch done part)) (sym asks) (at_applying turn batch done part answer at)
  by_step turn (Applying batch done part) (requests.Do statement) asked answer (polls_it asks needs) kind at = subst (λ (a : Asked). Left a answer turn (Applying batch done part)) (sym asks) (at_applying turn batch done part answer at)
  by_step turn (Committing batch) requests.Commit asked answer (calls_it asks) kind at = subst (λ (a : Asked). Left a answer turn (Committing batch)) (sym asks) (at_committing turn batch answer at)
  by_step turn Reading (requests.ReadLog position limit tables) asked answer (polls_it asks needs) kind at = absurd (false≢true needs)
  by_step turn (Beginning batch) requests.Begin asked answer (polls_it asks needs) kind at = absurd (false≢true needs)
  by_step turn (Committing batch) requests.Commit asked answer (polls_it asks needs) kind at = absurd (false≢true needs)
  by_step turn step request asked answer asks kind at = absurd (false≢true kind)

  -- *What the applier took*
  pub took_applied : (turn : ℕ) (request : Request) (asked : Asked) (answer : Answer) → AsksSo request asked → applier_asks applier.step request ≡ true → AppliedAt hints applier → AppliedAt (hints_after plan Apply asked answer hints) (took turn applier answer)
  took_applied turn request asked answer asks kind at = by_step turn applier.step request asked answer asks kind at

  -- a refusal tells nothing of hint rows
  refused_same : (asked : Asked) (number : ℕ) (column : _) → hints_after plan Apply asked (answers.Refused number column) hints ≡ hints
  refused_same (Call (requests.ReadLog position limit tables)) number column = refl
  refused_same (Call requests.Commit) number column = refl
  refused_same asked number column = refl

  pub unfit_same : (asked : Asked) (answer : Answer) (place number : ℕ) → progress applier answer ≡ Unfit place number → hints_after plan Apply asked answer hints ≡ hints
  unfolding progress
  unfit_same asked answer place number unfit = by applier.step answer unfit where
    none : (statements : ℕ) → nothing_planned statements ≡ Unfit place number → ⊥
    none statements e = at (statements == 0) e where
      at : (b : Bool) → cond b TaskDone Going ≡ Unfit place number → ⊥
      at true e = cc
      at false e = cc

    by : (step : ApplyStep) (answer : Answer) → progress_at applier step answer ≡ Unfit place number → hints_after plan Apply asked answer hints ≡ hints
    by (Applying batch done part) (answers.Refused error (Rattle.std.proofs.Common.Some one)) unfit = refused_same asked error (Rattle.std.proofs.Common.Some one)
    by Reading (answers.Events events next) unfit = absurd (none (length (planned applier events)) unfit)
    by step answers.Lost unfit = absurd cc
    by step (answers.TimedOut waited) unfit = absurd cc
    by step answer unfit = absurd cc

  -- what was passed stays so
  pub passed_more : (test : ℕ → Bool) (asked : Asked) (answer : Answer) → list_any test hints.passed ≡ true → list_any test (hints_after plan Apply asked answer hints).passed ≡ true
  passed_more test (Call (requests.ReadLog position limit tables)) (answers.Events events next) is = by (has_none plan.table events) where
    by : (b : Bool) → list_any test (cond b (past (last_hint plan.table hints.last events) hints) (record hints { read = last_hint plan.table hints.last events })).passed ≡ true
    by true = or_right (test (last_hint plan.table hints.last events)) (list_any test hints.passed) is
    by false = is
  passed_more test (Call requests.Commit) (answers.Ok count) is = or_right (test hints.read) (list_any test hints.passed) is
  passed_more test asked answer is = is
