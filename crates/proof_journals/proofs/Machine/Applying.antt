-- The applier's step and its session go together: a transaction is open exactly from BEGIN to COMMIT.
use Rattle.std.proofs.Common.{◌≡◌, ◌<◌, ℕ, ◌+◌, ◌==◌, Bool, true, false, cond, List, [], ◌∷◌, ◌++◌, length, Some, None, refl, sym, ap, ◌∙◌, arith}
use Rattle.std.proofs.lemmas.Bool.Decides.{nat_tests}
use Rattle.base_values.specs.declared.event.RowEvent.{RowEvent}
use Rattle.base_values.specs.declared.mysql_errors.TheConstants.{ER_DUP_ENTRY}
use Rattle.server_model.specs.declared.answer.Answer.{Answer}
use Rattle.server_model.specs.declared.answer.Answer.TheVariants as answers
use Rattle.server_model.specs.declared.entry.Entry.{Entry}
use Rattle.server_model.specs.declared.outcome.Progress.TheVariants.{Going, TaskDone, Unfit}
use Rattle.server_model.specs.declared.request.Request.{Request}
use Rattle.server_model.specs.declared.request.Request.TheVariants as requests
use Rattle.server_model.specs.Entries.{answer_at}
use Rattle.tool_program.specs.declared.event_applier.applier.Applier.{Applier}
use Rattle.tool_program.specs.declared.event_applier.applier.ApplyStep.{ApplyStep}
use Rattle.tool_program.specs.declared.event_applier.applier.ApplyStep.TheVariants.{Reading, Beginning, Applying, Committing}
use Rattle.tool_program.specs.declared.event_applier.applier.Batch.{Batch}
use Rattle.tool_program.specs.declared.event_applier.applier.Part.{Part}
use Rattle.tool_program.specs.declared.event_applier.applier.Part.TheVariants.{Whole, Removal, Return}
use Rattle.tool_program.specs.EventApplier.Appliers.{planned, batch_of, moved, read_batch, after_statements, after_part, took, nothing_planned, progress, progress_at}
use Rattle.tool_program.proofs.JournalWords.Answers.{answer_more, answer_here}
use Rattle.proof_journals.specs.Machine.Standings.{Standing, answered}
use Rattle.proof_journals.specs.Machine.Machines.{Stands, applier_asks, applier_busy, IsBatch, BatchKnown, ApplierStands}

-- EARLIER ANSWERS STAY

-- WHAT STAYS KNOWN

-- another record of the same table, schema, map
planned_same : (applier : Applier) (position hint : ℕ) (step : ApplyStep) (events : List RowEvent) → planned (record applier { position = position; hint = hint; step = step }) events ≡ planned applier events
unfolding planned
planned_same applier position hint step events = refl

batch_more : (journal more : List Entry) (applier : Applier) (step : ApplyStep) (batch : Batch) → IsBatch journal applier batch → IsBatch (journal ++ more) (record applier { step = step }) batch
batch_more journal more applier step batch is =
    record { events = is.events; next = is.next; reported = answer_more journal more batch.read _ is.reported; counted = is.counted ∙ ap length (sym (planned_same applier applier.position applier.hint step is.events)) }

known_more : (journal more : List Entry) (applier : Applier) (step : ApplyStep) → BatchKnown journal applier step → BatchKnown (journal ++ more) (record applier { step = step }) step
known_more journal more applier Reading is = tt
known_more journal more applier (Beginning batch) is = (batch_more journal more applier (Beginning batch) batch is.0, is.1)
known_more journal more applier (Applying batch done part) is = (batch_more journal more applier (Applying batch done part) batch is.0, is.1)
known_more journal more applier (Committing batch) is = tt

-- AN ANSWER

-- the applier at this step, behind one entry more
abbrev StandsAt : List Entry → Applier → ApplyStep → Standing → Type 0
StandsAt journal applier step standing = ApplierStands journal (record applier { step = step }) standing

rests : (journal : List Entry) (applier : Applier) (position hint : ℕ) (standing : Standing) → standing.busy ≡ false → standing.locked ≡ [] → standing.waits ≡ None → ApplierStands journal (record applier { position = position; hint = hint; step = Reading }) standing
rests journal applier position hint standing busy locked waits = record { stands = record { busy = busy; locked = locked; waits = rw waits refl }; known = tt }

-- the same step, with what waits now
same_step : (journal more : List Entry) (applier : Applier) (step : ApplyStep) (old standing : Standing) → StandsAt journal applier step old → standing.busy ≡ old.busy → standing.locked ≡ old.locked → Rattle.proof_journals.specs.Machine.Machines.waits_so (applier_asks step) standing.waits ≡ true
    → StandsAt (journal ++ more) applier step standing
same_step journal more applier step old standing is busy locked waits =
    record { stands = record { busy = busy ∙ is.stands.busy; locked = locked ∙ is.stands.locked; waits = waits }; known = known_more journal more (record applier { step = step }) step is.known }

module _ (journal : List Entry) (entry : Entry) (applier : Applier) where
  abbrev more : List Entry
  more = journal ++ entry ∷ []

  -- behind the log that was read
  reads : (turn : ℕ) (events : List RowEvent) (following : ℕ) (standing : Standing) → turn ≡ length journal + 1 → entry.answer ≡ answers.Events events following → standing.busy ≡ false → standing.locked ≡ [] → standing.waits ≡ None
      → ApplierStands more (read_batch (record applier { step = Reading }) (batch_of turn (record applier { step = Reading }) events following)) standing
  reads turn events following standing turns is busy locked waits = at (length (planned (record applier { step = Reading }) events) == 0) refl where
    batch : Batch
    batch = batch_of turn (record applier { step = Reading }) events following

    reported : answer_at more batch.read ≡ Some (answers.Events events following)
    reported = ap (answer_at more) turns ∙ answer_here journal entry ∙ ap Some is

    some : (n : ℕ) → (n == 0) ≡ false → 0 < n
    some n off = grind (arith, nat_tests)

    at : (b : Bool) → (length (planned (record applier { step = Reading }) events) == 0) ≡ b → ApplierStands more (cond b (moved (record applier { step = Reading }) batch) (record applier { step = Beginning batch })) standing
    at true none = rests more applier batch.next batch.hint standing busy locked waits
    at false off = record {
      stands = record { busy = busy; locked = locked; waits = rw waits refl };
      known = (record { events = events; next = following; reported = reported; counted = ap length (sym (planned_same (record applier { step = Reading }) applier.position applier.hint (Beginning batch) events)) }, some (length (planned (record applier { step = Reading }) events)) off);
    }

  at_reading : (turn : ℕ) (position limit : ℕ) (tables : _) (answer : Answer) (old : Standing) → turn ≡ length journal + 1 → entry.answer ≡ answer → StandsAt journal applier Reading old
      → ApplierStands more (took turn (record applier { step = Reading }) answer) (answered (requests.ReadLog position limit tables) answer old)
  unfolding took
  at_reading turn position limit tables answers.Lost old turns same is = rests more applier applier.position applier.hint _ refl refl refl
  at_reading turn position limit tables (answers.TimedOut waited) old turns same is = rests more applier applier.position applier.hint _ refl is.stands.locked refl
  at_reading turn position limit tables (answers.Waits by) old turns same is = same_step journal (entry ∷ []) applier Reading old _ is refl refl refl
  at_reading turn position limit tables (answers.Events events following) old turns same is = reads turn events following _ turns same is.stands.busy is.stands.locked refl
  at_reading turn position limit tables answer old turns same is = same_step journal (entry ∷ []) applier Reading old _ is refl refl refl

  at_beginning : (turn : ℕ) (batch : Batch) (answer : Answer) (old : Standing) → StandsAt journal applier (Beginning batch) old → ApplierStands more (took turn (record applier { step = Beginning batch }) answer) (answered requests.Begin answer old)
  unfolding took
  at_beginning turn batch answers.Lost old is = rests more applier applier.position applier.hint _ refl refl refl
  at_beginning turn batch (answers.TimedOut waited) old is = rests more applier applier.position applier.hint _ refl is.stands.locked refl
  at_beginning turn batch (answers.Waits by) old is = same_step journal (entry ∷ []) applier (Beginning batch) old _ is refl refl refl
  at_beginning turn batch (answers.Ok count) old is =
      record { stands = record { busy = refl; locked = is.stands.locked; waits = refl }; known = (batch_more journal (entry ∷ []) (record applier { step = Beginning batch }) (Applying batch 0 Whole) batch is.known.0, is.known.1) }
  at_beginning turn batch answer old is = same_step journal (entry ∷ []) applier (Beginning batch) old _ is refl refl refl

  -- the next statement, or the commit
  goes_on : (batch : Batch) (done : ℕ) (standing : Standing) → IsBatch journal applier batch → done < batch.statements → standing.busy ≡ true → standing.locked ≡ [] → standing.waits ≡ None → StandsAt more applier (after_statements batch (done + 1)) standing
  goes_on batch done standing is below busy locked waits = at ((done + 1) == batch.statements) refl where
    further : (n m : ℕ) → ((n + 1) == m) ≡ false → n < m → (n + 1) < m
    further n m off less = grind (arith, nat_tests)

    at : (b : Bool) → ((done + 1) == batch.statements) ≡ b → StandsAt more applier (cond b (Committing batch) (Applying batch (done + 1) Whole)) standing
    at true all = record { stands = record { busy = busy; locked = locked; waits = rw waits refl }; known = tt }
    at false off = record { stands = record { busy = busy; locked = locked; waits = rw waits refl }; known = (batch_more journal (entry ∷ []) applier (Applying batch (done + 1) Whole) batch is, further done batch.statements off below) }

  -- the same statement, in another way
  again : (batch : Batch) (done : ℕ) (part : Part) (standing : Standing) → IsBatch journal applier batch → done < batch.statements → standing.busy ≡ true → standing.locked ≡ [] → standing.waits ≡ None → StandsAt more applier (Applying batch done part) standing
  again batch done part standing is below busy locked waits = record { stands = record { busy = busy; locked = locked; waits = rw waits refl }; known = (batch_more journal (entry ∷ []) applier (Applying batch done part) batch is, below) }

  own_batch : (batch : Batch) (step : ApplyStep) → IsBatch journal (record applier { step = step }) batch → IsBatch journal applier batch
  own_batch batch step is = record { events = is.events; next = is.next; reported = is.reported; counted = is.counted ∙ ap length (planned_same applier applier.position applier.hint step is.events) }

  at_applying : (turn : ℕ) (batch : Batch) (done : ℕ) (part : Part) (statement : _) (answer : Answer) (old : Standing) → StandsAt journal applier (Applying batch done part) old
      → ApplierStands more (took turn (record applier { step = Applying batch done part }) answer) (answered (requests.Do statement) answer old)
  unfolding took
  at_applying turn batch done part statement answers.Lost old is = rests more applier applier.position applier.hint _ refl refl refl
  at_applying turn batch done part statement (answers.TimedOut waited) old is = rests more applier applier.position applier.hint _ refl is.stands.locked refl
  at_applying turn batch done part statement (answers.Waits by) old is = same_step journal (entry ∷ []) applier (Applying batch done part) old _ is refl refl refl
  at_applying turn batch done part statement (answers.Ok count) old is = at part where
    own : IsBatch journal applier batch
    own = own_batch batch (Applying batch done part) is.known.0

    at : (p : Part) → ApplierStands more (record applier { step = after_part batch done p }) (answered (requests.Do statement) (answers.Ok count) old)
    at Removal = again batch done Return _ own is.known.1 is.stands.busy is.stands.locked refl
    at Whole = goes_on batch done _ own is.known.1 is.stands.busy is.stands.locked refl
    at Return = goes_on batch done _ own is.known.1 is.stands.busy is.stands.locked refl
  at_applying turn batch done part statement (answers.Refused number column) old is = at (number == ER_DUP_ENTRY) where
    own : IsBatch journal applier batch
    own = own_batch batch (Applying batch done part) is.known.0

    at : (b : Bool) → ApplierStands more (record applier { step = cond b (Applying batch done Removal) (Applying batch done part) }) (answered (requests.Do statement) (answers.Refused number column) old)
    at true = again batch done Removal _ own is.known.1 is.stands.busy is.stands.locked refl
    at false = again batch done part _ own is.known.1 is.stands.busy is.stands.locked refl
  at_applying turn batch done part statement answer old is = same_step journal (entry ∷ []) applier (Applying batch done part) old _ is refl refl refl

  at_committing : (turn : ℕ) (batch : Batch) (answer : Answer) (old : Standing) → StandsAt journal applier (Committing batch) old → ApplierStands more (took turn (record applier { step = Committing batch }) answer) (answered requests.Commit answer old)
  unfolding took
  at_committing turn batch answers.Lost old is = rests more applier applier.position applier.hint _ refl refl refl
  at_committing turn batch (answers.TimedOut waited) old is = rests more applier applier.position applier.hint _ refl is.stands.locked refl
  at_committing turn batch (answers.Waits by) old is = same_step journal (entry ∷ []) applier (Committing batch) old _ is refl refl refl
  at_committing turn batch (answers.Ok count) old is = rests more applier batch.next batch.hint _ refl is.stands.locked refl
  at_committing turn batch answer old is = same_step journal (entry ∷ []) applier (Committing batch) old _ is refl refl refl

  by_step : (turn : ℕ) (step : ApplyStep) (request : Request) (old : Standing) → turn ≡ length journal + 1 → StandsAt journal applier step old → applier_asks step request ≡ true
      → ApplierStands more (took turn (record applier { step = step }) entry.answer) (answered request entry.answer old)
  by_step turn Reading (requests.ReadLog position limit tables) old turns is asks = at_reading turn position limit tables entry.answer old turns refl is
  by_step turn (Beginning batch) requests.Begin old turns is asks = at_beginning turn batch entry.answer old is
  by_step turn (Applying batch done part) (requests.Do statement) old turns is asks = at_applying turn batch done part statement entry.answer old is
  by_step turn (Committing batch) requests.Commit old turns is asks = at_committing turn batch entry.answer old is
  by_step turn step request old turns is asks = absurd cc

  -- *Behind each answer the applier's step and its session go together*
  pub applier_stands : (turn : ℕ) (request : Request) (old : Standing) → turn ≡ length journal + 1 → ApplierStands journal applier old → applier_asks applier.step request ≡ true → ApplierStands more (took turn applier entry.answer) (answered request entry.answer old)
  applier_stands turn request old turns is asks = by_step turn applier.step request old turns is asks

  -- a row that doesn't fit leaves both as they are
  pub applier_unfit : (request : Request) (old : Standing) (place number : ℕ) → ApplierStands journal applier old → applier_asks applier.step request ≡ true → progress applier entry.answer ≡ Unfit place number → ApplierStands more applier (answered request entry.answer old)
  unfolding progress
  applier_unfit request old place number is asks unfit = by applier.step entry.answer unfit is request asks where
    none : (statements : ℕ) → nothing_planned statements ≡ Unfit place number → ⊥
    none statements e = at (statements == 0) e where
      at : (b : Bool) → cond b TaskDone Going ≡ Unfit place number → ⊥
      at true e = cc
      at false e = cc

    by : (step : ApplyStep) (answer : Answer) → progress_at applier step answer ≡ Unfit place number → StandsAt journal applier step old → (request : Request) → applier_asks step request ≡ true → StandsAt more applier step (answered request answer old)
    by (Applying batch done part) (answers.Refused error (Some one)) unfit is request asks = refused request asks where
      refused : (request : Request) → applier_asks (Applying batch done part) request ≡ true → StandsAt more applier (Applying batch done part) (answered request (answers.Refused error (Some one)) old)
      refused (requests.Do statement) asks = same_step journal (entry ∷ []) applier (Applying batch done part) old _ is refl refl refl
      refused request asks = absurd cc
    by Reading (answers.Events events next) unfit is request asks = absurd (none (length (planned applier events)) unfit)
    by step answers.Lost unfit is request asks = absurd cc
    by step (answers.TimedOut waited) unfit is request asks = absurd cc
    by step answer unfit is request asks = absurd cc

  -- nothing of it changes in others' turns
  pub applier_rests : (old : Standing) → ApplierStands journal applier old → ApplierStands more applier old
  applier_rests old is = same_step journal (entry ∷ []) applier applier.step old old is refl refl is.stands.waits
