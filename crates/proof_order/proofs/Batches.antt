-- The applier's step is what the journal tells of the batch at hand.
use Rattle.std.proofs.Common.{◌≡◌, ℕ, zero, suc, ◌+◌, ◌<◌, ◌==◌, Bool, true, false, cond, List, [], ◌∷◌, ◌++◌, length, Option, Some, None, refl, sym, ap, ◌∙◌, subst, inl, inr, arith}
use Rattle.std.specs.List.{slice_get, flat_map}
use Rattle.std.specs.Str.{bytes_eq}
use Rattle.std.proofs.lemmas.Bool.{false≢true}
use Rattle.std.proofs.lemmas.Bool.Decides.{nat_tests}
use Rattle.std.proofs.lemmas.Option.{slice_get_within}
use Rattle.base_script.specs.declared.actor.Actor.TheVariants.{Apply}
use Rattle.base_script.specs.declared.statement.Statement.{Statement}
use Rattle.base_script.specs.declared.statement.Statement.TheVariants as statements
use Rattle.base_values.specs.declared.event.Change.TheVariants.{Write}
use Rattle.base_values.specs.declared.event.RowEvent.{RowEvent}
use Rattle.base_values.specs.declared.gho_schema.schema.Schema.{Schema}
use Rattle.base_values.specs.declared.row_conversion.map.MapColumn.{MapColumn}
use Rattle.base_values.specs.declared.mysql_errors.TheConstants.{ER_DUP_ENTRY}
use Rattle.base_values.specs.declared.value.Value.{Value}
use Rattle.base_values.specs.ToolNames.{ghost_name}
use Rattle.server_model.specs.declared.answer.Answer.{Answer}
use Rattle.server_model.specs.declared.answer.Answer.TheVariants as answers
use Rattle.server_model.specs.declared.entry.Asked.{Asked}
use Rattle.server_model.specs.declared.entry.Asked.TheVariants.{Call, Poll}
use Rattle.server_model.specs.declared.entry.Entry.{Entry}
use Rattle.server_model.specs.declared.outcome.Progress.TheVariants.{Going, TaskDone, Unfit}
use Rattle.server_model.specs.declared.request.Request.{Request}
use Rattle.server_model.specs.declared.request.Request.TheVariants as requests
use Rattle.server_model.specs.EarlierAnswers.{events_in}
use Rattle.server_model.specs.Entries.{answer_at}
use Rattle.server_model.proofs.LockedRows.Tests.{are_one, same_bytes}
use Rattle.plan_data.specs.PlanData.{PlanData, new_map}
use Rattle.tool_program.proofs.JournalWords.Answers.{answer_more}
use Rattle.tool_program.specs.declared.event_applier.applier.Applier.{Applier}
use Rattle.tool_program.specs.declared.event_applier.applier.ApplyStep.{ApplyStep}
use Rattle.tool_program.specs.declared.event_applier.applier.ApplyStep.TheVariants.{Reading, Beginning, Applying, Committing}
use Rattle.tool_program.specs.declared.event_applier.applier.Batch.{Batch}
use Rattle.tool_program.specs.declared.event_applier.applier.Part.{Part}
use Rattle.tool_program.specs.declared.event_applier.applier.Part.TheVariants.{Whole, Removal, Return}
use Rattle.tool_program.specs.EventApplier.Appliers.{Doing, Putting, Removing, Changing, doings, events_of, planned, given_values, in_part, doing_in, doing_at, statement_of, statement_result, call_at, next, batch_of, moved, read_batch, after_statements, after_part, took, progress, progress_at, nothing_planned}
use Rattle.tool_program.specs.CutoverCore.CutOvers.{is_wait}
use Rattle.proof_journals.specs.Machine.Machines.{applier_asks}
use Rattle.proof_journals.specs.Machine.Standings.{needs_names}
use Rattle.proof_order.specs.AppliedRows.{IsAmong, AppliedBatch, batch_after, batch_at, replaces, InsertsArePut, IsAppliedCall}

-- WHAT IS SO

-- the events of this turn are those at hand
pub record IsRead (journal : List Entry) (batch : AppliedBatch) (applier : Applier) (at : Batch) : Type 0 where
  pub answer : Answer
  pub reported : answer_at journal at.read ≡ Some answer
  pub events : batch.events ≡ events_in (Some answer)
  pub counted : at.statements ≡ length (planned applier batch.events)

-- each row that is put by the first of the planned statements was put
abbrev pub ArePut : PlanData → List Doing → List Statement → ℕ → Type 0
ArePut plan all called done = (i : ℕ) (row : List Value) → i < done → slice_get all i ≡ Some (Putting row) → IsAmong (replaces plan row) called

-- ... and so was this one
abbrev pub IsPut : PlanData → List Doing → List Statement → ℕ → Type 0
IsPut plan all called done = (row : List Value) → slice_get all done ≡ Some (Putting row) → IsAmong (replaces plan row) called

-- ... and so are all
abbrev pub AllPut : PlanData → List Doing → List Statement → Type 0
AllPut plan all called = (i : ℕ) (row : List Value) → slice_get all i ≡ Some (Putting row) → IsAmong (replaces plan row) called

abbrev pub StepAt : PlanData → List Entry → AppliedBatch → Option Request → Applier → ApplyStep → Type 0
StepAt plan journal batch waits applier Reading = Unit {0}
StepAt plan journal batch waits applier (Beginning at) = IsRead journal batch applier at
StepAt plan journal batch waits applier (Applying at done part) =
    IsRead journal batch applier at × ArePut plan (planned applier batch.events) batch.called done × ((request : Request) → waits ≡ Some request → IsPut plan (planned applier batch.events) batch.called done)
StepAt plan journal batch waits applier (Committing at) = AllPut plan (planned applier batch.events) batch.called

pub record ApplierAt (plan : PlanData) (journal : List Entry) (batch : AppliedBatch) (waits : Option Request) (applier : Applier) : Type 0 where
  pub map : applier.map ≡ new_map plan
  pub step : StepAt plan journal batch waits applier applier.step

-- the applier calls what comes next; or it polls, which needs names then
pub data AsksNext (journal : List Entry) (applier : Applier) (waits : Option Request) (request : Request) (asked : Asked) : Type 0 where
  calls_it : asked ≡ Call request → request ≡ next journal applier → AsksNext journal applier waits request asked
  polls_it : asked ≡ Poll → waits ≡ Some request → needs_names request ≡ true → AsksNext journal applier waits request asked

-- JOURNALS THAT GROW

read_more : (journal more : List Entry) (batch : AppliedBatch) (applier : Applier) (at : Batch) → IsRead journal batch applier at → IsRead (journal ++ more) batch applier at
read_more journal more batch applier at is = record { answer = is.answer; reported = answer_more journal more at.read is.answer is.reported; events = is.events; counted = is.counted }

step_more : (plan : PlanData) (journal more : List Entry) (batch : AppliedBatch) (waits now_waits : Option Request) (applier : Applier) (step : ApplyStep) → ((request : Request) → now_waits ≡ Some request → waits ≡ Some request) → StepAt plan journal batch waits applier step
    → StepAt plan (journal ++ more) batch now_waits applier step
step_more plan journal more batch waits now_waits applier Reading fewer is = tt
step_more plan journal more batch waits now_waits applier (Beginning at) fewer is = read_more journal more batch applier at is
step_more plan journal more batch waits now_waits applier (Applying at done part) fewer is = (read_more journal more batch applier at is.0, is.1, λ request some. is.2 request (fewer request some))
step_more plan journal more batch waits now_waits applier (Committing at) fewer is = is

-- *In others' turns*
pub applier_more : (plan : PlanData) (journal more : List Entry) (batch : AppliedBatch) (waits now_waits : Option Request) (applier : Applier) → ((request : Request) → now_waits ≡ Some request → waits ≡ Some request) → ApplierAt plan journal batch waits applier
    → ApplierAt plan (journal ++ more) batch now_waits applier
applier_more plan journal more batch waits now_waits applier fewer is = record { map = is.map; step = step_more plan journal more batch waits now_waits applier applier.step fewer is.step }

-- AN ANSWER

put_more : (plan : PlanData) (all : List Doing) (called : List Statement) (statement : Statement) (done : ℕ) → ArePut plan all called done → ArePut plan all (statement ∷ called) done
put_more plan all called statement done are = λ i row less is. inr (are i row less is)

next_put : (plan : PlanData) (all : List Doing) (called : List Statement) (done : ℕ) → ArePut plan all called done → IsPut plan all called done → ArePut plan all called (done + 1)
next_put plan all called done are now = λ i row less is. by i row (i == done) refl less is where
  by : (i : ℕ) (row : List Value) (b : Bool) → (i == done) ≡ b → i < done + 1 → slice_get all i ≡ Some (Putting row) → IsAmong (replaces plan row) called
  by i row true same less is = now row (ap (slice_get all) (sym (are_one i done same)) ∙ is)
  by i row false differ less is = are i row (grind (arith, nat_tests)) is

module _ (plan : PlanData) (journal : List Entry) (entry : Entry) (turn : ℕ) (applier : Applier) (named : applier.new_schema.name ≡ ghost_name plan.table) (batch : AppliedBatch) (waits now_waits : Option Request) (answer : Answer)
    (here : answer_at (journal ++ entry ∷ []) turn ≡ Some answer) (quiet : is_wait answer ≡ false → now_waits ≡ None) where
  abbrev more : List Entry
  more = journal ++ entry ∷ []

  abbrev Old : ApplyStep → Type 0
  Old step = ApplierAt plan journal batch waits (record applier { step = step })

  abbrev New : Asked → ApplyStep → Type 0
  New asked step = ApplierAt plan more (batch_after Apply asked answer batch) now_waits (took turn (record applier { step = step }) answer)

  unwaited : (request : Request) → is_wait answer ≡ false → now_waits ≡ Some request → ⊥
  unwaited request off some = no (sym (quiet off) ∙ some) where
    no : None ≡ Some request → ⊥
    no same = cc

  reads_again : (now_batch : AppliedBatch) → applier.map ≡ new_map plan → ApplierAt plan more now_batch now_waits (record applier { step = Reading })
  reads_again now_batch map = record { map = map; step = tt }

  -- THE LOG IS READ

  reads : (events : List RowEvent) (following : ℕ) → applier.map ≡ new_map plan → answer ≡ answers.Events events following
      → ApplierAt plan more (record { events = events; called = [] }) now_waits (read_batch (record applier { step = Reading }) (batch_of turn (record applier { step = Reading }) events following))
  unfolding planned
  reads events following map same = by (length (planned (record applier { step = Reading }) events) == 0) where
    at : Batch
    at = batch_of turn (record applier { step = Reading }) events following

    by : (b : Bool) → ApplierAt plan more (record { events = events; called = [] }) now_waits (cond b (moved (record applier { step = Reading }) at) (record applier { step = Beginning at }))
    by true = record { map = map; step = tt }
    by false = record { map = map; step = record { answer = answers.Events events following; reported = here ∙ ap Some same; events = refl; counted = refl } }

  reading : (position limit : ℕ) (tables : List (List ℕ)) (one : Answer) → answer ≡ one → Old Reading → ApplierAt plan more (batch_after Apply (Call (requests.ReadLog position limit tables)) one batch) now_waits (took turn (record applier { step = Reading }) one)
  unfolding took
  reading position limit tables (answers.Events events following) same old = reads events following old.map same
  reading position limit tables answers.Lost same old = reads_again batch old.map
  reading position limit tables (answers.TimedOut waited) same old = reads_again batch old.map
  reading position limit tables one same old = reads_again batch old.map

  -- A TRANSACTION BEGINS

  beginning : (at : Batch) (one : Answer) → answer ≡ one → Old (Beginning at) → ApplierAt plan more (record batch { called = [] }) now_waits (took turn (record applier { step = Beginning at }) one)
  unfolding took planned
  beginning at answers.Lost same old = reads_again (record batch { called = [] }) old.map
  beginning at (answers.TimedOut waited) same old = reads_again (record batch { called = [] }) old.map
  beginning at (answers.Ok count) same old = record {
    map = old.map;
    step = (record { answer = old.step.answer; reported = answer_more journal (entry ∷ []) at.read old.step.answer old.step.reported; events = old.step.events; counted = old.step.counted }, λ i row less is. absurd (omega (arith, less)), λ request some. absurd (unwaited request (ap is_wait same) some));
  }
  beginning at one same old =
      record { map = old.map; step = record { answer = old.step.answer; reported = answer_more journal (entry ∷ []) at.read old.step.answer old.step.reported; events = old.step.events; counted = old.step.counted } }

  -- A STATEMENT

  abbrev all : List Doing
  all = planned applier batch.events

  -- where it was called, with all before
  module _ (at : Batch) (done : ℕ) (part : Part) (called : List Statement) (read : IsRead journal batch applier at) (map : applier.map ≡ new_map plan) (are : ArePut plan all called done) (now : IsPut plan all called done) where
    abbrev now_batch : AppliedBatch
    now_batch = record { events = batch.events; called = called }

    read_now : IsRead more now_batch applier at
    read_now = record { answer = read.answer; reported = answer_more journal (entry ∷ []) at.read read.answer read.reported; events = read.events; counted = read.counted }

    again : (next_part : Part) → ApplierAt plan more now_batch now_waits (record applier { step = Applying at done next_part })
    unfolding planned
    again next_part = record { map = map; step = (record { answer = read_now.answer; reported = read_now.reported; events = read_now.events; counted = read_now.counted }, are, λ request some. now) }

    goes_on : (off : is_wait answer ≡ false) → ApplierAt plan more now_batch now_waits (record applier { step = after_statements at (done + 1) })
    unfolding planned
    goes_on off = by ((done + 1) == at.statements) refl where
      all_put : (done + 1) ≡ at.statements → AllPut plan all called
      all_put last = λ i row is. next_put plan all called done are now i row (subst (λ (n : ℕ). i < n) (sym (last ∙ read.counted)) (slice_get_within all i (Putting row) is)) is

      by : (b : Bool) → ((done + 1) == at.statements) ≡ b → ApplierAt plan more now_batch now_waits (record applier { step = cond b (Committing at) (Applying at (done + 1) Whole) })
      by true last = record { map = map; step = all_put (are_one (done + 1) at.statements last) }
      by false further = record {
        map = map;
        step = (record { answer = read_now.answer; reported = read_now.reported; events = read_now.events; counted = read_now.counted }, next_put plan all called done are now, λ request some. absurd (unwaited request off some));
      }

    applied : (one : Answer) → answer ≡ one → ApplierAt plan more now_batch now_waits (took turn (record applier { step = Applying at done part }) one)
    unfolding took
    applied answers.Lost same = reads_again now_batch map
    applied (answers.TimedOut waited) same = reads_again now_batch map
    applied (answers.Ok count) same = by part where
      by : (p : Part) → ApplierAt plan more now_batch now_waits (record applier { step = after_part at done p })
      by Removal = again Return
      by Whole = goes_on (ap is_wait same)
      by Return = goes_on (ap is_wait same)
    applied (answers.Refused number column) same = by (number == ER_DUP_ENTRY) where
      by : (b : Bool) → ApplierAt plan more now_batch now_waits (record applier { step = cond b (Applying at done Removal) (Applying at done part) })
      by true = again Removal
      by false = again part
    applied one same = again part

  -- the statement that is called puts the row that is planned
  puts : (at : Batch) (done : ℕ) (part : Part) (statement : Statement) → IsRead journal batch applier at → applier.map ≡ new_map plan → requests.Do statement ≡ call_at journal applier (Applying at done part) → (row : List Value) → slice_get all done ≡ Some (Putting row) → statement ≡ replaces plan row
  puts at done part statement read map call row is = one (call ∙ ap (statement_result applier) doing_is ∙ put_so) where
    events_are : events_in (answer_at journal at.read) ≡ batch.events
    events_are = ap events_in read.reported ∙ sym read.events

    whole : (p : Part) → in_part p (Putting row) ≡ Putting row
    whole Removal = refl
    whole Whole = refl
    whole Return = refl

    doing_is : doing_at journal applier (Applying at done part) ≡ Some (Putting row)
    doing_is = ap (λ (e : List RowEvent). doing_in part (slice_get (planned applier e) done)) events_are ∙ ap (doing_in part) is ∙ ap Some (whole part)

    put_so : requests.Do (statement_of applier (Putting row)) ≡ requests.Do (replaces plan row)
    put_so = ap (λ (n : List ℕ). requests.Do (statements.Replace n None (given_values applier.map row) None)) named ∙ ap (λ (m : List MapColumn). requests.Do (statements.Replace (ghost_name plan.table) None (given_values m row) None)) map

    one : requests.Do statement ≡ requests.Do (replaces plan row) → statement ≡ replaces plan row
    one both = let same : statement ≡ replaces plan row = cc in same

  applying : (at : Batch) (done : ℕ) (part : Part) (statement : Statement) (asked : Asked) → AsksNext journal (record applier { step = Applying at done part }) waits (requests.Do statement) asked → Old (Applying at done part) → New asked (Applying at done part)
  unfolding next planned
  applying at done part statement asked (calls_it asks call) old =
      subst (λ (a : Asked). New a (Applying at done part)) (sym asks)
      (applied at done part (statement ∷ batch.called) (record { answer = old.step.0.answer; reported = old.step.0.reported; events = old.step.0.events; counted = old.step.0.counted }) old.map (put_more plan all batch.called statement done old.step.1)
      (λ row is. inl (puts at done part statement (record { answer = old.step.0.answer; reported = old.step.0.reported; events = old.step.0.events; counted = old.step.0.counted }) old.map call row is)) answer refl)
  applying at done part statement asked (polls_it asks some needs) old =
      subst (λ (a : Asked). New a (Applying at done part)) (sym asks)
      (applied at done part batch.called (record { answer = old.step.0.answer; reported = old.step.0.reported; events = old.step.0.events; counted = old.step.0.counted }) old.map old.step.1 (old.step.2 (requests.Do statement) some) answer refl)

  -- ... and stays at its step
  stays : (at : Batch) (done : ℕ) (part : Part) (statement : Statement) (asked : Asked) → AsksNext journal (record applier { step = Applying at done part }) waits (requests.Do statement) asked → Old (Applying at done part)
      → ApplierAt plan more (batch_after Apply asked answer batch) now_waits (record applier { step = Applying at done part })
  unfolding next planned
  stays at done part statement asked (calls_it asks call) old =
      subst (λ (a : Asked). ApplierAt plan more (batch_after Apply a answer batch) now_waits (record applier { step = Applying at done part })) (sym asks)
      (again at done part (statement ∷ batch.called) (record { answer = old.step.0.answer; reported = old.step.0.reported; events = old.step.0.events; counted = old.step.0.counted }) old.map (put_more plan all batch.called statement done old.step.1)
      (λ row is. inl (puts at done part statement (record { answer = old.step.0.answer; reported = old.step.0.reported; events = old.step.0.events; counted = old.step.0.counted }) old.map call row is)) part)
  stays at done part statement asked (polls_it asks some needs) old =
      subst (λ (a : Asked). ApplierAt plan more (batch_after Apply a answer batch) now_waits (record applier { step = Applying at done part })) (sym asks)
      (again at done part batch.called (record { answer = old.step.0.answer; reported = old.step.0.reported; events = old.step.0.events; counted = old.step.0.counted }) old.map old.step.1 (old.step.2 (requests.Do statement) some) part)

  -- THE COMMIT

  committing : (at : Batch) (one : Answer) → Old (Committing at) → ApplierAt plan more batch now_waits (took turn (record applier { step = Committing at }) one)
  unfolding took
  committing at answers.Lost old = reads_again batch old.map
  committing at (answers.TimedOut waited) old = reads_again batch old.map
  committing at (answers.Ok count) old = record { map = old.map; step = tt }
  committing at one old = record { map = old.map; step = old.step }

  by_step : (step : ApplyStep) (request : Request) (asked : Asked) → AsksNext journal (record applier { step = step }) waits request asked → applier_asks step request ≡ true → Old step → New asked step
  by_step Reading (requests.ReadLog position limit tables) asked (calls_it asks call) kind old = subst (λ (a : Asked). New a Reading) (sym asks) (reading position limit tables answer refl old)
  by_step (Beginning at) requests.Begin asked (calls_it asks call) kind old = subst (λ (a : Asked). New a (Beginning at)) (sym asks) (beginning at answer refl old)
  by_step (Applying at done part) (requests.Do statement) asked asks kind old = applying at done part statement asked asks old
  by_step (Committing at) requests.Commit asked (calls_it asks call) kind old = subst (λ (a : Asked). New a (Committing at)) (sym asks) (committing at answer old)
  by_step Reading (requests.ReadLog position limit tables) asked (polls_it asks some needs) kind old = absurd (false≢true needs)
  by_step (Beginning at) requests.Begin asked (polls_it asks some needs) kind old = absurd (false≢true needs)
  by_step (Committing at) requests.Commit asked (polls_it asks some needs) kind old = absurd (false≢true needs)
  by_step step request asked asks kind old = absurd (false≢true kind)

  -- *What the applier took*
  pub took_batch : (request : Request) (asked : Asked) → AsksNext journal applier waits request asked → applier_asks applier.step request ≡ true → ApplierAt plan journal batch waits applier → ApplierAt plan more (batch_after Apply asked answer batch) now_waits (took turn applier answer)
  took_batch request asked asks kind old = by_step applier.step request asked asks kind old

  -- *A row that doesn't fit* leaves the applier
  pub unfit_batch : (request : Request) (asked : Asked) (place number : ℕ) → AsksNext journal applier waits request asked → applier_asks applier.step request ≡ true → progress applier answer ≡ Unfit place number → ApplierAt plan journal batch waits applier
      → ApplierAt plan more (batch_after Apply asked answer batch) now_waits applier
  unfolding progress
  unfit_batch request asked place number asks kind unfit old = by applier.step request asks kind (fits applier.step answer unfit) old where
    none : (statements : ℕ) → nothing_planned statements ≡ Unfit place number → ⊥
    none statements e = at (statements == 0) e where
      at : (b : Bool) → cond b TaskDone Going ≡ Unfit place number → ⊥
      at true e = cc
      at false e = cc

    IsApplying : ApplyStep → Type 0
    IsApplying (Applying at done part) = Unit {0}
    IsApplying step = ⊥

    fits : (step : ApplyStep) (one : Answer) → progress_at applier step one ≡ Unfit place number → IsApplying step
    fits (Applying at done part) (answers.Refused error (Some column)) unfit = tt
    fits Reading (answers.Events events next) unfit = absurd (none (length (planned applier events)) unfit)
    fits step answers.Lost unfit = absurd cc
    fits step (answers.TimedOut waited) unfit = absurd cc
    fits step one unfit = absurd cc

    by : (step : ApplyStep) (request : Request) → AsksNext journal (record applier { step = step }) waits request asked → applier_asks step request ≡ true → IsApplying step → Old step → ApplierAt plan more (batch_after Apply asked answer batch) now_waits (record applier { step = step })
    by (Applying at done part) (requests.Do statement) asks kind is old = stays at done part statement asked asks old
    by (Applying at done part) request asks kind is old = absurd (false≢true kind)
    by step request asks kind is old = absurd is

-- WHAT IT CALLS

-- a row that is planned to be put
record IsPlanned (all : List Doing) (row : List Value) : Type 0 where
  place : ℕ
  is : slice_get all place ≡ Some (Putting row)

-- a place behind these
abbrev after : List Doing → ℕ → ℕ
after [] i = i
after (x ∷ xs) i = suc (after xs i)

slice_after : (xs ys : List Doing) (i : ℕ) → slice_get (xs ++ ys) (after xs i) ≡ slice_get ys i
slice_after [] ys i = refl
slice_after (x ∷ xs) ys i = slice_after xs ys i

module _ (schema : Schema) (map : List MapColumn) (table : List ℕ) (row : List Value) where
  abbrev doing_of : RowEvent → List Doing
  doing_of event = doings schema map event.change

  abbrev written : RowEvent
  written = record { table = table; change = Write row }

  here_planned : (events : List RowEvent) → IsPlanned (flat_map doing_of (events_of table (written ∷ events))) row
  here_planned events = by (bytes_eq table table) (same_bytes table) where
    by : (b : Bool) → b ≡ true → IsPlanned (flat_map doing_of (cond b (written ∷ events_of table events) (events_of table events))) row
    by true own = record { place = zero; is = refl }
    by false other = absurd (false≢true other)

  later_planned : (event : RowEvent) (events : List RowEvent) → IsPlanned (flat_map doing_of (events_of table events)) row → IsPlanned (flat_map doing_of (events_of table (event ∷ events))) row
  later_planned event events later = by (bytes_eq event.table table) where
    by : (b : Bool) → IsPlanned (flat_map doing_of (cond b (event ∷ events_of table events) (events_of table events))) row
    by true = record { place = after (doing_of event) later.place; is = slice_after (doing_of event) (flat_map doing_of (events_of table events)) later.place ∙ later.is }
    by false = later

  -- *A WRITE of the table is planned as a REPLACE*
  is_planned : (events : List RowEvent) → IsAmong written events → IsPlanned (flat_map doing_of (events_of table events)) row
  is_planned [] among = absurd among
  is_planned (event ∷ events) (inl same) = subst (λ (e : RowEvent). IsPlanned (flat_map doing_of (events_of table (e ∷ events))) row) (sym same) (here_planned events)
  is_planned (event ∷ events) (inr later) = later_planned event events (is_planned events later)

module _ (plan : PlanData) (journal : List Entry) (applier : Applier) (own : applier.table ≡ plan.table) where
  abbrev Applied : Request → Type 0
  Applied request = IsAppliedCall plan journal Apply request

  inserts_put : AllPut plan (planned applier (batch_at journal).events) (batch_at journal).called → InsertsArePut plan (batch_at journal)
  unfolding planned
  inserts_put all row among =
      let there : IsPlanned (planned applier (batch_at journal).events) row = is_planned applier.new_schema applier.map applier.table row (batch_at journal).events
      (subst (λ (t : List ℕ). IsAmong (record { table = t; change = Write row }) (batch_at journal).events) (sym own) among) in
      all there.place row there.is

  -- no statement of its is an INSERT
  no_insert : (doing : Doing) (statement : Statement) → requests.Do (statement_of applier doing) ≡ requests.Do statement → Applied (requests.Do statement)
  no_insert doing statement same = subst Applied same (by doing) where
    by : (doing : Doing) → Applied (requests.Do (statement_of applier doing))
    by (Putting row) = tt
    by (Removing row) = tt
    by (Changing before after) = tt

  -- *Its calls come so*
  pub applier_applies : (waits : Option Request) (request : Request) → ApplierAt plan journal (batch_at journal) waits applier → request ≡ next journal applier → applier_asks applier.step request ≡ true → Applied request
  unfolding next
  applier_applies waits request is call kind = by applier.step request is.step call kind where
    by : (step : ApplyStep) (request : Request) → StepAt plan journal (batch_at journal) waits applier step → request ≡ call_at journal applier step → applier_asks step request ≡ true → Applied request
    by Reading (requests.ReadLog position limit tables) is call kind = tt
    by (Beginning at) requests.Begin is call kind = tt
    by (Applying at done part) (requests.Do statement) is call kind = at_doing (doing_at journal applier (Applying at done part)) (sym call) where
      at_doing : (doing : Option Doing) → statement_result applier doing ≡ requests.Do statement → Applied (requests.Do statement)
      at_doing None same = absurd cc
      at_doing (Some doing) same = no_insert doing statement same
    by (Committing at) requests.Commit is call kind = inserts_put is
    by step request is call kind = absurd (false≢true kind)
