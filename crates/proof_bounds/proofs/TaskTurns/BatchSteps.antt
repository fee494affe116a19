-- The steps of a try of a batch: how many turns they come to, and what each answer to the applier leaves of them.
use Rattle.std.proofs.Common.{◌≡◌, ◌⊎◌, inl, inr, ◌≤◌, ◌<◌, ℕ, ◌+◌, ◌*◌, ◌==◌, Bool, true, false, cond, List, [], ◌++◌, length, take, Option, Some, None, refl, sym, ap, subst, arith, mul-le-mul_right}
use Rattle.std.specs.Prelude.{get_or}
use Rattle.std.specs.List.{slice_get}
use Rattle.std.proofs.lemmas.Bool.Decides.{nat_tests}
use Rattle.std.proofs.lemmas.List.Sums.{sum_by-take-le, sum_by_more}
use Rattle.std.proofs.lemmas.Option.{slice_get-get_or}
use Rattle.base_values.specs.declared.event.RowEvent.{RowEvent}
use Rattle.base_values.specs.declared.mysql_errors.TheConstants.{ER_DUP_ENTRY}
use Rattle.server_model.specs.declared.answer.Answer.{Answer}
use Rattle.server_model.specs.declared.answer.Answer.TheVariants as answers
use Rattle.server_model.specs.declared.outcome.Progress.{Progress}
use Rattle.server_model.specs.declared.outcome.Progress.TheVariants.{Going, TaskDone, TaskFailed, Unfit}
use Rattle.tool_program.specs.declared.event_applier.applier.Applier.{Applier}
use Rattle.tool_program.specs.declared.event_applier.applier.ApplyStep.{ApplyStep}
use Rattle.tool_program.specs.declared.event_applier.applier.ApplyStep.TheVariants.{Reading, Beginning, Applying, Committing}
use Rattle.tool_program.specs.declared.event_applier.applier.Batch.{Batch}
use Rattle.tool_program.specs.declared.event_applier.applier.Part.{Part}
use Rattle.tool_program.specs.declared.event_applier.applier.Part.TheVariants.{Whole, Removal, Return}
use Rattle.tool_program.specs.EventApplier.Appliers.{Doing, Putting, Removing, Changing, after_part, after_refusal, after_statements, moved, nothing_planned, planned, progress, read_batch, batch_of, took}
use Rattle.proof_bounds.specs.TaskTurns.Answers.{BatchAnswer, IsChange, IsClash, Passes, doing_turns, doings_turns, left_at}
use Rattle.proof_bounds.proofs.TaskTurns.Logs.{grows_least, grows_paid, grows_passes}
use Rattle.proof_bounds.proofs.TaskTurns.Paying.{IsClosed, IsPaid, closes, done_paid, failed_paid, next_paid, one_more, still_paid}

-- THE STEPS OF A TRY

-- the parts of an UPDATE before this one
abbrev pub part_turns : Part → ℕ
part_turns Whole = 0
part_turns Removal = 1
part_turns Return = 2

-- so many turns the steps before this one come to, where a statement with its wait takes so many, and a batch so many statements
abbrev pub step_turns : ℕ → ℕ → List Doing → ApplyStep → ℕ
step_turns most each doings Reading = 0
step_turns most each doings (Beginning batch) = 1
step_turns most each doings (Applying batch done part) = 2 + (doings_turns (take done doings) + part_turns part) * each
step_turns most each doings (Committing batch) = 2 + most * each

-- and the call of this step
abbrev pub call_turns : ℕ → ApplyStep → ℕ
call_turns each Reading = 1
call_turns each (Beginning batch) = 1
call_turns each (Applying batch done part) = each
call_turns each (Committing batch) = 1

-- what goes in parts is an UPDATE
abbrev pub PartFits : Part → Option Doing → Type 0
PartFits Whole doing = Unit {0}
PartFits part doing = IsChange doing

-- the batch that was read passes some event, and so many statements come of it at most
pub record BatchFits (most : ℕ) (table : List ℕ) (log : List RowEvent) (position : ℕ) (doings : List Doing) (batch : Batch) : Type 0 where
  pub passes : Passes table log position batch.next
  pub few : doings_turns doings ≤ most
  pub counted : batch.statements ≡ length doings

abbrev pub StepFits : ℕ → List ℕ → List RowEvent → ℕ → List Doing → ApplyStep → Type 0
StepFits most table log position doings Reading = Unit {0}
StepFits most table log position doings (Beginning batch) = BatchFits most table log position doings batch × (0 < batch.statements)
StepFits most table log position doings (Applying batch done part) = BatchFits most table log position doings batch × (done < batch.statements) × PartFits part (slice_get doings done)
StepFits most table log position doings (Committing batch) = Passes table log position batch.next

-- only statements wait
abbrev pub RestsAt : ℕ → ApplyStep → Type 0
RestsAt waited (Applying batch done part) = Unit {0}
RestsAt waited step = waited ≡ 0

-- a try that has begun is one more than those that failed
abbrev pub HasTry : ℕ → ℕ → ApplyStep → Type 0
HasTry bound tries Reading = tries ≤ bound
HasTry bound tries step = tries < bound

-- an event of the batch isn't read yet, where a try has begun or failed
abbrev pub HasEvent : ℕ → ℕ → ApplyStep → Type 0
HasEvent left tries Reading = (tries ≡ 0) ⊎ (1 ≤ left)
HasEvent left tries step = 1 ≤ left

-- what is planned is done within its turns
part_less : (doing : Doing) (part : Part) → PartFits part (Some doing) → part_turns part + 1 ≤ doing_turns doing
part_less (Putting row) Whole fits = omega arith
part_less (Removing row) Whole fits = omega arith
part_less (Changing before after) Whole fits = omega arith
part_less (Changing before after) Removal fits = omega arith
part_less (Changing before after) Return fits = omega arith
part_less (Putting row) Removal fits = absurd fits
part_less (Removing row) Removal fits = absurd fits
part_less (Putting row) Return fits = absurd fits
part_less (Removing row) Return fits = absurd fits

next_more : (doings : List Doing) (done : ℕ) (part : Part) → done < length doings → PartFits part (slice_get doings done) → doings_turns (take done doings) + part_turns part + 1 ≤ doings_turns (take (done + 1) doings)
next_more doings done part less fits =
    let here = slice_get-get_or doings done (Removing []) less in
    let more = sum_by_more doing_turns doings done (Removing []) less in
    let one = part_less (get_or doings done (Removing [])) part (subst (PartFits part) here fits) in
    omega (arith, more, one)

done_most : (doings : List Doing) (done : ℕ) (part : Part) (most : ℕ) → done < length doings → PartFits part (slice_get doings done) → doings_turns doings ≤ most → doings_turns (take done doings) + part_turns part + 1 ≤ most
done_most doings done part most less fits few =
    let more = next_more doings done part less fits in
    let all = sum_by-take-le doing_turns doings (done + 1) in
    omega (arith, more, all, few)

times_less : (n m each : ℕ) → n + 1 ≤ m → n * each + each ≤ m * each
times_less n m each less = let product = one_more n each in let times : (n + 1) * each ≤ m * each = mul-le-mul_right each less in omega (arith, product, times)

applies_less : (n most each : ℕ) → n + 1 ≤ most → 2 + n * each + each ≤ most * each + 3
applies_less n most each less = let times = times_less n most each less in omega (arith, times)

within_batch : (done statements size : ℕ) → done < statements → statements ≡ size → done < size
within_batch done statements size less same = omega (arith, less, same)

step_fits : (most each : ℕ) (table : List ℕ) (log : List RowEvent) (position : ℕ) (doings : List Doing) (step : ApplyStep) → StepFits most table log position doings step → step_turns most each doings step + call_turns each step ≤ most * each + 3
step_fits most each table log position doings Reading fits = omega arith
step_fits most each table log position doings (Beginning batch) fits = omega arith
step_fits most each table log position doings (Applying batch done part) fits =
    applies_less (doings_turns (take done doings) + part_turns part) most each (done_most doings done part most (within_batch done batch.statements (length doings) fits.1 fits.0.counted) fits.2 fits.0.few)
step_fits most each table log position doings (Committing batch) fits = omega arith

call_less : (each waited : ℕ) (step : ApplyStep) → waited + 1 ≤ each → RestsAt waited step → waited + 1 ≤ call_turns each step
call_less each waited Reading short rests = omega (arith, rests)
call_less each waited (Beginning batch) short rests = omega (arith, rests)
call_less each waited (Applying batch done part) short rests = short
call_less each waited (Committing batch) short rests = omega (arith, rests)

-- THE APPLIER

-- the statements that it plans for events
abbrev pub plans_of : Applier → List RowEvent → List Doing
plans_of applier = λ (events : List RowEvent). planned applier events

-- what is planned after an answer
abbrev pub next_doings : (List RowEvent → List Doing) → ApplyStep → Answer → List Doing → List Doing
next_doings plans Reading (answers.Events events next) doings = plans events
next_doings plans step answer doings = doings

module _ (most each bound limit : ℕ) (table : List ℕ) where
  -- the turns of one try, and of all
  abbrev pub try : ℕ
  try = most * each + 3

  abbrev pub task : ℕ
  task = bound * try

  -- the applier, while nothing is reverted and the RENAME isn't done
  pub record IsOpen (log : List RowEvent) (turns waited position tries : ℕ) (doings : List Doing) (step : ApplyStep) : Type 0 where
    pub begins : HasTry bound tries step
    pub fits : StepFits most table log position doings step
    pub rests : RestsAt waited step
    pub some : HasEvent (left_at table log position) tries step
    pub paid : IsPaid turns (left_at table log position * task) (left_at table log 0 * task) tries try (step_turns most each doings step) waited

  some_task : (left : ℕ) → 1 ≤ left → task ≤ left * task
  some_task left some = let times : 1 * task ≤ left * task = mul-le-mul_right task some in let once = once_is task in omega (arith, times, once) where
    once_is : (n : ℕ) → 1 * n ≡ n
    once_is n = grind arith

  -- no more is called
  module _ (log : List RowEvent) (turns waited position tries : ℕ) (doings : List Doing) (short : waited + 1 ≤ each) (within : left_at table log 0 * task ≤ limit) where
    fits_limit : IsClosed turns (left_at table log 0 * task) waited each → IsClosed turns limit waited each
    fits_limit is = record { within = let less = is.within in omega (arith, less, within); waits = λ on. let less = is.waits on in omega (arith, less, within) }

    call_closes : (step : ApplyStep) → 1 ≤ left_at table log position → tries < bound → (call_turns each step ≡ each) ⊎ (waited ≡ 0) → IsOpen log turns waited position tries doings step → IsClosed turns limit waited each
    call_closes step some few kind is =
        fits_limit
        (closes turns (left_at table log position * task) (left_at table log 0 * task) tries bound try (step_turns most each doings step) waited (call_turns each step) each (some_task (left_at table log position) some) few
        (step_fits most each table log position doings step is.fits) (call_less each waited step short is.rests) kind is.paid)

    rest_closes : IsOpen log turns waited position tries doings Reading → IsClosed turns limit waited each
    rest_closes is = fits_limit (record { within = by is.some; waits = λ on. absurd (no waited is.rests on) }) where
      no : (n : ℕ) → n ≡ 0 → 1 ≤ n → ⊥
      no n none some = omega (arith, none, some)

      tried : (tries : ℕ) → tries ≤ bound → tries * try ≤ task
      tried tries less = mul-le-mul_right try less

      none_tried : (tries : ℕ) → tries ≡ 0 → tries * try ≡ 0
      none_tried tries none = grind (arith, none)

      by : (tries ≡ 0) ⊎ (1 ≤ left_at table log position) → turns ≤ left_at table log 0 * task
      by (inl none) = let paid = is.paid in let rests = is.rests in let zero_tries = none_tried tries none in omega (arith, paid, rests, zero_tries)
      by (inr some) = let paid = is.paid in let rests = is.rests in let less = tried tries is.begins in let one = some_task (left_at table log position) some in omega (arith, paid, rests, less, one)

    pub open_closes : (step : ApplyStep) → IsOpen log turns waited position tries doings step → IsClosed turns limit waited each
    open_closes Reading is = rest_closes is
    open_closes (Beginning batch) is = call_closes (Beginning batch) is.some is.begins (inr is.rests) is
    open_closes (Applying batch done part) is = call_closes (Applying batch done part) is.some is.begins (inl refl) is
    open_closes (Committing batch) is = call_closes (Committing batch) is.some is.begins (inr is.rests) is

  -- THE LOG GROWS

  grows_batch : (log events : List RowEvent) (position : ℕ) (doings : List Doing) (batch : Batch) → BatchFits most table log position doings batch → BatchFits most table (log ++ events) position doings batch
  grows_batch log events position doings batch is = record { passes = grows_passes table log events position batch.next is.passes; few = is.few; counted = is.counted }

  grows_step : (log events : List RowEvent) (position : ℕ) (doings : List Doing) (step : ApplyStep) → StepFits most table log position doings step → StepFits most table (log ++ events) position doings step
  grows_step log events position doings Reading is = tt
  grows_step log events position doings (Beginning batch) is = (grows_batch log events position doings batch is.0, is.1)
  grows_step log events position doings (Applying batch done part) is = (grows_batch log events position doings batch is.0, is.1, is.2)
  grows_step log events position doings (Committing batch) is = grows_passes table log events position batch.next is

  more_left : (left later : ℕ) → left ≤ later → 1 ≤ left → 1 ≤ later
  more_left left later less some = omega (arith, less, some)

  grows_some : (left later tries : ℕ) (step : ApplyStep) → left ≤ later → HasEvent left tries step → HasEvent later tries step
  grows_some left later tries Reading less (inl none) = inl none
  grows_some left later tries Reading less (inr some) = inr (more_left left later less some)
  grows_some left later tries (Beginning batch) less some = more_left left later less some
  grows_some left later tries (Applying batch done part) less some = more_left left later less some
  grows_some left later tries (Committing batch) less some = more_left left later less some

  pub open_grows : (log events : List RowEvent) (turns waited position tries : ℕ) (doings : List Doing) (step : ApplyStep) → IsOpen log turns waited position tries doings step → IsOpen (log ++ events) turns waited position tries doings step
  open_grows log events turns waited position tries doings step is = record {
    begins = is.begins;
    fits = grows_step log events position doings step is.fits;
    rests = is.rests;
    some = grows_some (left_at table log position) (left_at table (log ++ events) position) tries step (grows_least table log events position) is.some;
    paid = grows_paid table log events turns task tries try (step_turns most each doings step) waited position is.paid;
  }

  -- WHAT AN ANSWER LEAVES

  -- of the applier after it, by what the answer means for the batch
  abbrev pub Leaves : List RowEvent → ℕ → ℕ → ℕ → List Doing → Applier → Progress → Type 0
  Leaves log more now tries doings after Going = IsOpen log more now after.position tries doings after.step
  Leaves log more now tries doings after TaskDone = IsOpen log more now after.position 0 doings after.step
  Leaves log more now tries doings after TaskFailed = IsOpen log more now after.position (tries + 1) doings after.step
  Leaves log more now tries doings after (Unfit place code) = IsClosed more limit now each

  module _ (turn : ℕ) (applier : Applier) (log : List RowEvent) (turns more waited now tries : ℕ) (doings : List Doing) (one : more ≤ turns + 1) (short : waited + 1 ≤ each) (short_now : now + 1 ≤ each) (few : tries < bound) (some : 1 ≤ left_at table log applier.position)
      (within : left_at table log 0 * task ≤ limit) where
    abbrev At : ApplyStep → Type 0
    At step = IsOpen log turns waited applier.position tries doings step

    abbrev gone : ℕ
    gone = left_at table log applier.position * task

    abbrev all : ℕ
    all = left_at table log 0 * task

    still : (step : ApplyStep) → now ≡ waited + 1 → At step → RestsAt now step → IsOpen log more now applier.position tries doings step
    still step waits is rests = record {
      begins = is.begins;
      fits = is.fits;
      rests = rests;
      some = is.some;
      paid = subst (IsPaid more gone all tries try (step_turns most each doings step)) (sym waits) (still_paid turns more gone all tries try (step_turns most each doings step) waited one is.paid);
    }

    next : (later : List Doing) (step after : ApplyStep) → now ≡ 0 → At step → step_turns most each doings step + call_turns each step ≤ step_turns most each later after → HasTry bound tries after → StepFits most table log applier.position later after → RestsAt now after
        → HasEvent (left_at table log applier.position) tries after → IsOpen log more now applier.position tries later after
    next later step after ended is on begins fits rests event = record {
      begins = begins;
      fits = fits;
      rests = rests;
      some = event;
      paid =
          subst (IsPaid more gone all tries try (step_turns most each later after)) (sym ended)
          (next_paid turns more gone all tries try (step_turns most each doings step) waited (call_turns each step) (step_turns most each later after) one (call_less each waited step short is.rests) on is.paid);
    }

    -- the batch is done: its events were read
    done : (step : ApplyStep) (next : ℕ) (later : List Doing) → now ≡ 0 → At step → Passes table log applier.position next → IsOpen log more now next 0 later Reading
    done step next later ended is passes = record {
      begins = omega arith;
      fits = tt;
      rests = ended;
      some = inl refl;
      paid = subst (IsPaid more (left_at table log next * task) all 0 try 0) (sym ended) whole;
    } where
      spent : more + gone ≤ all + task
      spent =
          done_paid turns more gone all tries bound try (step_turns most each doings step) waited (call_turns each step) one (call_less each waited step short is.rests) (step_fits most each table log applier.position doings step is.fits) few is.paid

      fewer : left_at table log next * task + task ≤ gone
      fewer = times_less (left_at table log next) (left_at table log applier.position) task passes.fewer

      join : (more left gone all task : ℕ) → more + gone ≤ all + task → left + task ≤ gone → more + left ≤ all + 0 * try + 0 + 0
      join more left gone all task spent fewer = grind (arith, spent, fewer)

      whole : more + left_at table log next * task ≤ all + 0 * try + 0 + 0
      whole = join more (left_at table log next * task) gone all task spent fewer

    fail : (step : ApplyStep) → now ≡ 0 → At step → IsOpen log more now applier.position (tries + 1) doings Reading
    fail step ended is = record {
      begins = omega (arith, few);
      fits = tt;
      rests = ended;
      some = inr some;
      paid =
          subst (IsPaid more gone all (tries + 1) try 0) (sym ended)
          (failed_paid turns more gone all tries try (step_turns most each doings step) waited (call_turns each step) one (call_less each waited step short is.rests) (step_fits most each table log applier.position doings step is.fits) is.paid);
    }

    -- nothing is planned for what was read, or a transaction begins
    reads : (later : List Doing) (batch : Batch) → now ≡ 0 → At Reading → Passes table log applier.position batch.next → doings_turns later ≤ most → batch.statements ≡ length later
        → Leaves log more now tries later (read_batch (record applier { step = Reading }) batch) (nothing_planned batch.statements)
    reads later batch ended is passes fewest counted = by (batch.statements == 0) refl where
      nonzero : (n : ℕ) → (n == 0) ≡ false → 0 < n
      nonzero n other = grind (arith, nat_tests)

      by : (b : Bool) → (batch.statements == 0) ≡ b → Leaves log more now tries later (cond b (moved (record applier { step = Reading }) batch) (record applier { step = Beginning batch })) (cond b TaskDone Going)
      by true none = done Reading batch.next later ended is passes
      by false other = next later Reading (Beginning batch) ended is (omega arith) few (record { passes = passes; few = fewest; counted = counted }, nonzero batch.statements other) ended some

    begins_statements : (batch : Batch) → now ≡ 0 → At (Beginning batch) → IsOpen log more now applier.position tries doings (Applying batch 0 Whole)
    begins_statements batch ended is = next doings (Beginning batch) (Applying batch 0 Whole) ended is (two_at_least (doings_turns (take 0 doings) + 0) each) few (is.fits.0, is.fits.1, tt) tt some where
      two_at_least : (n each : ℕ) → 1 + 1 ≤ 2 + n * each
      two_at_least n each = omega arith

    -- a statement is done
    module _ (batch : Batch) (count : ℕ) (part : Part) (ended : now ≡ 0) (is : At (Applying batch count part)) where
      here : count < length doings
      here = within_batch count batch.statements (length doings) is.fits.1 is.fits.0.counted

      each_more : (a p b : ℕ) → a + p + 1 ≤ b → 2 + (a + p) * each + each ≤ 2 + b * each
      each_more a p b less = let times = times_less (a + p) b each less in omega (arith, times)

      one_after : (b : ℕ) → 2 + (b + 0) * each ≡ 2 + b * each
      one_after b = grind arith

      statements : IsOpen log more now applier.position tries doings (after_statements batch (count + 1))
      statements = by (count + 1 == batch.statements) refl where
        after_all : 2 + (doings_turns (take count doings) + part_turns part) * each + each ≤ 2 + most * each
        after_all = each_more (doings_turns (take count doings)) (part_turns part) most (done_most doings count part most here is.fits.2 is.fits.0.few)

        after_one : 2 + (doings_turns (take count doings) + part_turns part) * each + each ≤ 2 + (doings_turns (take (count + 1) doings) + 0) * each
        after_one =
            subst (λ (n : ℕ). 2 + (doings_turns (take count doings) + part_turns part) * each + each ≤ n) (sym (one_after (doings_turns (take (count + 1) doings))))
            (each_more (doings_turns (take count doings)) (part_turns part) (doings_turns (take (count + 1) doings)) (next_more doings count part here is.fits.2))

        left : (n k : ℕ) → n < k → (n + 1 == k) ≡ false → n + 1 < k
        left n k less other = grind (arith, nat_tests, less, other)

        by : (b : Bool) → (count + 1 == batch.statements) ≡ b → IsOpen log more now applier.position tries doings (cond b (Committing batch) (Applying batch (count + 1) Whole))
        by true all_done = next doings (Applying batch count part) (Committing batch) ended is after_all few is.fits.0.passes ended some
        by false other = next doings (Applying batch count part) (Applying batch (count + 1) Whole) ended is after_one few (is.fits.0, left count batch.statements is.fits.1 other, tt) tt some

      -- the next part of an UPDATE
      goes_on : (after : Part) → part_turns part + 1 ≤ part_turns after → PartFits after (slice_get doings count) → IsOpen log more now applier.position tries doings (Applying batch count after)
      goes_on after less fits = next doings (Applying batch count part) (Applying batch count after) ended is (later (doings_turns (take count doings)) (part_turns part) (part_turns after) less) few (is.fits.0, is.fits.1, fits) tt some where
        later : (a p q : ℕ) → p + 1 ≤ q → 2 + (a + p) * each + each ≤ 2 + (a + q) * each
        later a p q less = each_more a p (a + q) (omega (arith, less))

      unfit : IsClosed more limit now each
      unfit = subst (λ (w : ℕ). IsClosed more limit w each) (sym ended) (record { within = whole; waits = λ on. absurd (no on) }) where
        no : 1 ≤ 0 → ⊥
        no some = omega (arith, some)

        spent : more + gone ≤ all + task
        spent =
            done_paid turns more gone all tries bound try (step_turns most each doings (Applying batch count part)) waited each one short (step_fits most each table log applier.position doings (Applying batch count part) is.fits) few is.paid

        join : (a b c d e : ℕ) → a + b ≤ c + d → d ≤ b → c ≤ e → a ≤ e
        join a b c d e paid less most = omega (arith, paid, less, most)

        whole : more ≤ limit
        whole = join more gone all task limit spent (some_task (left_at table log applier.position) some) within

    done_part : (batch : Batch) (count : ℕ) (part : Part) → now ≡ 0 → At (Applying batch count part) → IsOpen log more now applier.position tries doings (after_part batch count part)
    done_part batch count Whole ended is = statements batch count Whole ended is
    done_part batch count Removal ended is = goes_on batch count Removal ended is Return (omega arith) is.fits.2
    done_part batch count Return ended is = statements batch count Return ended is

    refused : (batch : Batch) (count : ℕ) (part : Part) (number : ℕ) → now ≡ 0 → At (Applying batch count part) → IsClash part (slice_get doings count) number → IsOpen log more now applier.position tries doings (after_refusal batch count part number)
    refused batch count Whole number ended is clash = subst (λ (b : Bool). IsOpen log more now applier.position tries doings (cond b (Applying batch count Removal) (Applying batch count Whole))) (sym (same number clash.0)) (goes_on batch count Whole ended is Removal (omega arith) clash.1) where
      same : (n : ℕ) → n ≡ ER_DUP_ENTRY → (n == ER_DUP_ENTRY) ≡ true
      same n is = ap (λ (k : ℕ). k == ER_DUP_ENTRY) is
    refused batch count Removal number ended is clash = absurd clash
    refused batch count Return number ended is clash = absurd clash

    -- *What an answer leaves*
    pub heard_leaves : (step : ApplyStep) (answer : Answer) → At step → BatchAnswer most table log applier.position (plans_of applier) doings step answer → ((by : ℕ) → answer ≡ answers.Waits by → now ≡ waited + 1) → (((by : ℕ) → answer ≡ answers.Waits by → ⊥) → now ≡ 0)
        → Leaves log more now tries (next_doings (plans_of applier) step answer doings) (took turn (record applier { step = step }) answer) (progress (record applier { step = step }) answer)
    unfolding took progress planned
    heard_leaves Reading (answers.Events events following) is goes waits ends = reads (planned applier events) (batch_of turn (record applier { step = Reading }) events following) (ends (λ by same. cc)) is goes.0 goes.1 refl
    heard_leaves (Beginning batch) (answers.Ok count) is goes waits ends = begins_statements batch (ends (λ by same. cc)) is
    heard_leaves (Applying batch count part) (answers.Ok changed) is goes waits ends = done_part batch count part (ends (λ by same. cc)) is
    heard_leaves (Applying batch count part) (answers.Waits other) is goes waits ends = still (Applying batch count part) (waits other refl) is tt
    heard_leaves (Applying batch count part) (answers.Refused number (Some place)) is goes waits ends = unfit batch count part (ends (λ by same. cc)) is
    heard_leaves (Applying batch count part) (answers.Refused number None) is goes waits ends = refused batch count part number (ends (λ by same. cc)) is goes
    heard_leaves (Committing batch) (answers.Ok count) is goes waits ends = done (Committing batch) batch.next doings (ends (λ by same. cc)) is is.fits
    heard_leaves Reading answers.Lost is goes waits ends = fail Reading (ends (λ by same. cc)) is
    heard_leaves (Beginning batch) answers.Lost is goes waits ends = fail (Beginning batch) (ends (λ by same. cc)) is
    heard_leaves (Applying batch count part) answers.Lost is goes waits ends = fail (Applying batch count part) (ends (λ by same. cc)) is
    heard_leaves (Committing batch) answers.Lost is goes waits ends = fail (Committing batch) (ends (λ by same. cc)) is
    heard_leaves Reading (answers.TimedOut n) is goes waits ends = fail Reading (ends (λ by same. cc)) is
    heard_leaves (Beginning batch) (answers.TimedOut n) is goes waits ends = fail (Beginning batch) (ends (λ by same. cc)) is
    heard_leaves (Applying batch count part) (answers.TimedOut n) is goes waits ends = fail (Applying batch count part) (ends (λ by same. cc)) is
    heard_leaves (Committing batch) (answers.TimedOut n) is goes waits ends = fail (Committing batch) (ends (λ by same. cc)) is
    heard_leaves step answer is goes waits ends = absurd goes
