-- The steps of a try of a chunk: how many turns they come to, and what each answer to the copier leaves of them.
use Rattle.std.proofs.Common.{◌≡◌, inl, inr, ◌≤◌, ◌<◌, ℕ, ◌+◌, ◌*◌, ◌==◌, Bool, true, false, cond, Some, refl, sym, subst, arith, mul-le-mul_right}
use Rattle.std.proofs.lemmas.Bool.Decides.{nat_tests}
use Rattle.server_model.specs.declared.answer.Answer.{Answer}
use Rattle.server_model.specs.declared.answer.Answer.TheVariants as answers
use Rattle.server_model.specs.declared.outcome.Progress.{Progress}
use Rattle.server_model.specs.declared.outcome.Progress.TheVariants.{Going, TaskDone, TaskFailed, Unfit}
use Rattle.tool_program.specs.JournalWords.Bounds.{keys}
use Rattle.tool_program.specs.declared.chunk_copier.copier.Chunk.{Chunk}
use Rattle.tool_program.specs.declared.chunk_copier.copier.Copier.{Copier}
use Rattle.tool_program.specs.declared.chunk_copier.copier.CopyStep.{CopyStep}
use Rattle.tool_program.specs.declared.chunk_copier.copier.CopyStep.TheVariants.{Choosing, Spanning, Copying, Committing}
use Rattle.tool_program.specs.ChunkCopier.Copiers.{begun, after_copies, took, progress}
use Rattle.proof_bounds.specs.TaskTurns.Answers.{ChunkAnswer}
use Rattle.proof_bounds.proofs.TaskTurns.Paying.{IsClosed, IsPaid, closes, done_paid, failed_paid, next_paid, one_more, rests_closed, still_paid}

-- THE STEPS OF A TRY

-- so many turns the steps before this one come to, where each call that may wait takes so many
abbrev pub step_turns : ℕ → CopyStep → ℕ
step_turns each Choosing = 0
step_turns each (Spanning reported size) = 1
step_turns each (Copying chunk copied) = 1 + each + copied * each
step_turns each (Committing chunk) = 1 + each + chunk.keys * each

-- and the call of this step
abbrev pub call_turns : ℕ → CopyStep → ℕ
call_turns each Choosing = 1
call_turns each (Spanning reported size) = each
call_turns each (Copying chunk copied) = each
call_turns each (Committing chunk) = 1

-- a chunk has so many keys at most, and in a copy some are left
abbrev pub StepFits : ℕ → CopyStep → Type 0
StepFits most Choosing = Unit {0}
StepFits most (Spanning reported size) = Unit {0}
StepFits most (Copying chunk copied) = (copied < chunk.keys) × (chunk.keys ≤ most)
StepFits most (Committing chunk) = chunk.keys ≤ most

-- only the span's keys and the copies of rows wait
abbrev pub RestsAt : ℕ → CopyStep → Type 0
RestsAt waited Choosing = waited ≡ 0
RestsAt waited (Spanning reported size) = Unit {0}
RestsAt waited (Copying chunk copied) = Unit {0}
RestsAt waited (Committing chunk) = waited ≡ 0

-- a try that has begun is one more than those that failed
abbrev pub HasTry : ℕ → ℕ → CopyStep → Type 0
HasTry bound tries Choosing = tries ≤ bound
HasTry bound tries step = tries < bound

copies_less : (n keys most each : ℕ) → n < keys → keys ≤ most → 1 + each + n * each + each ≤ (most + 1) * each + 2
copies_less n keys most each less fits =
    let product = one_more n each in
    let whole = one_more most each in
    let times : (n + 1) * each ≤ most * each = mul-le-mul_right each (within less fits) in
    omega (arith, product, whole, times) where
      within : n < keys → keys ≤ most → n + 1 ≤ most
      within less fits = omega (arith, less, fits)

commits_less : (n most each : ℕ) → n ≤ most → 1 + each + n * each + 1 ≤ (most + 1) * each + 2
commits_less n most each fits = let whole = one_more most each in let times : n * each ≤ most * each = mul-le-mul_right each fits in omega (arith, whole, times)

spans_less : (most each : ℕ) → 1 + each ≤ (most + 1) * each + 2
spans_less most each = let whole = one_more most each in omega (arith, whole)

step_fits : (most each : ℕ) (step : CopyStep) → StepFits most step → step_turns each step + call_turns each step ≤ (most + 1) * each + 2
step_fits most each Choosing fits = omega arith
step_fits most each (Spanning reported size) fits = spans_less most each
step_fits most each (Copying chunk copied) fits = copies_less copied chunk.keys most each fits.0 fits.1
step_fits most each (Committing chunk) fits = commits_less chunk.keys most each fits

call_less : (each waited : ℕ) (step : CopyStep) → waited + 1 ≤ each → RestsAt waited step → waited + 1 ≤ call_turns each step
call_less each waited Choosing short rests = omega (arith, rests)
call_less each waited (Spanning reported size) short rests = short
call_less each waited (Copying chunk copied) short rests = short
call_less each waited (Committing chunk) short rests = omega (arith, rests)

-- THE COPIER

module _ (most each bound : ℕ) where
  -- the turns of one try, and of all
  abbrev pub try : ℕ
  try = (most + 1) * each + 2

  abbrev pub task : ℕ
  task = bound * try

  -- the copier, while rows are left and nothing is reverted
  pub record IsOpen (turns waited number tries : ℕ) (step : CopyStep) : Type 0 where
    pub begins : HasTry bound tries step
    pub fits : StepFits most step
    pub rests : RestsAt waited step
    pub paid : IsPaid turns task (number * task) tries try (step_turns each step) waited

  -- by whether all is copied, and whether all is reverted
  abbrev pub Stands : Bool → Bool → ℕ → ℕ → ℕ → ℕ → CopyStep → Type 0
  Stands true reverting turns waited number tries step = turns + task ≤ number * task
  Stands false true turns waited number tries step = IsClosed turns (number * task) waited each
  Stands false false turns waited number tries step = IsOpen turns waited number tries step

  itself : (n : ℕ) → n ≤ n
  itself n = omega arith

  pub open_closes : (turns waited number tries : ℕ) (step : CopyStep) → waited + 1 ≤ each → IsOpen turns waited number tries step → IsClosed turns (number * task) waited each
  open_closes turns waited number tries Choosing short is =
      subst (λ (w : ℕ). IsClosed turns (number * task) w each) (sym is.rests)
      (rests_closed turns task (number * task) tries bound try each (itself task) is.begins (subst (λ (w : ℕ). IsPaid turns task (number * task) tries try 0 w) is.rests is.paid))
  open_closes turns waited number tries (Spanning reported size) short is = closes turns task (number * task) tries bound try 1 waited each each (itself task) is.begins (step_fits most each (Spanning reported size) is.fits) short (inl refl) is.paid
  open_closes turns waited number tries (Copying chunk copied) short is =
      closes turns task (number * task) tries bound try (1 + each + copied * each) waited each each (itself task) is.begins (step_fits most each (Copying chunk copied) is.fits) short (inl refl) is.paid
  open_closes turns waited number tries (Committing chunk) short is =
      closes turns task (number * task) tries bound try (1 + each + chunk.keys * each) waited 1 each (itself task) is.begins (step_fits most each (Committing chunk) is.fits) (call_less each waited (Committing chunk) short is.rests) (inr is.rests) is.paid

  pub stands_back : (copied reverting : Bool) (turns waited number tries : ℕ) (step : CopyStep) → waited + 1 ≤ each → Stands copied reverting turns waited number tries step → Stands copied true turns waited number tries step
  stands_back true reverting turns waited number tries step short is = is
  stands_back false true turns waited number tries step short is = is
  stands_back false false turns waited number tries step short is = open_closes turns waited number tries step short is

  -- the try of this step failed
  pub open_fails : (turns more waited number tries : ℕ) (step : CopyStep) → more ≤ turns + 1 → waited + 1 ≤ each → tries < bound → IsOpen turns waited number tries step → IsOpen more 0 number (tries + 1) Choosing
  open_fails turns more waited number tries step one short few is = record {
    begins = omega (arith, few);
    fits = tt;
    rests = refl;
    paid = failed_paid turns more task (number * task) tries try (step_turns each step) waited (call_turns each step) one (call_less each waited step short is.rests) (step_fits most each step is.fits) is.paid;
  }

  -- WHAT AN ANSWER LEAVES

  -- of the copier after it, by what the answer means for the copy
  abbrev pub Leaves : ℕ → ℕ → ℕ → ℕ → Copier → Progress → Type 0
  Leaves more now number tries after Going = Stands after.is_copied false more now after.number tries after.step
  Leaves more now number tries after TaskDone = Stands after.is_copied false more now after.number 0 after.step
  Leaves more now number tries after TaskFailed = Stands after.is_copied false more now after.number (tries + 1) after.step
  Leaves more now number tries after (Unfit place code) = IsClosed more (number * task) now each

  module _ (turn : ℕ) (copier : Copier) (off : copier.is_copied ≡ false) (turns more waited now tries : ℕ) (one : more ≤ turns + 1) (short : waited + 1 ≤ each) (short_now : now + 1 ≤ each) (few : tries < bound) where
    abbrev At : CopyStep → Type 0
    At step = IsOpen turns waited copier.number tries step

    uncopied : (tries : ℕ) (step : CopyStep) → IsOpen more now copier.number tries step → Stands copier.is_copied false more now copier.number tries step
    uncopied tries step is = subst (λ (b : Bool). Stands b false more now copier.number tries step) (sym off) is

    still : (step : CopyStep) → now ≡ waited + 1 → At step → HasTry bound tries step → StepFits most step → RestsAt now step → Stands copier.is_copied false more now copier.number tries step
    still step waits is begins fits rests =
        uncopied tries step
        (record {
          begins = begins;
          fits = fits;
          rests = rests;
          paid = subst (IsPaid more task (copier.number * task) tries try (step_turns each step)) (sym waits) (still_paid turns more task (copier.number * task) tries try (step_turns each step) waited one is.paid);
        })

    next_open : (step after : CopyStep) → now ≡ 0 → At step → step_turns each step + call_turns each step ≤ step_turns each after → HasTry bound tries after → StepFits most after → RestsAt now after → IsOpen more now copier.number tries after
    next_open step after ended is on begins fits rests = record {
      begins = begins;
      fits = fits;
      rests = rests;
      paid =
          subst (IsPaid more task (copier.number * task) tries try (step_turns each after)) (sym ended)
          (next_paid turns more task (copier.number * task) tries try (step_turns each step) waited (call_turns each step) (step_turns each after) one (call_less each waited step short is.rests) on is.paid);
    }

    next : (step after : CopyStep) → now ≡ 0 → At step → step_turns each step + call_turns each step ≤ step_turns each after → HasTry bound tries after → StepFits most after → RestsAt now after → Stands copier.is_copied false more now copier.number tries after
    next step after ended is on begins fits rests = uncopied tries after (next_open step after ended is on begins fits rests)

    begin : (step : CopyStep) (chunk : Chunk) → now ≡ 0 → At step → step_turns each step + call_turns each step ≤ 1 + each → chunk.keys ≤ most → Stands copier.is_copied false more now copier.number tries (begun chunk)
    begin step chunk ended is on fits = by (chunk.keys == 0) refl where
      some : (n : ℕ) → (n == 0) ≡ false → 0 < n
      some n other = grind (arith, nat_tests)

      none_times : (n each : ℕ) → n ≤ 1 + each → n ≤ 1 + each + 0 * each
      none_times n each less = grind (arith, less)

      more_times : (n k each : ℕ) → n ≤ 1 + each → n ≤ 1 + each + k * each
      more_times n k each less = omega (arith, less)

      by : (b : Bool) → (chunk.keys == 0) ≡ b → Stands copier.is_copied false more now copier.number tries (cond b (Committing chunk) (Copying chunk 0))
      by true none = next step (Committing chunk) ended is (more_times (step_turns each step + call_turns each step) chunk.keys each on) few fits ended
      by false other = next step (Copying chunk 0) ended is (none_times (step_turns each step + call_turns each step) each on) few (some chunk.keys other, fits) tt

    copy : (chunk : Chunk) (copied : ℕ) → now ≡ 0 → At (Copying chunk copied) → Stands copier.is_copied false more now copier.number tries (after_copies chunk (copied + 1))
    copy chunk copied ended is = by (copied + 1 == chunk.keys) refl where
      more_times : (n each : ℕ) → 1 + each + n * each + each ≤ 1 + each + (n + 1) * each
      more_times n each = grind arith

      are_same : (n k : ℕ) → (n == k) ≡ true → n ≡ k
      are_same n k same = grind (arith, nat_tests, same)

      same_times : (n k each : ℕ) → (n + 1 == k) ≡ true → 1 + each + n * each + each ≤ 1 + each + k * each
      same_times n k each same = subst (λ (j : ℕ). 1 + each + n * each + each ≤ 1 + each + j * each) (are_same (n + 1) k same) (more_times n each)

      left : (n k : ℕ) → n < k → (n + 1 == k) ≡ false → n + 1 < k
      left n k less other = grind (arith, nat_tests, less, other)

      by : (b : Bool) → (copied + 1 == chunk.keys) ≡ b → Stands copier.is_copied false more now copier.number tries (cond b (Committing chunk) (Copying chunk (copied + 1)))
      by true same = next (Copying chunk copied) (Committing chunk) ended is (same_times copied chunk.keys each same) few is.fits.1 ended
      by false other = next (Copying chunk copied) (Copying chunk (copied + 1)) ended is (more_times copied each) few (left copied chunk.keys is.fits.0 other, is.fits.1) tt

    commit : (chunk : Chunk) → now ≡ 0 → At (Committing chunk) → (last : Bool) → Stands last false more now (copier.number + 1) 0 Choosing
    commit chunk ended is last = by last where
      whole : more + task ≤ (copier.number + 1) * task
      whole =
          let product = one_more copier.number task in
          let most_turns =
          done_paid turns more task (copier.number * task) tries bound try (1 + each + chunk.keys * each) waited 1 one (call_less each waited (Committing chunk) short is.rests) (step_fits most each (Committing chunk) is.fits) few is.paid in
          omega (arith, product, most_turns)

      as_paid : (a b : ℕ) → a ≤ b → a ≤ b + 0 * try + 0 + 0
      as_paid a b less = grind (arith, less)

      by : (last : Bool) → Stands last false more now (copier.number + 1) 0 Choosing
      by true = whole
      by false = record { begins = omega arith; fits = tt; rests = ended; paid = subst (IsPaid more task ((copier.number + 1) * task) 0 try 0) (sym ended) (as_paid (more + task) ((copier.number + 1) * task) whole) }

    fail : (step : CopyStep) → now ≡ 0 → At step → Stands copier.is_copied false more now copier.number (tries + 1) Choosing
    fail step ended is = uncopied (tries + 1) Choosing (subst (λ (w : ℕ). IsOpen more w copier.number (tries + 1) Choosing) (sym ended) (open_fails turns more waited copier.number tries step one short few is))

    unfit : (chunk : Chunk) (copied : ℕ) → now ≡ 0 → At (Copying chunk copied) → IsClosed more (copier.number * task) now each
    unfit chunk copied ended is =
        let whole = done_paid turns more task (copier.number * task) tries bound try (1 + each + copied * each) waited each one short (step_fits most each (Copying chunk copied) is.fits) few is.paid in
        subst (λ (w : ℕ). IsClosed more (copier.number * task) w each) (sym ended) (record { within = within more (copier.number * task) task whole; waits = λ on. absurd (no on) }) where
          within : (a b c : ℕ) → a + c ≤ b + c → a ≤ b
          within a b c less = omega (arith, less)

          no : 1 ≤ 0 → ⊥
          no some = omega (arith, some)

    -- *What an answer leaves*
    pub heard_leaves : (step : CopyStep) (answer : Answer) → At step → ChunkAnswer most step answer → ((one : ℕ) → answer ≡ answers.Waits one → now ≡ waited + 1) → (((one : ℕ) → answer ≡ answers.Waits one → ⊥) → now ≡ 0)
        → Leaves more now copier.number tries (took turn (record copier { step = step }) answer) (progress (record copier { step = step }) answer)
    unfolding took progress
    heard_leaves Choosing (answers.End end) is goes waits ends = next Choosing (Spanning turn copier.size) (ends (λ by same. cc)) is (omega arith) few tt tt
    heard_leaves (Spanning reported size) (answers.Keys found end) is goes waits ends = begin (Spanning reported size) _ (ends (λ by same. cc)) is (omega arith) goes
    heard_leaves (Spanning reported size) (answers.Waits one) is goes waits ends = still (Spanning reported size) (waits one refl) is is.begins is.fits tt
    heard_leaves (Copying chunk copied) (answers.Ok count) is goes waits ends = copy chunk copied (ends (λ by same. cc)) is
    heard_leaves (Copying chunk copied) (answers.Waits one) is goes waits ends = still (Copying chunk copied) (waits one refl) is is.begins is.fits tt
    heard_leaves (Copying chunk copied) (answers.Refused number (Some place)) is goes waits ends = unfit chunk copied (ends (λ by same. cc)) is
    heard_leaves (Committing chunk) (answers.Ok count) is goes waits ends = commit chunk (ends (λ by same. cc)) is chunk.is_last
    heard_leaves Choosing answers.Lost is goes waits ends = fail Choosing (ends (λ by same. cc)) is
    heard_leaves (Spanning reported size) answers.Lost is goes waits ends = fail (Spanning reported size) (ends (λ by same. cc)) is
    heard_leaves (Copying chunk copied) answers.Lost is goes waits ends = fail (Copying chunk copied) (ends (λ by same. cc)) is
    heard_leaves (Committing chunk) answers.Lost is goes waits ends = fail (Committing chunk) (ends (λ by same. cc)) is
    heard_leaves Choosing (answers.TimedOut n) is goes waits ends = fail Choosing (ends (λ by same. cc)) is
    heard_leaves (Spanning reported size) (answers.TimedOut n) is goes waits ends = fail (Spanning reported size) (ends (λ by same. cc)) is
    heard_leaves (Copying chunk copied) (answers.TimedOut n) is goes waits ends = fail (Copying chunk copied) (ends (λ by same. cc)) is
    heard_leaves (Committing chunk) (answers.TimedOut n) is goes waits ends = fail (Committing chunk) (ends (λ by same. cc)) is
    heard_leaves step answer is goes waits ends = absurd goes
