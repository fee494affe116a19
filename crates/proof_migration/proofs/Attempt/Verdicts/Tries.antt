-- Failed tries stay failed tries as the journal grows, and one more turn is past them all.
use Rattle.std.proofs.Common.{◌≡◌, ◌⊎◌, ℕ, zero, suc, ◌+◌, ◌-◌, ◌<◌, ◌≤◌, ◌==◌, true, List, [], ◌∷◌, ◌++◌, length, take, Some, refl, sym, ap, ◌∙◌, inl, inr, arith}
use Rattle.std.specs.Prelude.{AllPairs, filter, reverse}
use Rattle.std.specs.List.{slice_get, AllByRecursion}
use Rattle.std.proofs.Math.Seq.{take-append_seam}
use Rattle.std.proofs.lemmas.List.{take-append-le, length-append}
use Rattle.std.proofs.lemmas.List.Elements.{All-from_recursion}
use Rattle.std.proofs.lemmas.List.Kept.{AllPairs-cons}
use Rattle.std.proofs.lemmas.Option.{slice_get_within}
use Rattle.server_model.specs.declared.entry.Entry.{Entry}
use Rattle.server_model.specs.declared.outcome.Task.{Task}
use Rattle.server_model.specs.declared.outcome.Task.TheVariants as tasks
use Rattle.plan_data.specs.PlanData.{PlanData}
use Rattle.tool_program.specs.Failures.{is_actor_of, IsTurn, waited_for, IsWaited, IsUndrained, has_passed, IsBad, IsFailedTry, IsPanic, IsSpent}
use Rattle.tool_program.specs.Tools.{Moment, moment}
use Rattle.proof_migration.specs.Attempt.Verdicts.{IsFailedAttempt, IsSpentOn}

-- each number is below all later ones
abbrev pub Rises : List ℕ → Type 0
Rises [] = Unit {0}
Rises (turn ∷ turns) = AllByRecursion (λ later. turn < later) turns × Rises turns

-- the turns rise up to this one, and each is such a try
pub record TriesStand (is_try : ℕ → Type 0) (most : ℕ) (turns : List ℕ) : Type 0 where
  pub each : AllByRecursion is_try turns
  pub rises : Rises turns
  pub past : AllByRecursion (λ turn. turn ≤ most) turns

pub no_tries : (is_try : ℕ → Type 0) (most : ℕ) → TriesStand is_try most []
no_tries is_try most = record { each = tt; rises = tt; past = tt }

-- the tries of a task
abbrev pub TaskTries : PlanData → List Entry → Task → List ℕ → Type 0
TaskTries plan journal task turns = TriesStand (IsFailedTry plan journal task) (length journal) turns

-- those of the cut-over
abbrev pub AttemptTries : PlanData → List Entry → List ℕ → Type 0
AttemptTries plan journal turns = TriesStand (IsFailedAttempt plan journal) (length journal) turns

-- LISTS

all_more : {X : Type 0} (P Q : X → Type 0) → ((x : X) → P x → Q x) → (xs : List X) → AllByRecursion P xs → AllByRecursion Q xs
all_more P Q step [] all = tt
all_more P Q step (x ∷ xs) all = (step x all.0, all_more P Q step xs all.1)

all_last : {X : Type 0} (P : X → Type 0) (xs : List X) (last : X) → AllByRecursion P xs → P last → AllByRecursion P (xs ++ last ∷ [])
all_last P [] last all is = (is, tt)
all_last P (x ∷ xs) last all is = (all.0, all_last P xs last all.1 is)

rises_last : (turns : List ℕ) (last : ℕ) → Rises turns → AllByRecursion (λ turn. turn < last) turns → Rises (turns ++ last ∷ [])
rises_last [] last rises below = (tt, tt)
rises_last (turn ∷ turns) last rises below = (all_last (λ later. turn < later) turns last rises.0 below.0, rises_last turns last rises.1 below.1)

rising : (turns : List ℕ) → Rises turns → AllPairs (λ a b. a < b) turns
rising [] rises = λ i j d low high. absurd (omega (arith, high))
rising (turn ∷ turns) rises = AllPairs-cons (λ a b. a < b) turn turns (All-from_recursion (λ later. turn < later) turns rises.0) (rising turns rises.1)

got_more : (xs ys : List Entry) (i : ℕ) (x : Entry) → slice_get xs i ≡ Some x → slice_get (xs ++ ys) i ≡ Some x
got_more [] ys i x is = absurd cc
got_more (a ∷ xs) ys zero x is = is
got_more (a ∷ xs) ys (suc i) x is = got_more xs ys i x is

got_last : (xs : List Entry) (x : Entry) → slice_get (xs ++ x ∷ []) (length xs) ≡ Some x
got_last [] x = refl
got_last (a ∷ xs) x = got_last xs x

-- AS THE JOURNAL GROWS

module _ (plan : PlanData) (journal : List Entry) (last : Entry) where
  abbrev more : List Entry
  more = journal ++ last ∷ []

  longer : length more ≡ length journal + 1
  longer = length-append journal (last ∷ [])

  module _ (turn : ℕ) (entry : Entry) (before : Moment) (is : IsTurn plan journal turn entry before) where
    within : turn - 1 < length journal
    within = slice_get_within journal (turn - 1) entry is.stands

    earlier : take (turn - 1) more ≡ take (turn - 1) journal
    earlier = take-append-le (turn - 1) journal (last ∷ []) (let low : turn - 1 < length journal = within in omega (arith, low))

    upto : take turn more ≡ take turn journal
    upto = take-append-le turn journal (last ∷ []) (let low : turn - 1 < length journal = within in omega (arith, low))

    turn_more : IsTurn plan more turn entry before
    turn_more = record { from_one = is.from_one; stands = got_more journal (last ∷ []) (turn - 1) entry is.stands; moment = is.moment ∙ ap (moment plan) (sym earlier) }

    waited_more : IsWaited plan journal turn entry → IsWaited plan more turn entry
    waited_more waited = record {
      over = waited.over;
      polls = ap (λ (turns : List Entry). waited_for (plan.options.tool_wait - 1) (reverse (filter (λ other. other.session == entry.session) turns))) earlier ∙ waited.polls;
    }

    undrained_more : IsUndrained plan journal turn entry before → IsUndrained plan more turn entry before
    undrained_more undrained = record {
      actor = undrained.actor;
      called = undrained.called;
      turns = undrained.turns;
      drained = undrained.drained;
      last = undrained.last;
      following = ap (λ (turns : List Entry). has_passed (moment plan turns).tool.tool_phase) upto ∙ undrained.following;
    }

    bad_more : IsBad plan journal turn entry before → IsBad plan more turn entry before
    bad_more (inl lost) = inl lost
    bad_more (inr waited) = inr (waited_more waited)

  try_more : (task : Task) (turn : ℕ) → IsFailedTry plan journal task turn → IsFailedTry plan more task turn
  try_more task turn is = record { entry = is.entry; before = is.before; is = turn_more turn is.entry is.before is.is; at = is.at; why = why is.why } where
    why : ((is_actor_of task is.entry.actor ≡ true) × IsBad plan journal turn is.entry is.before) ⊎ ((task ≡ tasks.CutOver) × IsUndrained plan journal turn is.entry is.before)
        → ((is_actor_of task is.entry.actor ≡ true) × IsBad plan more turn is.entry is.before) ⊎ ((task ≡ tasks.CutOver) × IsUndrained plan more turn is.entry is.before)
    why (inl (actor, bad)) = inl (actor, bad_more turn is.entry is.before is.is bad)
    why (inr (same, undrained)) = inr (same, undrained_more turn is.entry is.before is.is undrained)

  pub panic_more : (turn : ℕ) → IsPanic plan journal turn → IsPanic plan more turn
  panic_more turn is = record { entry = is.entry; before = is.before; is = turn_more turn is.entry is.before is.is; asked = is.asked }

  pub spent_more : (task : Task) (turns : List ℕ) → IsSpent plan journal task turns → IsSpent plan more task turns
  spent_more task turns is = record { each = all_more (IsFailedTry plan journal task) (IsFailedTry plan more task) (try_more task) turns is.each; rises = is.rises; all = is.all }

  attempt_more : (turn : ℕ) → IsFailedAttempt plan journal turn → IsFailedAttempt plan more turn
  attempt_more turn (inl failed) = inl (try_more tasks.CutOver turn failed)
  attempt_more turn (inr refused) = inr (record { entry = refused.entry; before = refused.before; is = turn_more turn refused.entry refused.before refused.is; actor = refused.actor; resting = refused.resting; number = refused.number; column = refused.column; refused = refused.refused })

  pub attempts_spent_more : (turns : List ℕ) → IsSpentOn plan journal turns → IsSpentOn plan more turns
  attempts_spent_more turns is = record { each = all_more (IsFailedAttempt plan journal) (IsFailedAttempt plan more) attempt_more turns is.each; rises = is.rises; all = is.all }

  grown : (P Q : ℕ → Type 0) → ((turn : ℕ) → P turn → Q turn) → (turns : List ℕ) → TriesStand P (length journal) turns → TriesStand Q (length more) turns
  grown P Q step turns is = record {
    each = all_more P Q step turns is.each;
    rises = is.rises;
    past = all_more (λ turn. turn ≤ length journal) (λ turn. turn ≤ length more) (λ turn low. let long : length more ≡ length journal + 1 = longer in omega (arith, low, long)) turns is.past;
  }

  pub tries_more : (task : Task) (turns : List ℕ) → TaskTries plan journal task turns → TaskTries plan more task turns
  tries_more task turns is = grown (IsFailedTry plan journal task) (IsFailedTry plan more task) (try_more task) turns is

  pub attempts_more : (turns : List ℕ) → AttemptTries plan journal turns → AttemptTries plan more turns
  attempts_more turns is = grown (IsFailedAttempt plan journal) (IsFailedAttempt plan more) attempt_more turns is

  -- one try more, in the last turn
  with_last : (P Q : ℕ → Type 0) → ((turn : ℕ) → P turn → Q turn) → (turns : List ℕ) (turn : ℕ) → turn ≡ length journal + 1 → TriesStand P (length journal) turns → Q turn → TriesStand Q (length more) (turns ++ turn ∷ [])
  with_last P Q step turns turn same is failed =
      let kept : TriesStand Q (length more) turns = grown P Q step turns is in
      record {
        each = all_last Q turns turn kept.each failed;
        rises = rises_last turns turn is.rises (all_more (λ other. other ≤ length journal) (λ other. other < turn) (λ other low. omega (arith, low, same)) turns is.past);
        past = all_last (λ other. other ≤ length more) turns turn kept.past (let long : length more ≡ length journal + 1 = longer in omega (arith, same, long));
      }

  pub tries_last : (task : Task) (turns : List ℕ) (turn : ℕ) → turn ≡ length journal + 1 → TaskTries plan journal task turns → IsFailedTry plan more task turn → TaskTries plan more task (turns ++ turn ∷ [])
  tries_last task turns turn same is failed = with_last (IsFailedTry plan journal task) (IsFailedTry plan more task) (try_more task) turns turn same is failed

  pub attempts_last : (turns : List ℕ) (turn : ℕ) → turn ≡ length journal + 1 → AttemptTries plan journal turns → IsFailedAttempt plan more turn → AttemptTries plan more (turns ++ turn ∷ [])
  attempts_last turns turn same is failed = with_last (IsFailedAttempt plan journal) (IsFailedAttempt plan more) attempt_more turns turn same is failed

  -- the last turn
  pub is_turn : (turn : ℕ) → turn ≡ length journal + 1 → IsTurn plan more turn last (moment plan journal)
  is_turn turn same = record {
    from_one = omega (arith, same);
    stands = ap (slice_get more) place ∙ got_last journal last;
    moment = ap (moment plan) (sym (front ∙ take-append_seam journal (last ∷ [])));
  } where
    place : turn - 1 ≡ length journal
    place = omega (arith, same)

    front : take (turn - 1) more ≡ take (length journal) more
    front = ap (λ (n : ℕ). take n more) place

-- what is spent has the tries that are allowed
pub spent_so : (plan : PlanData) (journal : List Entry) (task : Task) (turns : List ℕ) → length turns ≡ plan.options.default_retries → TaskTries plan journal task turns → IsSpent plan journal task turns
spent_so plan journal task turns all is = record { each = is.each; rises = rising turns is.rises; all = all }

pub attempts_spent_so : (plan : PlanData) (journal : List Entry) (turns : List ℕ) → length turns ≡ plan.options.default_retries → AttemptTries plan journal turns → IsSpentOn plan journal turns
attempts_spent_so plan journal turns all is = record { each = is.each; rises = rising turns is.rises; all = all }
