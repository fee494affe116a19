-- How many events of a log are left behind a position, where the log grows.
use Rattle.std.proofs.Common.{◌≡◌, ◌≤◌, ℕ, zero, suc, ◌+◌, ◌*◌, Bool, true, false, cond, List, [], ◌∷◌, ◌++◌, length, drop, ap, ◌∙◌, arith, mul-le-mul_right}
use Rattle.std.specs.Prelude.{◌||◌, count_by}
use Rattle.std.specs.Str.{bytes_eq}
use Rattle.std.proofs.lemmas.List.{drop-append-le}
use Rattle.std.proofs.lemmas.List.Sums.{sum_by-append, sum_by-cons}
use Rattle.base_values.specs.ToolNames.{log_name}
use Rattle.base_values.specs.declared.event.RowEvent.{RowEvent}
use Rattle.server_model.specs.States.{is_of}
use Rattle.proof_bounds.specs.TaskTurns.Answers.{Passes, left_at}
use Rattle.proof_bounds.proofs.TaskTurns.Paying.{IsPaid}

module _ {X : Type 0} (test : X → Bool) where
  abbrev count : List X → ℕ
  count xs = count_by test xs

  both : (xs ys : List X) → count (xs ++ ys) ≡ count xs + count ys
  both xs ys = sum_by-append (λ (x : X). cond (test x) 1 0) xs ys

  one : (x : X) (xs : List X) → count xs ≤ count (x ∷ xs)
  one x xs = let whole = sum_by-cons (λ (y : X). cond (test y) 1 0) x xs in omega (arith, whole)

  dropped : (n : ℕ) (xs : List X) → count (drop n xs) ≤ count xs
  dropped zero xs = omega arith
  dropped (suc n) [] = omega arith
  dropped (suc n) (x ∷ xs) = let rest = dropped n xs in let more = one x xs in omega (arith, rest, more)

  -- where it grows, no more are left than came
  grown : (n : ℕ) (xs ys : List X) → count (drop n (xs ++ ys)) ≤ count (drop n xs) + count ys
  grown zero xs ys = let whole = both xs ys in omega (arith, whole)
  grown (suc n) [] ys = let less = dropped (suc n) ys in omega (arith, less)
  grown (suc n) (x ∷ xs) ys = grown n xs ys

  -- and no fewer
  kept : (n : ℕ) (xs ys : List X) → count (drop n xs) ≤ count (drop n (xs ++ ys))
  kept zero xs ys = let whole = both xs ys in omega (arith, whole)
  kept (suc n) [] ys = omega arith
  kept (suc n) (x ∷ xs) ys = kept n xs ys

  -- within the log just those
  within : (n : ℕ) (xs ys : List X) → n ≤ length xs → count (drop n (xs ++ ys)) ≡ count (drop n xs) + count ys
  within n xs ys short = ap count (drop-append-le n xs ys short) ∙ both (drop n xs) ys

  -- where some are left the position is in the log
  some_left : (n : ℕ) (xs : List X) → 1 ≤ count (drop n xs) → n ≤ length xs
  some_left zero xs some = omega arith
  some_left (suc n) [] some = absurd (no some) where
    no : 1 ≤ 0 → ⊥
    no less = omega (arith, less)
  some_left (suc n) (x ∷ xs) some = let less = some_left n xs some in omega (arith, less)

module _ (table : List ℕ) (log events : List RowEvent) where
  abbrev came : ℕ
  came = count_by (is_of (table ∷ log_name table ∷ [])) events

  pub grows_most : (position : ℕ) → left_at table (log ++ events) position ≤ left_at table log position + came
  grows_most position = grown (is_of (table ∷ log_name table ∷ [])) position log events

  pub grows_least : (position : ℕ) → left_at table log position ≤ left_at table (log ++ events) position
  grows_least position = kept (is_of (table ∷ log_name table ∷ [])) position log events

  pub grows_all : left_at table (log ++ events) 0 ≡ left_at table log 0 + came
  grows_all = both (is_of (table ∷ log_name table ∷ [])) log events

  more_one : (a b : ℕ) → a + 1 ≤ b → 1 ≤ b
  more_one a b less = omega (arith, less)

  length_more : length log ≤ length (log ++ events)
  length_more = let whole = Rattle.std.proofs.lemmas.List.length-append log events in omega (arith, whole)

  pub grows_passes : (position next : ℕ) → Passes table log position next → Passes table (log ++ events) position next
  grows_passes position next is = record {
    within = let less = is.within in let more = length_more in omega (arith, less, more);
    fewer =
        let less = is.fewer in
        let here = within (is_of (table ∷ log_name table ∷ [])) next log events is.within in
        let there = within (is_of (table ∷ log_name table ∷ [])) position log events (some_left (is_of (table ∷ log_name table ∷ [])) position log (more_one (left_at table log next) (left_at table log position) less)) in
        omega (arith, less, here, there);
  }

  -- the events of a task more are allowed as many turns
  pub grows_paid : (turns task tries most base waited position : ℕ) → IsPaid turns (left_at table log position * task) (left_at table log 0 * task) tries most base waited → IsPaid turns (left_at table (log ++ events) position * task) (left_at table (log ++ events) 0 * task) tries most base waited
  grows_paid turns task tries most base waited position paid =
      join turns (left_at table log position) (left_at table (log ++ events) position) (left_at table log 0) (left_at table (log ++ events) 0) came task (tries * most) base waited (grows_most position) grows_all paid where
        spread : (a b c : ℕ) → (a + b) * c ≡ a * c + b * c
        spread a b c = grind arith

        join : (turns left later all whole new task tried base waited : ℕ) → later ≤ left + new → whole ≡ all + new → turns + left * task ≤ all * task + tried + base + waited → turns + later * task ≤ whole * task + tried + base + waited
        join turns left later all whole new task tried base waited most same paid =
            let less : later * task ≤ (left + new) * task = mul-le-mul_right task most in
            let one = spread left new task in
            let two = spread all new task in
            let three : whole * task ≡ (all + new) * task = ap (λ (n : ℕ). n * task) same in
            omega (arith, less, one, two, three, paid)

-- at a later position fewer are left
pub left_less : (table : List ℕ) (log : List RowEvent) (position : ℕ) → left_at table log position ≤ left_at table log 0
left_less table log position = dropped (is_of (table ∷ log_name table ∷ [])) position log

-- the events of both tables are those of each
pub both_few : (table : List ℕ) (log : List RowEvent) → left_at table log 0 ≤ count_by (is_of (table ∷ [])) log + count_by (is_of (log_name table ∷ [])) log
both_few table [] = omega arith
both_few table (event ∷ log) =
    let rest = both_few table log in
    let all = sum_by-cons (λ (e : RowEvent). cond (is_of (table ∷ log_name table ∷ []) e) 1 0) event log in
    let own = sum_by-cons (λ (e : RowEvent). cond (is_of (table ∷ []) e) 1 0) event log in
    let logged = sum_by-cons (λ (e : RowEvent). cond (is_of (log_name table ∷ []) e) 1 0) event log in
    let here = by (bytes_eq event.table table) (bytes_eq event.table (log_name table)) in
    omega (arith, rest, all, own, logged, here) where
      by : (a b : Bool) → cond (a || (b || false)) 1 0 ≤ cond (a || false) 1 0 + cond (b || false) 1 0
      by true b = two b where
        two : (b : Bool) → 1 ≤ 1 + cond (b || false) 1 0
        two true = omega arith
        two false = omega arith
      by false true = omega arith
      by false false = omega arith
