-- What a turn pays: so many turns are had that the tasks that are done, the tries that failed, and the steps of this try with its
-- wait come to. Numbers alone: `turns` are had, `gone` is what is had of tasks to come, `all` what the tasks are allowed so far,
-- `tries` failed tries of `most` turns each, `base` turns of the steps of this try, and `waited` turns of its wait.
use Rattle.std.proofs.Common.{◌≡◌, ◌⊎◌, inl, inr, ◌≤◌, ◌<◌, ℕ, ◌+◌, ◌*◌, arith, mul-le-mul_right}

abbrev pub IsPaid : ℕ → ℕ → ℕ → ℕ → ℕ → ℕ → ℕ → Type 0
IsPaid turns gone all tries most base waited = turns + gone ≤ all + tries * most + base + waited

-- where no more is called: each turn that comes is of the wait
pub record IsClosed (turns all waited each : ℕ) : Type 0 where
  pub within : turns ≤ all
  pub waits : 1 ≤ waited → turns + each ≤ all + waited

-- the wait goes on
pub still_paid : (turns more gone all tries most base waited : ℕ) → more ≤ turns + 1 → IsPaid turns gone all tries most base waited → IsPaid more gone all tries most base (waited + 1)
still_paid turns more gone all tries most base waited one paid = omega (arith, one, paid)

-- the call is over, and the next step begins
pub next_paid : (turns more gone all tries most base waited call next : ℕ) → more ≤ turns + 1 → waited + 1 ≤ call → base + call ≤ next → IsPaid turns gone all tries most base waited → IsPaid more gone all tries most next 0
next_paid turns more gone all tries most base waited call next one less on paid = omega (arith, one, less, on, paid)

pub one_more : (tries most : ℕ) → (tries + 1) * most ≡ tries * most + most
one_more tries most = grind arith

-- the try failed
pub failed_paid : (turns more gone all tries most base waited call : ℕ) → more ≤ turns + 1 → waited + 1 ≤ call → base + call ≤ most → IsPaid turns gone all tries most base waited → IsPaid more gone all (tries + 1) most 0 0
failed_paid turns more gone all tries most base waited call one less fits paid = let product = one_more tries most in omega (arith, product, one, less, fits, paid)

less_times : (tries bound most : ℕ) → tries < bound → tries * most + most ≤ bound * most
less_times tries bound most less = let product = one_more tries most in let times : (tries + 1) * most ≤ bound * most = mul-le-mul_right most (more less) in omega (arith, product, times) where
  more : tries < bound → tries + 1 ≤ bound
  more below = omega (arith, below)

at_most_times : (tries bound most : ℕ) → tries ≤ bound → tries * most ≤ bound * most
at_most_times tries bound most less = mul-le-mul_right most less

-- the task is done: its tries are within what a task is allowed
pub done_paid : (turns more gone all tries bound most base waited call : ℕ) → more ≤ turns + 1 → waited + 1 ≤ call → base + call ≤ most → tries < bound → IsPaid turns gone all tries most base waited → more + gone ≤ all + bound * most
done_paid turns more gone all tries bound most base waited call one less fits few paid = let times = less_times tries bound most few in omega (arith, times, one, less, fits, paid)

-- no more is called
pub closes : (turns gone all tries bound most base waited call each : ℕ) → bound * most ≤ gone → tries < bound → base + call ≤ most → waited + 1 ≤ call → (call ≡ each) ⊎ (waited ≡ 0) → IsPaid turns gone all tries most base waited → IsClosed turns all waited each
closes turns gone all tries bound most base waited call each some few fits less (inl whole) paid =
    let times = less_times tries bound most few in
    record { within = omega (arith, times, some, fits, less, paid); waits = λ on. omega (arith, times, some, fits, whole, paid) }
closes turns gone all tries bound most base waited call each some few fits less (inr none) paid =
    let times = less_times tries bound most few in
    record { within = omega (arith, times, some, fits, less, paid); waits = λ on. absurd (no waited none on) } where
      no : (n : ℕ) → n ≡ 0 → 1 ≤ n → ⊥
      no n none some = omega (arith, none, some)

-- between two tries
pub rests_closed : (turns gone all tries bound most each : ℕ) → bound * most ≤ gone → tries ≤ bound → IsPaid turns gone all tries most 0 0 → IsClosed turns all 0 each
rests_closed turns gone all tries bound most each some few paid = let times = at_most_times tries bound most few in record { within = omega (arith, times, some, paid); waits = λ on. absurd (no on) } where
  no : 1 ≤ 0 → ⊥
  no some = omega (arith, some)

-- a turn of a wait, where no more is called
pub closed_waits : (turns more all waited each : ℕ) → more ≤ turns + 1 → 1 ≤ waited → waited + 1 ≤ each → IsClosed turns all waited each → IsClosed more all (waited + 1) each
closed_waits turns more all waited each one some short is =
    let whole = is.waits some in
    record { within = omega (arith, one, whole, short); waits = λ on. omega (arith, one, whole) }

pub closed_ends : (turns more all waited each : ℕ) → more ≤ turns + 1 → 1 ≤ waited → waited + 1 ≤ each → IsClosed turns all waited each → IsClosed more all 0 each
closed_ends turns more all waited each one some short is =
    let whole = is.waits some in
    record { within = omega (arith, one, whole, short); waits = λ on. absurd (no on) } where
      no : 1 ≤ 0 → ⊥
      no some = omega (arith, some)

-- a loss between calls ends the wait
pub closed_stays : (turns more all waited each : ℕ) → more ≤ turns → IsClosed turns all waited each → IsClosed more all 0 each
closed_stays turns more all waited each same is = let within = is.within in record { within = omega (arith, same, within); waits = λ on. absurd (no on) } where
  no : 1 ≤ 0 → ⊥
  no some = omega (arith, some)
