-- A counter that is raised to nothing stays.
use Rattle.std.proofs.Common.{◌≡◌, ℕ, Bool, true, false, List, [], ◌∷◌, cond, refl, ap, ◌∙◌}
use Rattle.std.specs.Prelude.{max}
use Rattle.std.proofs.Math.Nat.{max-zero}
use Rattle.server_model.specs.declared.counter.Counter.{Counter}
use Rattle.server_model.specs.States.{counters_from, is_counter_of}

one_raised : (b : Bool) (counter : Counter) → cond b (record counter { next = max counter.next 0 }) counter ≡ counter
one_raised true counter = ap (λ (n : ℕ). record counter { next = n }) (max-zero counter.next)
one_raised false counter = refl

pub raised_zero : (name : List ℕ) (counters : List Counter) → counters_from name 0 counters ≡ counters
raised_zero name [] = refl
raised_zero name (counter ∷ counters) =
    ap (λ (first : Counter). first ∷ counters_from name 0 counters) (one_raised (is_counter_of name counter) counter) ∙ ap (λ (rest : List Counter). counter ∷ rest) (raised_zero name counters)
