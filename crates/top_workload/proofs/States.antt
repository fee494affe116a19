-- The states of the draws.
use Rattle.std.proofs.Common.{◌≡◌, ℕ, zero, suc, ◌+◌, ◌*◌, ◌%◌, ◌^◌, refl, ap, ◌∙◌, add-one, add-zero, arith}
use Rattle.std.proofs.Math.Nat.{mod-add-mod}
use Rattle.top_workload.specs.Draws.{next_state, state_after}

-- a product that wraps, and then a sum, is the sum of the product
pub product_wraps : (a b c : ℕ) → ((a * b) % 2 ^ 64 + c) % 2 ^ 64 ≡ (a * b + c) % 2 ^ 64
product_wraps a b c = mod-add-mod (a * b) (2 ^ 64) c

pub one_more : (state count : ℕ) → state_after state (count + 1) ≡ next_state (state_after state count)
unfolding state_after
one_more state count = rw add-one refl

pub following : (state a b : ℕ) → state_after (state_after state a) b ≡ state_after state (a + b)
unfolding state_after
following state a zero = rw add-zero refl
following state a (suc b) =
    let next : suc (a + b) ≡ a + suc b = omega arith in
    ap next_state (following state a b) ∙ ap (λ n. state_after state n) next
