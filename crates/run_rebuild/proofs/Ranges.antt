-- The shards from a number on, so many.
use Rattle.std.proofs.Common.{◌≡◌, ◌<◌, ℕ, ◌+◌, ◌==◌, ◌&&◌, ◌||◌, nat_le, nat_lt, Bool, true, false, refl, arith}
use Rattle.std.proofs.lemmas.Bool.Decides.{nat_tests}
use Rattle.run_rebuild.specs.ShardNumbers.{is_of}

one_here : (number from : ℕ) (a b c : Bool) → nat_le from number ≡ a → nat_lt number (from + 1) ≡ b → (number == from) ≡ c → (a && b) ≡ c
one_here number from true true true is then same = refl
one_here number from true true false is then same = absurd (grind (arith, nat_tests))
one_here number from true false true is then same = absurd (grind (arith, nat_tests))
one_here number from true false false is then same = refl
one_here number from false b true is then same = absurd (grind (arith, nat_tests))
one_here number from false b false is then same = refl

-- one shard
pub one_is : (from number : ℕ) → is_of from 1 number ≡ (number == from)
one_is from number = one_here number from (nat_le from number) (nat_lt number (from + 1)) (number == from) refl refl refl

halves_here : (number from low high : ℕ) (a b c d e : Bool) → nat_le from number ≡ a → nat_lt number (from + (low + high)) ≡ b → nat_le (from + low) number ≡ c → nat_lt number (from + low + high) ≡ d → nat_lt number (from + low) ≡ e
    → (a && b) ≡ ((c && d) || (a && e))
halves_here number from low high true true true true true ia ib ic id ie = absurd (grind (arith, nat_tests))
halves_here number from low high true true true true false ia ib ic id ie = refl
halves_here number from low high true true true false e ia ib ic id ie = absurd (grind (arith, nat_tests))
halves_here number from low high true true false d true ia ib ic id ie = refl
halves_here number from low high true true false d false ia ib ic id ie = absurd (grind (arith, nat_tests))
halves_here number from low high true false true true e ia ib ic id ie = absurd (grind (arith, nat_tests))
halves_here number from low high true false true false true ia ib ic id ie = absurd (grind (arith, nat_tests))
halves_here number from low high true false true false false ia ib ic id ie = refl
halves_here number from low high true false false d true ia ib ic id ie = absurd (grind (arith, nat_tests))
halves_here number from low high true false false d false ia ib ic id ie = refl
halves_here number from low high false b true d e ia ib ic id ie = absurd (grind (arith, nat_tests))
halves_here number from low high false b false d e ia ib ic id ie = refl

-- two halves
pub halves_are : (from low high number : ℕ) → is_of from (low + high) number ≡ (is_of (from + low) high number || is_of from low number)
halves_are from low high number =
    halves_here number from low high (nat_le from number) (nat_lt number (from + (low + high))) (nat_le (from + low) number) (nat_lt number (from + low + high)) (nat_lt number (from + low)) refl refl refl refl refl

apart_here : (number from low : ℕ) (a b c d : Bool) → nat_le (from + low) number ≡ a → nat_le from number ≡ c → nat_lt number (from + low) ≡ d → (a && b) ≡ true → (c && d) ≡ false
apart_here number from low true b true true ia ic id is = absurd (grind (arith, nat_tests))
apart_here number from low true b true false ia ic id is = refl
apart_here number from low true b false d ia ic id is = refl
apart_here number from low false b c d ia ic id is = absurd cc

-- no number is of both
pub halves_apart : (from low high number : ℕ) → is_of (from + low) high number ≡ true → is_of from low number ≡ false
halves_apart from low high number is = apart_here number from low (nat_le (from + low) number) (nat_lt number (from + low + high)) (nat_le from number) (nat_lt number (from + low)) refl refl refl is

all_here : (number count : ℕ) (a b : Bool) → nat_le 0 number ≡ a → nat_lt number (0 + count) ≡ b → number < count → (a && b) ≡ true
all_here number count true true ia ib less = refl
all_here number count true false ia ib less = absurd (grind (arith, nat_tests))
all_here number count false b ia ib less = absurd (grind (arith, nat_tests))

-- all shards
pub all_are : (count number : ℕ) → number < count → is_of 0 count number ≡ true
all_are count number less = all_here number count (nat_le 0 number) (nat_lt number (0 + count)) refl refl less
