-- Results of which only the value counts.
use Rattle.std.proofs.Common.{◌≡◌, Some, Result, Ok, Err, ap}
use Rattle.std.specs.Result.{result_ok}

pub was_ok : {A E : Type 0} (r : Result A E) (x : A) → result_ok r ≡ Some x → r ≡ Ok x
was_ok (Ok one) x is = let same : one ≡ x = cc in ap Ok same
was_ok (Err reason) x is = absurd cc
