-- What holds whether a call succeeded or not.
use Rattle.std.proofs.Common.{◌≡◌, false, Option, Some, None, Result, Ok, Err, refl}
use Rattle.std.specs.Prelude.{OnOk, OnErr, is_some}

pub either_way : {T E A B P : Type 0} (result : Result T E) → OnOk result A → OnErr result B → (A → P) → (B → P) → P
either_way (Ok value) ok err from_ok from_err = from_ok ok
either_way (Err fault) ok err from_ok from_err = from_err err

pub none_there : {T : Type 0} (found : Option T) → false ≡ is_some found → found ≡ None
none_there None is = refl
none_there (Some one) is = absurd (cc)
