-- What results hold.
use Rattle.std.specs.Prelude.{Result, Ok, Err, OnErr}

-- where a fact holds anyway
pub on_err : {A E : Type 0} (r : Result A E) (P : Type 0) → P → OnErr r P
on_err (Ok x) P is = tt
on_err (Err e) P is = is
