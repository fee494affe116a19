-- What is known of a result step by step.
use Rattle.std.proofs.Common.{Bool, true, false, cond, Option, Some, None, Result, Ok, Err}
use Rattle.std.specs.Result.{IfOk}
use Rattle.base_values.specs.SchemaRules.Reasons.{unless}
use Rattle.base_values.specs.SchemaRules.Results.{◌>>=◌}

-- what is read of what was read
pub ok_then : {A B C : Type 0} (P : A → Type 0) (Q : B → Type 0) (r : Result A C) (f : A → Result B C) → IfOk r P → ((x : A) → P x → IfOk (f x) Q) → IfOk (r >>= f) Q
ok_then P Q (Ok x) f first next = next x first
ok_then P Q (Err code) f first next = tt

-- whatever was read
pub then_ok : {A B C : Type 0} (Q : B → Type 0) (r : Result A C) (f : A → Result B C) → ((x : A) → IfOk (f x) Q) → IfOk (r >>= f) Q
then_ok Q (Ok x) f next = next x
then_ok Q (Err code) f next = tt

pub ok_if : {A C : Type 0} (P : A → Type 0) (b : Bool) (x y : Result A C) → IfOk x P → IfOk y P → IfOk (cond b x y) P
ok_if P true x y one two = one
ok_if P false x y one two = two

pub ok_unless : {A C : Type 0} (P : A → Type 0) (reason : Option C) (r : Result A C) → IfOk r P → IfOk (unless reason r) P
ok_unless P None r is = is
ok_unless P (Some code) r is = tt
