-- Taking apart an answer that was given step by step.
use Rattle.std.proofs.Common.{◌≡◌, Bool, true, false, cond, ◌∷◌, Option, Some, None, Result, Ok, Err, refl, ap}
use Rattle.base_values.specs.SchemaRules.Results.{◌>>=◌}
use Rattle.base_values.specs.SchemaRules.Reasons.{Reasons, first_reason, unless}
use Rattle.base_values.specs.declared.unfit.Unfit.{Unfit}
use Rattle.base_values.specs.declared.value.Value.{Value}
use Rattle.base_values.specs.SchemaRules.Defaults.{default_or}

-- the value of a step that was taken
pub bind_ok : {A B C : Type 0} (r : Result A C) (f : A → Result B C) (y : B) → (r >>= f) ≡ Ok y → (x : A) × (r ≡ Ok x) × (f x ≡ Ok y)
bind_ok (Ok x) f y e = (x, refl, e)
bind_ok (Err code) f y e = absurd cc

-- no reason held
pub unless_ok : {A C : Type 0} (reason : Option C) (r : Result A C) (y : A) → unless reason r ≡ Ok y → (reason ≡ None) × (r ≡ Ok y)
unless_ok (Some code) r y e = absurd cc
unless_ok None r y e = (refl, e)

pub none_first : {C : Type 0} (holds : Bool) (code : C) (others : Reasons C) → first_reason ((holds, code) ∷ others) ≡ None → (holds ≡ false) × (first_reason others ≡ None)
none_first true code others e = absurd cc
none_first false code others e = (refl, e)

abbrev pub done : (A C : Type 0) → A → Result A C
done A C x = Ok x

pub ok_is : {A C : Type 0} (x y : A) → done A C x ≡ done A C y → x ≡ y
ok_is x y e = cc

-- a test that let the value through
pub let_through : {A C : Type 0} (b : Bool) (x y : A) (code : C) → cond b (Ok x) (Err code) ≡ Ok y → (b ≡ true) × (x ≡ y)
let_through true x y code e = (refl, cc)
let_through false x y code e = absurd cc

pub kept_out : {A C : Type 0} (b : Bool) (x y : A) (code : C) → cond b (Err code) (Ok x) ≡ Ok y → (b ≡ false) × (x ≡ y)
kept_out true x y code e = absurd cc
kept_out false x y code e = (refl, cc)

abbrev pub there : (A : Type 0) → A → Option A
there A x = Some x

pub some_is : {A : Type 0} (x y : A) → there A x ≡ there A y → x ≡ y
some_is x y e = cc

-- ---- defaults

-- a default that wasn't refused is stored
pub default_is : {C : Type 0} (code : C) (r : Result (Option Value) Unfit) (default : Option Value) → default_or code r ≡ Ok default → r ≡ Ok default
default_is code (Ok d) default e = let same : d ≡ default = cc in ap (λ (x : Option Value). Ok x) same
default_is code (Err reason) default e = absurd cc
