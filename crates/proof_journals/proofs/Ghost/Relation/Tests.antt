-- Tests of keys.
use Rattle.std.proofs.Common.{◌≡◌, Bool, true, false, not, ◌&&◌, Option, Some, None, refl, sym, ◌∙◌}

pub true_false : {A : Type 0} (b : Bool) → b ≡ true → b ≡ false → A
true_false b is fails = absurd (let no : true ≡ false = sym is ∙ fails in cc)

pub none_some : {A : Type 0} (x : Option A) (a : A) → x ≡ None → x ≡ Some a → ⊥
none_some x a none some = cc

-- a key that is done, and isn't taken out
pub both_hold : (done half : Bool) → done ≡ true → half ≡ false → (done && not half) ≡ true
both_hold done half is whole = rw (is, whole) refl

pub one_holds : (done half : Bool) → (done && not half) ≡ true → done ≡ true
one_holds true half is = refl
one_holds false half is = is

pub none_taken : (done half : Bool) → (done && not half) ≡ true → half ≡ false
none_taken true true is = absurd (let no : false ≡ true = is in cc)
none_taken true false is = refl
none_taken false true is = absurd (let no : false ≡ true = is in cc)
none_taken false false is = refl
