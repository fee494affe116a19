-- What is stored fits its column and is stored again; what is sought is of the column's kind.
use Rattle.std.proofs.Common.{◌≡◌, ◌≢◌, ℕ, Bool, true, false, cond, List, Option, Some, None, Result, Ok, Err, refl, ap, subst, ◌∙◌}
use Rattle.std.specs.Prelude.{ℤ}
use Rattle.std.specs.Fmt.{signed_decimal}
use Rattle.base_values.specs.declared.kind.Kind.{Kind}
use Rattle.base_values.specs.declared.kind.Kind.TheVariants.{Int, VarChar, VarBinary}
use Rattle.base_values.specs.declared.value.Value.{Value}
use Rattle.base_values.specs.declared.value.Value.TheVariants.{Null, Num, Text, Blob}
use Rattle.base_values.specs.declared.unfit.Unfit.{Unfit}
use Rattle.base_values.specs.declared.unfit.Unfit.TheVariants as unfit
use Rattle.base_values.specs.StoredValues.{text_number, in_range, text_within, bytes_within, as_number, stores, seeks, fits, IsOfKind}

-- a value that is stored, and what it is stored as
pub record Keeps (value : Value) (kind : Kind) (nullable : Bool) (stored : Value) : Type 0 where
  pub again : stores stored kind nullable ≡ Ok stored
  pub fit : fits stored kind ≡ true
  pub of_kind : stored ≢ Null → IsOfKind stored kind
  pub sought : stored ≢ Null → seeks value kind ≡ Ok stored
  pub null : stored ≡ Null → (value ≡ Null) × (nullable ≡ true)

guard_ok : {A : Type 0} (b : Bool) (u : Unfit) (x y : A) → cond b (Ok x) (Err u) ≡ Ok y → (b ≡ true) × (x ≡ y)
guard_ok true u x y e = (refl, cc)
guard_ok false u x y e = absurd cc

pub fit_stores : (value : Value) (kind : Kind) (nullable : Bool) → fits value kind ≡ true → value ≢ Null → stores value kind nullable ≡ Ok value
unfolding stores in_range text_within bytes_within fits
fit_stores Null kind nullable e some = absurd (some refl)
fit_stores (Num n) (Int bytes unsigned) nullable e some = rw e refl
fit_stores (Text text) (VarChar limit) nullable e some = rw e refl
fit_stores (Blob blob) (VarBinary limit) nullable e some = rw e refl
fit_stores value kind nullable e some = absurd cc

guarded : (b : Bool) (u : Unfit) (value : Value) (kind : Kind) (nullable : Bool) (made stored : Value) → cond b (Ok made) (Err u) ≡ Ok stored → fits made kind ≡ b → IsOfKind made kind → seeks value kind ≡ Ok made → made ≢ Null → Keeps value kind nullable stored
guarded b u value kind nullable made stored e fit of_kind sought some =
    let g = guard_ok b u made stored e in
    subst (Keeps value kind nullable) g.1 (record { again = fit_stores made kind nullable (fit ∙ g.0) some; fit = fit ∙ g.0; of_kind = λ other. of_kind; sought = λ other. sought; null = λ none. absurd (some none) })

spelled : (text : List ℕ) (bytes : ℕ) (unsigned nullable : Bool) (stored : Value) (number : Option ℤ) → text_number text ≡ number → as_number (in_range bytes unsigned) number ≡ Ok stored → Keeps (Text text) (Int bytes unsigned) nullable stored
unfolding seeks in_range fits
spelled text bytes unsigned nullable stored None f e = absurd cc
spelled text bytes unsigned nullable stored (Some n) f e =
    guarded _ unfit.Range (Text text) (Int bytes unsigned) nullable (Num n) stored e refl tt (ap (as_number (λ m. Ok (Num m))) f) (λ none. cc)

pub keeps : (value : Value) (kind : Kind) (nullable : Bool) (stored : Value) → stores value kind nullable ≡ Ok stored → Keeps value kind nullable stored
unfolding stores seeks in_range text_within bytes_within fits
keeps Null kind true stored e =
    let same : Null ≡ stored = cc in
    subst (Keeps Null kind true) same (record { again = refl; fit = refl; of_kind = λ some. absurd (some refl); sought = λ some. absurd (some refl); null = λ none. (refl, refl) })
keeps Null kind false stored e = absurd cc
keeps (Num n) (Int bytes unsigned) nullable stored e = guarded _ unfit.Range (Num n) (Int bytes unsigned) nullable (Num n) stored e refl tt refl (λ none. cc)
keeps (Text text) (Int bytes unsigned) nullable stored e = spelled text bytes unsigned nullable stored (text_number text) refl e
keeps (Blob blob) (Int bytes unsigned) nullable stored e = absurd cc
keeps (Num n) (VarChar limit) nullable stored e = guarded _ unfit.Length (Num n) (VarChar limit) nullable (Text (signed_decimal n)) stored e refl tt refl (λ none. cc)
keeps (Text text) (VarChar limit) nullable stored e = guarded _ unfit.Length (Text text) (VarChar limit) nullable (Text text) stored e refl tt refl (λ none. cc)
keeps (Blob blob) (VarChar limit) nullable stored e = absurd cc
keeps (Num n) (VarBinary limit) nullable stored e = guarded _ unfit.Length (Num n) (VarBinary limit) nullable (Blob (signed_decimal n)) stored e refl tt refl (λ none. cc)
keeps (Text text) (VarBinary limit) nullable stored e = guarded _ unfit.Length (Text text) (VarBinary limit) nullable (Blob text) stored e refl tt refl (λ none. cc)
keeps (Blob blob) (VarBinary limit) nullable stored e = guarded _ unfit.Length (Blob blob) (VarBinary limit) nullable (Blob blob) stored e refl tt refl (λ none. cc)

found : (made : Value) (kind : Kind) (sought : Value) → (let p : Result Value Unfit = Ok made in p) ≡ Ok sought → IsOfKind made kind → IsOfKind sought kind
found made kind sought e of_kind = let same : made ≡ sought = cc in subst (λ v. IsOfKind v kind) same of_kind

found_number : (bytes : ℕ) (unsigned : Bool) (sought : Value) (number : Option ℤ) → as_number (λ n. Ok (Num n)) number ≡ Ok sought → IsOfKind sought (Int bytes unsigned)
found_number bytes unsigned sought None e = absurd cc
found_number bytes unsigned sought (Some n) e = found (Num n) (Int bytes unsigned) sought e tt

pub wanted_of_kind : (value : Value) (kind : Kind) (sought : Value) → seeks value kind ≡ Ok sought → IsOfKind sought kind
unfolding seeks
wanted_of_kind Null kind sought e = absurd cc
wanted_of_kind (Num n) (Int bytes unsigned) sought e = found (Num n) (Int bytes unsigned) sought e tt
wanted_of_kind (Text text) (Int bytes unsigned) sought e = found_number bytes unsigned sought (text_number text) e
wanted_of_kind (Blob blob) (Int bytes unsigned) sought e = absurd cc
wanted_of_kind (Num n) (VarChar limit) sought e = found (Text (signed_decimal n)) (VarChar limit) sought e tt
wanted_of_kind (Text text) (VarChar limit) sought e = found (Text text) (VarChar limit) sought e tt
wanted_of_kind (Blob blob) (VarChar limit) sought e = absurd cc
wanted_of_kind (Num n) (VarBinary limit) sought e = found (Blob (signed_decimal n)) (VarBinary limit) sought e tt
wanted_of_kind (Text text) (VarBinary limit) sought e = found (Blob text) (VarBinary limit) sought e tt
wanted_of_kind (Blob blob) (VarBinary limit) sought e = found (Blob blob) (VarBinary limit) sought e tt
