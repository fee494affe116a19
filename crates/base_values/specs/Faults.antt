-- What code answers beside what a definition says. The code's fault is the reason for which the definition refuses, or that
-- memory ran out, of which a definition says nothing.
use Rattle.std.specs.Prelude.{◌≡◌, Result, Ok, Err}
use Rattle.base_values.specs.declared.fault.Fault.{Fault}
use Rattle.base_values.specs.declared.fault.Fault.TheVariants.{Refused, Memory}

-- The definition refuses for the fault's reason, unless memory ran out.
abbrev pub Refuses : {Y R : Type 0} → Fault R → Result Y R → Type 0
Refuses Memory said = Unit {0}
Refuses (Refused reason) said = said ≡ Err reason

-- What the code answers, seen by view, is what the definition says, unless memory ran out.
abbrev pub Answers : {X Y R : Type 0} → (X → Y) → Result X (Fault R) → Result Y R → Type 0
Answers view (Ok x) said = said ≡ Ok (view x)
Answers view (Err fault) said = Refuses fault said

-- What holds of the reason for which an answer refuses; of any other answer it asks nothing.
abbrev pub IfRefusal : {X R : Type 0} → Result X (Fault R) → (R → Type 0) → Type 0
IfRefusal (Ok x) P = Unit {0}
IfRefusal (Err (Refused reason)) P = P reason
IfRefusal (Err Memory) P = Unit {0}

-- The same answer, but for the reason: where it refuses, the new reason is one that P gives for the old one.
abbrev pub Because : {X R S : Type 0} → (R → S → Type 0) → Result X (Fault R) → Result X (Fault S) → Type 0
Because P (Ok x) result = result ≡ Ok x
Because {S = S} P (Err (Refused reason)) result = (larger : S) × P reason larger × result ≡ Err (Refused larger)
Because P (Err Memory) result = result ≡ Err Memory
