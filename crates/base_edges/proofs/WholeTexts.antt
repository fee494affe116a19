-- What the loops over a whole text keep.
use Rattle.std.proofs.Common.{◌≡◌, ℕ, ◌+◌, ◌-◌, ◌≤◌, List, ◌++◌, length, take, drop, Option, subst, sym, ◌∙◌, ap, take-add}
use Rattle.std.proofs.lemmas.List.{take_rest}
use Rattle.std.specs.Io.KnownBytes.{Appends, Consumes}
use Rattle.std.proofs.KnownBytes.{Appends-trans}

-- the bytes so far came from the source, at most one past the limit, and its count of faults didn't fall
pub record HasRead (limit : ℕ) (old new : Option (List ℕ)) (bytes : List ℕ) (len faults_old faults_new : ℕ) : Type 0 where
  pub taken : Consumes old new bytes
  pub within : len ≤ limit + 1
  pub never_falls : faults_old ≤ faults_new

-- so many bytes of the text went to the sink, and its count of faults didn't fall
pub record HasGiven (old new : Option (List ℕ)) (text : List ℕ) (given faults_old faults_new : ℕ) : Type 0 where
  pub front : Appends old new (take given text)
  pub within : given ≤ length text
  pub never_falls : faults_old ≤ faults_new

-- a prefix of the text and then a prefix of the rest are one prefix of the text
pub front_grows : (first old new : Option (List ℕ)) (text : List ℕ) (given n : ℕ)
    → Appends first old (take given text) → Appends old new (take n (take (length text - given) (drop given text)))
    → Appends first new (take (given + n) text)
front_grows first old new text given n front more =
    let joined : take given text ++ take n (take (length text - given) (drop given text)) ≡ take (given + n) text =
    ap (λ rest. take given text ++ take n rest) (take_rest text given) ∙ sym (take-add given n text) in
    subst (Appends first new) joined (Appends-trans _ _ _ _ _ front more)
