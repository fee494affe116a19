-- Taking clauses one after the other, as a loop does.
use Rattle.std.proofs.Common.{◌≡◌, ℕ, ◌+◌, ◌<◌, ◌≤◌, Bool, List, length, drop, get_or, Result, Ok, Err, refl, sym, ◌∙◌}
use Rattle.std.proofs.lemmas.List.{drop_all}
use Rattle.base_values.specs.declared.row_conversion.clause.Clause.{Clause}
use Rattle.base_values.proofs.GhoSchema.Loops.{from_here}
use Rattle.sql_change.specs.declared.code.AlterCode.{AlterCode}
use Rattle.base_values.specs.declared.fault.Fault.{Fault}
use Rattle.base_values.specs.declared.fault.Fault.TheVariants as faults
use Rattle.sql_change.specs.declared.so_far.AlteredSoFar.{AlteredSoFar}
use Rattle.sql_change.specs.AlteredSchema.{step, steps}
use Rattle.base_values.specs.Faults.{Refuses}

module _ (approve : Bool) (standing : AlteredSoFar) (clauses : List Clause) (i : ℕ) (clause : Clause) (total : Result AlteredSoFar AlterCode) where
  pub goes_on : (next : AlteredSoFar) → i < length clauses → clause ≡ get_or clauses i clause → step approve standing clause ≡ Ok next → steps approve standing (drop i clauses) ≡ total → steps approve next (drop (i + 1) clauses) ≡ total
  unfolding steps
  goes_on next lt is taken so_far =
      let one : steps approve standing (drop i clauses) ≡ steps approve next (drop (i + 1) clauses) = rw (from_here clauses i clause lt is, taken) refl in
      sym one ∙ so_far

  refused : (code : AlterCode) → i < length clauses → clause ≡ get_or clauses i clause → step approve standing clause ≡ Err code → steps approve standing (drop i clauses) ≡ total → total ≡ Err code
  unfolding steps
  refused code lt is taken so_far =
      let one : steps approve standing (drop i clauses) ≡ Err code = rw (from_here clauses i clause lt is, taken) refl in
      sym so_far ∙ one

  pub fails : (fault : Fault AlterCode) → i < length clauses → clause ≡ get_or clauses i clause → Refuses fault (step approve standing clause) → steps approve standing (drop i clauses) ≡ total → Refuses fault total
  fails faults.Memory lt is taken so_far = tt
  fails (faults.Refused code) lt is taken so_far = refused code lt is taken so_far

pub is_done : (approve : Bool) (standing : AlteredSoFar) (clauses : List Clause) (i : ℕ) (total : Result AlteredSoFar AlterCode) → length clauses ≤ i → steps approve standing (drop i clauses) ≡ total → total ≡ Ok standing
unfolding steps
is_done approve standing clauses i total le so_far =
    let one : steps approve standing (drop i clauses) ≡ Ok standing = rw (drop_all i clauses le) refl in
    sym so_far ∙ one
