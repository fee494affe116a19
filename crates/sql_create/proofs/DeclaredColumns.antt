-- Declaring columns one after the other, as a loop does.
use Rattle.std.proofs.Common.{◌≡◌, ℕ, ◌+◌, ◌<◌, ◌≤◌, List, [], ◌∷◌, ◌++◌, length, drop, get_or, Result, Ok, Err, refl, sym, ap, ◌∙◌, append_assoc}
use Rattle.std.proofs.lemmas.List.{append-nil, drop_all}
use Rattle.base_values.specs.declared.gho_schema.schema.Column.{Column}
use Rattle.base_values.proofs.GhoSchema.Loops.{from_here}
use Rattle.sql_grammar.specs.declared.code.SchemaCode.{SchemaCode}
use Rattle.base_values.specs.declared.fault.Fault.{Fault}
use Rattle.base_values.specs.declared.fault.Fault.TheVariants as faults
use Rattle.base_values.specs.SchemaRules.Results.{◌>>=◌}
use Rattle.base_values.specs.Faults.{Refuses}
use Rattle.sql_create.specs.declared.written.WrittenColumn.{WrittenColumn}
use Rattle.sql_create.specs.DeclaredSchema.{declared_column, declared_columns}

-- the columns so far, and those that are still declared
abbrev pub with_front : List Column → Result (List Column) SchemaCode → Result (List Column) SchemaCode
with_front front read = read >>= λ columns. Ok (front ++ columns)

regroup : (front : List Column) (c : Column) (read : Result (List Column) SchemaCode) → with_front front (read >>= λ columns. Ok (c ∷ columns)) ≡ with_front (front ++ c ∷ []) read
regroup front c (Ok columns) = ap (λ (cs : List Column). Ok cs) (simp append_assoc)
regroup front c (Err code) = refl

module _ (primaries : List (List (List ℕ))) (front : List Column) (columns : List WrittenColumn) (i : ℕ) (total : Result (List Column) SchemaCode) where
  pub goes_on : (column : WrittenColumn) (c : Column) → i < length columns → column ≡ get_or columns i column → declared_column primaries column ≡ Ok c
      → with_front front (declared_columns primaries (drop i columns)) ≡ total → with_front (front ++ c ∷ []) (declared_columns primaries (drop (i + 1) columns)) ≡ total
  unfolding declared_columns
  goes_on column c lt is h so_far =
      let step : with_front front (declared_columns primaries (drop i columns)) ≡ with_front (front ++ c ∷ []) (declared_columns primaries (drop (i + 1) columns)) = rw (from_here columns i column lt is, h) (regroup front c (declared_columns primaries (drop (i + 1) columns))) in
      sym step ∙ so_far

  refused : (column : WrittenColumn) (code : SchemaCode) → i < length columns → column ≡ get_or columns i column → declared_column primaries column ≡ Err code
      → with_front front (declared_columns primaries (drop i columns)) ≡ total → total ≡ Err code
  unfolding declared_columns
  refused column code lt is h so_far =
      let step : with_front front (declared_columns primaries (drop i columns)) ≡ Err code = rw (from_here columns i column lt is, h) refl in
      sym so_far ∙ step

  pub fails : (fault : Fault SchemaCode) (column : WrittenColumn) → i < length columns → column ≡ get_or columns i column → Refuses fault (declared_column primaries column)
      → with_front front (declared_columns primaries (drop i columns)) ≡ total → Refuses fault total
  fails faults.Memory column lt is h so_far = tt
  fails (faults.Refused code) column lt is h so_far = refused column code lt is h so_far

  pub is_full : length columns ≤ i → with_front front (declared_columns primaries (drop i columns)) ≡ total → total ≡ Ok front
  unfolding declared_columns
  is_full le so_far =
      let step : with_front front (declared_columns primaries (drop i columns)) ≡ Ok front = rw (drop_all i columns le) (ap (λ (cs : List Column). Ok cs) (append-nil front)) in
      sym so_far ∙ step
