-- Going through texts that are counted.
use Rattle.std.specs.Prelude.{ℕ, List, [], ◌∷◌, Result, Ok}
use Rattle.base_values.specs.SchemaRules.Results.{◌>>=◌}
use Rattle.plan_reader.specs.PlanTables.Rows.{next_number}
use Rattle.plan_reader.specs.declared.fault.PlanRefusal.{PlanRefusal}

-- what is read of each text from the one of this number on; the first that is refused refuses all
unfoldable pub each_from : {A : Type 0} → (ℕ → List ℕ → Result A PlanRefusal) → ℕ → List (List ℕ) → Result (List A) PlanRefusal
each_from read number [] = Ok []
each_from read number (text ∷ texts) = do
  first ← read number text
  others ← each_from read (next_number number) texts
  Ok (first ∷ others)
