use Rattle.std.proofs.Common.{◌≡◌, ◌++◌, drop}
use Rattle.std.specs.Prelude.{pos}
use Rattle.base_values.specs.declared.value.Value.TheVariants.{Num}
use Rattle.server_model.specs.Checks.{value_set}
use Rattle.server_prepare.proofs.drawn_rows.value_set.Given as goal

-- the values so far, and those of the places and values that are left
abbrev pub invariant-loop-other : goal.invariant-loop-other
invariant-loop-other l = l.row ++ value_set l.place (drop l.other-index l.places) (Num (pos l.number)) l.rest ≡ value_set l.place l.places (Num (pos l.number)) l.values
