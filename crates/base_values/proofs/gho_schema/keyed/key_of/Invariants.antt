use Rattle.std.proofs.Common.{◌≡◌, ◌++◌, drop}
use Rattle.base_values.specs.GhoSchema.Rows.{key_of}
use Rattle.base_values.proofs.gho_schema.keyed.key_of.Given as goal

-- the values so far, and those at the places that are left
abbrev pub invariant-loop-place : goal.invariant-loop-place
invariant-loop-place l = l.key ++ key_of (drop l.place-index l.places) l.row ≡ key_of l.places l.row
