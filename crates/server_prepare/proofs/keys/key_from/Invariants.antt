use Rattle.std.proofs.Common.{◌≡◌, ◌++◌, drop}
use Rattle.server_model.specs.Checks.{key_from}
use Rattle.server_prepare.proofs.keys.key_from.Given as goal

-- the values so far, and those of the places that are left, are the key
abbrev pub invariant-loop-place : goal.invariant-loop-place
invariant-loop-place l = l.found ++ key_from (drop l.place-index l.key) l.places l.values ≡ key_from l.key l.places l.values
