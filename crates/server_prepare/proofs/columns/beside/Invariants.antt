use Rattle.std.proofs.Common.{◌≡◌, drop}
use Rattle.server_model.specs.Checks.{beside}
use Rattle.server_prepare.proofs.columns.beside.Given as goal

-- the places and values that are left decide
abbrev pub invariant-loop-other : goal.invariant-loop-other
invariant-loop-other l = beside l.place (drop l.other-index l.places) l.rest ≡ beside l.place l.places l.values
