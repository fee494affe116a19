use Rattle.std.proofs.Common.{◌≡◌, drop}
use Rattle.server_model.specs.Checks.{wanted_each}
use Rattle.server_prepare.proofs.Fronts.{with_front}
use Rattle.server_prepare.proofs.keys.wanted_each.Given as goal

abbrev pub invariant-loop-place : goal.invariant-loop-place
invariant-loop-place l = with_front l.sought (wanted_each l.schema (drop l.place-index l.places) l.rest) ≡ wanted_each l.schema l.places l.values
