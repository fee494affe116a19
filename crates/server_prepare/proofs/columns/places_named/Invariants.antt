use Rattle.std.proofs.Common.{◌≡◌, drop}
use Rattle.server_model.specs.Checks.{places_named}
use Rattle.server_prepare.proofs.Fronts.{with_front}
use Rattle.server_prepare.proofs.columns.places_named.Given as goal

abbrev pub invariant-loop-name : goal.invariant-loop-name
invariant-loop-name l = with_front l.places (places_named l.schema (drop l.name-index l.names)) ≡ places_named l.schema l.names
