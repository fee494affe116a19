use Rattle.std.proofs.Common.{◌≡◌, ◌++◌, drop}
use Rattle.std.specs.Prelude.{option_to_list, slice_get}
use Rattle.std.specs.List.{flat_map}
use Rattle.test_model.proofs.selection.values_at.Given as goal

-- the values at the places that are left follow
abbrev pub invariant-loop-place : goal.invariant-loop-place
invariant-loop-place l = l.shown ++ flat_map (λ place. option_to_list (slice_get l.row place)) (drop l.place-index l.places) ≡ flat_map (λ place. option_to_list (slice_get l.row place)) l.places
