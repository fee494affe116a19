use Rattle.std.proofs.Common.{◌≡◌, take}
use Rattle.std.specs.List.{filter_map}
use Rattle.base_values.specs.SchemaRules.Names.{place_of}
use Rattle.base_values.proofs.schema_rules.names.places_of.Given as goal

-- the places so far
abbrev pub invariant-loop-column : goal.invariant-loop-column
invariant-loop-column l = l.places ≡ filter_map (place_of l.names) (take l.column-index l.columns)
