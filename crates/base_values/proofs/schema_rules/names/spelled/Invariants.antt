use Rattle.std.proofs.Common.{◌≡◌, drop, unwrap_or}
use Rattle.std.specs.Prelude.{find}
use Rattle.base_values.specs.GhoSchema.Names.{same_name}
use Rattle.base_values.proofs.schema_rules.names.spelled.Given as goal

-- what stands from here on gives the answer to all
abbrev pub invariant-loop-known : goal.invariant-loop-known
invariant-loop-known l = unwrap_or (find (λ known. same_name known l.name) (drop l.known-index l.names)) l.name ≡ unwrap_or (find (λ known. same_name known l.name) l.names) l.name
