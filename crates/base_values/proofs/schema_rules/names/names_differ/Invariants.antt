use Rattle.std.proofs.Common.{◌≡◌, [], take, drop}
use Rattle.base_values.specs.SchemaRules.Names.{differ_from}
use Rattle.base_values.proofs.schema_rules.names.names_differ.Given as goal

-- what stands from here on gives the answer to all
abbrev pub invariant-loop-i : goal.invariant-loop-i
invariant-loop-i l = differ_from (take l.i l.names) (drop l.i l.names) ≡ differ_from [] l.names
