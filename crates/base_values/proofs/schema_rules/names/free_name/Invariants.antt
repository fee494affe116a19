use Rattle.std.proofs.Common.{◌≡◌, ◌-◌, ◌+◌, length}
use Rattle.base_values.specs.SchemaRules.Names.{first_free}
use Rattle.base_values.proofs.schema_rules.names.free_name.Given as goal

-- the first of those from here on is the first of all
abbrev pub invariant-loop : goal.invariant-loop
invariant-loop l = record {
  free : first_free l.taken l.base (length l.taken - l.index) l.number ≡ first_free l.taken l.base (length l.taken) 1;
  number : l.number ≡ l.index + 1;
}
