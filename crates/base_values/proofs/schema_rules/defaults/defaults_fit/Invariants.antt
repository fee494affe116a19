use Rattle.std.proofs.Common.{◌≡◌, ◌+◌, drop, sum_by}
use Rattle.base_values.specs.SchemaRules.Defaults.{default_size}
use Rattle.base_values.proofs.schema_rules.defaults.defaults_fit.Given as goal

-- the room and what is counted from here on are the limit and the whole
abbrev pub invariant-loop-column : goal.invariant-loop-column
invariant-loop-column l = l.room + sum_by (λ column. default_size column.default) l.columns ≡ 4096 + sum_by (λ column. default_size column.default) (drop l.column-index l.columns)
