use Rattle.std.proofs.Common.{◌≡◌, ◌++◌, drop, filter, not}
use Rattle.std.specs.Prelude.{option_to_list}
use Rattle.std.specs.List.{flat_map}
use Rattle.table_store.specs.Databases.{find_table}
use Rattle.base_values.specs.ToolNames.{is_tool_name}
use Rattle.test_histories.proofs.leftovers.clients_of.Given as goal

-- those of the other names follow
abbrev pub invariant-loop-table : goal.invariant-loop-table
invariant-loop-table l =
    l.left ++ flat_map (λ table. option_to_list (find_table table.schema.name l.tables)) (filter (λ table. not (is_tool_name l.migrated table.schema.name)) (drop l.table-index l.opening))
    ≡ flat_map (λ table. option_to_list (find_table table.schema.name l.tables)) (filter (λ table. not (is_tool_name l.migrated table.schema.name)) l.opening)
