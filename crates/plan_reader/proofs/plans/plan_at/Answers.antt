use Rattle.std.proofs.Common.{◌≡◌, ℕ, List, Some, sym, subst, ◌∙◌}
use Rattle.table_store.specs.Databases.{database, find_table}
use Rattle.plan_keys.specs.PlanKeys.{key_data}
use Rattle.plan_reader.specs.Openings.{opening_data}
use Rattle.plan_reader.proofs.Opened.{opening_is, alters_plan}
use Rattle.plan_reader.proofs.plans.plan_at.Goals as goal

pub new-requires-3-clause-altered : goal.new-requires-3-clause-altered
new-requires-3-clause-altered c =
    let opening = opening_is (key_data c.in_ok-keys.keys) (opening_data c.in_ok-opening.opening) c.in_ok-opening.ensures.opening in
    let found : find_table c.in_ok-table.table (database c.in_ok-opening.opening.tables) ≡ Some opening.table = subst (λ (name : List ℕ). find_table name (database c.in_ok-opening.opening.tables) ≡ Some opening.table) (sym (c.in_ok-table.ensures ∙ c.in_ok-name.ensures)) opening.found in
    alters_plan _ opening.table (c.in_ok-opening.opening.new.schema, c.in_ok-opening.opening.new.map) found opening.alters
