use Rattle.std.proofs.Common.{◌≡◌, drop}
use Rattle.table_store.specs.Databases.{database}
use Rattle.server_model.specs.Effects.{all_exist}
use Rattle.server_api.proofs.paged_answers.answers.all_exist.Given as goal

-- those that are left decide
abbrev pub invariant-loop-name : goal.invariant-loop-name
invariant-loop-name l = all_exist (drop l.name-index l.names) (database l.tables) ≡ all_exist l.names (database l.tables)
