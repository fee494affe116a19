-- Tables that are orderly one by one.
use Rattle.std.proofs.Common.{ℕ, Bool, true, false, List, [], ◌∷◌, cond, Some}
use Rattle.std.specs.List.{AllByRecursion}
use Rattle.table_store.specs.Databases.{TableRows, Database, find_table, is_named}
use Rattle.server_model.specs.LockedRows.Coverage.{IsWellFormedTable}
use Rattle.server_model.specs.LockedRows.Databases.{WhereFound, IsWellFormedDatabase}

where_found : (P : TableRows → Type 0) (name : List ℕ) (tables : Database) → AllByRecursion P tables → WhereFound P (find_table name tables)
where_found P name [] all = tt
where_found P name (table ∷ tables) all = at (is_named name table) (where_found P name tables all.1) where
  at : (b : Bool) → WhereFound P (find_table name tables) → WhereFound P (cond b (Some table) (find_table name tables))
  at true rest = all.0
  at false rest = rest

pub opening_well_formed : (tables : Database) → AllByRecursion IsWellFormedTable tables → IsWellFormedDatabase tables
opening_well_formed tables all = record { each = λ name. where_found IsWellFormedTable name tables all }
