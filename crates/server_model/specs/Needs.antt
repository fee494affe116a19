-- *Needs*: the row locks that a statement needs (the lock sets are this project's rule, after MySQL's manual, "Locks Set
-- by Different SQL Statements in InnoDB").
use Rattle.std.specs.Prelude.{ℕ, ◌+◌, Bool, true, false, if◌then◌else◌, List, [], ◌∷◌, ◌++◌, map, Option, Result, Ok, Err}
use Rattle.std.specs.List.{flat_map}
use Rattle.base_values.specs.declared.value.Value.{Value}
use Rattle.base_values.specs.Spans.{point}
use Rattle.base_values.specs.declared.gho_schema.schema.Schema.{Schema}
use Rattle.base_values.specs.declared.gho_schema.schema.Index.{Index}
use Rattle.base_values.specs.GhoSchema.Rows.{key_of}
use Rattle.base_values.specs.GhoSchema.Tables.{no_null}
use Rattle.base_values.specs.declared.row_conversion.conversion_fault.UnfitAt.{UnfitAt}
use Rattle.server_locks.specs.declared.row_locks.lock.Lock.{Lock}
use Rattle.server_model.specs.declared.work.Reach.{Reach}
use Rattle.server_model.specs.Rows.{rows_met}
use Rattle.server_model.specs.declared.work.Work.{Work}
use Rattle.server_model.specs.declared.work.Work.TheVariants.{Refuse, Insert, Copy, Replace, Delete, Update, Select}
use Rattle.server_model.specs.StatementResults.{displaced, with_sets}

-- a lock on what is reached of a table
abbrev pub lock_on : Schema → Bool → Reach → Lock
lock_on schema exclusive reach = record { table = schema.name; key = reach.key; span = reach.span; exclusive = exclusive }

-- an exclusive lock on the row's value of a key, unless a part of it is null
abbrev pub point_lock : Schema → ℕ → List Value → List Lock
point_lock schema place key = if no_null key then lock_on schema true (record { key = place; span = point key }) ∷ [] else []

-- exclusive locks on the row's values of these unique keys, which are those from this place on
unfoldable pub points_from : Schema → ℕ → List Index → List Value → List Lock
points_from schema place [] row = []
points_from schema place (index ∷ uniques) row = point_lock schema place (key_of index.places row) ++ points_from schema (place + 1) uniques row

-- exclusive locks on the row's points: its values of all unique keys, nulls left out
abbrev pub points : Schema → List Value → List Lock
points schema row = points_from schema 0 schema.uniques row

-- all points of rows
abbrev pub points_of : Schema → List (List Value) → List Lock
points_of schema rows = flat_map (points schema) rows

-- the new rows of an UPDATE, where its values store
abbrev pub new_rows : Result (List (Option Value)) UnfitAt → List (List Value) → List (List Value)
new_rows (Ok sets) met = map (with_sets sets) met
new_rows (Err at) met = []

-- *Needs*
unfoldable pub needs : Schema → List (List Value) → Work → List Lock
needs schema rows (Refuse refusal) = []
needs schema rows (Insert row) = points schema row
needs schema rows (Copy row) = points schema row
needs schema rows (Replace row) = points schema row ++ points_of schema (displaced schema row rows)
needs schema rows (Delete reach) = lock_on schema true reach ∷ points_of schema (rows_met schema reach rows)
needs schema rows (Update reach sets) = lock_on schema true reach ∷ (points_of schema (rows_met schema reach rows) ++ points_of schema (new_rows sets (rows_met schema reach rows)))
needs schema rows (Select reach selection) = lock_on schema false reach ∷ []
