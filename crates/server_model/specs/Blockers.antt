-- *Need* of a request, and who blocks it: a request needs all its locks at once, and waits where another session holds,
-- or asked earlier for, what conflicts with one of them. (MySQL's manual, "Metadata Locking", "InnoDB Locking"; that all
-- are granted at once, or none, is this project's rule.)
use Rattle.std.specs.Prelude.{ℕ, false, List, [], ◌∷◌, Option, Some, None}
use Rattle.base_values.specs.declared.span.Span.{Span}
use Rattle.base_values.specs.declared.gho_schema.schema.Schema.{Schema}
use Rattle.base_values.specs.GhoSchema.ClusteredKey.{clustered_place}
use Rattle.server_locks.specs.declared.row_locks.lock.Lock.{Lock}
use Rattle.server_locks.specs.RowLocks.Grants.{blocker_of_set}
use Rattle.server_locks.specs.LeastSession.Least.{least}
use Rattle.server_locks.specs.MetadataLocks.Grants.{blocker_of_names}
use Rattle.table_store.specs.Databases.{TableRows, Database, find_table}
use Rattle.server_model.specs.declared.need.Need.{Need}
use Rattle.server_model.specs.declared.request.Request.{Request}
use Rattle.server_model.specs.declared.request.Request.TheVariants as requests
use Rattle.server_model.specs.Needs.{lock_on}
use Rattle.server_model.specs.Operations.{row_needs, operation_needs, copy_operation}
use Rattle.server_model.specs.Drawing.{filled}
use Rattle.server_model.specs.States.{State, view, names_in, is_exclusive, waiters, names_held, locks_held}

-- a share lock on a span of the clustered key, where the schema has one
abbrev pub span_lock : Schema → Span → Option ℕ → List Lock
span_lock schema span None = []
span_lock schema span (Some place) = lock_on schema false (record { key = place; span = span }) ∷ []

abbrev pub span_needs : Span → Option TableRows → List Lock
span_needs span None = []
span_needs span (Some table) = span_lock table.schema span (clustered_place table.schema)

-- the row locks that a request needs, on the tables as the session sees them
abbrev pub row_locks_of : Database → Request → List Lock
row_locks_of seen (requests.Do statement) = row_needs seen statement
row_locks_of seen (requests.BeginSpan table span size) = span_needs span (find_table table seen)
row_locks_of seen (requests.CopyRow from into map key) = operation_needs seen (copy_operation seen from into map key)
row_locks_of seen request = []

-- *Need* of a request, on the tables as its session sees them
abbrev pub need_within : Database → Request → Need
need_within seen request = record { exclusive = is_exclusive request; names = names_in request; locks = row_locks_of seen request }

-- *Need* of a session's request, filled as it would be done now. It comes before every refusal, also before that of a table
-- outside the locked ones.
abbrev pub need : State → ℕ → Request → Need
need state number request = need_within (view number state) (filled state number request)

-- *Blocker*: the least session that blocks a lock which is needed, over names and rows together
abbrev pub blocker : State → ℕ → Need → Option ℕ
blocker state number need =
    least (blocker_of_names (names_held state.sessions) (waiters state.waiting) number need.exclusive need.names) (blocker_of_set (locks_held state.sessions) number need.locks)
