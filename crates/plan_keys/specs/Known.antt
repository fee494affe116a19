-- Which keys a plan has, and which it has to have. This project's rule. Inside a value of another type than it has to be
-- no key is looked at.
use Rattle.std.specs.Prelude.{codes, ℕ, pos, ℤ, Bool, true, false, not, ◌&&◌, ◌||◌, is_some, List, Option, Some, None}
use Rattle.std.specs.Option.{option_and_then}
use Rattle.std.specs.Ordering.{int_eq}
use Rattle.std.specs.Str.{bytes_eq}
use Rattle.toml.specs.Data.{Data, Items, Members, get_member, as_integer, as_array, as_table}
use Rattle.plan_keys.specs.Walks.{all_keys, all_items}

-- the keys of a plan
unfoldable pub is_plan_key : List ℕ → Bool
is_plan_key key =
    bytes_eq key (codes "version") || bytes_eq key (codes "table") || bytes_eq key (codes "alter") || bytes_eq key (codes "tables")
    || bytes_eq key (codes "clients") || bytes_eq key (codes "operator") || bytes_eq key (codes "faults") || bytes_eq key (codes "turns")
    || bytes_eq key (codes "options")

-- the keys of one of its tables
unfoldable pub is_table_key : List ℕ → Bool
is_table_key key = bytes_eq key (codes "create") || bytes_eq key (codes "rows")

-- the keys of its options that have numbers, and of those that are true or false
unfoldable pub is_number_key : List ℕ → Bool
is_number_key key =
    bytes_eq key (codes "chunk_size") || bytes_eq key (codes "dml_batch_size") || bytes_eq key (codes "default_retries")
    || bytes_eq key (codes "max_backlog") || bytes_eq key (codes "drain_limit") || bytes_eq key (codes "client_wait")
    || bytes_eq key (codes "tool_wait") || bytes_eq key (codes "max_load") || bytes_eq key (codes "turn_limit")

unfoldable pub is_truth_key : List ℕ → Bool
is_truth_key key =
    bytes_eq key (codes "approve_renamed_columns") || bytes_eq key (codes "initially_drop_ghost_table")
    || bytes_eq key (codes "initially_drop_old_table") || bytes_eq key (codes "ok_to_drop_table") || bytes_eq key (codes "postpone")
    || bytes_eq key (codes "show_history") || bytes_eq key (codes "show_turns") || bytes_eq key (codes "show_tables")
    || bytes_eq key (codes "show_replies")

-- those that version 2 has besides: of notes and of a replica, which have numbers too, and one that is true or false
unfoldable pub is_note_key : List ℕ → Bool
is_note_key key = bytes_eq key (codes "notes") || bytes_eq key (codes "note_every")

unfoldable pub is_replica_key : List ℕ → Bool
is_replica_key key = bytes_eq key (codes "replica_step") || bytes_eq key (codes "replica_pause") || bytes_eq key (codes "max_lag")

unfoldable pub is_resume_key : List ℕ → Bool
is_resume_key key = bytes_eq key (codes "resume")

-- the keys of the options of a plan, where `first` tells of version 1
abbrev pub is_option_key : Bool → List ℕ → Bool
is_option_key first key = is_number_key key || is_truth_key key || (not first && (is_note_key key || is_replica_key key || is_resume_key key))

-- the number 1
abbrev pub is_one : Option ℤ → Bool
is_one (Some number) = int_eq number (pos 1)
is_one None = false

-- the document says that it is of version 1
unfoldable pub is_first_version : Members → Bool
is_first_version members = is_one (option_and_then as_integer (get_member (codes "version") members))

-- each key of a table passes the test, where there is a table
abbrev pub all_pass : (List ℕ → Bool) → Option Members → Bool
all_pass test None = true
all_pass test (Some members) = all_keys test members

-- each item passes the test, where there are some
abbrev pub all_items_pass : (Data → Bool) → Option Items → Bool
all_items_pass test None = true
all_items_pass test (Some items) = all_items test items

-- the items of an array at a key, and the table at a key
abbrev pub array_at : List ℕ → Members → Option Items
array_at key members = option_and_then as_array (get_member key members)

abbrev pub table_at : List ℕ → Members → Option Members
table_at key members = option_and_then as_table (get_member key members)

-- Each key is one of a plan of its version: at the top, in each of the tables, and in the options.
abbrev pub knows_keys : Members → Bool
knows_keys members =
    all_keys is_plan_key members
    && all_items_pass (λ value. all_pass is_table_key (as_table value)) (array_at (codes "tables") members)
    && all_pass (is_option_key (is_first_version members)) (table_at (codes "options") members)

-- the table has the key
abbrev pub has_key : List ℕ → Members → Bool
has_key key members = is_some (get_member key members)

-- a plan's table says how it is created
abbrev pub has_create : Option Members → Bool
has_create None = true
has_create (Some members) = has_key (codes "create") members

-- The keys that a plan has to have are there.
abbrev pub has_needed_keys : Members → Bool
has_needed_keys members =
    has_key (codes "version") members && has_key (codes "table") members && has_key (codes "alter") members && has_key (codes "tables") members
    && all_items_pass (λ value. has_create (as_table value)) (array_at (codes "tables") members)
